use Rattle.url_runs.proofs.Completions.{each_map_is_taken}
use Rattle.url_runs.proofs.laws.each_map_is_taken.Goals as goal

pub returns : goal.returns
returns c = each_map_is_taken
