use Rattle.pattern_builtins.proofs.Searching.{all_in_order}
use Rattle.pattern_builtins.proofs.matches.all_matches.Goals as goal

pub returns-clause-within : goal.returns-clause-within
returns-clause-within c = all_in_order c.args.pattern.now c.args.text.now _ c.args.fuel.now c.search_all.new.fuel c.search_all.ensures
