use Rattle.js_law_places.proofs.FirstLine.{first_line}
use Rattle.js_law_places.proofs.laws.first_line_is_not_seen.Goals as goal

pub returns : goal.returns
returns c = first_line
