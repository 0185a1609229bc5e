use Rattle.js_law_pattern.proofs.Counted.{groups_are_counted}
use Rattle.js_law_pattern.proofs.laws.groups_are_counted.Goals as goal

pub returns : goal.returns
returns c = groups_are_counted
