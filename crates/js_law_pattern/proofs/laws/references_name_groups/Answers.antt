use Rattle.js_law_pattern.proofs.References.{references_name_groups}
use Rattle.js_law_pattern.proofs.laws.references_name_groups.Goals as goal

pub returns : goal.returns
returns c = references_name_groups
