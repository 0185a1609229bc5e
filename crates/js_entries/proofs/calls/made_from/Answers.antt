use Rattle.std.proofs.Common.{◌∙◌}
use Rattle.heap_steps.proofs.Bounds.{by_number}
use Rattle.js_entries.proofs.Entering.{made_by_default}
use Rattle.js_entries.proofs.calls.made_from.Goals as goal

pub returns-in_default : goal.returns-in_default
returns-in_default c = by_number _ _ c.built_in.ensures ∙ made_by_default _ c.in_default.not-Object
