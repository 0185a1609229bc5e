use Rattle.std.proofs.Common.{refl}
use Rattle.js_machine.proofs.Steps.{forgets}
use Rattle.js_primary.proofs.creation.native_constructed.Goals as goal

pub returns-in_err-name : goal.returns-in_err-name
returns-in_err-name c = forgets _ _ c.from_residual.ensures.1 refl
