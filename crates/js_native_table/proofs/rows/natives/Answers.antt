use Rattle.std.proofs.Common.{refl}
use Rattle.js_evaluation.specs.NativeTable.{natives}
use Rattle.js_native_table.proofs.rows.natives.Goals as goal

pub returns : goal.returns
unfolding natives
returns c = refl
