use Rattle.std.proofs.Common.{refl}
use Rattle.js_native_table.proofs.rows.no_row.Goals as goal

pub returns : goal.returns
returns c = refl
