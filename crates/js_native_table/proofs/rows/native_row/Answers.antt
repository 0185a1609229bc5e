use Rattle.std.proofs.Common.{◌∙◌, ap}
use Rattle.std.specs.Borrow.{Bor}
use Rattle.js_evaluation.specs.NativeTable.{RowRead, row_read}
use Rattle.js_native_table.proofs.FoundRows.{found}
use Rattle.js_native_table.proofs.rows.native_row.Goals as goal

pub returns : goal.returns
returns c =
    ap (λ (row : Bor RowRead). row_read row.now) c.unwrap_or.ensures
    ∙ found c.rows_for.result.now c.args.native c.row_among.result c.no_row.result c.row_among.ensures c.no_row.ensures
    ∙ c.rows_for.ensures
