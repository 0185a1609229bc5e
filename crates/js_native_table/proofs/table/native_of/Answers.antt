use Rattle.std.proofs.Common.{List, ap, ◌∙◌}
use Rattle.js_evaluation.specs.NativeTable.{Row, native_at, native_of}
use Rattle.js_native_table.proofs.FoundRows.{native_at-read}
use Rattle.js_native_table.proofs.table.native_of.Goals as goal

pub returns : goal.returns
unfolding native_of
returns c =
    c.native_at.ensures ∙ native_at-read c.natives.result.now c.args.number
    ∙ ap (λ (rows : List Row). native_at rows c.args.number) c.natives.ensures
