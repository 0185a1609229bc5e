use Rattle.std.proofs.Common.{◌≡◌, List, drop, ap, sym, subst}
use Rattle.js_evaluation.specs.declared.native.Native.TheVariants as native
use Rattle.js_evaluation.specs.declared.native.PlainNative.{PlainNative}
use Rattle.js_evaluation.specs.NativeTable.{Row, natives, native_row, row_among}
use Rattle.js_native_table.proofs.FoundRows.{from_text, from_number, from_array, from_pattern_text}
use Rattle.js_native_table.proofs.rows.rows_for_plain.Goals as goal

pub returns-in-TextMethod : goal.returns-in-TextMethod
unfolding natives
returns-in-TextMethod c =
    subst (λ (n : PlainNative). row_among (drop 34 natives) (native.Plain n) ≡ native_row (native.Plain n))
    (sym c.in-TextMethod.is) (from_text c.in-TextMethod.field-0)

pub returns-in-NumberMethod : goal.returns-in-NumberMethod
unfolding natives
returns-in-NumberMethod c =
    subst (λ (n : PlainNative). row_among (drop 49 natives) (native.Plain n) ≡ native_row (native.Plain n))
    (sym c.in-NumberMethod.is) (from_number c.in-NumberMethod.field-0)

pub returns-in-ArrayMethod : goal.returns-in-ArrayMethod
unfolding natives
returns-in-ArrayMethod c =
    subst (λ (n : PlainNative). row_among (drop 57 natives) (native.Plain n) ≡ native_row (native.Plain n))
    (sym c.in-ArrayMethod.is) (from_array c.in-ArrayMethod.field-0)

pub returns-in-PatternToString : goal.returns-in-PatternToString
unfolding natives
returns-in-PatternToString c =
    subst (λ (n : PlainNative). row_among (drop 74 natives) (native.Plain n) ≡ native_row (native.Plain n))
    (sym c.in-PatternToString.is) from_pattern_text

pub returns-in_default : goal.returns-in_default
unfolding native_row
returns-in_default c = ap (λ (rows : List Row). row_among rows (native.Plain c.args.native)) c.natives.ensures
