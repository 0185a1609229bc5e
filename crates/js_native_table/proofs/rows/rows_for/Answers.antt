use Rattle.std.proofs.Common.{◌≡◌, drop, sym, subst}
use Rattle.js_evaluation.specs.declared.native.Native.{Native}
use Rattle.js_evaluation.specs.NativeTable.{natives, native_row, row_among}
use Rattle.js_native_table.proofs.FoundRows.{from_pac, from_error_text, from_join, from_array_text}
use Rattle.js_native_table.proofs.rows.rows_for.Goals as goal

pub returns-in-Plain : goal.returns-in-Plain
returns-in-Plain c = rw c.in-Plain.is c.rows_for_plain.ensures

pub returns-in-Pac : goal.returns-in-Pac
unfolding natives
returns-in-Pac c =
    subst (λ (n : Native). row_among (drop 13 natives) n ≡ native_row n) (sym c.in-Pac.is) (from_pac c.in-Pac.field-0)

pub returns-in-Pattern : goal.returns-in-Pattern
returns-in-Pattern c = rw c.in-Pattern.is c.rows_for_pattern.ensures

pub returns-in-ErrorToString : goal.returns-in-ErrorToString
unfolding natives
returns-in-ErrorToString c =
    subst (λ (n : Native). row_among (drop 10 natives) n ≡ native_row n) (sym c.in-ErrorToString.is) from_error_text

pub returns-in-ArrayJoin : goal.returns-in-ArrayJoin
unfolding natives
returns-in-ArrayJoin c =
    subst (λ (n : Native). row_among (drop 67 natives) n ≡ native_row n) (sym c.in-ArrayJoin.is) from_join

pub returns-in-ArrayToString : goal.returns-in-ArrayToString
unfolding natives
returns-in-ArrayToString c =
    subst (λ (n : Native). row_among (drop 68 natives) n ≡ native_row n) (sym c.in-ArrayToString.is) from_array_text
