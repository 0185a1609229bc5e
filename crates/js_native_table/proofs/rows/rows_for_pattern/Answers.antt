use Rattle.std.proofs.Common.{◌≡◌, drop, sym, subst}
use Rattle.js_evaluation.specs.declared.native.Native.TheVariants as native
use Rattle.js_evaluation.specs.declared.native.PatternNative.{PatternNative}
use Rattle.js_evaluation.specs.declared.native.PatternNative.TheVariants as pattern
use Rattle.js_evaluation.specs.NativeTable.{natives, native_row, row_among}
use Rattle.js_native_table.proofs.FoundRows.{from_pattern}
use Rattle.js_native_table.proofs.rows.rows_for_pattern.Goals as goal

pub returns-in-Replace : goal.returns-in-Replace
unfolding natives
returns-in-Replace c = subst (λ (n : PatternNative). row_among (drop 39 natives) (native.Pattern n) ≡ native_row (native.Pattern n)) (sym c.in-Replace.is) (from_pattern pattern.Replace)

pub returns-in-Split : goal.returns-in-Split
unfolding natives
returns-in-Split c = subst (λ (n : PatternNative). row_among (drop 41 natives) (native.Pattern n) ≡ native_row (native.Pattern n)) (sym c.in-Split.is) (from_pattern pattern.Split)

pub returns-in-Exec : goal.returns-in-Exec
unfolding natives
returns-in-Exec c = subst (λ (n : PatternNative). row_among (drop 72 natives) (native.Pattern n) ≡ native_row (native.Pattern n)) (sym c.in-Exec.is) (from_pattern pattern.Exec)

pub returns-in-Test : goal.returns-in-Test
unfolding natives
returns-in-Test c = subst (λ (n : PatternNative). row_among (drop 73 natives) (native.Pattern n) ≡ native_row (native.Pattern n)) (sym c.in-Test.is) (from_pattern pattern.Test)

pub returns-in-Match : goal.returns-in-Match
unfolding natives
returns-in-Match c = subst (λ (n : PatternNative). row_among (drop 75 natives) (native.Pattern n) ≡ native_row (native.Pattern n)) (sym c.in-Match.is) (from_pattern pattern.Match)

pub returns-in-Search : goal.returns-in-Search
unfolding natives
returns-in-Search c = subst (λ (n : PatternNative). row_among (drop 76 natives) (native.Pattern n) ≡ native_row (native.Pattern n)) (sym c.in-Search.is) (from_pattern pattern.Search)
