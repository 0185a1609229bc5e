-- Rows as code reads them and as the definition has them, and where those of a kind begin.
use Rattle.std.proofs.Common.{◌≡◌, ℕ, zero, suc, List, [], ◌∷◌, Bool, true, false, cond, Option, Some, None, map, drop, refl, ap, sym, ◌∙◌}
use Rattle.std.specs.Prelude.{find, option_copied, option_map, slice_get, unwrap_or}
use Rattle.std.specs.Borrow.{Bor}
use Rattle.array_builtins.specs.declared.call.ArrayMethod.{ArrayMethod}
use Rattle.number_builtins.specs.declared.call.NumberMethod.{NumberMethod}
use Rattle.pac_functions.specs.declared.call.PacFunction.{PacFunction}
use Rattle.text_builtins.specs.declared.call.TextMethod.{TextMethod}
use Rattle.js_evaluation.specs.declared.native.Native.{Native}
use Rattle.js_evaluation.specs.declared.native.Native.TheVariants as native
use Rattle.js_evaluation.specs.declared.native.PatternNative.{PatternNative}
use Rattle.js_evaluation.specs.declared.native.PatternNative.TheVariants as pattern
use Rattle.js_evaluation.specs.declared.native.PlainNative.TheVariants as plain
use Rattle.js_evaluation.specs.NativeTable.{Row, RowRead, row_read, natives, no_row, native_at, native_row, row_among, is_same}

pub native_at-read : (rows : List RowRead) (k : ℕ) → option_map (λ row. row.0) (slice_get rows k) ≡ native_at (map row_read rows) k
native_at-read [] k = refl
native_at-read (row ∷ rows) zero = refl
native_at-read (row ∷ rows) (suc k) = native_at-read rows k

find-read : (rows : List RowRead) (n : Native)
    → find (λ row. is_same row.native n) (map row_read rows) ≡ option_map row_read (find (λ row. is_same row.0 n) rows)
find-read [] n = refl
find-read (row ∷ rows) n = by_test (is_same row.0 n) (find-read rows n) where
  by_test : (b : Bool) → find (λ r. is_same r.native n) (map row_read rows) ≡ option_map row_read (find (λ r. is_same r.0 n) rows)
      → cond b (Some (row_read row)) (find (λ r. is_same r.native n) (map row_read rows))
      ≡ option_map row_read (cond b (Some row) (find (λ r. is_same r.0 n) rows))
  by_test true e = refl
  by_test false e = e

-- the row that is found, or the one of no native
pub found : (rows : List RowRead) (n : Native) (o : Option (Bor RowRead)) (none : Bor RowRead)
    → option_copied o ≡ find (λ row. is_same row.0 n) rows → row_read none.now ≡ no_row
    → row_read (unwrap_or o none).now ≡ row_among (map row_read rows) n
found rows n o none e is = by_cases o e where
  by_cases : (o : Option (Bor RowRead)) → option_copied o ≡ find (λ row. is_same row.0 n) rows
      → row_read (unwrap_or o none).now ≡ row_among (map row_read rows) n
  by_cases None e = is ∙ sym (ap (λ (p : Option Row). unwrap_or p no_row) (find-read rows n ∙ ap (option_map row_read) (sym e)))
  by_cases (Some row) e = sym (ap (λ (p : Option Row). unwrap_or p no_row) (find-read rows n ∙ ap (option_map row_read) (sym e)))

-- ---- where the rows of a kind begin

pub from_pac : (f : PacFunction) → row_among (drop 13 natives) (native.Pac f) ≡ native_row (native.Pac f)
unfolding natives native_row
from_pac f = refl

pub from_text : (m : TextMethod) → row_among (drop 34 natives) (native.Plain (plain.TextMethod m)) ≡ native_row (native.Plain (plain.TextMethod m))
unfolding natives native_row
from_text m = refl

pub from_number : (m : NumberMethod) → row_among (drop 49 natives) (native.Plain (plain.NumberMethod m)) ≡ native_row (native.Plain (plain.NumberMethod m))
unfolding natives native_row
from_number m = refl

pub from_array : (m : ArrayMethod) → row_among (drop 57 natives) (native.Plain (plain.ArrayMethod m)) ≡ native_row (native.Plain (plain.ArrayMethod m))
unfolding natives native_row
from_array m = refl

-- the first row of a method that searches a text for a pattern
abbrev pub place_of : PatternNative → ℕ
place_of pattern.Replace = 39
place_of pattern.Split = 41
place_of pattern.Exec = 72
place_of pattern.Test = 73
place_of pattern.Match = 75
place_of pattern.Search = 76

pub from_pattern : (n : PatternNative) → row_among (drop (place_of n) natives) (native.Pattern n) ≡ native_row (native.Pattern n)
unfolding natives native_row
from_pattern pattern.Replace = refl
from_pattern pattern.Split = refl
from_pattern pattern.Exec = refl
from_pattern pattern.Test = refl
from_pattern pattern.Match = refl
from_pattern pattern.Search = refl

pub from_pattern_text : row_among (drop 74 natives) (native.Plain plain.PatternToString) ≡ native_row (native.Plain plain.PatternToString)
unfolding natives native_row
from_pattern_text = refl

pub from_error_text : row_among (drop 10 natives) native.ErrorToString ≡ native_row native.ErrorToString
unfolding natives native_row
from_error_text = refl

pub from_join : row_among (drop 67 natives) native.ArrayJoin ≡ native_row native.ArrayJoin
unfolding natives native_row
from_join = refl

pub from_array_text : row_among (drop 68 natives) native.ArrayToString ≡ native_row native.ArrayToString
unfolding natives native_row
from_array_text = refl
