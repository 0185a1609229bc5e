-- A decoded text has no more units than its file has bytes.
use Rattle.std.proofs.Common.{ℕ, ◌≤◌, List, [], ◌∷◌, cond, length, length-append, sym, subst, arith, ⊎_elim}
use Rattle.std.specs.List.{flat_map}
use Rattle.std.specs.Str.{chars, is_utf8}
use Rattle.std.specs.Char.{len_utf8}
use Rattle.std.specs.Char.Escape.{encode_utf16}
use Rattle.std.proofs.Math.Utf8.{encode, encodes}
use Rattle.std.proofs.lemmas.Bool.{cases_Bool}
use Rattle.std.proofs.lemmas.Bool.Decides.{nat_tests}
use Rattle.std.proofs.lemmas.Str.{length-encode, encodes-chars, IsUtf8-from_is_utf8}
use Rattle.utf16_text.specs.Decode.{utf16_units, without_mark, units_of_content, decoded_units}

-- a character below 65,536 is one unit, and another has four bytes
one_fits : (c : ℕ) → length (encode_utf16 c) ≤ len_utf8 c
one_fits c = grind (arith, nat_tests)

units_fit : (cs : List ℕ) → length (flat_map encode_utf16 cs) ≤ length (encodes cs)
units_fit [] = omega arith
units_fit (c ∷ cs) = omega (arith, units_fit cs, length-append (encode_utf16 c) (flat_map encode_utf16 cs), length-append (encode c) (encodes cs), length-encode c, one_fits c)

content_fits : (bytes : List ℕ) → length (units_of_content bytes) ≤ length bytes
content_fits bytes = ⊎_elim
    (λ utf8.
    let same = encodes-chars bytes (IsUtf8-from_is_utf8 bytes utf8) in
    let fits = units_fit (chars bytes) in
    subst (λ b. length (cond b (utf16_units bytes) bytes) ≤ length bytes) (sym utf8) (subst (λ bs. length (utf16_units bytes) ≤ length bs) same fits))
    (λ other. subst (λ b. length (cond b (utf16_units bytes) bytes) ≤ length bytes) (sym other) (omega arith))
    (cases_Bool (is_utf8 bytes))

mark_fits : (bytes : List ℕ) → length (without_mark bytes) ≤ length bytes
mark_fits [] = omega arith
mark_fits (a ∷ []) = omega arith
mark_fits (a ∷ b ∷ []) = omega arith
mark_fits (a ∷ b ∷ c ∷ rest) = grind (arith, nat_tests)

pub decoded_fits : (bytes : List ℕ) → length (decoded_units bytes) ≤ length bytes
decoded_fits bytes = let content = content_fits (without_mark bytes) in let mark = mark_fits bytes in omega arith
