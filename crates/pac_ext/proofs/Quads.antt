-- What has more than 15 units, or one that is not ASCII, is no dotted quad.
use Rattle.std.proofs.Common.{◌≡◌, ℕ, ◌<◌, ◌≤◌, Bool, true, false, cond, ◌&&◌, ◌||◌, List, [], ◌∷◌, length, get_or, Option, Some, None, refl, sym, ◌∙◌, ap, arith}
use Rattle.std.specs.Prelude.{is_some}
use Rattle.std.specs.List.{list_all}
use Rattle.std.specs.Char.{is_ascii, is_ascii_digit}
use Rattle.std.proofs.lemmas.Bool.{and_parts, and_from, true≢false, leb-true, le-ltb}
use Rattle.std.proofs.lemmas.Bool.Decides.{nat_tests}
use Rattle.std.proofs.lemmas.List.Folds.{list_all_at}
use Rattle.pac_names.specs.Labels.{labels_of, labels_length}
use Rattle.pac_names.specs.Quads.{groups_of, is_group, address_of_groups, quad_of}
use Rattle.pac_names.proofs.LabelLaws.{is_dot, letters_from_labels, labels_length-labels_of}

-- a dot or a digit
abbrev is_quad_unit : ℕ → Bool
is_quad_unit c = is_dot c || is_ascii_digit c

quad_unit_ascii : (c : ℕ) → is_quad_unit c ≡ true → is_ascii c ≡ true
quad_unit_ascii c h = grind (arith, nat_tests)

all_ascii : (units : List ℕ) → list_all is_quad_unit units ≡ true → list_all is_ascii units ≡ true
all_ascii [] h = refl
all_ascii (u ∷ us) h =
    let parts = and_parts _ _ h in
    and_from _ _ (quad_unit_ascii u parts.0) (all_ascii us parts.1)

digits_of : (group : List ℕ) → is_group group ≡ true → (length group ≤ 3) × (list_all is_ascii_digit group ≡ true)
digits_of group h =
    let parts = and_parts _ _ h in
    (leb-true _ _ ((and_parts _ _ parts.0).1), parts.1)

record AreDigits (labels : List (List ℕ)) : Type 0 where
  few : labels_length labels ≤ 16
  digits : list_all (λ label. list_all is_ascii_digit label) labels ≡ true

some-of : {X : Type 0} (t : Bool) (x : X) → is_some (cond t (Some x) None) ≡ true → t ≡ true
some-of true x h = refl
some-of false x h = cc

none-of : {X : Type 0} (o : Option X) → is_some o ≡ false → o ≡ None
none-of None h = refl
none-of (Some x) h = cc

-- four groups have few units, which are digits
digits_of_groups : (labels : List (List ℕ)) → is_some (groups_of labels) ≡ true → AreDigits labels
digits_of_groups (a ∷ b ∷ c ∷ d ∷ []) h =
    let four = and_parts _ _ (some-of (is_group a && is_group b && is_group c && is_group d) _ h) in
    let three = and_parts _ _ four.0 in
    let two = and_parts _ _ three.0 in
    let da = digits_of a two.0 in
    let db = digits_of b two.1 in
    let dc = digits_of c three.1 in
    let dd = digits_of d four.1 in
    record { few = omega arith; digits = and_from _ _ da.1 (and_from _ _ db.1 (and_from _ _ dc.1 (and_from _ _ dd.1 refl))) }
digits_of_groups _ h = cc

-- a dotted quad has at most 15 units, and all are ASCII
no_quad : (units : List ℕ) → ((length units ≤ 15) → (list_all is_ascii units ≡ true) → ⊥) → quad_of units ≡ None
no_quad units far = go (is_some (groups_of (labels_of units))) refl where
  go : (b : Bool) → is_some (groups_of (labels_of units)) ≡ b → quad_of units ≡ None
  go false e = ap address_of_groups (none-of (groups_of (labels_of units)) e)
  go true e =
      let known = digits_of_groups (labels_of units) e in
      let few : length units ≤ 15 = omega (arith, labels_length-labels_of units, known.few) in
      absurd (far few (all_ascii units (letters_from_labels is_ascii_digit units known.digits)))

pub far_by_length : (units : List ℕ) → 15 < length units → quad_of units ≡ None
far_by_length units h = no_quad units (λ few _. omega arith)

pub far_by_unit : (units : List ℕ) (i : ℕ) → i < length units → 128 ≤ get_or units i 0 → quad_of units ≡ None
far_by_unit units i h k = no_quad units (λ _ ascii. true≢false (sym ascii ∙ list_all_at is_ascii units i 0 h (le-ltb _ _ k)))
