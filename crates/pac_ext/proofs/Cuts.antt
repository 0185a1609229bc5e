-- A text at its first separator.
use Rattle.std.proofs.Common.{◌≡◌, ℕ, ◌+◌, ◌-◌, ◌<◌, ◌≤◌, Bool, true, false, cond, not, ltb, List, [], ◌∷◌, length, take, drop, Some, None, refl, sym, ◌∙◌, ap, arith}
use Rattle.std.specs.List.{onto_first, slice_split, position, position_or_len, before_first, after_first}
use Rattle.std.proofs.lemmas.List.Splits.{slice_split_first}
use Rattle.std.proofs.lemmas.List.{take_all, drop_all, drop-drop, length-drop}
use Rattle.std.proofs.lemmas.Bool.{ltb-true, ltb-false}

module _ (p : ℕ → Bool) (units : List ℕ) where
  -- the first place is that before which no unit passes, and before the end
  pub first_is : (i : ℕ) → position p units ≡ Some i → (position_or_len p units ≡ i) × (position_or_len p units < length units)
  first_is i h = go (ltb (position_or_len p units) (length units)) refl h where
    go : (b : Bool) → ltb (position_or_len p units) (length units) ≡ b → cond b (Some (position_or_len p units)) None ≡ Some i
        → (position_or_len p units ≡ i) × (position_or_len p units < length units)
    go true e h = let same : position_or_len p units ≡ i = cc in (same, ltb-true _ _ e)
    go false e h = cc

  -- what `split_at` and `[1..]` leave
  pub behind-cut : (back : List ℕ) (i : ℕ) → back ≡ drop i units → take (length back - 1) (drop 1 back) ≡ drop (i + 1) units
  behind-cut back i e =
      let all : take (length back - 1) (drop 1 back) ≡ drop 1 back = take_all _ _ (omega (arith, length-drop 1 back)) in
      let one : drop 1 (drop i units) ≡ drop (i + 1) units = drop-drop 1 i units in
      all ∙ ap (drop 1) e ∙ one

  pub before_at : (front : List ℕ) (i : ℕ) → position p units ≡ Some i → front ≡ take i units → front ≡ before_first p units
  before_at front i h e = let same = (first_is i h).0 in e ∙ ap (λ (n : ℕ). take n units) (sym same)

  pub behind_at : (back : List ℕ) (i : ℕ) → position p units ≡ Some i → back ≡ drop i units → take (length back - 1) (drop 1 back) ≡ after_first p units
  behind_at back i h e = let same = (first_is i h).0 in behind-cut back i e ∙ ap (λ (n : ℕ). drop (n + 1) units) (sym same)

  pub pieces_at : (front back : List ℕ) (i : ℕ) → position p units ≡ Some i → front ≡ take i units → back ≡ drop i units
      → slice_split p units ≡ front ∷ slice_split p (take (length back - 1) (drop 1 back))
  pieces_at front back i h e k =
      let parts = slice_split_first p units 0 (first_is i h).1 in
      let before : front ≡ before_first p units = before_at front i h e in
      let behind : take (length back - 1) (drop 1 back) ≡ after_first p units = behind_at back i h k in
      parts ∙ ap (λ (xs : List ℕ). xs ∷ slice_split p (after_first p units)) (sym before)
      ∙ ap (λ (xs : List ℕ). front ∷ slice_split p xs) (sym behind)

  pub no_place : position p units ≡ None → length units ≤ position_or_len p units
  no_place h = go (ltb (position_or_len p units) (length units)) refl h where
    go : (b : Bool) → ltb (position_or_len p units) (length units) ≡ b → cond b (Some (position_or_len p units)) None ≡ None → length units ≤ position_or_len p units
    go true e h = cc
    go false e h = ltb-false _ _ e

  pub behind_none : position p units ≡ None → after_first p units ≡ []
  behind_none h = drop_all (position_or_len p units + 1) units (omega (arith, no_place h))

-- a text with no separator is one piece
whole : (p : ℕ → Bool) (units : List ℕ) → length units ≤ position_or_len p units → slice_split p units ≡ units ∷ []
whole p [] h = refl
whole p (u ∷ us) h = go (p u) h (whole p us) where
  go : (b : Bool) → length (u ∷ us) ≤ cond (not b) (1 + position_or_len p us) 0 → (length us ≤ position_or_len p us → slice_split p us ≡ us ∷ [])
      → cond b ([] ∷ slice_split p us) (onto_first u (slice_split p us)) ≡ (u ∷ us) ∷ []
  go true h ih = absurd (omega arith)
  go false h ih = rw (ih (omega arith)) refl

pub pieces_none : (p : ℕ → Bool) (units : List ℕ) → position p units ≡ None → slice_split p units ≡ units ∷ []
pieces_none p units h = whole p units (no_place p units h)

-- there is a first piece
pub pieces-cons : (p : ℕ → Bool) (units : List ℕ) → (first : List ℕ) × (rest : List (List ℕ)) × (slice_split p units ≡ first ∷ rest)
pieces-cons p [] = ([], [], refl)
pieces-cons p (u ∷ us) = go (p u) (slice_split p us) where
  go : (b : Bool) (ls : List (List ℕ)) → (first : List ℕ) × (rest : List (List ℕ)) × (cond b ([] ∷ ls) (onto_first u ls) ≡ first ∷ rest)
  go true ls = ([], ls, refl)
  go false [] = (u ∷ [], [], refl)
  go false (l ∷ ls) = (u ∷ l, ls, refl)
