-- A pattern laid on a text, unit on unit, up to its first star.
use Rattle.std.proofs.Common.{◌≡◌, ℕ, ◌≤◌, zero, suc, List, [], ◌∷◌, true, false, ◌&&◌, cond, length, drop, sym, ap, ◌∙◌, refl, arith, add_comm, drop-drop}
use Rattle.std.specs.Prelude.{nat_eq}
use Rattle.std.specs.Cmp.{both_ways}
use Rattle.std.proofs.lemmas.Bool.{and_parts, false≢true}
use Rattle.pac_match.specs.Matching.{some_end, stands_for, behind_unit, is_match, has_match_in_some_end}
use Rattle.pac_match.specs.Fitting.{FitsUpToStar}
use Rattle.pac_match.proofs.Ends.{some_end-whole, some_end-drop, end_of}

-- the signs that were laid are as many as the units that they were laid on; of any other text that the pattern matches,
-- what is behind as many units is matched by the signs that are left
pub record IsWalked (pattern text signs left : List ℕ) : Type 0 where
  pub same : is_match pattern text ≡ is_match signs left
  pub units : ℕ
  pub behind : left ≡ drop units text
  pub shifted : (other : List ℕ) → is_match pattern other ≡ true → is_match signs (drop units other) ≡ true
  pub shorter : length signs ≤ length pattern
  pub no_longer : length left ≤ length text

pub walk-start : (pattern text : List ℕ) → IsWalked pattern text pattern text
walk-start pattern text = record {
  same = refl;
  units = 0;
  behind = refl;
  shifted = λ other h. h;
  shorter = omega arith;
  no_longer = omega arith;
}

-- a sign that is no star
sign-match : (sign : ℕ) (signs text : List ℕ) → nat_eq sign 42 ≡ false → is_match (sign ∷ signs) text ≡ behind_unit sign (is_match signs) text
sign-match sign signs text e = ap (λ b. cond b (some_end (is_match signs) text) (behind_unit sign (is_match signs) text)) e

star-match : (sign : ℕ) (signs text : List ℕ) → nat_eq sign 42 ≡ true → is_match (sign ∷ signs) text ≡ has_match_in_some_end signs text
star-match sign signs text e = ap (λ b. cond b (some_end (is_match signs) text) (behind_unit sign (is_match signs) text)) e

unit-match : (sign u : ℕ) (signs us : List ℕ) → nat_eq sign 42 ≡ false → stands_for sign u ≡ true → is_match (sign ∷ signs) (u ∷ us) ≡ is_match signs us
unit-match sign u signs us e h = sign-match sign signs (u ∷ us) e ∙ ap (λ b. b && is_match signs us) h

pub unit-misfit : (sign u : ℕ) (signs us : List ℕ) → nat_eq sign 42 ≡ false → stands_for sign u ≡ false → is_match (sign ∷ signs) (u ∷ us) ≡ false
unit-misfit sign u signs us e h = sign-match sign signs (u ∷ us) e ∙ ap (λ b. b && is_match signs us) h

pub end-misfit : (sign : ℕ) (signs : List ℕ) → nat_eq sign 42 ≡ false → is_match (sign ∷ signs) [] ≡ false
end-misfit sign signs e = sign-match sign signs [] e

behind-unit : (sign : ℕ) (signs text : List ℕ) → behind_unit sign (is_match signs) text ≡ true → is_match signs (drop 1 text) ≡ true
behind-unit sign signs [] h = absurd (false≢true h)
behind-unit sign signs (u ∷ us) h = (and_parts (stands_for sign u) (is_match signs us) h).1

-- one more unit
drop-one : (n : ℕ) (text : List ℕ) → drop 1 (drop n text) ≡ drop (suc n) text
drop-one zero [] = refl
drop-one zero (u ∷ us) = refl
drop-one (suc n) [] = refl
drop-one (suc n) (u ∷ us) = drop-one n us

pub walk-step : (pattern text signs left : List ℕ) (sign u : ℕ) → IsWalked pattern text (sign ∷ signs) (u ∷ left) → nat_eq sign 42 ≡ false → stands_for sign u ≡ true → IsWalked pattern text signs left
walk-step pattern text signs left sign u w e h = record {
  same = w.same ∙ unit-match sign u signs left e h;
  units = suc (w.units);
  behind = ap (drop 1) w.behind ∙ drop-one w.units text;
  shifted = λ other m.
      let there = behind-unit sign signs (drop w.units other) (sym (sign-match sign signs (drop w.units other) e) ∙ w.shifted other m) in
      ap (is_match signs) (sym (drop-one w.units other)) ∙ there;
  shorter = let p = w.shorter in omega arith;
  no_longer = let p = w.no_longer in omega arith;
}

drops-swapped : (m n : ℕ) (text : List ℕ) → drop m (drop n text) ≡ drop n (drop m text)
drops-swapped m n text = drop-drop m n text ∙ ap (λ k. drop k text) (add_comm n m) ∙ sym (drop-drop n m text)

-- what the pattern matches at an end of the text, the signs behind the star match at an end of what is left of it
later-end : (pattern text signs left : List ℕ) (sign : ℕ) → IsWalked pattern text (sign ∷ signs) left → nat_eq sign 42 ≡ true → has_match_in_some_end pattern text ≡ true → has_match_in_some_end signs left ≡ true
later-end pattern text signs left sign w e h =
    let found = end_of (is_match pattern) text h in
    let there = sym (star-match sign signs (drop w.units (drop found.0 text)) e) ∙ w.shifted (drop found.0 text) found.1 in
    let moved = ap (has_match_in_some_end signs) (ap (drop found.0) w.behind ∙ drops-swapped found.0 w.units text) ∙ there in
    some_end-drop (is_match signs) found.0 left moved

whole-text : (pattern text signs left : List ℕ) (sign : ℕ) → IsWalked pattern text (sign ∷ signs) left → nat_eq sign 42 ≡ true → is_match pattern text ≡ has_match_in_some_end signs left
whole-text pattern text signs left sign w e = w.same ∙ star-match sign signs left e

pub walk-star : (pattern text signs left : List ℕ) (sign : ℕ) → IsWalked pattern text (sign ∷ signs) left → nat_eq sign 42 ≡ true → FitsUpToStar pattern text left signs
walk-star pattern text signs left sign w e = record {
  whole = whole-text pattern text signs left sign w e;
  some_end = both_ways (has_match_in_some_end pattern text) (has_match_in_some_end signs left)
      (later-end pattern text signs left sign w e)
      (λ h. some_end-whole (is_match pattern) text (whole-text pattern text signs left sign w e ∙ h));
  shorter = let p = w.shorter in omega arith;
  no_longer = w.no_longer;
}
