-- A group as it is written is read as that group.
use Rattle.std.proofs.Common.{◌≡◌, ℕ, ◌+◌, ◌*◌, ◌/◌, ◌%◌, ◌<◌, ◌≤◌, Bool, true, false, cond, leb, List, [], ◌∷◌, length, map, fold, Some, None, refl, ◌∙◌, ap, arith}
use Rattle.std.specs.Prelude.{nat_le}
use Rattle.std.specs.Option.{option_map}
use Rattle.std.specs.List.{list_all, AllByRecursion}
use Rattle.std.specs.Char.{digit_char}
use Rattle.std.proofs.lemmas.Bool.{and_from, le-leb, leb-true, leb-false}
use Rattle.std.proofs.lemmas.Bool.Decides.{nat_tests}
use Rattle.std.proofs.lemmas.List.{length-map}
use Rattle.utf16_text.specs.Digits.{is_hexadecimal, digit_of}
use Rattle.pac_ext.specs.Groups.{is_group, group_in}
use Rattle.pac_ext.specs.Reading.{one_in}
use Rattle.pac_ext.specs.Writing.{group_text}
use Rattle.pac_ext.proofs.Texts.{four, three, two, one}

abbrev pub AreDigits : List ℕ → Type 0
AreDigits digits = AllByRecursion (λ digit. digit < 16) digits

hexadecimal : (digit : ℕ) → digit < 16 → is_hexadecimal (digit_char digit) ≡ true
hexadecimal digit h = grind (arith, nat_tests)

value : (digit : ℕ) → digit < 16 → digit_of (digit_char digit) ≡ digit
value digit h = grind (arith, nat_tests)

all-hexadecimal : (digits : List ℕ) → AreDigits digits → list_all is_hexadecimal (map digit_char digits) ≡ true
all-hexadecimal [] h = refl
all-hexadecimal (digit ∷ digits) h = and_from _ _ (hexadecimal digit h.0) (all-hexadecimal digits h.1)

same-number : (n : ℕ) (digits : List ℕ) → AreDigits digits → fold (λ n u. n * 16 + digit_of u) n (map digit_char digits) ≡ fold (λ n digit. n * 16 + digit) n digits
same-number n [] h = refl
same-number n (digit ∷ digits) h =
    ap (λ v. fold (λ n u. n * 16 + digit_of u) (n * 16 + v) (map digit_char digits)) (value digit h.0)
    ∙ same-number (n * 16 + digit) digits h.1

-- a text that is one to four digits of a group
pub record Spells (group : ℕ) (text : List ℕ) : Type 0 where
  pub digits : List ℕ
  pub spelled : text ≡ map digit_char digits
  pub small : AreDigits digits
  pub some : 1 ≤ length digits
  pub few : length digits ≤ 4
  pub number : fold (λ n digit. n * 16 + digit) 0 digits ≡ group

pub spells-group_text : (group : ℕ) → group < 65536 → Spells group (group_text group)
spells-group_text group h = go (leb 4096 group) (leb 256 group) (leb 16 group) refl refl refl where
  go : (x y z : Bool) → leb 4096 group ≡ x → leb 256 group ≡ y → leb 16 group ≡ z → Spells group (group_text group)
  go true y z e f g = record {
    digits = group / 4096 % 16 ∷ group / 256 % 16 ∷ group / 16 % 16 ∷ group % 16 ∷ [];
    spelled = four (group / 4096 % 16) (group / 256 % 16) (group / 16 % 16) (group % 16) (omega (arith, leb-true 4096 group e)) (omega arith);
    small = (omega arith, (omega arith, (omega arith, (omega arith, tt))));
    some = omega arith;
    few = omega arith;
    number = omega arith;
  }
  go false true z e f g = record {
    digits = group / 256 % 16 ∷ group / 16 % 16 ∷ group % 16 ∷ [];
    spelled = three (group / 4096 % 16) (group / 256 % 16) (group / 16 % 16) (group % 16) (omega (arith, leb-false 4096 group e)) (omega (arith, leb-false 4096 group e, leb-true 256 group f)) (omega arith);
    small = (omega arith, (omega arith, (omega arith, tt)));
    some = omega arith;
    few = omega arith;
    number = omega (arith, leb-false 4096 group e);
  }
  go false false true e f g = record {
    digits = group / 16 % 16 ∷ group % 16 ∷ [];
    spelled = two (group / 4096 % 16) (group / 256 % 16) (group / 16 % 16) (group % 16) (omega (arith, leb-false 4096 group e)) (omega (arith, leb-false 256 group f)) (omega (arith, leb-false 256 group f, leb-true 16 group g)) (omega arith);
    small = (omega arith, (omega arith, tt));
    some = omega arith;
    few = omega arith;
    number = omega (arith, leb-false 256 group f);
  }
  go false false false e f g = record {
    digits = group % 16 ∷ [];
    spelled = one (group / 4096 % 16) (group / 256 % 16) (group / 16 % 16) (group % 16) (omega (arith, leb-false 4096 group e)) (omega (arith, leb-false 256 group f)) (omega (arith, leb-false 16 group g));
    small = (omega arith, tt);
    some = omega arith;
    few = omega arith;
    number = omega (arith, leb-false 16 group g);
  }

group-of_digits : (digits : List ℕ) → AreDigits digits → 1 ≤ length digits → length digits ≤ 4 → is_group (map digit_char digits) ≡ true
group-of_digits digits h some few =
    let long = length-map digits digit_char in
    let units = map digit_char digits in
    let low : nat_le 1 (length units) ≡ true = le-leb 1 (length units) (omega (arith, long)) in
    let high : nat_le (length units) 4 ≡ true = le-leb (length units) 4 (omega (arith, long)) in
    and_from _ _ (and_from _ _ low high) (all-hexadecimal digits h)

pub is_group-group_text : (group : ℕ) → group < 65536 → is_group (group_text group) ≡ true
is_group-group_text group h =
    let s = spells-group_text group h in
    ap is_group s.spelled ∙ group-of_digits s.digits s.small s.some s.few

pub one_in-group_text : (group : ℕ) → group < 65536 → one_in (group_text group) ≡ Some (group ∷ [])
one_in-group_text group h =
    let s = spells-group_text group h in
    let read : group_in (map digit_char s.digits) ≡ Some group =
    ap (λ b. cond b (Some (fold (λ n u. n * 16 + digit_of u) 0 (map digit_char s.digits))) None) (group-of_digits s.digits s.small s.some s.few)
    ∙ ap Some (same-number 0 s.digits s.small ∙ s.number) in
    ap one_in s.spelled ∙ ap (option_map (λ group. group ∷ [])) read
