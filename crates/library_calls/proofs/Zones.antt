-- The texts of zones.
use Rattle.std.proofs.Common.{◌≡◌, ◌∙◌, ℕ, ℤ, pos, zero, suc, ◌+◌, ◌*◌, ◌/◌, ◌%◌, ◌<◌, ◌≤◌, List, [], ◌∷◌, Bool, true, false, Option, Some, None, arith, ap, sym}
use Rattle.std.specs.Prelude.{negsuc, neg_ℤ, ◌*ℤ◌, int_lt, nat_lt, unsigned_abs, if◌then◌else◌}
use Rattle.std.specs.Str.{IsAscii, IsUtf8}
use Rattle.std.proofs.lemmas.Bool.Decides.{nat_tests}
use Rattle.std.proofs.lemmas.Str.{IsUtf8-from_ascii}
use Rattle.pac_calendar.specs.Zone.{signed_seconds, two_digits, zone_of_text}
use Rattle.library_calls.specs.Settings.{is_zone}
use Rattle.library_calls.specs.Zones.{zone_text}

-- two digits are read as the number that they write
two : (most n : ℕ) → n ≤ most → n < 100 → two_digits most (48 + n / 10) (48 + n % 10) ≡ Some n
two most n low few = grind (arith, nat_tests)

-- a text of ASCII is UTF-8
no_bytes : IsAscii []
no_bytes i = omega arith

one_more : (b : ℕ) (bs : List ℕ) → b < 128 → IsAscii bs → IsAscii (b ∷ bs)
one_more b bs low rest zero = low
one_more b bs low rest (suc i) = rest i

six_bytes : (a b c d e f : ℕ) → a < 128 → b < 128 → c < 128 → d < 128 → e < 128 → f < 128 → IsAscii (a ∷ b ∷ c ∷ d ∷ e ∷ f ∷ [])
six_bytes a b c d e f la lb lc ld le lf =
    one_more a (b ∷ c ∷ d ∷ e ∷ f ∷ []) la (one_more b (c ∷ d ∷ e ∷ f ∷ []) lb (one_more c (d ∷ e ∷ f ∷ []) lc
    (one_more d (e ∷ f ∷ []) ld (one_more e (f ∷ []) le (one_more f [] lf no_bytes)))))

pub is_text : (sign away : ℕ) → sign < 128 → away < 1440 → IsUtf8 (zone_text sign away)
is_text sign away low near =
    IsUtf8-from_ascii (zone_text sign away)
    (six_bytes sign (48 + away / 60 / 10) (48 + away / 60 % 10) 58 (48 + away % 60 / 10) (48 + away % 60 % 10)
    low (omega arith) (omega arith) (omega arith) (omega arith) (omega arith))

-- hours and minutes make up the minutes
whole_minutes : (away : ℕ) → away / 60 * 3600 + away % 60 * 60 ≡ away * 60
whole_minutes away = omega arith

pub reads_east : (away : ℕ) → away < 1440 → zone_of_text (zone_text 43 away) ≡ Some (pos (away * 60))
reads_east away near =
    ap (λ (hours : Option ℕ). signed_seconds false hours (two_digits 59 (48 + away % 60 / 10) (48 + away % 60 % 10))) (two 23 (away / 60) (omega arith) (omega arith))
    ∙ ap (λ (minutes : Option ℕ). signed_seconds false (Some (away / 60)) minutes) (two 59 (away % 60) (omega arith) (omega arith))
    ∙ ap (λ (n : ℕ). Some (pos n)) (whole_minutes away)

pub reads_west : (away : ℕ) → away < 1440 → zone_of_text (zone_text 45 away) ≡ Some (neg_ℤ (pos (away * 60)))
reads_west away near =
    ap (λ (hours : Option ℕ). signed_seconds true hours (two_digits 59 (48 + away % 60 / 10) (48 + away % 60 % 10))) (two 23 (away / 60) (omega arith) (omega arith))
    ∙ ap (λ (minutes : Option ℕ). signed_seconds true (Some (away / 60)) minutes) (two 59 (away % 60) (omega arith) (omega arith))
    ∙ ap (λ (n : ℕ). Some (neg_ℤ (pos n))) (whole_minutes away)

-- ---- minutes of either sign

near_enough : (away : ℕ) → away < 1440 → nat_lt away 1440 ≡ true
near_enough away near = grind (arith, nat_tests)

abbrev zone_if : Bool → ℤ → Option ℤ
zone_if is_near seconds = if is_near then Some seconds else None

pub is_east : (minutes : ℤ) (away : ℕ) → away ≡ unsigned_abs minutes → int_lt minutes (pos 0) ≡ false → away < 1440
    → zone_of_text (zone_text 43 away) ≡ zone_if (is_zone minutes) (minutes *ℤ pos 60)
is_east (pos n) away is east near =
    reads_east away near ∙ ap (λ (m : ℕ). Some (pos (m * 60))) is
    ∙ sym (ap (λ (b : Bool). zone_if b (pos n *ℤ pos 60)) (near_enough n (omega (arith, is))))
is_east (negsuc n) away is east near = absurd cc

pub is_west : (minutes : ℤ) (away : ℕ) → away ≡ unsigned_abs minutes → int_lt minutes (pos 0) ≡ true → away < 1440
    → zone_of_text (zone_text 45 away) ≡ zone_if (is_zone minutes) (minutes *ℤ pos 60)
is_west (pos n) away is west near = absurd (grind (arith, nat_tests, west))
is_west (negsuc n) away is west near =
    reads_west away near ∙ ap (λ (m : ℕ). Some (neg_ℤ (pos (m * 60)))) is
    ∙ sym (ap (λ (b : Bool). zone_if b (negsuc n *ℤ pos 60)) (near_enough (suc n) (omega (arith, is))))
