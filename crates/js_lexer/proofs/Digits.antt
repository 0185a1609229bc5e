-- At most four hexadecimal digits stand for a unit.
use Rattle.std.proofs.Common.{◌≡◌, ℕ, zero, suc, ◌+◌, ◌*◌, ◌<◌, ◌≤◌, List, [], ◌∷◌, length, take, fold, Bool, true, false, cond, min, Some, Ok, refl, ap, eq-eqb, length-take, arith}
use Rattle.std.proofs.Math.Nat.{mul-le-mul_right, mul_assoc}
use Rattle.std.proofs.lemmas.Bool.Decides.{nat_tests}
use Rattle.std.proofs.lemmas.List.Sums.{prefix_len-le-length}
use Rattle.std.specs.List.{prefix_len}
use Rattle.utf16_text.specs.Digits.{is_hexadecimal, digit_of, value_of}
use Rattle.js_grammar.specs.Literals.{numbered_at}

abbrev step : ℕ → ℕ → ℕ
step n u = n * 16 + digit_of u

-- 16 to the power of a number
abbrev power : ℕ → ℕ
power zero = 1
power (suc k) = 16 * power k

power_small : (k : ℕ) → k ≤ 4 → power k ≤ 65536
power_small zero h = omega arith
power_small (suc zero) h = omega arith
power_small (suc (suc zero)) h = omega arith
power_small (suc (suc (suc zero))) h = omega arith
power_small (suc (suc (suc (suc zero)))) h = omega arith
power_small (suc (suc (suc (suc (suc k))))) h = absurd (omega arith)

digit_below : (u : ℕ) → is_hexadecimal u ≡ true → digit_of u < 16
digit_below u h = grind (arith, nat_tests)

power_step : (n d p : ℕ) → d < 16 → (n * 16 + d + 1) * p ≤ (n + 1) * (16 * p)
power_step n d p h =
    let digit : n * 16 + d + 1 ≤ (n + 1) * 16 = omega arith in
    rw (← mul_assoc (n + 1) 16 p) (mul-le-mul_right p digit)

one_digit : (n u : ℕ) (us : List ℕ) (b : Bool) → is_hexadecimal u ≡ b → cond b (1 + prefix_len is_hexadecimal us) 0 ≡ suc (length us)
    → (prefix_len is_hexadecimal us ≡ length us → fold step (step n u) us < (step n u + 1) * power (length us))
    → fold step (step n u) us < (n + 1) * (16 * power (length us))
one_digit n u us false e g others = absurd (omega arith)
one_digit n u us true e g others =
    let rest : prefix_len is_hexadecimal us ≡ length us = omega arith in
    omega (arith, others rest, power_step n (digit_of u) (power (length us)) (digit_below u e))

fold_below : (n : ℕ) (us : List ℕ) → prefix_len is_hexadecimal us ≡ length us → fold step n us < (n + 1) * power (length us)
fold_below n [] h = omega arith
fold_below n (u ∷ us) h = one_digit n u us (is_hexadecimal u) refl h (fold_below (step n u) us)

pub value_below : (k : ℕ) (us : List ℕ) → k ≤ 4 → prefix_len is_hexadecimal us ≡ k → length us ≤ k → value_of 16 us < 65536
value_below k us small all short =
    let whole : prefix_len is_hexadecimal us ≡ length us = omega (arith, prefix_len-le-length is_hexadecimal us) in
    omega (arith, fold_below 0 us whole, power_small (length us) (omega arith))

-- what `\x` and `\u` give, by the value that was counted up to the limit
pub numbered-value : (k v : ℕ) (us : List ℕ) → k ≤ 4 → prefix_len is_hexadecimal (take k us) ≡ k → v ≡ min (value_of 16 (take k us)) 9007199254740992 → Ok (Some v, k + 1) ≡ numbered_at k us
numbered-value k v us small all is =
    let short : length (take k us) ≤ k = omega (arith, length-take k us) in
    let same : v ≡ value_of 16 (take k us) = omega (arith, value_below k (take k us) small all short) in
    rw (eq-eqb (prefix_len is_hexadecimal (take k us)) k all) (ap (λ (x : ℕ). Ok (Some x, k + 1)) same)
