-- A test that holds of each number below a limit, by trying all.
use Rattle.std.proofs.Common.{◌≡◌, ℕ, zero, suc, ◌<◌, Bool, true, false, ◌&&◌, nat_lt, refl, ◌∙◌, ap, arith}
use Rattle.std.proofs.lemmas.Bool.{and_parts}
use Rattle.std.proofs.lemmas.Bool.Decides.{nat_tests}

abbrev pub holds_below : ℕ → (ℕ → Bool) → Bool
holds_below zero test = true
holds_below (suc n) test = test n && holds_below n test

below_if : (k n : ℕ) → nat_lt k n ≡ true → k < n
below_if k n e = grind (arith, nat_tests)

last_if : (k n : ℕ) → k < suc n → nat_lt k n ≡ false → k ≡ n
last_if k n lt e = grind (arith, nat_tests)

pub each_below : (n : ℕ) (test : ℕ → Bool) → holds_below n test ≡ true → (k : ℕ) → k < n → test k ≡ true
each_below zero test h k lt = absurd (omega arith)
each_below (suc n) test h k lt = go (nat_lt k n) refl (λ below. each_below n test ((and_parts _ _ h).1) k below)
  where
    go : (b : Bool) → nat_lt k n ≡ b → (k < n → test k ≡ true) → test k ≡ true
    go true e earlier = earlier (below_if k n e)
    go false e earlier = ap test (last_if k n lt e) ∙ (and_parts _ _ h).0
