-- Runs of units that pass a test.
use Rattle.std.proofs.Common.{◌≡◌, ℕ, suc, List, ◌∷◌, Bool, true, false, refl, ap, ◌∙◌, arith}
use Rattle.std.specs.Prelude.{nat_eq}
use Rattle.std.specs.List.{prefix_len}
use Rattle.std.proofs.lemmas.Bool.{ne_eqb}

pub run_more : (test : ℕ → Bool) (u : ℕ) (us : List ℕ) → test u ≡ true → prefix_len test (u ∷ us) ≡ suc (prefix_len test us)
run_more test u us is = rw is (omega arith)

pub run_ends : (test : ℕ → Bool) (u : ℕ) (us : List ℕ) → test u ≡ false → prefix_len test (u ∷ us) ≡ 0
run_ends test u us is = rw is refl

-- a unit that passes a test is none that fails it
pub other_unit : (test : ℕ → Bool) (u n : ℕ) → test n ≡ false → test u ≡ true → nat_eq u n ≡ false
other_unit test u n fails is = ne_eqb u n (λ e. let same : test u ≡ false = ap test e ∙ fails in cc)

pub failing_unit : (test : ℕ → Bool) (u n : ℕ) → test n ≡ true → test u ≡ false → nat_eq u n ≡ false
failing_unit test u n is fails = ne_eqb u n (λ e. let same : test u ≡ true = ap test e ∙ is in cc)
