-- Numbers that counting dice gave.
use Rattle.std.proofs.Common.{◌≡◌, ℕ, ◌+◌, ◌<◌, List, [], ◌∷◌, ◌++◌, length, Option, Some, None, sym, ◌∙◌, ap, subst, arith, append_assoc}
use Rattle.std.proofs.lemmas.List.{append-nil}
use Rattle.pac_ports.specs.Dice.{DiceTold, Gave}
use Rattle.pac_ports.specs.Faults.{last_count, raised}
use Rattle.poll_loop.specs.Numbers.{GaveAll}
use Rattle.memory_talk.specs.Numbers.{counted, first_numbers}

-- what dice tell when they gave so many numbers more
record HasGiven (old : DiceTold) (numbers : List ℕ) (new : DiceTold) : Type 0 where
  pub counted : new.count ≡ old.count + length numbers
  pub given : new.given ≡ old.given ++ numbers

-- a count below its last number was below it before, and one less
lower : (before now : ℕ) → now ≡ raised before → now < last_count → now ≡ before + 1
lower before now e low = omega (arith, e, low)

-- as long as the count stays below its last number, all is told
given_all : (numbers : List ℕ) (old new : DiceTold) → GaveAll (Some old) numbers (Some new) → new.count < last_count → HasGiven old numbers new
given_all [] old new gave low =
    let told : Some new ≡ Some old = gave in
    let same : new ≡ old = cc in
    let count : new.count ≡ old.count = ap (λ (d : DiceTold). d.count) same in
    record { counted = omega arith; given = ap (λ (d : DiceTold). d.given) same ∙ sym (append-nil old.given) }
given_all (number ∷ numbers) old new gave low = go gave.0 gave.1 gave.2 (λ mid rest. given_all numbers mid new rest low)
  where
    go : (mid : Option DiceTold) → Gave (Some old) number mid → GaveAll mid numbers (Some new) → ((x : DiceTold) → GaveAll (Some x) numbers (Some new) → HasGiven x numbers new) → HasGiven old (number ∷ numbers) new
    go None one rest more_from = absurd one
    go (Some mid) one rest more_from =
        let more : HasGiven mid numbers new = more_from mid rest in
        let total : new.count ≡ mid.count + length numbers = more.counted in
        let below : mid.count < last_count = omega arith in
        let step : mid.count ≡ old.count + 1 = lower old.count mid.count one.counted below in
        record {
          counted = omega arith;
          given = more.given ∙ ap (λ (l : List ℕ). l ++ numbers) (one.given (omega arith)) ∙ append_assoc old.given (number ∷ []) numbers;
        }

-- so counting dice that gave none gave these
pub dealt : (numbers : List ℕ) (old new : Option DiceTold) (n : ℕ) → old ≡ Some (counted 0) → new ≡ Some (counted n) → n < last_count → GaveAll old numbers new
    → (n ≡ length numbers) × (numbers ≡ first_numbers n)
dealt numbers old new n e f low gave =
    let from : GaveAll (Some (counted 0)) numbers new = subst (λ (d : Option DiceTold). GaveAll d numbers new) e gave in
    let all : HasGiven (counted 0) numbers (counted n) = given_all numbers (counted 0) (counted n) (subst (λ (d : Option DiceTold). GaveAll (Some (counted 0)) numbers d) f from) low in
    let count : n ≡ 0 + length numbers = all.counted in
    (omega arith, sym all.given)
