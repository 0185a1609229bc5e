-- Which sendings have fallen due by an age.
use Rattle.std.proofs.Common.{◌≡◌, ℕ, zero, suc, ◌+◌, ◌-◌, ◌*◌, ◌^◌, ◌<◌, ◌≤◌, Bool, true, false, cond, Some, None, refl, sym, ◌∙◌, ap, arith, nat_le, ◌==◌}
use Rattle.std.specs.Prelude.{◌≢◌, is_some}
use Rattle.std.proofs.lemmas.Grind.{pow_more}
use Rattle.std.proofs.lemmas.Nat.{pow_below}
use Rattle.std.proofs.lemmas.Bool.{eqb-true, eqb-false}
use Rattle.std.proofs.lemmas.Bool.Decides.{nat_tests}
use Rattle.poll_log.specs.Sendings.{fallen_due, sending_age, sending_among}
use Rattle.poll_log.proofs.Names.{none_some}

-- from each sending to the next it is twice as long as to that one, and a wait more
age_doubles : (w j : ℕ) → sending_age w (j + 1) ≡ sending_age w j + (sending_age w j + w)
age_doubles w j =
    let q : ℕ = 2 ^ j - 1 in
    let whole : 2 ^ j ≡ q + 1 = let low : 0 < 2 ^ j = pow_positive j in omega arith in
    let next : 2 ^ (j + 1) ≡ (q + 1) * 2 = pow_more 2 j ∙ ap (λ x. x * 2) whole in
    let less : 2 ^ (j + 1) - 1 ≡ q + (q + 1) = omega arith in
    ap (λ x. w * x) less ∙ (omega arith)
  where
    pow_positive : (j : ℕ) → 0 < 2 ^ j
    pow_positive zero = omega arith
    pow_positive (suc j) = let low : 2 ^ 0 < 2 ^ suc j = pow_below 0 (suc j) (omega arith) in omega arith

pub age_grows : (w j : ℕ) → 0 < w → sending_age w j < sending_age w (j + 1)
age_grows w j p = let e = age_doubles w j in omega arith

next : (m : ℕ) → m + 1 ≡ suc m
next m = omega arith

-- where this sending has fallen due, all before it have
all_due : (w m a : ℕ) → 0 < w → sending_age w m ≤ a → fallen_due w m a ≡ m
all_due w zero a p h = refl
all_due w (suc m) a p h =
    let low : sending_age w m < sending_age w (m + 1) = age_grows w m p in
    let at : sending_age w (m + 1) ≤ a = rw (next m) h in
    let now : nat_le (sending_age w (m + 1)) a ≡ true = grind (arith, nat_tests) in
    ap (λ b. fallen_due w m a + cond b 1 0) now ∙ ap (λ x. x + 1) (all_due w m a p (omega arith)) ∙ (omega arith)

-- behind this sending none of them falls due
pub none_due : (w m a : ℕ) → 0 < w → sending_age w m < a → sending_among w m a ≡ None
none_due w zero a p h = refl
none_due w (suc m) a p h =
    let low : sending_age w m < sending_age w (m + 1) = age_grows w m p in
    let late : sending_age w (m + 1) < a = rw (next m) h in
    go late (sending_age w (m + 1) == a) refl (none_due w m a p (omega arith))
  where
    go : sending_age w (m + 1) < a → (b : Bool) → (sending_age w (m + 1) == a) ≡ b → sending_among w m a ≡ None → cond b (Some (m + 1)) (sending_among w m a) ≡ None
    go late true e r = absurd (let same : sending_age w (m + 1) ≡ a = eqb-true _ _ e in omega arith)
    go late false e r = r

pub none_fallen : (w m : ℕ) → 0 < w → fallen_due w m 0 ≡ 0
none_fallen w zero p = refl
none_fallen w (suc m) p =
    let low : sending_age w m < sending_age w (m + 1) = age_grows w m p in
    let no : nat_le (sending_age w (m + 1)) 0 ≡ false = grind (arith, nat_tests) in
    ap (λ b. fallen_due w m 0 + cond b 1 0) no ∙ ap (λ x. x + 0) (none_fallen w m p)

-- in a beat one more falls due, or none
pub one_more_due : (w m a : ℕ) → 0 < w → fallen_due w m (a + 1) ≡ fallen_due w m a + cond (is_some (sending_among w m (a + 1))) 1 0
one_more_due w zero a p = refl
one_more_due w (suc m) a p = go (S == (a + 1)) refl (one_more_due w m a p)
  where
    S : ℕ
    S = sending_age w (m + 1)

    low : sending_age w m < S
    low = age_grows w m p

    go : (b : Bool) → (S == (a + 1)) ≡ b → fallen_due w m (a + 1) ≡ fallen_due w m a + cond (is_some (sending_among w m (a + 1))) 1 0 → fallen_due w m (a + 1) + cond (nat_le S (a + 1)) 1 0 ≡ fallen_due w m a + cond (nat_le S a) 1 0 + cond (is_some (cond b (Some (m + 1)) (sending_among w m (a + 1)))) 1 0
    go true e r =
        let at : S ≡ a + 1 = eqb-true _ _ e in
        let below = low in
        let now : fallen_due w m (a + 1) ≡ m = all_due w m (a + 1) p (omega arith) in
        let before : fallen_due w m a ≡ m = all_due w m a p (omega arith) in
        let reached : nat_le S (a + 1) ≡ true = grind (arith, nat_tests) in
        let unreached : nat_le S a ≡ false = grind (arith, nat_tests) in
        rw (reached, unreached) (omega arith)
    go false e r =
        let apart = eqb-false _ _ e in
        let alike : nat_le S (a + 1) ≡ nat_le S a = same (nat_le S a) refl apart in
        rw alike (omega arith)
      where
        same : (b : Bool) → nat_le S a ≡ b → S ≢ a + 1 → nat_le S (a + 1) ≡ b
        same true h n = grind (arith, nat_tests)
        same false h n = grind (arith, nat_tests)

-- the number of the sending that falls due is how many fell due before, counting the first one
pub due_number : (w m a j : ℕ) → 0 < w → sending_among w m (a + 1) ≡ Some j → fallen_due w m a + 1 ≡ j
due_number w zero a j p k = none_some j k
due_number w (suc m) a j p k = go (S == (a + 1)) refl k (due_number w m a j p)
  where
    S : ℕ
    S = sending_age w (m + 1)

    low : sending_age w m < S
    low = age_grows w m p

    unreached : sending_among w m (a + 1) ≡ Some j → (b : Bool) → nat_le S a ≡ b → b ≡ false
    unreached k true h = let at : S ≤ a = grind (arith, nat_tests) in let below = low in none_some j (sym (none_due w m (a + 1) p (omega arith)) ∙ k)
    unreached k false h = refl

    go : (b : Bool) → (S == (a + 1)) ≡ b → cond b (Some (m + 1)) (sending_among w m (a + 1)) ≡ Some j → (sending_among w m (a + 1) ≡ Some j → fallen_due w m a + 1 ≡ j) → fallen_due w m a + cond (nat_le S a) 1 0 + 1 ≡ j
    go true e k r =
        let at : S ≡ a + 1 = eqb-true _ _ e in
        let below = low in
        let before : fallen_due w m a ≡ m = all_due w m a p (omega arith) in
        let no : nat_le S a ≡ false = grind (arith, nat_tests) in
        let number : m + 1 ≡ j = cc in
        rw no (omega arith)
    go false e k r = let no : nat_le S a ≡ false = unreached k (nat_le S a) refl in let ih : fallen_due w m a + 1 ≡ j = r k in rw no (omega arith)

-- of the sendings up to the one before this number that one is looked at first
pub among_step : (w n a : ℕ) → 1 < n → sending_among w (n - 1) a ≡ cond (sending_age w (n - 1) == a) (Some (n - 1)) (sending_among w (n - 1 - 1) a)
among_step w n a low =
    let k : ℕ = n - 1 - 1 in
    let e : n - 1 ≡ suc k = omega arith in
    let f : k + 1 ≡ n - 1 = omega arith in
    ap (λ m. sending_among w m a) e ∙ ap (λ m. cond (sending_age w m == a) (Some m) (sending_among w k a)) f
