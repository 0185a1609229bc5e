-- How a Repeat goes on: what it offers is a turn, its mark and the smaller Repeat, or what comes after.
use Rattle.std.proofs.Common.{◌≡◌, ℕ, zero, suc, ◌-◌, ◌<◌, Bool, true, false, Option, refl, ap, ◌∙◌, arith}
use Rattle.std.proofs.lemmas.Bool.{ltb-true}
use mathlib.Core.Path.{fun_ext}
use Rattle.js_pattern.specs.declared.bounds.Bounds.{Bounds}
use Rattle.js_pattern.specs.Tree.{Tree, repeat}
use Rattle.js_pattern.specs.Place.{Subject, At, units_left, unset}
use Rattle.js_pattern.specs.Repeats.{is_none_left, one_less, took_a_unit, choice}
use Rattle.js_pattern.specs.Walk.{fails, counted, or_else, After, behind_turn, taking_or_leaving, may, must, offer, walk, taking}

pub choice_same : (t : Bool) (f g h : After) (at : At) → (t ≡ true → f at ≡ g at) → choice t f h at ≡ choice t g h at
choice_same true f g h at e = e refl
choice_same false f g h at e = refl

pub choice_other : (t : Bool) (f g h : After) (at : At) → (t ≡ false → f at ≡ g at) → choice t h f at ≡ choice t h g at
choice_other true f g h at e = refl
choice_other false f g h at e = e refl

pub leaving_same : (greedy : Bool) (f g k : After) (at : At) → f at ≡ g at → taking_or_leaving greedy f k at ≡ taking_or_leaving greedy g k at
leaving_same true f g k at e = ap (λ o. or_else o (k at)) e
leaving_same false f g k at e = ap (or_else (k at)) e

-- what comes behind a turn that may be left out is asked only where fewer units are left
pub behind_same : (s : Subject) (from : ℕ) (f g : After)
    → ((at : At) → units_left s at.place < units_left s from → f at ≡ g at) → behind_turn s zero from f ≡ behind_turn s zero from g
behind_same s from f g e = fun_ext (λ at.
    ap counted (choice_same (took_a_unit s from at) (λ at. counted (f at)) (λ at. counted (g at)) (λ _. fails) at
    (λ took. ap counted (e at (ltb-true (units_left s at.place) (units_left s from) took)))))

-- more turns than units are left make no difference
pub may_same : (s : Subject) (turn : After → After) (greedy : Bool) (m n : ℕ) (most : Option ℕ) (k : After) (at : At)
    → units_left s at.place < m → units_left s at.place < n → may s turn greedy m most k at ≡ may s turn greedy n most k at
may_same s turn greedy zero n most k at h l = absurd (omega arith)
may_same s turn greedy (suc m) zero most k at h l = absurd (omega arith)
may_same s turn greedy (suc m) (suc n) most k at h l =
    choice_other (is_none_left most)
    (taking_or_leaving greedy (λ at. turn (behind_turn s zero at.place (may s turn greedy m (one_less most) k)) at) k)
    (taking_or_leaving greedy (λ at. turn (behind_turn s zero at.place (may s turn greedy n (one_less most) k)) at) k)
    k at
    (λ _. leaving_same greedy _ _ k at
    (ap (λ f. turn f at)
    (behind_same s at.place _ _ (λ b fewer. may_same s turn greedy m n (one_less most) k b (omega arith) (omega arith)))))

-- a Repeat that may take no more turns
none_at : (s : Subject) (turn : After → After) (greedy : Bool) (least : ℕ) (most : Option ℕ) (k : After) (at : At)
    → is_none_left most ≡ true → must s turn greedy least most k at ≡ k at
none_at s turn greedy zero most k at e = rw e refl
none_at s turn greedy (suc least) most k at e = rw e refl

pub repeat_none : (s : Subject) (x : Tree) (b : Bounds) (k : After) (at : At)
    → is_none_left b.most ≡ true → offer s (repeat x b) k at ≡ k at
repeat_none s x b k at e = none_at s (λ k at. walk s x k (unset b at)) b.greedy b.least b.most k at e

-- one that must take a turn
must_at : (s : Subject) (turn : After → After) (greedy : Bool) (least : ℕ) (most : Option ℕ) (k : After) (at : At)
    → is_none_left most ≡ false → 0 < least
    → must s turn greedy least most k at ≡ turn (behind_turn s least at.place (must s turn greedy (least - 1) (one_less most) k)) at
must_at s turn greedy zero most k at e h = absurd (omega arith)
must_at s turn greedy (suc least) most k at e h =
    ap (λ t. choice t k (λ at. turn (behind_turn s (suc least) at.place (must s turn greedy least (one_less most) k)) at) at) e
    ∙ ap (λ n. turn (behind_turn s (suc least) at.place (must s turn greedy n (one_less most) k)) at) (let same : least ≡ suc least - 1 = omega arith in same)

pub repeat_must : (s : Subject) (x : Tree) (b : Bounds) (k : After) (at : At)
    → is_none_left b.most ≡ false → 0 < b.least → offer s (repeat x b) k at ≡ taking s x b k at
repeat_must s x b k at e h = must_at s (λ k at. walk s x k (unset b at)) b.greedy b.least b.most k at e h

-- one that may take a turn
may_at : (s : Subject) (turn : After → After) (greedy : Bool) (least : ℕ) (most : Option ℕ) (k : After) (at : At)
    → is_none_left most ≡ false → least ≡ 0
    → must s turn greedy least most k at
    ≡ taking_or_leaving greedy (λ at. turn (behind_turn s least at.place (must s turn greedy (least - 1) (one_less most) k)) at) k at
may_at s turn greedy (suc least) most k at e h = absurd (omega arith)
may_at s turn greedy zero most k at e h =
    ap (λ t. choice t k (taking_or_leaving greedy (λ at'. turn (behind_turn s zero at'.place (may s turn greedy (units_left s at.place) (one_less most) k)) at') k) at) e
    ∙ leaving_same greedy _ _ k at
    (ap (λ f. turn f at)
    (behind_same s at.place _ _ (λ b fewer. may_same s turn greedy (units_left s at.place) (suc (units_left s b.place)) (one_less most) k b fewer (omega arith))))

pub repeat_may : (s : Subject) (x : Tree) (b : Bounds) (k : After) (at : At)
    → is_none_left b.most ≡ false → b.least ≡ 0 → offer s (repeat x b) k at ≡ taking_or_leaving b.greedy (taking s x b k) k at
repeat_may s x b k at e h = may_at s (λ k at. walk s x k (unset b at)) b.greedy b.least b.most k at e h
