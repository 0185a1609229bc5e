-- The ways of a Repeat, by the smaller Repeat; and the end of a walk.
use Rattle.std.proofs.Common.{◌≡◌, ℕ, zero, suc, ◌-◌, ◌<◌, Bool, true, false, List, [], ◌∷◌, ◌++◌, Option, refl, ap, ◌∙◌, arith}
use Rattle.std.proofs.lemmas.Bool.{ltb-true}
use Rattle.js_pattern.specs.Place.{Subject, At, units_left, unset}
use Rattle.js_pattern.specs.Repeats.{is_none_left, one_less, took_a_unit, choice}
use Rattle.js_pattern.specs.Ways.{each_then, keep, kept, taking_and_leaving, may_ways, must_ways, ways}
use Rattle.js_pattern.specs.Walk.{found}
use Rattle.js_pattern.specs.Laws.{first, turn_ways, and_leaving, RepeatByTurns, WalkEndsAtFirstWay}
use Rattle.js_pattern.proofs.FirstWay.{first_end, offer_fits}

first_found : (ws : List At) → first_end found ws ≡ first ws
first_found [] = refl
first_found (w ∷ ws) = refl

pub walk_ends_at_first_way : WalkEndsAtFirstWay
walk_ends_at_first_way s x at = offer_fits s x found at ∙ first_found (ways s x at)

choice_ways : (t : Bool) (f g h : At → List At) (at : At) → (t ≡ false → f at ≡ g at) → choice t h f at ≡ choice t h g at
choice_ways true f g h at e = refl
choice_ways false f g h at e = e refl

keep_each : (t : Bool) (f g : At → List At) (w : At) (ws : List At) → (t ≡ true → f w ≡ g w) → each_then f ws ≡ each_then g ws
    → each_then f (keep t w ws) ≡ each_then g (keep t w ws)
keep_each true f g w ws e h = ap (λ (l : List At). l ++ each_then f ws) (e refl) ∙ ap (λ l. g w ++ l) h
keep_each false f g w ws e h = h

-- what follows a turn that may be left out is asked only where fewer units are left
kept_each : (s : Subject) (from : ℕ) (f g : At → List At) (ws : List At)
    → ((at : At) → units_left s at.place < units_left s from → f at ≡ g at) → each_then f (kept s from ws) ≡ each_then g (kept s from ws)
kept_each s from f g [] e = refl
kept_each s from f g (w ∷ ws) e =
    keep_each (took_a_unit s from w) f g w (kept s from ws)
    (λ took. e w (ltb-true (units_left s w.place) (units_left s from) took))
    (kept_each s from f g ws e)

may_ways_same : (s : Subject) (turn : At → List At) (greedy : Bool) (m n : ℕ) (most : Option ℕ) (at : At)
    → units_left s at.place < m → units_left s at.place < n → may_ways s turn greedy m most at ≡ may_ways s turn greedy n most at
may_ways_same s turn greedy zero n most at h l = absurd (omega arith)
may_ways_same s turn greedy (suc m) zero most at h l = absurd (omega arith)
may_ways_same s turn greedy (suc m) (suc n) most at h l =
    choice_ways (is_none_left most)
    (λ at. taking_and_leaving greedy (each_then (may_ways s turn greedy m (one_less most)) (kept s at.place (turn at))) (at ∷ []))
    (λ at. taking_and_leaving greedy (each_then (may_ways s turn greedy n (one_less most)) (kept s at.place (turn at))) (at ∷ []))
    (λ at. at ∷ []) at
    (λ _. ap (λ (l : List At). taking_and_leaving greedy l (at ∷ []))
    (kept_each s at.place _ _ (turn at) (λ b fewer. may_ways_same s turn greedy m n (one_less most) b (omega arith) (omega arith))))

by_turns : (s : Subject) (turn : At → List At) (greedy : Bool) (least : ℕ) (most : Option ℕ) (at : At)
    → must_ways s turn greedy least most at
    ≡ choice (is_none_left most) (λ at. at ∷ []) (λ at. and_leaving least greedy (each_then (must_ways s turn greedy (least - 1) (one_less most)) (turn_ways least s at.place (turn at))) at) at
by_turns s turn greedy zero most at =
    choice_ways (is_none_left most)
    (λ at'. taking_and_leaving greedy (each_then (may_ways s turn greedy (units_left s at.place) (one_less most)) (kept s at'.place (turn at'))) (at' ∷ []))
    (λ at. taking_and_leaving greedy (each_then (must_ways s turn greedy zero (one_less most)) (kept s at.place (turn at))) (at ∷ []))
    (λ at. at ∷ []) at
    (λ _. ap (λ (l : List At). taking_and_leaving greedy l (at ∷ []))
    (kept_each s at.place _ _ (turn at)
    (λ b fewer. may_ways_same s turn greedy (units_left s at.place) (suc (units_left s b.place)) (one_less most) b fewer (omega arith))))
by_turns s turn greedy (suc least) most at =
    let same : least ≡ suc least - 1 = omega arith in
    ap (λ n. choice (is_none_left most) (λ at. at ∷ []) (λ at. each_then (must_ways s turn greedy n (one_less most)) (turn at)) at) same

pub repeat_by_turns : RepeatByTurns
repeat_by_turns s x b at = by_turns s (λ at. ways s x (unset b at)) b.greedy b.least b.most at
