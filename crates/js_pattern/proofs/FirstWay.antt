-- The end of a walk is the end of what comes after it from the first way from which that has one.
use Rattle.std.proofs.Common.{◌≡◌, ℕ, zero, suc, Bool, true, false, List, [], ◌∷◌, ◌++◌, map, Option, Some, None, refl, sym, ap, ◌∙◌}
use Rattle.js_pattern.specs.Tree.{Tree, unit, any, class, assertion, reference, row, alternatives, group, repeat, Trees, no_tree, a_tree}
use Rattle.js_pattern.specs.Place.{Subject, At, units_left, moved, closed, unset}
use Rattle.js_pattern.specs.Repeats.{is_none_left, one_less, took_a_unit, choice}
use Rattle.js_pattern.specs.Ways.{one_way, each_then, keep, kept, taking_and_leaving, may_ways, must_ways, ways, row_ways, alternatives_ways}
use Rattle.js_pattern.specs.Walk.{Outcome, fails, counted, or_by, or_else, After, forward, closing, behind_turn, taking_or_leaving, may, must, offer, row_walk, alternatives_walk, walk}

-- the end that comes first
abbrev pub or_end : Option At → Option At → Option At
or_end None e = e
or_end (Some at) e = Some at

abbrev pub first_end : After → List At → Option At
first_end k [] = None
first_end k (at ∷ more) = or_end ((k at).end) (first_end k more)

end_by : (n : ℕ) (e : Option At) (o : Outcome) → (or_by n e o).end ≡ or_end e (o.end)
end_by n None o = refl
end_by n (Some at) o = refl

end_or : (a b : Outcome) → (or_else a b).end ≡ or_end (a.end) (b.end)
end_or a b = end_by a.cost a.end b

or_end_assoc : (a b c : Option At) → or_end (or_end a b) c ≡ or_end a (or_end b c)
or_end_assoc None b c = refl
or_end_assoc (Some at) b c = refl

or_end_none : (a : Option At) → or_end a None ≡ a
or_end_none None = refl
or_end_none (Some at) = refl

first_append : (k : After) (xs ys : List At) → first_end k (xs ++ ys) ≡ or_end (first_end k xs) (first_end k ys)
first_append k [] ys = refl
first_append k (x ∷ xs) ys = ap (or_end ((k x).end)) (first_append k xs ys) ∙ sym (or_end_assoc ((k x).end) (first_end k xs) (first_end k ys))

-- a walk and its ways fit
abbrev Fits : (After → After) → (At → List At) → Type 0
Fits walk ways = (k : After) (at : At) → (walk k at).end ≡ first_end k (ways at)

-- what comes after each way
first_each : (k : After) (f : After) (next : At → List At) (xs : List At)
    → ((at : At) → (f at).end ≡ first_end k (next at)) → first_end f xs ≡ first_end k (each_then next xs)
first_each k f next [] e = refl
first_each k f next (x ∷ xs) e =
    ap (λ a. or_end a (first_end f xs)) (e x)
    ∙ ap (or_end (first_end k (next x))) (first_each k f next xs e)
    ∙ sym (first_append k (next x) (each_then next xs))

first_one : (k : After) (o : Option ℕ) (at : At) → (forward o k at).end ≡ first_end k (one_way o at)
first_one k None at = refl
first_one k (Some p) at = sym (or_end_none ((k (moved p at)).end))

first_closed : (k : After) (n : Option ℕ) (from : ℕ) (xs : List At) → first_end (closing n from k) xs ≡ first_end k (map (closed n from) xs)
first_closed k n from [] = refl
first_closed k n from (x ∷ xs) = ap (or_end ((k (closed n from x)).end)) (first_closed k n from xs)

-- ways that took no unit are dropped
keep_same : (t : Bool) (k : After) (at : At) (xs : List At) → or_end ((choice t (λ at. counted (k at)) (λ _. fails) at).end) (first_end k xs) ≡ first_end k (keep t at xs)
keep_same true k at xs = refl
keep_same false k at xs = refl

first_kept : (s : Subject) (from : ℕ) (k : After) (xs : List At) → first_end (behind_turn s zero from k) xs ≡ first_end k (kept s from xs)
first_kept s from k [] = refl
first_kept s from k (x ∷ xs) =
    ap (or_end ((choice (took_a_unit s from x) (λ at. counted (k at)) (λ _. fails) x).end)) (first_kept s from k xs)
    ∙ keep_same (took_a_unit s from x) k x (kept s from xs)

must_kept : (s : Subject) (least from : ℕ) (k : After) (xs : List At) → first_end (behind_turn s (suc least) from k) xs ≡ first_end k xs
must_kept s least from k [] = refl
must_kept s least from k (x ∷ xs) = ap (or_end ((k x).end)) (must_kept s least from k xs)

choice_fits : (t : Bool) (k f : After) (ws vs : At → List At) (at : At) → (k at).end ≡ first_end k (ws at) → (f at).end ≡ first_end k (vs at)
    → (choice t k f at).end ≡ first_end k (choice t ws vs at)
choice_fits true k f ws vs at a b = a
choice_fits false k f ws vs at a b = b

leaving_fits : (greedy : Bool) (k f : After) (taking : List At) (at : At) → (f at).end ≡ first_end k taking
    → (taking_or_leaving greedy f k at).end ≡ first_end k (taking_and_leaving greedy taking (at ∷ []))
leaving_fits true k f taking at e =
    end_or (f at) (k at) ∙ ap (λ a. or_end a ((k at).end)) e ∙ ap (or_end (first_end k taking)) (sym (or_end_none ((k at).end))) ∙ sym (first_append k taking (at ∷ []))
leaving_fits false k f taking at e =
    end_or (k at) (f at) ∙ ap (or_end ((k at).end)) e

may_fits : (s : Subject) (turn : After → After) (step : At → List At) (greedy : Bool) (n : ℕ) (most : Option ℕ)
    → Fits turn step → Fits (may s turn greedy n most) (may_ways s step greedy n most)
may_fits s turn step greedy zero most fit k at = refl
may_fits s turn step greedy (suc n) most fit k at =
    choice_fits (is_none_left most) k
    (taking_or_leaving greedy (λ at. turn (behind_turn s zero at.place (may s turn greedy n (one_less most) k)) at) k)
    (λ at. at ∷ [])
    (λ at. taking_and_leaving greedy (each_then (may_ways s step greedy n (one_less most)) (kept s at.place (step at))) (at ∷ []))
    at
    (sym (or_end_none ((k at).end)))
    (leaving_fits greedy k (λ at. turn (behind_turn s zero at.place (may s turn greedy n (one_less most) k)) at) _ at
    (fit (behind_turn s zero at.place (may s turn greedy n (one_less most) k)) at
    ∙ first_kept s at.place (may s turn greedy n (one_less most) k) (step at)
    ∙ first_each k (may s turn greedy n (one_less most) k) (may_ways s step greedy n (one_less most)) (kept s at.place (step at)) (may_fits s turn step greedy n (one_less most) fit k)))

must_fits : (s : Subject) (turn : After → After) (step : At → List At) (greedy : Bool) (least : ℕ) (most : Option ℕ)
    → Fits turn step → Fits (must s turn greedy least most) (must_ways s step greedy least most)
must_fits s turn step greedy zero most fit k at = may_fits s turn step greedy (suc (units_left s at.place)) most fit k at
must_fits s turn step greedy (suc least) most fit k at =
    choice_fits (is_none_left most) k
    (λ at. turn (behind_turn s (suc least) at.place (must s turn greedy least (one_less most) k)) at)
    (λ at. at ∷ [])
    (λ at. each_then (must_ways s step greedy least (one_less most)) (step at))
    at
    (sym (or_end_none ((k at).end)))
    (fit (behind_turn s (suc least) at.place (must s turn greedy least (one_less most) k)) at
    ∙ must_kept s least at.place (must s turn greedy least (one_less most) k) (step at)
    ∙ first_each k (must s turn greedy least (one_less most) k) (must_ways s step greedy least (one_less most)) (step at) (must_fits s turn step greedy least (one_less most) fit k))

mutual
  pub offer_fits : (s : Subject) (x : Tree) → Fits (offer s x) (ways s x)
  offer_fits s (unit u) k at = first_one k _ at
  offer_fits s any k at = first_one k _ at
  offer_fits s (class c) k at = first_one k _ at
  offer_fits s (assertion e) k at = first_one k _ at
  offer_fits s (reference n) k at = first_one k _ at
  offer_fits s (row xs) k at = row_fits s xs k at
  offer_fits s (alternatives xs) k at = alternatives_fits s xs k at
  offer_fits s (group n x) k at = offer_fits s x (closing n at.place k) at ∙ first_closed k n at.place (ways s x at)
  offer_fits s (repeat x b) k at = must_fits s (λ k at. walk s x k (unset b at)) (λ at. ways s x (unset b at)) b.greedy b.least b.most (λ k at. offer_fits s x k (unset b at)) k at

  pub row_fits : (s : Subject) (xs : Trees) → Fits (row_walk s xs) (row_ways s xs)
  row_fits s no_tree k at = sym (or_end_none ((k at).end))
  row_fits s (a_tree x xs) k at =
      offer_fits s x (row_walk s xs k) at ∙ first_each k (row_walk s xs k) (row_ways s xs) (ways s x at) (row_fits s xs k)

  pub alternatives_fits : (s : Subject) (xs : Trees) → Fits (alternatives_walk s xs) (alternatives_ways s xs)
  alternatives_fits s no_tree k at = refl
  alternatives_fits s (a_tree x xs) k at =
      end_or (walk s x k at) (alternatives_walk s xs k at)
      ∙ ap (λ a. or_end a ((alternatives_walk s xs k at).end)) (offer_fits s x k at)
      ∙ ap (or_end (first_end k (ways s x at))) (alternatives_fits s xs k at)
      ∙ sym (first_append k (ways s x at) (alternatives_ways s xs at))
