-- A match has as many groups as its pattern.
use Rattle.std.proofs.Common.{◌≡◌, ℕ, zero, suc, ◌+◌, ◌-◌, Bool, true, false, List, [], ◌∷◌, ◌++◌, map, set, length, Option, Some, None, Result, Ok, Err, sym, subst, ◌∙◌}
use Rattle.std.proofs.lemmas.List.{length-set, length-replicate}
use Rattle.std.specs.Prelude.{slice_get, IfOk, IfSome}
use Rattle.js_pattern.specs.declared.span.Span.{Span}
use Rattle.js_pattern.specs.Tree.{Tree, unit, any, class, assertion, reference, row, alternatives, group, repeat, Trees, no_tree, a_tree}
use Rattle.js_pattern.specs.Pattern.{PatternTree}
use Rattle.js_pattern.specs.Place.{Subject, At, units_left, closed, unset_from, unset}
use Rattle.js_pattern.specs.Leaves.{behind_unit, behind_any, behind_class, behind_assertion, behind_reference}
use Rattle.js_pattern.specs.Repeats.{is_none_left, one_less, took_a_unit, choice}
use Rattle.js_pattern.specs.Ways.{one_way, each_then, keep, kept, taking_and_leaving, may_ways, must_ways, ways, row_ways, alternatives_ways}
use Rattle.js_pattern.specs.Search.{Found, start, first_or, first_match, subject_of}
use Rattle.js_regex.specs.declared.answer.FindAnswer.{FindAnswer}
use Rattle.js_regex.specs.declared.search.Match.{Match}
use Rattle.js_regex.specs.Finds.{Finds}

-- each way has so many groups
abbrev AllCount : ℕ → List At → Type 0
AllCount n [] = Unit {0}
AllCount n (w ∷ ws) = (length w.groups ≡ n) × AllCount n ws

unset_count : (n from more : ℕ) (gs : List (Option Span)) → length gs ≡ n → length (unset_from from more gs) ≡ n
unset_count n from zero gs h = h
unset_count n from (suc more) gs h = unset_count n (from + 1) more (set gs from None) (length-set gs from None ∙ h)

module _ (s : Subject) (n : ℕ) where
  abbrev Keeps : (At → List At) → Type 0
  Keeps f = (at : At) → length at.groups ≡ n → AllCount n (f at)

  count_append : (xs ys : List At) → AllCount n xs → AllCount n ys → AllCount n (xs ++ ys)
  count_append [] ys h l = l
  count_append (x ∷ xs) ys h l = (h.0, count_append xs ys (h.1) l)

  count_each : (f : At → List At) (ws : List At) → Keeps f → AllCount n ws → AllCount n (each_then f ws)
  count_each f [] keeps h = tt
  count_each f (w ∷ ws) keeps h = count_append (f w) (each_then f ws) (keeps w (h.0)) (count_each f ws keeps (h.1))

  count_keep : (t : Bool) (w : At) (ws : List At) → length w.groups ≡ n → AllCount n ws → AllCount n (keep t w ws)
  count_keep true w ws h l = (h, l)
  count_keep false w ws h l = l

  count_kept : (from : ℕ) (ws : List At) → AllCount n ws → AllCount n (kept s from ws)
  count_kept from [] h = tt
  count_kept from (w ∷ ws) h = count_keep (took_a_unit s from w) w (kept s from ws) (h.0) (count_kept from ws (h.1))

  closed_count : (k : Option ℕ) (from : ℕ) (w : At) → length w.groups ≡ n → length ((closed k from w).groups) ≡ n
  closed_count None from w h = h
  closed_count (Some k) from w h = length-set w.groups k (Some (record { from = from; to = w.place })) ∙ h

  count_closed : (k : Option ℕ) (from : ℕ) (ws : List At) → AllCount n ws → AllCount n (map (closed k from) ws)
  count_closed k from [] h = tt
  count_closed k from (w ∷ ws) h = (closed_count k from w (h.0), count_closed k from ws (h.1))

  one_count : (o : Option ℕ) (at : At) → length at.groups ≡ n → AllCount n (one_way o at)
  one_count None at h = tt
  one_count (Some p) at h = (h, tt)

  choice_count : (t : Bool) (f g : At → List At) (at : At) → AllCount n (f at) → AllCount n (g at) → AllCount n (choice t f g at)
  choice_count true f g at h l = h
  choice_count false f g at h l = l

  leaving_count : (greedy : Bool) (xs ys : List At) → AllCount n xs → AllCount n ys → AllCount n (taking_and_leaving greedy xs ys)
  leaving_count true xs ys h l = count_append xs ys h l
  leaving_count false xs ys h l = count_append ys xs l h

  may_keeps : (turn : At → List At) (greedy : Bool) (turns : ℕ) (most : Option ℕ) → Keeps turn → Keeps (may_ways s turn greedy turns most)
  may_keeps turn greedy zero most keeps at h = tt
  may_keeps turn greedy (suc turns) most keeps at h =
      choice_count (is_none_left most) (λ at. at ∷ [])
      (λ at. taking_and_leaving greedy (each_then (may_ways s turn greedy turns (one_less most)) (kept s at.place (turn at))) (at ∷ []))
      at (h, tt)
      (leaving_count greedy _ (at ∷ [])
      (count_each (may_ways s turn greedy turns (one_less most)) (kept s at.place (turn at)) (may_keeps turn greedy turns (one_less most) keeps) (count_kept at.place (turn at) (keeps at h)))
      (h, tt))

  must_keeps : (turn : At → List At) (greedy : Bool) (least : ℕ) (most : Option ℕ) → Keeps turn → Keeps (must_ways s turn greedy least most)
  must_keeps turn greedy zero most keeps at h = may_keeps turn greedy (suc (units_left s at.place)) most keeps at h
  must_keeps turn greedy (suc least) most keeps at h =
      choice_count (is_none_left most) (λ at. at ∷ [])
      (λ at. each_then (must_ways s turn greedy least (one_less most)) (turn at))
      at (h, tt)
      (count_each (must_ways s turn greedy least (one_less most)) (turn at) (must_keeps turn greedy least (one_less most) keeps) (keeps at h))

  mutual
    tree_keeps : (x : Tree) → Keeps (ways s x)
    tree_keeps (unit u) at h = one_count (behind_unit s u at.place) at h
    tree_keeps any at h = one_count (behind_any s at.place) at h
    tree_keeps (class c) at h = one_count (behind_class s c at.place) at h
    tree_keeps (assertion a) at h = one_count (behind_assertion s a at.place) at h
    tree_keeps (reference k) at h = one_count (behind_reference s (slice_get at.groups k) at.place) at h
    tree_keeps (row xs) at h = row_keeps xs at h
    tree_keeps (alternatives xs) at h = alternatives_keep xs at h
    tree_keeps (group k x) at h = count_closed k at.place (ways s x at) (tree_keeps x at h)
    tree_keeps (repeat x b) at h =
        must_keeps (λ at. ways s x (unset b at)) b.greedy b.least b.most
        (λ at h. tree_keeps x (unset b at) (unset_count n b.from_group (b.to_group - b.from_group) at.groups h))
        at h

    row_keeps : (xs : Trees) → Keeps (row_ways s xs)
    row_keeps no_tree at h = (h, tt)
    row_keeps (a_tree x xs) at h = count_each (row_ways s xs) (ways s x at) (row_keeps xs) (tree_keeps x at h)

    alternatives_keep : (xs : Trees) → Keeps (alternatives_ways s xs)
    alternatives_keep no_tree at h = tt
    alternatives_keep (a_tree x xs) at h = count_append (ways s x at) (alternatives_ways s xs at) (tree_keeps x at h) (alternatives_keep xs at h)

-- ---- the search

first_count : (count p : ℕ) (ws : List At) (later : Option Found) (f : Found)
    → AllCount count ws → (later ≡ Some f → length ((f.end).groups) ≡ count) → first_or p ws later ≡ Some f → length ((f.end).groups) ≡ count
first_count count p [] later f all more e = more e
first_count count p (w ∷ ws) later f all more e =
    let same : record { from = p; end = w } ≡ f = cc in
    subst (λ (g : Found). length ((g.end).groups) ≡ count) same (all.0)

match_count : (s : Subject) (x : Tree) (count more p : ℕ) (f : Found) → first_match s x count more p ≡ Some f → length ((f.end).groups) ≡ count
match_count s x count zero p f e = cc
match_count s x count (suc more) p f e =
    first_count count p (ways s x (start count p)) (first_match s x count more (p + 1)) f
    (tree_keeps s count x (start count p) (length-replicate count None))
    (match_count s x count more (p + 1) f)
    e

pub finds_groups : (p : PatternTree) (us : List ℕ) (from f : ℕ) (r : Result (Option Match) FindAnswer) (g : ℕ)
    → Finds p us from f r g → IfOk r (λ found. IfSome found (λ m. length m.groups ≡ p.groups))
finds_groups p us from f (Err e) g l = tt
finds_groups p us from f (Ok None) g l = tt
finds_groups p us from f (Ok (Some m)) g l =
    match_count (subject_of p us) p.tree p.groups (suc (length us) - from) from (record { from = m.from; end = record { place = m.to; groups = m.groups } }) (sym (l.0))
