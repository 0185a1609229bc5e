-- Ways stay within the text.
use Rattle.std.proofs.Common.{◌≡◌, ℕ, zero, suc, ◌+◌, ◌-◌, ◌<◌, ◌≤◌, Bool, true, false, List, [], ◌∷◌, ◌++◌, map, set, length, take, drop, replicate, Option, Some, None, refl, arith, length-drop}
use Rattle.std.specs.Prelude.{slice_get, ◌&&◌}
use Rattle.js_pattern.specs.declared.span.Span.{Span}
use Rattle.js_pattern.specs.declared.bounds.Bounds.{Bounds}
use Rattle.js_pattern.specs.Tree.{Tree, unit, any, class, assertion, reference, row, alternatives, group, repeat, Trees, no_tree, a_tree}
use Rattle.js_pattern.specs.Place.{Subject, At, units_left, closed, unset_from, unset}
use Rattle.js_pattern.specs.Leaves.{place_if, behind_one, same_unit, begins, behind_text, behind_reference}
use Rattle.js_pattern.specs.Repeats.{is_none_left, one_less, took_a_unit, choice}
use Rattle.js_pattern.specs.Ways.{one_way, each_then, keep, kept, taking_and_leaving, may_ways, must_ways, ways, row_ways, alternatives_ways}
use Rattle.js_pattern.specs.Within.{SpanWithin, SpansWithin, Inside, Onward, AllOnward, WaysStayWithin}

-- ---- groups

set_within : (end : ℕ) (gs : List (Option Span)) (n : ℕ) (g : Option Span) → SpansWithin end gs → SpanWithin end g → SpansWithin end (set gs n g)
set_within end [] n g h l = tt
set_within end (x ∷ xs) zero g h l = (l, h.1)
set_within end (x ∷ xs) (suc n) g h l = (h.0, set_within end xs n g (h.1) l)

unset_within : (end n more : ℕ) (gs : List (Option Span)) → SpansWithin end gs → SpansWithin end (unset_from n more gs)
unset_within end n zero gs h = h
unset_within end n (suc more) gs h = unset_within end (n + 1) more (set gs n None) (set_within end gs n None h tt)

pub none_within : (end count : ℕ) → SpansWithin end (replicate count None)
none_within end zero = tt
none_within end (suc count) = (tt, none_within end count)

module _ (s : Subject) where
  inside_unset : (b : Bounds) (at : At) → Inside s at → Inside s (unset b at)
  inside_unset b at h = record { place = h.place; groups = unset_within (length s.text) b.from_group (b.to_group - b.from_group) at.groups h.groups }

  -- ---- ways

  abbrev Keeps : (At → List At) → Type 0
  Keeps f = (at : At) → Inside s at → AllOnward s at (f at)

  onward_append : (at : At) (xs ys : List At) → AllOnward s at xs → AllOnward s at ys → AllOnward s at (xs ++ ys)
  onward_append at [] ys h l = l
  onward_append at (x ∷ xs) ys h l = (h.0, onward_append at xs ys (h.1) l)

  onward_from : (at b : At) (ws : List At) → at.place ≤ b.place → AllOnward s b ws → AllOnward s at ws
  onward_from at b [] le h = tt
  onward_from at b (w ∷ ws) le h = (record { from = (let f = (h.0).from in omega arith); inside = (h.0).inside }, onward_from at b ws le (h.1))

  onward_each : (f : At → List At) (at : At) (ws : List At) → Keeps f → AllOnward s at ws → AllOnward s at (each_then f ws)
  onward_each f at [] keeps h = tt
  onward_each f at (w ∷ ws) keeps h =
      onward_append at (f w) (each_then f ws)
      (onward_from at w (f w) ((h.0).from) (keeps w ((h.0).inside)))
      (onward_each f at ws keeps (h.1))

  onward_keep : (t : Bool) (at w : At) (ws : List At) → Onward s at w → AllOnward s at ws → AllOnward s at (keep t w ws)
  onward_keep true at w ws h l = (h, l)
  onward_keep false at w ws h l = l

  onward_kept : (from : ℕ) (at : At) (ws : List At) → AllOnward s at ws → AllOnward s at (kept s from ws)
  onward_kept from at [] h = tt
  onward_kept from at (w ∷ ws) h = onward_keep (took_a_unit s from w) at w (kept s from ws) (h.0) (onward_kept from at ws (h.1))

  closed_onward : (n : Option ℕ) (at w : At) → Onward s at w → Onward s at (closed n at.place w)
  closed_onward None at w h = h
  closed_onward (Some n) at w h = record {
    from = h.from;
    inside = record {
      place = (h.inside).place;
      groups = set_within (length s.text) w.groups n (Some (record { from = at.place; to = w.place })) ((h.inside).groups) (h.from, (h.inside).place);
    };
  }

  onward_closed : (n : Option ℕ) (at : At) (ws : List At) → AllOnward s at ws → AllOnward s at (map (closed n at.place) ws)
  onward_closed n at [] h = tt
  onward_closed n at (w ∷ ws) h = (closed_onward n at w (h.0), onward_closed n at ws (h.1))

  here : (at : At) → Inside s at → AllOnward s at (at ∷ [])
  here at h = (record { from = omega arith; inside = h }, tt)

  -- ---- parts that have no parts

  moved_onward : (at : At) (p : ℕ) → Inside s at → at.place ≤ p → p ≤ length s.text → AllOnward s at (one_way (Some p) at)
  moved_onward at p h from to = (record { from = from; inside = record { place = to; groups = h.groups } }, tt)

  within_text : (us : List ℕ) (p v : ℕ) → slice_get us p ≡ Some v → p < length us
  within_text [] p v e = cc
  within_text (u ∷ us) zero v e = omega arith
  within_text (u ∷ us) (suc p) v e = let below = within_text us p v e in omega arith

  unit_onward : (test : ℕ → Bool) (at : At) (o : Option ℕ) → slice_get s.text at.place ≡ o → Inside s at → AllOnward s at (one_way (behind_one test at.place o) at)
  unit_onward test at None e h = tt
  unit_onward test at (Some v) e h = by (test v)
    where
      by : (t : Bool) → AllOnward s at (one_way (place_if t (at.place + 1)) at)
      by true = let below = within_text s.text at.place v e in moved_onward at (at.place + 1) h (omega arith) (omega arith)
      by false = tt

  assertion_onward : (t : Bool) (at : At) → Inside s at → AllOnward s at (one_way (place_if t at.place) at)
  assertion_onward true at h = let p = h.place in moved_onward at at.place h (omega arith) (omega arith)
  assertion_onward false at h = tt

  both_begin : (t c : Bool) (u v : ℕ) (us vs : List ℕ) → (c ≡ true → length us ≤ length vs) → (t && c) ≡ true → length (u ∷ us) ≤ length (v ∷ vs)
  both_begin true c u v us vs h e = let shorter = h e in omega arith
  both_begin false c u v us vs h e = cc

  begins_within : (ignore : Bool) (us vs : List ℕ) → begins ignore us vs ≡ true → length us ≤ length vs
  begins_within ignore [] vs e = omega arith
  begins_within ignore (u ∷ us) [] e = cc
  begins_within ignore (u ∷ us) (v ∷ vs) e = both_begin (same_unit ignore u v) (begins ignore us vs) u v us vs (begins_within ignore us vs) e

  text_onward : (us : List ℕ) (at : At) → Inside s at → AllOnward s at (one_way (behind_text s us at.place) at)
  text_onward us at h = by (begins s.flags.ignore_case us (drop at.place s.text)) refl
    where
      by : (t : Bool) → begins s.flags.ignore_case us (drop at.place s.text) ≡ t → AllOnward s at (one_way (place_if t (at.place + length us)) at)
      by false e = tt
      by true e =
          let fits = begins_within s.flags.ignore_case us (drop at.place s.text) e in
          let left = length-drop at.place s.text in
          let p = h.place in
          moved_onward at (at.place + length us) h (omega arith) (omega arith)

  reference_onward : (o : Option (Option Span)) (at : At) → Inside s at → AllOnward s at (one_way (behind_reference s o at.place) at)
  reference_onward None at h = let p = h.place in moved_onward at at.place h (omega arith) (omega arith)
  reference_onward (Some None) at h = let p = h.place in moved_onward at at.place h (omega arith) (omega arith)
  reference_onward (Some (Some g)) at h = text_onward (take (g.to - g.from) (drop g.from s.text)) at h

  -- ---- Repeat

  choice_onward : (t : Bool) (f g : At → List At) (at : At) → AllOnward s at (f at) → AllOnward s at (g at) → AllOnward s at (choice t f g at)
  choice_onward true f g at h l = h
  choice_onward false f g at h l = l

  leaving_onward : (greedy : Bool) (at : At) (xs ys : List At) → AllOnward s at xs → AllOnward s at ys → AllOnward s at (taking_and_leaving greedy xs ys)
  leaving_onward true at xs ys h l = onward_append at xs ys h l
  leaving_onward false at xs ys h l = onward_append at ys xs l h

  may_keeps : (turn : At → List At) (greedy : Bool) (n : ℕ) (most : Option ℕ) → Keeps turn → Keeps (may_ways s turn greedy n most)
  may_keeps turn greedy zero most keeps at h = tt
  may_keeps turn greedy (suc n) most keeps at h =
      choice_onward (is_none_left most) (λ at. at ∷ [])
      (λ at. taking_and_leaving greedy (each_then (may_ways s turn greedy n (one_less most)) (kept s at.place (turn at))) (at ∷ []))
      at (here at h)
      (leaving_onward greedy at _ (at ∷ [])
      (onward_each (may_ways s turn greedy n (one_less most)) at (kept s at.place (turn at)) (may_keeps turn greedy n (one_less most) keeps) (onward_kept at.place at (turn at) (keeps at h)))
      (here at h))

  must_keeps : (turn : At → List At) (greedy : Bool) (least : ℕ) (most : Option ℕ) → Keeps turn → Keeps (must_ways s turn greedy least most)
  must_keeps turn greedy zero most keeps at h = may_keeps turn greedy (suc (units_left s at.place)) most keeps at h
  must_keeps turn greedy (suc least) most keeps at h =
      choice_onward (is_none_left most) (λ at. at ∷ [])
      (λ at. each_then (must_ways s turn greedy least (one_less most)) (turn at))
      at (here at h)
      (onward_each (must_ways s turn greedy least (one_less most)) at (turn at) (must_keeps turn greedy least (one_less most) keeps) (keeps at h))

  mutual
    tree_keeps : (x : Tree) → Keeps (ways s x)
    tree_keeps (unit u) at h = unit_onward _ at (slice_get s.text at.place) refl h
    tree_keeps any at h = unit_onward _ at (slice_get s.text at.place) refl h
    tree_keeps (class c) at h = unit_onward _ at (slice_get s.text at.place) refl h
    tree_keeps (assertion e) at h = assertion_onward _ at h
    tree_keeps (reference n) at h = reference_onward (slice_get at.groups n) at h
    tree_keeps (row xs) at h = row_keeps xs at h
    tree_keeps (alternatives xs) at h = alternatives_keep xs at h
    tree_keeps (group n x) at h = onward_closed n at (ways s x at) (tree_keeps x at h)
    tree_keeps (repeat x b) at h = must_keeps (λ at. ways s x (unset b at)) b.greedy b.least b.most (λ at h. onward_from at (unset b at) (ways s x (unset b at)) (omega arith) (tree_keeps x (unset b at) (inside_unset b at h))) at h

    row_keeps : (xs : Trees) → Keeps (row_ways s xs)
    row_keeps no_tree at h = here at h
    row_keeps (a_tree x xs) at h = onward_each (row_ways s xs) at (ways s x at) (row_keeps xs) (tree_keeps x at h)

    alternatives_keep : (xs : Trees) → Keeps (alternatives_ways s xs)
    alternatives_keep no_tree at h = tt
    alternatives_keep (a_tree x xs) at h = onward_append at (ways s x at) (alternatives_ways s xs at) (tree_keeps x at h) (alternatives_keep xs at h)

pub ways_stay_within : WaysStayWithin
ways_stay_within s x at h = tree_keeps s x at h
