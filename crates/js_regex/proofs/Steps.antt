-- The steps of a match, over what its stacks stand for.
use Rattle.std.proofs.Common.{◌≡◌, ℕ, ◌-◌, ◌<◌, Bool, true, false, ⊎_elim, List, [], ◌∷◌, set, Option, Some, ap, sym, ◌∙◌, arith, Bor}
use Rattle.std.specs.Prelude.{slice_get}
use Rattle.js_pattern.specs.declared.span.Span.{Span}
use Rattle.js_pattern.specs.declared.bounds.Bounds.{Bounds}
use Rattle.js_pattern.specs.Tree.{Tree, Trees, a_tree, repeat, trees_of}
use Rattle.js_pattern.specs.Place.{Subject, unset_from}
use Rattle.js_pattern.specs.Repeats.{is_none_left, smaller}
use Rattle.js_pattern.specs.Walk.{After, or_else, closing, behind_turn, taking_or_leaving, offer, row_walk, alternatives_walk, walk, taking}
use Rattle.js_pattern.proofs.Outcomes.{or_else_assoc}
use Rattle.js_pattern.proofs.Turns.{repeat_must, repeat_may}
use Rattle.js_regex.specs.declared.step.Pending.{Pending}
use Rattle.js_regex.specs.declared.step.Pending.TheVariants as pending
use Rattle.js_regex.specs.declared.step.Undo.{Undo}
use Rattle.js_regex.specs.declared.step.Undo.TheVariants as undo
use Rattle.js_regex.specs.declared.state.State.{State}
use Rattle.js_regex.specs.Stacks.{after, back_from, leaving}
use Rattle.js_regex.specs.Moves.{here, back_of, Logs, Pops, Pushes, Saves, Sets}
use Rattle.js_regex.proofs.Lists.{set_back}

-- ---- what is noted

pub group_undone : (s : Subject) (n : ℕ) (v old : Option Span) (us vs : List Undo) (ps : List Pending) (gs : List (Option Span))
    → slice_get gs n ≡ Some old → Logs (undo.Group n old) us vs → back_from s vs ps (set gs n v) ≡ back_from s us ps gs
group_undone s n v old us vs ps gs e h =
    ⊎_elim
    (λ (noted : vs ≡ undo.Group n old ∷ us). ap (λ ws. back_from s ws ps (set gs n v)) noted ∙ ap (back_from s us ps) (set_back gs n v old e))
    (λ (none : (us ≡ []) × (vs ≡ [])). ap (λ ws. back_from s ws ps (set gs n v)) (none.1) ∙ sym (ap (λ ws. back_from s ws ps gs) (none.0)))
    h

pub saves_terms : (x : Bor Tree) (xs : Bor (List Tree)) (all : List Tree) (m n : State)
    → all ≡ x.now ∷ xs.now → Pushes (pending.Terms x xs) m n → Saves (trees_of all) m n
saves_terms x xs all m n e h = record {
  place = h.place;
  groups = h.groups;
  pending = λ s. ap (after s) h.pending ∙ ap (λ ys. row_walk s (trees_of ys) (after s m.pending)) (sym e);
  back = h.back;
}

-- ---- steps from a state that keeps what comes after

pub saved : (s : Subject) (os : Trees) (f : After → After) (m n : State) → Saves os m n
    → or_else (f (after s n.pending) (here n)) (back_of s n) ≡ or_else (f (row_walk s os (after s m.pending)) (here m)) (back_of s m)
saved s os f m n h = λ i. or_else (f (h.pending s i) (record { place = h.place i; groups = h.groups i })) (h.back s i)

pub pushed : (s : Subject) (p : Pending) (f : After → After) (m n : State) → Pushes p m n
    → or_else (f (after s n.pending) (here n)) (back_of s n) ≡ or_else (f (after s (p ∷ m.pending)) (here m)) (back_of s m)
pushed s p f m n h = λ i. or_else (f (after s (h.pending i)) (record { place = h.place i; groups = h.groups i })) (h.back s i)

pub set_off : (s : Subject) (gs : List (Option Span)) (f : After → After) (m n : State) → Sets gs m n
    → or_else (f (after s n.pending) (here n)) (back_of s n) ≡ or_else (f (after s m.pending) (record { place = m.place; groups = gs })) (back_of s m)
set_off s gs f m n h = λ i. or_else (f (after s (h.pending i)) (record { place = h.place i; groups = h.groups i })) (h.back s i)

pub popped : (s : Subject) (p : Pending) (m n : State) → Pops p m n
    → or_else (after s (p ∷ n.pending) (here n)) (back_of s n) ≡ or_else (after s m.pending (here m)) (back_of s m)
popped s p m n h = λ i. or_else (after s (sym h.pending i) (record { place = h.place i; groups = h.groups i })) (h.back s i)

pub group_goes : (s : Subject) (number : Option ℕ) (x : Tree) (os : Trees) (m n p : State)
    → Saves os m n → Pushes (pending.Close number n.place) n p
    → or_else (walk s x (after s p.pending) (here p)) (back_of s p)
    ≡ or_else (walk s x (closing number m.place (row_walk s os (after s m.pending))) (here m)) (back_of s m)
group_goes s number x os m n p a b =
    pushed s (pending.Close number n.place) (walk s x) n p b ∙ saved s os (λ k at. walk s x (closing number at.place k) at) m n a

pub take_goes : (s : Subject) (x : Bor Tree) (b : Bounds) (m n p : State)
    → Sets (unset_from b.from_group (b.to_group - b.from_group) m.groups) m n → Pushes (pending.Turn x b n.place) n p
    → or_else (walk s x.now (after s p.pending) (here p)) (back_of s p)
    ≡ or_else (taking s x.now b (after s m.pending) (here m)) (back_of s m)
take_goes s x b m n p c d =
    pushed s (pending.Turn x b n.place) (walk s x.now) n p d
    ∙ set_off s (unset_from b.from_group (b.to_group - b.from_group) m.groups)
    (λ k at. walk s x.now (behind_turn s b.least at.place (offer s (repeat x.now (smaller b)) k)) at) m n c

pub alternatives_go : (s : Subject) (all : List Tree) (x : Tree) (xs : List Tree) (os : Trees) (m n : State) → all ≡ x ∷ xs → Saves os m n
    → or_else (alternatives_walk s (a_tree x (trees_of xs)) (after s n.pending) (here n)) (back_of s n)
    ≡ or_else (alternatives_walk s (trees_of all) (row_walk s os (after s m.pending)) (here m)) (back_of s m)
alternatives_go s all x xs os m n e h =
    saved s os (alternatives_walk s (a_tree x (trees_of xs))) m n h
    ∙ ap (λ ys. or_else (alternatives_walk s (trees_of ys) (row_walk s os (after s m.pending)) (here m)) (back_of s m)) (sym e)

-- ---- Repeat

pub must_goes : (s : Subject) (x : Tree) (b : Bounds) (m : State) → is_none_left b.most ≡ false → 0 < b.least
    → or_else (taking s x b (after s m.pending) (here m)) (back_of s m) ≡ or_else (offer s (repeat x b) (after s m.pending) (here m)) (back_of s m)
must_goes s x b m e h = ap (λ o. or_else o (back_of s m)) (sym (repeat_must s x b (after s m.pending) (here m) e h))

may_goes : (s : Subject) (x : Tree) (b : Bounds) (m : State) (greedy : Bool) → is_none_left b.most ≡ false → b.least ≡ 0 → b.greedy ≡ greedy
    → or_else (taking_or_leaving greedy (taking s x b (after s m.pending)) (after s m.pending) (here m)) (back_of s m)
    ≡ or_else (offer s (repeat x b) (after s m.pending) (here m)) (back_of s m)
may_goes s x b m greedy e h g =
    ap (λ t. or_else (taking_or_leaving t (taking s x b (after s m.pending)) (after s m.pending) (here m)) (back_of s m)) (sym g)
    ∙ ap (λ o. or_else o (back_of s m)) (sym (repeat_may s x b (after s m.pending) (here m) e h))

pub greedy_goes : (s : Subject) (x : Tree) (b : Bounds) (m : State) (us : List Undo)
    → us ≡ undo.Leave m.place m.place ∷ m.undo → is_none_left b.most ≡ false → b.least ≡ 0 → b.greedy ≡ true
    → or_else (taking s x b (after s m.pending) (here m)) (back_from s us m.pending m.groups)
    ≡ or_else (offer s (repeat x b) (after s m.pending) (here m)) (back_of s m)
greedy_goes s x b m us u e h g =
    let none : m.place - m.place ≡ 0 = omega arith in
    ap (λ ws. or_else (taking s x b (after s m.pending) (here m)) (back_from s ws m.pending m.groups)) u
    ∙ ap (λ n. or_else (taking s x b (after s m.pending) (here m)) (or_else (leaving (after s m.pending) m.groups m.place n) (back_of s m))) none
    ∙ sym (or_else_assoc (taking s x b (after s m.pending) (here m)) (after s m.pending (here m)) (back_of s m))
    ∙ may_goes s x b m true e h g

pub lazy_goes : (s : Subject) (x : Bor Tree) (b : Bounds) (m : State) (us : List Undo)
    → us ≡ undo.Take m.place x b ∷ m.undo → is_none_left b.most ≡ false → b.least ≡ 0 → b.greedy ≡ false
    → or_else (after s m.pending (here m)) (back_from s us m.pending m.groups)
    ≡ or_else (offer s (repeat x.now b) (after s m.pending) (here m)) (back_of s m)
lazy_goes s x b m us u e h g =
    ap (λ ws. or_else (after s m.pending (here m)) (back_from s ws m.pending m.groups)) u
    ∙ sym (or_else_assoc (after s m.pending (here m)) (taking s x.now b (after s m.pending) (here m)) (back_of s m))
    ∙ may_goes s x.now b m false e h g
