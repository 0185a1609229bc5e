-- Runs of a match, step by step.
use Rattle.std.proofs.Common.{◌≡◌, ℕ, suc, [], ◌-◌, ◌<◌, refl, ap, sym, ◌∙◌, arith}
use Rattle.js_pattern.specs.Walk.{Outcome, counted, or_else, walk, found}
use Rattle.js_pattern.proofs.Outcomes.{counted_or_else, or_else_fails}
use Rattle.js_pattern.specs.Tree.{Tree}
use Rattle.js_pattern.specs.Place.{Subject}
use Rattle.js_pattern.specs.Search.{start}
use Rattle.js_regex.specs.declared.state.State.{State}
use Rattle.js_regex.specs.Stacks.{after, back_from}
use Rattle.js_regex.specs.Moves.{here}
use Rattle.js_regex.specs.Runs.{IsLater, outcome_from}

pub later_start : (o : Outcome) (f : ℕ) → IsLater o f o f
later_start o f = record { cost = omega arith; end = refl; less = omega arith }

pub later_same : (o p q : Outcome) (f g : ℕ) → IsLater o f p g → q ≡ p → IsLater o f q g
later_same o p q f g h e = let costs : q.cost ≡ p.cost = ap (λ r. r.cost) e in record {
  cost = let c = h.cost in omega arith;
  end = h.end ∙ sym (ap (λ r. r.end) e);
  less = h.less;
}

pub later_taken : (o x u q : Outcome) (f g : ℕ) → 0 < g → IsLater o f (or_else (counted x) u) g → q ≡ or_else x u → IsLater o f q (g - 1)
later_taken o x u q f g some h e =
    let counts : or_else (counted x) u ≡ counted (or_else x u) = counted_or_else x u in
    let costs : q.cost ≡ (or_else x u).cost = ap (λ r. r.cost) e in
    let costs-too : (or_else (counted x) u).cost ≡ suc ((or_else x u).cost) = ap (λ r. r.cost) counts in
    record {
      cost = let c = h.cost in omega arith;
      end = h.end ∙ ap (λ r. r.end) counts ∙ sym (ap (λ r. r.end) e);
      less = let l = h.less in omega arith;
    }

pub later_spent : (o x u : Outcome) (f : ℕ) → IsLater o f (or_else (counted x) u) 0 → f < o.cost
later_spent o x u f h =
    let costs-too : (or_else (counted x) u).cost ≡ suc ((or_else x u).cost) = ap (λ r. r.cost) (counted_or_else x u) in
    let c = h.cost in omega arith

-- a run from the start has nothing behind the pattern, and nothing else to try
pub from_start : (s : Subject) (x : Tree) (count place : ℕ) (m : State) → (m.pending ≡ []) × (m.undo ≡ []) × (here m ≡ start count place)
    → outcome_from s x m ≡ walk s x found (start count place)
from_start s x count place m h =
    (λ i. or_else (walk s x (after s (h.0 i)) (h.2 i)) (back_from s (h.1 i) m.pending m.groups)) ∙ or_else_fails (walk s x found (start count place))
