-- The walk of a list is that of what its first item offers.
use Rattle.std.proofs.Common.{◌≡◌, ℕ, zero, suc, Bool, true, false, List, [], ◌++◌, Option, Some, None, refl, sym, ap, ◌∙◌, arith}
use mathlib.Core.Path.{fun_ext}
use Rattle.js_pattern.specs.declared.bounds.Bounds.{Bounds}
use Rattle.js_pattern.specs.Tree.{Tree, unit, any, class, assertion, reference, row, alternatives, group, repeat, Trees, no_tree, a_tree}
use Rattle.js_pattern.specs.Place.{Subject, At, moved, closed}
use Rattle.js_pattern.specs.Repeats.{is_none_left, took_a_unit, choice}
use Rattle.js_pattern.specs.Walk.{Outcome, fails, counted, or_else, closing, forward, taking_or_leaving, offer, row_walk, alternatives_walk, walk, taking}
use Rattle.js_pattern.specs.Offers.{Item, part, group_end, turn_end, terms, alternative_offers, goes_on, goes_on_at, turn_offers, offer_choice, list_walk, first_of_offers, WalkByOffers}
use Rattle.js_pattern.proofs.Outcomes.{or_else_fails}
use Rattle.js_pattern.proofs.Turns.{repeat_none, repeat_must, repeat_may}

terms_walk : (s : Subject) (xs : Trees) (is : List Item) (at : At) → list_walk s (terms xs ++ is) at ≡ row_walk s xs (list_walk s is) at
terms_walk s no_tree is at = refl
terms_walk s (a_tree x xs) is at = ap (λ k. walk s x k at) (fun_ext (terms_walk s xs is))

alternatives_offers : (s : Subject) (xs : Trees) (is : List Item) (at : At) → alternatives_walk s xs (list_walk s is) at ≡ first_of_offers s is (alternative_offers xs at)
alternatives_offers s no_tree is at = refl
alternatives_offers s (a_tree x xs) is at = ap (or_else (walk s x (list_walk s is) at)) (alternatives_offers s xs is at)

forward_offers : (s : Subject) (o : Option ℕ) (is : List Item) (at : At) → forward o (list_walk s is) at ≡ first_of_offers s is (goes_on_at o at)
forward_offers s None is at = refl
forward_offers s (Some p) is at = sym (or_else_fails (list_walk s is (moved p at)))

one_offer : (o : Outcome) → o ≡ or_else o fails
one_offer o = sym (or_else_fails o)

module _ (s : Subject) (x : Tree) (b : Bounds) (is : List Item) (at : At) where
  may_offers : (greedy : Bool) → b.greedy ≡ greedy → (least : ℕ) → b.least ≡ least → least ≡ 0 → is_none_left b.most ≡ false
      → offer s (repeat x b) (list_walk s is) at ≡ first_of_offers s is (turn_offers least x b at)
  may_offers greedy g (suc least) l z e = absurd (omega arith)
  may_offers true g zero l z e =
      repeat_may s x b (list_walk s is) at e l
      ∙ ap (λ t. taking_or_leaving t (taking s x b (list_walk s is)) (list_walk s is) at) g
      ∙ ap (or_else (taking s x b (list_walk s is) at)) (one_offer (list_walk s is at))
      ∙ (let same : first_of_offers s is (turn_offers zero x b at) ≡ or_else (taking s x b (list_walk s is) at) (or_else (list_walk s is at) fails) = rw g refl in sym same)
  may_offers false g zero l z e =
      repeat_may s x b (list_walk s is) at e l
      ∙ ap (λ t. taking_or_leaving t (taking s x b (list_walk s is)) (list_walk s is) at) g
      ∙ ap (or_else (list_walk s is at)) (one_offer (taking s x b (list_walk s is) at))
      ∙ (let same : first_of_offers s is (turn_offers zero x b at) ≡ or_else (list_walk s is at) (or_else (taking s x b (list_walk s is) at) fails) = rw g refl in sym same)

  turns_offers : (least : ℕ) → b.least ≡ least → is_none_left b.most ≡ false
      → offer s (repeat x b) (list_walk s is) at ≡ first_of_offers s is (turn_offers least x b at)
  turns_offers zero l e = may_offers b.greedy refl zero l refl e
  turns_offers (suc least) l e =
      repeat_must s x b (list_walk s is) at e (omega arith) ∙ one_offer (taking s x b (list_walk s is) at)

  repeat_offers : (none : Bool) → is_none_left b.most ≡ none
      → offer s (repeat x b) (list_walk s is) at ≡ first_of_offers s is (offer_choice none goes_on (turn_offers b.least x b) at)
  repeat_offers true e = repeat_none s x b (list_walk s is) at e ∙ one_offer (list_walk s is at)
  repeat_offers false e = turns_offers b.least refl e

mark_offers : (s : Subject) (took : Bool) (is : List Item) (at : At)
    → choice took (list_walk s is) (λ _. fails) at ≡ first_of_offers s is (offer_choice took goes_on (λ _. []) at)
mark_offers s true is at = one_offer (list_walk s is at)
mark_offers s false is at = refl

pub walk_by_offers : WalkByOffers
walk_by_offers s (part (unit u)) is at = ap counted (forward_offers s _ is at)
walk_by_offers s (part any) is at = ap counted (forward_offers s _ is at)
walk_by_offers s (part (class c)) is at = ap counted (forward_offers s _ is at)
walk_by_offers s (part (assertion e)) is at = ap counted (forward_offers s _ is at)
walk_by_offers s (part (reference n)) is at = ap counted (forward_offers s _ is at)
walk_by_offers s (part (row xs)) is at = ap counted (sym (terms_walk s xs is at) ∙ one_offer (list_walk s (terms xs ++ is) at))
walk_by_offers s (part (alternatives xs)) is at = ap counted (alternatives_offers s xs is at)
walk_by_offers s (part (group n x)) is at = ap counted (one_offer (walk s x (closing n at.place (list_walk s is)) at))
walk_by_offers s (part (repeat x b)) is at = ap counted (repeat_offers s x b is at (is_none_left b.most) refl)
walk_by_offers s (group_end n from) is at = ap counted (one_offer (list_walk s is (closed n from at)))
walk_by_offers s (turn_end zero from) is at = ap counted (mark_offers s (took_a_unit s from at) is at)
walk_by_offers s (turn_end (suc least) from) is at = ap counted (one_offer (list_walk s is at))
