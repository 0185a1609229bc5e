-- The cost of a search in the words of lists: what a list of parts and marks that are still to be matched offers.
use Rattle.std.specs.Prelude.{◌≡◌, ℕ, zero, suc, Bool, true, false, List, [], ◌∷◌, ◌++◌, Option, Some, None, slice_get}
use Rattle.js_pattern.specs.declared.bounds.Bounds.{Bounds}
use Rattle.js_pattern.specs.Tree.{Tree, unit, any, class, assertion, reference, row, alternatives, group, repeat, Trees, no_tree, a_tree}
use Rattle.js_pattern.specs.Place.{Subject, At, moved, closed, unset}
use Rattle.js_pattern.specs.Leaves.{behind_unit, behind_any, behind_class, behind_assertion, behind_reference}
use Rattle.js_pattern.specs.Repeats.{is_none_left, smaller, took_a_unit}
use Rattle.js_pattern.specs.Walk.{Outcome, After, fails, found, counted, or_else, closing, marked, walk}

-- what is still to be matched: a part; the mark behind a group, with its number and where it began; the mark behind a
-- turn of a Repeat, with how many turns had to be taken before it and where it began
pub data Item : Type 0 where
  part : Tree → Item
  group_end : Option ℕ → ℕ → Item
  turn_end : ℕ → ℕ → Item

-- a list that an item offers, and from where it is matched
pub record Offer : Type 0 where
  pub items : List Item
  pub from : At

abbrev pub terms : Trees → List Item
terms no_tree = []
terms (a_tree x xs) = part x ∷ terms xs

abbrev pub alternative_offers : Trees → At → List Offer
alternative_offers no_tree at = []
alternative_offers (a_tree x xs) at = record { items = part x ∷ []; from = at } ∷ alternative_offers xs at

-- what is behind the item, from a place
abbrev pub goes_on : At → List Offer
goes_on at = record { items = []; from = at } ∷ []

abbrev pub goes_on_at : Option ℕ → At → List Offer
goes_on_at None at = []
goes_on_at (Some p) at = goes_on (moved p at)

-- the part with its groups unset, a mark that tests for a taken unit, and the smaller Repeat
abbrev pub taking_offer : Tree → Bounds → At → Offer
taking_offer x b at = record { items = part x ∷ turn_end b.least at.place ∷ part (repeat x (smaller b)) ∷ []; from = unset b at }

abbrev pub preferred : Bool → Offer → Offer → List Offer
preferred true taking leaving = taking ∷ leaving ∷ []
preferred false taking leaving = leaving ∷ taking ∷ []

-- a turn may be left out only where none must be taken
abbrev pub turn_offers : ℕ → Tree → Bounds → At → List Offer
turn_offers zero x b at = preferred b.greedy (taking_offer x b at) (record { items = []; from = at })
turn_offers (suc least) x b at = taking_offer x b at ∷ []

abbrev pub offer_choice : Bool → (At → List Offer) → (At → List Offer) → At → List Offer
offer_choice true f g at = f at
offer_choice false f g at = g at

-- the lists that an item offers, in order of preference
abbrev pub offers : Subject → Item → At → List Offer
offers s (part (unit u)) at = goes_on_at (behind_unit s u at.place) at
offers s (part any) at = goes_on_at (behind_any s at.place) at
offers s (part (class c)) at = goes_on_at (behind_class s c at.place) at
offers s (part (assertion a)) at = goes_on_at (behind_assertion s a at.place) at
offers s (part (reference n)) at = goes_on_at (behind_reference s (slice_get at.groups n) at.place) at
offers s (part (row xs)) at = record { items = terms xs; from = at } ∷ []
offers s (part (alternatives xs)) at = alternative_offers xs at
offers s (part (group n x)) at = record { items = part x ∷ group_end n at.place ∷ []; from = at } ∷ []
offers s (part (repeat x b)) at = offer_choice (is_none_left b.most) goes_on (turn_offers b.least x b) at
offers s (group_end n from) at = goes_on (closed n from at)
offers s (turn_end zero from) at = offer_choice (took_a_unit s from at) goes_on (λ _. []) at
offers s (turn_end (suc least) from) at = goes_on at

-- the walk of a list
abbrev pub item_walk : Subject → Item → After → After
item_walk s (part x) k at = walk s x k at
item_walk s (group_end n from) k at = closing n from k at
item_walk s (turn_end least from) k at = counted (marked s least from k at)

abbrev pub list_walk : Subject → List Item → After
list_walk s [] at = found at
list_walk s (i ∷ is) at = item_walk s i (list_walk s is) at

-- the walks of the lists that are offered, each with what is behind the item, up to and with the first that succeeds
abbrev pub first_of_offers : Subject → List Item → List Offer → Outcome
first_of_offers s is [] = fails
first_of_offers s is (o ∷ os) = or_else (list_walk s (o.items ++ is) o.from) (first_of_offers s is os)

-- 0 for the empty list, which succeeds; else 1 for taking up the first item, and the walks of what it offers
abbrev pub WalkByOffers : Type 0
WalkByOffers = (s : Subject) (i : Item) (is : List Item) (at : At) → list_walk s (i ∷ is) at ≡ counted (first_of_offers s is (offers s i at))
