-- The groups of pieces, one piece after the other.
use Rattle.std.proofs.Common.{◌≡◌, ℕ, ◌+◌, ◌-◌, ◌<◌, ◌≤◌, Bool, true, false, cond, ◌==◌, leb, List, [], ◌∷◌, ◌++◌, length, replicate, Option, Some, None, refl, sym, ◌∙◌, ap, arith, append_assoc, length-append}
use Rattle.std.specs.Option.{option_and_then}
use Rattle.std.specs.List.{slice_split}
use Rattle.std.proofs.lemmas.Bool.{lt-leb, leb-true, leb-false, ne_eqb}
use Rattle.pac_ext.specs.declared.side.Ending.{Ending}
use Rattle.utf16_text.specs.Digits.{value_of}
use Rattle.pac_ext.specs.declared.side.Ending.TheVariants.{GroupOrQuad}
use Rattle.pac_ext.specs.Groups.{is_group, group_in, number_of, address_of}
use Rattle.pac_ext.specs.Reading.{joined, one_in, two_in, last_in, groups_in, side_in, at_most_eight, filled}
use Rattle.pac_ext.proofs.Cuts.{pieces-cons}

abbrev pub pieces : List ℕ → List (List ℕ)
pieces units = slice_split (λ c. c == 58) units

pub joined-nothing : (others : Option (List ℕ)) → joined (Some []) others ≡ others
joined-nothing None = refl
joined-nothing (Some more) = refl

joined-joined : (groups more : List ℕ) (others : Option (List ℕ)) → joined (Some groups) (joined (Some more) others) ≡ joined (Some (groups ++ more)) others
joined-joined groups more None = refl
joined-joined groups more (Some rest) = ap Some (sym (append_assoc groups more rest))

-- before any group a side is its pieces
pub side-begins : (ending : Ending) (units : List ℕ) → 0 < length units → side_in ending units ≡ joined (Some []) (groups_in ending (pieces units))
side-begins ending [] h = absurd (omega arith)
side-begins ending (u ∷ us) h = sym (joined-nothing (groups_in ending (pieces (u ∷ us))))

-- a piece before others is one group
before-others : (ending : Ending) (piece others : List ℕ) → groups_in ending (piece ∷ pieces others) ≡ joined (one_in piece) (groups_in ending (pieces others))
before-others ending piece others = go (pieces others) (pieces-cons (λ c. c == 58) others) where
  go : (ps : List (List ℕ)) → (first : List ℕ) × (rest : List (List ℕ)) × (ps ≡ first ∷ rest) → groups_in ending (piece ∷ ps) ≡ joined (one_in piece) (groups_in ending ps)
  go [] cons = let e = cons.2 in cc
  go (p ∷ ps) cons = refl

-- the first of some pieces, and those behind it
pub next-piece : (ending : Ending) (groups units piece others : List ℕ) → pieces units ≡ piece ∷ pieces others
    → joined (Some groups) (groups_in ending (pieces units)) ≡ joined (Some groups) (joined (one_in piece) (groups_in ending (pieces others)))
next-piece ending groups units piece others split =
    ap (λ ps. joined (Some groups) (groups_in ending ps)) split ∙ ap (joined (Some groups)) (before-others ending piece others)

record AreKept (groups kept : List ℕ) : Type 0 where
  same : kept ≡ groups
  few : length groups ≤ 8

kept-is : (groups kept : List ℕ) → Some kept ≡ at_most_eight (Some groups) → AreKept groups kept
kept-is groups kept h = go (leb (length groups) 8) refl h where
  go : (t : Bool) → leb (length groups) 8 ≡ t → Some kept ≡ cond t (Some groups) None → AreKept groups kept
  go true e h = record { same = cc; few = leb-true (length groups) 8 e }
  go false e h = cc

too-many : (groups : List ℕ) → None ≡ at_most_eight (Some groups) → 8 < length groups
too-many groups h = go (leb (length groups) 8) refl h where
  go : (t : Bool) → leb (length groups) 8 ≡ t → None ≡ cond t (Some groups) None → 8 < length groups
  go true e h = cc
  go false e h = leb-false (length groups) 8 e

none-of-many : (groups : List ℕ) → 8 < length groups → at_most_eight (Some groups) ≡ None
none-of-many groups h = ap (λ t. cond t (Some groups) None) (lt-leb (length groups) 8 h)

-- groups that others were added to stand before the rest
pub grows : (groups more : List ℕ) (added rest : Option (List ℕ)) → Some more ≡ at_most_eight (joined (Some groups) added)
    → joined (Some groups) (joined added rest) ≡ joined (Some more) rest
grows groups more None rest h = cc
grows groups more (Some new) rest h =
    joined-joined groups new rest ∙ ap (λ gs. joined (Some gs) rest) (sym (kept-is (groups ++ new) more h).same)

-- where they can't be added there are none at all
pub ends : (groups : List ℕ) (added rest : Option (List ℕ)) → None ≡ at_most_eight (joined (Some groups) added)
    → at_most_eight (joined (Some groups) (joined added rest)) ≡ None
ends groups None rest h = refl
ends groups (Some new) None h = refl
ends groups (Some new) (Some more) h =
    let long = too-many (groups ++ new) h in
    let longer : 8 < length (groups ++ (new ++ more)) = omega (arith, length-append groups new, length-append groups (new ++ more), length-append new more) in
    none-of-many (groups ++ (new ++ more)) longer

-- two groups one after the other
pub two-more : (groups more : List ℕ) (high low : ℕ) → Some more ≡ at_most_eight (Some (groups ++ (high ∷ [])))
    → at_most_eight (Some (more ++ (low ∷ []))) ≡ at_most_eight (Some (groups ++ (high ∷ low ∷ [])))
two-more groups more high low h =
    ap (λ gs. at_most_eight (Some (gs ++ (low ∷ [])))) (kept-is (groups ++ (high ∷ [])) more h).same
    ∙ ap (λ gs. at_most_eight (Some gs)) (append_assoc groups (high ∷ []) (low ∷ []))

-- a last piece that is no group may be a dotted quad
pub no-group : (piece : List ℕ) → None ≡ group_in piece → last_in GroupOrQuad piece ≡ two_in piece
no-group piece h = go (is_group piece) refl h where
  go : (t : Bool) → is_group piece ≡ t → None ≡ cond t (Some (value_of 16 piece)) None → last_in GroupOrQuad piece ≡ two_in piece
  go true e h = cc
  go false e h = ap (λ t. cond t (one_in piece) (two_in piece)) e

-- the address of groups, of which more than eight were left out
pub full-is : (all : Option (List ℕ)) (groups : List ℕ) → Some groups ≡ at_most_eight all → address_of groups ≡ option_and_then address_of all
full-is None groups h = cc
full-is (Some all) groups h = ap address_of (kept-is all groups h).same

pub full-none : (all : Option (List ℕ)) → None ≡ at_most_eight all → None ≡ option_and_then address_of all
full-none None h = refl
full-none (Some all) h = let many = too-many all h in sym (ap (λ t. cond t (Some (number_of all)) None) (ne_eqb (length all) 8 (λ e. omega arith)))

-- the same of two sides
pub around-is : (first second : Option (List ℕ)) (head tail : List ℕ) → Some head ≡ at_most_eight first → Some tail ≡ at_most_eight second
    → filled (Some head) (Some tail) ≡ filled first second
around-is None second head tail h k = cc
around-is (Some first) None head tail h k = cc
around-is (Some first) (Some second) head tail h k =
    ap (λ gs. filled (Some gs) (Some tail)) (kept-is first head h).same ∙ ap (λ gs. filled (Some first) (Some gs)) (kept-is second tail k).same

-- sides with more groups than an address has leave no room
long : (first second : List ℕ) → 7 < length first + length second → None ≡ filled (Some first) (Some second)
long first second h =
    sym (ap (λ t. cond t (address_of (first ++ replicate (8 - (length first + length second)) 0 ++ second)) None) (lt-leb (length first + length second) 7 h))

pub no-head : (first second : Option (List ℕ)) → None ≡ at_most_eight first → None ≡ filled first second
no-head None second h = refl
no-head (Some first) None h = refl
no-head (Some first) (Some second) h = let many = too-many first h in long first second (omega arith)

pub no-tail : (first second : Option (List ℕ)) → None ≡ at_most_eight second → None ≡ filled first second
no-tail None second h = refl
no-tail (Some first) None h = refl
no-tail (Some first) (Some second) h = let many = too-many second h in long first second (omega arith)
