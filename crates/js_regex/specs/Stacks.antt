-- What the stacks of a match stand for, by the definition of a walk: what is still to be matched, and what is tried
-- where it goes back.
use Rattle.std.specs.Prelude.{ℕ, zero, suc, ◌-◌, List, [], ◌∷◌, Option, slice_set}
use Rattle.js_pattern.specs.declared.span.Span.{Span}
use Rattle.js_pattern.specs.Tree.{a_tree, repeat, trees_of}
use Rattle.js_pattern.specs.Place.{Subject}
use Rattle.js_pattern.specs.Repeats.{smaller}
use Rattle.js_pattern.specs.Walk.{Outcome, After, fails, found, or_else, closing, behind_turn, offer, row_walk, alternatives_walk, taking}
use Rattle.js_regex.specs.declared.step.Pending.{Pending}
use Rattle.js_regex.specs.declared.step.Pending.TheVariants as pending
use Rattle.js_regex.specs.declared.step.Undo.{Undo}
use Rattle.js_regex.specs.declared.step.Undo.TheVariants as undo

-- what comes after, by what is pending, the top first
abbrev pub after : Subject → List Pending → After
after s [] at = found at
after s (pending.Terms x xs ∷ ps) at = row_walk s (a_tree x.now (trees_of xs.now)) (after s ps) at
after s (pending.Close n from ∷ ps) at = closing n from (after s ps) at
after s (pending.Turn x b from ∷ ps) at = behind_turn s b.least from (offer s (repeat x.now (smaller b)) (after s ps)) at

-- the note that this was taken from the top of what is pending
abbrev pub noted : Pending → Undo
noted (pending.Terms x xs) = undo.Terms x xs
noted (pending.Close n from) = undo.Close n from
noted (pending.Turn x b from) = undo.Turn x b from

-- what is pending without its top
abbrev pub but_first : List Pending → List Pending
but_first [] = []
but_first (p ∷ ps) = ps

-- what comes after from a place, and where that fails from each of so many places before it, the last first
abbrev pub leaving : After → List (Option Span) → ℕ → ℕ → Outcome
leaving k gs place zero = k (record { place = place; groups = gs })
leaving k gs place (suc more) = or_else (k (record { place = place; groups = gs })) (leaving k gs (place - 1) more)

-- what is tried where the match goes back, with this pending and these groups
abbrev pub back_from : Subject → List Undo → List Pending → List (Option Span) → Outcome
back_from s [] ps gs = fails
back_from s (undo.Pushed ∷ us) ps gs = back_from s us (but_first ps) gs
back_from s (undo.Terms x xs ∷ us) ps gs = back_from s us (pending.Terms x xs ∷ ps) gs
back_from s (undo.Close n from ∷ us) ps gs = back_from s us (pending.Close n from ∷ ps) gs
back_from s (undo.Turn x b from ∷ us) ps gs = back_from s us (pending.Turn x b from ∷ ps) gs
back_from s (undo.Group n old ∷ us) ps gs = back_from s us ps (slice_set gs n old)
back_from s (undo.Alternatives p x xs ∷ us) ps gs =
    or_else (alternatives_walk s (a_tree x.now (trees_of xs.now)) (after s ps) (record { place = p; groups = gs })) (back_from s us ps gs)
back_from s (undo.Leave from last ∷ us) ps gs = or_else (leaving (after s ps) gs last (last - from)) (back_from s us ps gs)
back_from s (undo.Take p x b ∷ us) ps gs = or_else (taking s x.now b (after s ps) (record { place = p; groups = gs })) (back_from s us ps gs)
