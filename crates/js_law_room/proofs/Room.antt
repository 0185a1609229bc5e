-- More room for nesting, and room enough: the two runs of the induction, of which the other may have more room.
use Rattle.std.proofs.Common.{◌≡◌, ◌<◌, ◌+◌, ◌*◌, ℕ, List, [], ◌∷◌, length, false, refl, subst, arith}
use Rattle.std.specs.Prelude.{map}
use Rattle.js_tree.specs.declared.token.Token.{Token}
use Rattle.js_tree.specs.Tree.{StatementTree}
use Rattle.js_grammar.specs.Statements.{script_within}
use Rattle.js_law_room.specs.Laws.{is_too_deep, MoreRoomChangesNothing, NoLimitIsMet}
use Rattle.js_law_induction.proofs.Alike.{stays, beside, Read, Alike, gave, stops, too_deep, deeper_than}
use Rattle.js_law_induction.proofs.Words.{all_stay}
use Rattle.js_law_induction.proofs.Moves.{not_moved, unmoved}
use Rattle.js_law_induction.proofs.Derivations.{anything, any_rules}
use Rattle.js_law_induction.proofs.Scripts.{script_keeps, script_keeps_in, ended}

-- ---- more room changes nothing

ended_same : {s n : ℕ} {P : List StatementTree → List Token → Type 0} {x y : Read (List StatementTree)} → Alike (beside (Unit {0})) (map stays) s n P x y → is_too_deep (ended x) ≡ false → ended y ≡ ended x
ended_same (gave body rest less is) e = rw (all_stay body, not_moved rest) refl
ended_same (stops kind place not) e = refl
ended_same (too_deep lacks place) e = cc
ended_same (deeper_than roomy lacks place other) e = cc

pub more_room : MoreRoomChangesNothing
unfolding script_within unmoved
more_room end room more ts less =
    subst (λ us. is_too_deep (script_within end room ts) ≡ false → script_within end more us ≡ script_within end room ts) (not_moved ts)
    (ended_same (script_keeps (beside (Unit {0})) unmoved anything any_rules end room more less (λ fewer. tt) ts))

-- ---- reading without a limit has room enough

ended_fits : (s n : ℕ) {P : List StatementTree → List Token → Type 0} {x y : Read (List StatementTree)} → 2 * n + 1 < s → Alike (beside ⊥) (map stays) s n P x y → is_too_deep (ended x) ≡ false
ended_fits s n more (gave body [] less is) = refl
ended_fits s n more (gave body (t ∷ ts) less is) = refl
ended_fits s n more (stops kind place not) = not
ended_fits s n more (too_deep lacks place) = absurd (omega (arith, lacks, more))
ended_fits s n more (deeper_than never lacks place other) = absurd never

pub no_limit : NoLimitIsMet
unfolding script_within unmoved
no_limit end ts =
    let room : ℕ = 2 * length ts + 2 in
    ended_fits room (length ts) (omega arith) (script_keeps_in (beside ⊥) unmoved anything any_rules end room ts)
