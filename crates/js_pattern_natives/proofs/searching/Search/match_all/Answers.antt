use Rattle.std.proofs.Common.{refl}
use Rattle.js_pattern_natives.proofs.States.{forgets_all, on_heap, goes_on, stops_all}
use Rattle.js_pattern_natives.proofs.searching.Search.match_all.Goals as goal

pub returns-in_err-set_last_index : goal.returns-in_err-set_last_index
returns-in_err-set_last_index c = stops_all _ _ _ _ _ _ c.from_residual.ensures.1 (on_heap _ _ _ c.in_err-set_last_index.ensures)

pub returns-in_err-matches : goal.returns-in_err-matches
returns-in_err-matches c = goes_on _ _ _ _ _ _ _ (on_heap _ _ _ c.in_ok-set_last_index.ensures)
    (stops_all _ _ _ _ _ _ c.from_residual-in_err-matches.ensures.1 c.in_err-matches.ensures.finds)

pub returns-in_err-pieces : goal.returns-in_err-pieces
returns-in_err-pieces c = forgets_all _ _ c.from_residual-in_err-pieces.ensures.1 refl

pub give_matches-requires : goal.give_matches-requires
give_matches-requires c = rw c.as_slice.ensures (c.in_ok-pieces.ensures.within _ c.in_ok-matches.ensures.within)

pub returns : goal.returns
returns c = goes_on _ _ _ _ _ _ _ (on_heap _ _ _ c.in_ok-set_last_index.ensures)
    (goes_on _ _ _ _ _ _ _ c.in_ok-matches.ensures.finds (on_heap _ _ _ (rw (c.as_slice.ensures, c.in_ok-pieces.ensures.pieces) at c.give_matches.ensures)))
