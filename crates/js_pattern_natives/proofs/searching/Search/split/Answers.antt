use Rattle.js_pattern_natives.proofs.States.{on_heap, goes_on, stops_all}
use Rattle.js_pattern_natives.proofs.searching.Search.split.Goals as goal

pub returns-in_err-pieces : goal.returns-in_err-pieces
returns-in_err-pieces c = stops_all _ _ _ _ _ _ c.from_residual.ensures.1 c.in_err-pieces.ensures.finds

pub give_pieces-requires : goal.give_pieces-requires
give_pieces-requires c = rw c.as_slice.ensures c.in_ok-pieces.ensures.within

pub returns : goal.returns
returns c = goes_on _ _ _ _ _ _ _ c.in_ok-pieces.ensures.finds (on_heap _ _ _ (rw c.as_slice.ensures at c.give_pieces.ensures))
