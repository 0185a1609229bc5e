use Rattle.js_pattern_natives.proofs.States.{on_heap, goes_on, stops_all}
use Rattle.js_pattern_natives.proofs.searching.Search.replace.Goals as goal

pub returns-in_err-reset : goal.returns-in_err-reset
returns-in_err-reset c = goes_on _ _ _ _ _ _ _ c.in_ok-matches.ensures.finds
    (stops_all _ _ _ _ _ _ c.from_residual-in_err-reset.ensures.1 (on_heap _ _ _ (rw c.as_slice.ensures at c.in_err-reset.ensures)))

pub returns : goal.returns
returns c = goes_on _ _ _ _ _ _ _ c.in_ok-matches.ensures.finds
    (goes_on _ _ _ _ _ _ _ (on_heap _ _ _ (rw c.as_slice.ensures at c.in_ok-reset.ensures)) (on_heap _ _ _ (rw c.in_ok-made.ensures at c.give_replaced.ensures)))
