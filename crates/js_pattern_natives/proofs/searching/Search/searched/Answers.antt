use Rattle.js_pattern_natives.proofs.Searches.{seen_stop}
use Rattle.js_pattern_natives.proofs.States.{on_heap, at_once, goes_on, stops_all}
use Rattle.js_pattern_natives.proofs.searching.Search.searched.Goals as goal

pub returns-in_err-moved-clause-finds : goal.returns-in_err-moved-clause-finds
returns-in_err-moved-clause-finds c = goes_on _ _ _ _ _ _ _ (rw (c.place_of-from.ensures, c.is_global.ensures) at c.in_ok-found.ensures.finds)
    (stops_all _ _ _ _ _ _ (seen_stop _ _ c.from_residual-in_err-moved.ensures.1) (on_heap _ _ _ c.in_err-moved.ensures))

pub returns-clause-finds : goal.returns-clause-finds
returns-clause-finds c = goes_on _ _ _ _ _ _ _ (rw (c.place_of-from.ensures, c.is_global.ensures) at c.in_ok-found.ensures.finds)
    (goes_on _ _ _ _ _ _ _ (on_heap _ _ _ c.in_ok-moved.ensures) (at_once _ _))
