use Rattle.js_pattern_natives.proofs.Searches.{told}
use Rattle.js_pattern_natives.proofs.States.{goes_on, stops_all}
use Rattle.js_pattern_natives.proofs.searching.Search.test.Goals as goal

pub returns-in_err-found : goal.returns-in_err-found
returns-in_err-found c = stops_all _ _ _ _ _ _ c.from_residual.ensures.1 c.in_err-found.ensures.finds

pub returns : goal.returns
returns c = goes_on _ _ _ _ _ _ _ c.in_ok-found.ensures.finds (told _ _ _ c.is_some.ensures)
