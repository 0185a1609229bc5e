use Rattle.js_pattern_natives.proofs.searching.Search.with_both.Goals as goal

pub returns-in-Match : goal.returns-in-Match
returns-in-Match c = rw c.in-Match.is (rw c.begin_in-begin.ensures at c.matches.ensures)
