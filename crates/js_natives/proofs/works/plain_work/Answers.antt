use Rattle.js_natives.proofs.works.plain_work.Goals as goal

pub returns-in-ObjectToString : goal.returns-in-ObjectToString
returns-in-ObjectToString c = rw c.in-ObjectToString.is (rw c.in_ok-first.ensures at c.object_text.ensures)

pub returns-in-BooleanToString : goal.returns-in-BooleanToString
returns-in-BooleanToString c = rw c.in-BooleanToString.is (rw c.in_ok-first.ensures at c.give_text_of.ensures)
