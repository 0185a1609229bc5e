use Rattle.js_native_calls.proofs.doing.native_done.Goals as goal

pub returns-in-Plain : goal.returns-in-Plain
returns-in-Plain c = rw c.in-Plain.is (rw (c.as_slice.ensures, c.as_slice-given.ensures) at c.plain_done.ensures)

pub returns-in-Pac : goal.returns-in-Pac
returns-in-Pac c = rw c.in-Pac.is c.host_call.ensures

pub returns-in-Pattern : goal.returns-in-Pattern
returns-in-Pattern c = rw c.in-Pattern.is (rw c.as_slice-given.ensures at c.pattern_done.ensures)

pub returns-in-ErrorToString : goal.returns-in-ErrorToString
returns-in-ErrorToString c = rw c.in-ErrorToString.is (rw c.as_slice-in-ErrorToString.ensures at c.error_done.ensures)

pub returns-in-ArrayJoin : goal.returns-in-ArrayJoin
returns-in-ArrayJoin c = rw c.in-ArrayJoin.is (rw (c.as_slice-in-ArrayJoin.ensures, c.as_slice-given.ensures) at c.join_done.ensures)

pub returns : goal.returns
returns c = rw c.in-ArrayToString.is (rw (c.as_slice-in-ArrayToString.ensures, c.as_slice-given.ensures) at c.list_done.ensures)
