use Rattle.js_native_calls.proofs.Elements.{joined_text, join_refused}
use Rattle.js_native_calls.proofs.joining.give_texts.Goals as goal

pub returns-in-Ok : goal.returns-in-Ok
returns-in-Ok c = rw (joined_text _ _ c.in-Ok.ensures.ok) at c.give_text.ensures

pub returns-in-Err : goal.returns-in-Err
returns-in-Err c = rw c.unjoined.ensures (join_refused _ _ _ _ c.in-Err.ensures.err)
