use Rattle.js_native_calls.proofs.joining.element_converted.Goals as goal

pub returns : goal.returns
returns c = rw (c.in_ok-push.ensures.ok, c.in_ok-text.ensures) at c.joined_from.ensures
