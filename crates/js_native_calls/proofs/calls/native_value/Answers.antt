use Rattle.js_native_calls.proofs.calls.native_value.Goals as goal

pub returns : goal.returns
returns c = rw (c.taken_by-left.ensures, c.len.ensures, c.new-done.ensures, c.in_ok-handed.ensures) at c.values_converted.ensures
