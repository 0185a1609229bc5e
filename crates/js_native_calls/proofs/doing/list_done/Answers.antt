use Rattle.js_native_calls.proofs.doing.list_done.Goals as goal

pub returns : goal.returns
returns c = rw (c.in_ok-this.ensures, c.in_ok-comma.ensures) at c.array_text.ensures
