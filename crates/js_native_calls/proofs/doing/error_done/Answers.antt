use Rattle.js_native_calls.proofs.doing.error_done.Goals as goal

pub returns : goal.returns
returns c = rw c.in_ok-this.ensures at c.error_text.ensures
