use Rattle.js_native_calls.proofs.doing.join_done.Goals as goal

pub returns : goal.returns
returns c = rw (c.in_ok-this.ensures, c.in_ok-separator.ensures, c.in_ok-between.ensures) at c.array_text.ensures
