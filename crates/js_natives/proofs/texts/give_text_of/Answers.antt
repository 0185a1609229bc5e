use Rattle.js_natives.proofs.texts.give_text_of.Goals as goal

pub returns : goal.returns
returns c = rw c.in_ok-text.ensures at c.counted.ensures
