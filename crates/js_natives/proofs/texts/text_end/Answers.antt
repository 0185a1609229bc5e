use Rattle.js_natives.proofs.texts.text_end.Goals as goal

pub returns-in-Texts : goal.returns-in-Texts
returns-in-Texts c = rw c.in-Texts.is (rw c.as_slice.ensures at c.give_texts.ensures)
