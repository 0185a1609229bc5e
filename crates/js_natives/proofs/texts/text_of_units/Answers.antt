use Rattle.js_natives.proofs.texts.text_of_units.Goals as goal

pub returns : goal.returns
returns c = rw (c.in_ok-text.ensures, c.in_ok-units_of.ensures) at c.counted.ensures
