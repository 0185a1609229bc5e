use Rattle.heap_steps.proofs.properties.own_of.Goals as goal

pub returns-in-Text : goal.returns-in-Text
returns-in-Text c = rw c.in-Text.is c.own_of_text.ensures
