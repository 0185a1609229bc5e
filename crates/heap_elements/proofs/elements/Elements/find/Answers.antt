use Rattle.std.proofs.Common.{◌∙◌, sym, ap}
use Rattle.heap_elements.specs.Properties.{property_at}
use Rattle.heap_elements.specs.Elements.{elements_of}
use Rattle.heap_elements.proofs.elements.Elements.find.Goals as goal

pub returns-in-Some : goal.returns-in-Some
returns-in-Some c = c.get.ensures ∙ ap (property_at (elements_of c.args.self.now)) (sym c.in-Some.ensures.name)
