use Rattle.std.proofs.Common.{◌∙◌, sym, ap}
use Rattle.heap_elements.specs.Properties.{without_property}
use Rattle.heap_elements.specs.Elements.{elements_of}
use Rattle.heap_elements.proofs.RowLemmas.{without_property-missing}
use Rattle.heap_elements.proofs.elements.Elements.remove_name.Goals as goal

pub returns-in-None : goal.returns-in-None
returns-in-None c = sym (without_property-missing (elements_of c.args.self.now) c.args.name.now c.in-None.ensures.missing)

pub returns-in-Some : goal.returns-in-Some
returns-in-Some c = c.remove.ensures ∙ ap (without_property (elements_of c.args.self.now)) (sym c.in-Some.ensures.name)
