use Rattle.std.proofs.Common.{◌∙◌}
use Rattle.heap_elements.proofs.ElementLemmas.{stands_by}
use Rattle.heap_elements.proofs.elements.Elements.get.Goals as goal

pub returns-in-Some : goal.returns-in-Some
returns-in-Some c =
    let slots = c.self.inside.slots.items in
    c.as_ref.ensures.value
    ∙ stands_by slots c.self.invariant c.args.self.now c.args.index c.in-Some.at c.index.result.now c.self.view_is c.in-Some.ensures.found c.index.ensures
