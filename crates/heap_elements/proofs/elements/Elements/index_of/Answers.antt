use Rattle.std.proofs.Common.{◌≡◌, IfNone, None, subst}
use Rattle.heap_elements.specs.Properties.{property_at}
use Rattle.heap_elements.specs.Elements.{Slots, elements_of}
use Rattle.heap_elements.proofs.ElementLemmas.{named}
use Rattle.heap_elements.proofs.elements.Elements.index_of.Goals as goal

pub returns-clause-name : goal.returns-clause-name
returns-clause-name c = (named c.self.inside.slots.items c.self.invariant c.args.name.now c.array_index.result c.array_index.ensures).0

pub returns-clause-missing : goal.returns-clause-missing
returns-clause-missing c =
    subst (λ (slots : Slots). IfNone c.array_index.result (property_at (elements_of slots) c.args.name.now ≡ None)) c.self.view_is
    (named c.self.inside.slots.items c.self.invariant c.args.name.now c.array_index.result c.array_index.ensures).1
