use Rattle.std.proofs.Common.{◌∙◌, sym}
use Rattle.heap_elements.proofs.IndexLemmas.{decimal-array_index}
use Rattle.heap_elements.proofs.elements.Elements.taken_index.Goals as goal

pub returns-then-takes-clause-name : goal.returns-then-takes-clause-name
returns-then-takes-clause-name c = (decimal-array_index c.args.name.now c.in_ok-index.index (sym c.array_index.ensures ∙ c.in_ok-index.was)).0
