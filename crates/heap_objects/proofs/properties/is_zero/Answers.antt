use Rattle.std.proofs.Common.{◌∙◌, sym, ap}
use Rattle.std.specs.Fmt.{decimal}
use Rattle.std.proofs.lemmas.Bool.{eqb-true}
use Rattle.heap_elements.proofs.IndexLemmas.{decimal-array_index}
use Rattle.heap_objects.proofs.properties.is_zero.Goals as goal

pub returns-in-Some : goal.returns-in-Some
returns-in-Some c = λ zero.
    (decimal-array_index c.args.name.now c.in-Some.index (sym c.array_index.ensures ∙ c.in-Some.is)).0 ∙ ap decimal (eqb-true c.in-Some.index 0 zero)
