use Rattle.std.proofs.Common.{◌∙◌, sym, ap}
use Rattle.std.proofs.lemmas.Option.{IfSome_then}
use Rattle.std.specs.Fmt.{decimal}
use Rattle.heap_elements.specs.Properties.{property_at}
use Rattle.heap_objects.specs.Layers.{left_of}
use Rattle.heap_objects.proofs.LayerLemmas.{property_at-second}
use Rattle.heap_objects.proofs.layered.Layered.element.Goals as goal

pub returns : goal.returns
returns c = IfSome_then c.element.result c.element.ensures (λ property is.
    sym (property_at-second (left_of c.self.inside.table) c.self.inside.own (decimal c.args.index) property.now c.self.invariant.1 (sym is))
    ∙ ap (λ ps. property_at ps (decimal c.args.index)) c.self.view_is)
