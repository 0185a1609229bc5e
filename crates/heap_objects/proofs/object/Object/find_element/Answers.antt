use Rattle.std.proofs.Common.{◌∙◌, ap, inr, arith}
use Rattle.std.specs.Fmt.{decimal}
use Rattle.std.proofs.lemmas.Result.{IfOk-weaker}
use Rattle.heap_values.specs.Views.{ObjectView}
use Rattle.heap_elements.specs.Properties.{property_at}
use Rattle.heap_objects.specs.Object.{found_property}
use Rattle.heap_objects.proofs.ObjectLemmas.{index_found}
use Rattle.heap_objects.proofs.object.Object.find_element.Goals as goal

pub returns-in-Some : goal.returns-in-Some
returns-in-Some c =
    let own = ap found_property c.in-Some.ensures ∙ ap (λ (o : ObjectView). found_property (property_at o.properties (decimal c.args.index))) c.self.view_is
    ∙ index_found c.args.self.now c.args.index (omega arith) in
    IfOk-weaker c.found_in_property.result _ _ (λ f is. inr (is ∙ own)) c.found_in_property.ensures
