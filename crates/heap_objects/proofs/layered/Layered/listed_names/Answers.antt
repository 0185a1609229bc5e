use Rattle.std.proofs.Common.{◌∙◌, ◌≡◌, IfOk, List, ℕ, sym, ap, subst}
use Rattle.heap_elements.specs.Properties.{listed_names_of}
use Rattle.heap_objects.proofs.TableLemmas.{listed_names_of-layers}
use Rattle.heap_objects.proofs.layered.Layered.listed_names.Goals as goal

pub returns : goal.returns
returns c =
    let same = sym (listed_names_of-layers c.self.inside.table c.self.inside.own) ∙ ap listed_names_of c.self.view_is in
    subst (λ (listed : List (List ℕ)). IfOk c.listed_names.result (λ names. names ≡ listed)) same c.listed_names.ensures
