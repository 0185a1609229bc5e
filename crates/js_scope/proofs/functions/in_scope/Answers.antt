use Rattle.std.proofs.Common.{◌≡◌, refl, ◌∙◌, ap}
use Rattle.js_tree.specs.Tree.{statements_of}
use Rattle.js_tree.specs.View.{function_of}
use Rattle.js_binding.specs.Names.{names_of}
use Rattle.scope_names.specs.Around.{scopes_of}
use Rattle.js_scope.proofs.Numbering.{place_is_there, function_made}
use Rattle.js_scope.proofs.functions.in_scope.Goals as goal

pub set-requires : goal.set-requires
set-requires g c =
    let tabled : c.in_ok-table.table ≡ names_of c.args.parameters (statements_of c.args.body) =
    c.in_ok-table.ensures ∙ ap (λ xs. names_of xs (statements_of c.as_slice-2.result.now)) c.as_slice.ensures ∙ ap (λ ss. names_of c.args.parameters (statements_of ss)) c.as_slice-2.ensures in
    place_is_there (scopes_of c.args.around.now) c.args.parameters c.args.body c.resolve.new.self c.in_ok-table.table (function_of c.hollow.result) c.args.functions.now c.place.new.functions c.resolve.new.functions c.in_ok-number.number
    c.hollow.ensures c.in_ok-number.ensures tabled c.in_ok-resolve.ensures

pub returns : goal.returns
returns g c =
    let tabled : c.in_ok-table.table ≡ names_of c.args.parameters (statements_of c.args.body) =
    c.in_ok-table.ensures ∙ ap (λ xs. names_of xs (statements_of c.as_slice-2.result.now)) c.as_slice.ensures ∙ ap (λ ss. names_of c.args.parameters (statements_of ss)) c.as_slice-2.ensures in
    rw c.set.ensures
    (function_made (scopes_of c.args.around.now) c.args.parameters c.args.body c.resolve.new.self c.in_ok-table.table (function_of c.hollow.result) c.args.functions.now c.place.new.functions c.resolve.new.functions c.in_ok-number.number
    c.hollow.ensures c.in_ok-number.ensures tabled c.in_ok-resolve.ensures c.args.name c.bind_all.new.all c.into_names.result _ c.in_ok-bind_all.ensures c.into_names.ensures refl)
