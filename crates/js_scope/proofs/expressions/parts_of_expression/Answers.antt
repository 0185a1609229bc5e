use Rattle.js_tree.specs.View.{expression_of}
use Rattle.js_binding.specs.Resolved.{expression_in}
use Rattle.scope_names.specs.Around.{scopes_of}
use Rattle.js_scope.specs.Parts.{expression_node_in}
use Rattle.js_scope.proofs.Trees.{expression_made, made_tree}
use Rattle.js_scope.proofs.expressions.parts_of_expression.Goals as goal

pub returns : goal.returns
returns g c =
    let scopes = scopes_of c.args.scopes.now in
    let inside = c.e.inside in
    rw (← c.e.view_is)
    (made_tree (expression_of inside.place) (expression_node_in scopes inside.node) (expression_in scopes (expression_of inside.place inside.node)) c.resolve.result c.args.functions.now c.resolve.new.functions c.resolve.new.self
    (expression_made scopes inside.place inside.node) c.resolve.ensures)
