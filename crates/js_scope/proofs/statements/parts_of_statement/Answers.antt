use Rattle.js_tree.specs.View.{statement_of}
use Rattle.js_binding.specs.Resolved.{statement_in}
use Rattle.scope_names.specs.Around.{scopes_of}
use Rattle.js_scope.specs.Parts.{statement_node_in}
use Rattle.js_scope.proofs.Trees.{statement_made, made_tree}
use Rattle.js_scope.proofs.statements.parts_of_statement.Goals as goal

pub returns : goal.returns
returns g c =
    let scopes = scopes_of c.args.scopes.now in
    let inside = c.s.inside in
    rw (← c.s.view_is)
    (made_tree (statement_of inside.place) (statement_node_in scopes inside.node) (statement_in scopes (statement_of inside.place inside.node)) c.resolve.result c.args.functions.now c.resolve.new.functions c.resolve.new.self
    (statement_made scopes inside.place inside.node) c.resolve.ensures)
