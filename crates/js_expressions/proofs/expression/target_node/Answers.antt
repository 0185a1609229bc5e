use Rattle.std.proofs.Common.{refl, sym, ap, ◌∙◌}
use Rattle.js_tree.specs.View.{expression_of}
use Rattle.js_expressions.proofs.Nodes.{suffixed_target, name_target, no_target}
use Rattle.js_expressions.proofs.expression.target_node.Goals as goal

pub returns-in-Name : goal.returns-in-Name
returns-in-Name c = name_target c.args.machine.now c.args.e.now c.e.inside.place _ _ (ap (expression_of c.e.inside.place) (sym c.in-Name.is) ∙ c.e.view_is) refl

pub returns-in-Suffixed : goal.returns-in-Suffixed
returns-in-Suffixed c = suffixed_target c.args.machine.now c.args.e.now c.e.inside.place _ _ _ _ (ap (expression_of c.e.inside.place) (sym c.in-Suffixed.is) ∙ c.e.view_is)
    (rw (c.deref.ensures, c.as_slice.ensures) at c.suffixed.ensures)

pub returns-in_default : goal.returns-in_default
returns-in_default c = no_target c.args.machine.now c.args.e.now c.e.inside.place _ _ c.e.view_is c.in_default.not-Name c.in_default.not-Suffixed c.none.ensures
