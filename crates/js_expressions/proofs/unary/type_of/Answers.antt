use Rattle.std.proofs.Common.{sym, ap, ◌∙◌}
use Rattle.js_tree.specs.View.{expression_of}
use Rattle.js_expressions.proofs.Nodes.{name_type, value_type}
use Rattle.js_expressions.proofs.unary.type_of.Goals as goal

pub returns-in-Name : goal.returns-in-Name
returns-in-Name c = name_type c.args.machine.now c.args.operand.now c.operand.inside.place _ _ _ (ap (expression_of c.operand.inside.place) (sym c.in-Name.is) ∙ c.operand.view_is) c.refer.ensures

pub returns-in_default : goal.returns-in_default
returns-in_default c = value_type c.args.machine.now c.args.operand.now c.operand.inside.place _ _ c.operand.inside.node c.operand.view_is c.in_default.not-Name c.evaluate.ensures
