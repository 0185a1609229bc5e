use Rattle.std.proofs.Common.{sym, ap, ◌∙◌}
use Rattle.js_tree.specs.View.{expression_of}
use Rattle.js_expressions.proofs.Nodes.{text_value, pattern_value, array_value, object_value, suffixed_value}
use Rattle.js_expressions.proofs.expression.expression_node.Goals as goal

pub returns-in-Text : goal.returns-in-Text
returns-in-Text c = text_value c.args.machine.now c.args.e.now c.e.inside.place _ _ _ (ap (expression_of c.e.inside.place) (sym c.in-Text.is) ∙ c.e.view_is) c.text_literal.ensures

pub returns-in-Pattern : goal.returns-in-Pattern
returns-in-Pattern c = pattern_value c.args.machine.now c.args.e.now c.e.inside.place _ _ _ (ap (expression_of c.e.inside.place) (sym c.in-Pattern.is) ∙ c.e.view_is) c.pattern_literal.ensures

pub returns-in-Array : goal.returns-in-Array
returns-in-Array c = array_value c.args.machine.now c.args.e.now c.e.inside.place _ _ _ (ap (expression_of c.e.inside.place) (sym c.in-Array.is) ∙ c.e.view_is)
    (rw c.as_slice.ensures at c.array_literal.ensures)

pub returns-in-Object : goal.returns-in-Object
returns-in-Object c = object_value c.args.machine.now c.args.e.now c.e.inside.place _ _ _ (ap (expression_of c.e.inside.place) (sym c.in-Object.is) ∙ c.e.view_is)
    (rw c.as_slice-in-Object.ensures at c.object_literal.ensures)

pub returns-in-Suffixed : goal.returns-in-Suffixed
returns-in-Suffixed c = suffixed_value c.args.machine.now c.args.e.now c.e.inside.place _ _ _ _ (ap (expression_of c.e.inside.place) (sym c.in-Suffixed.is) ∙ c.e.view_is)
    (rw (c.deref.ensures, c.as_slice-in-Suffixed.ensures) at c.suffixed.ensures)
