use Rattle.std.proofs.Common.{ap, refl, sym, ◌∙◌}
use Rattle.js_evaluation.specs.Parts.{expression_place, statement_place}
use Rattle.js_runs.proofs.Loops.{begins_expression, begins_target, begins_statement, begins_declare, begins_call, begins_construct, begins_load, begins_stopped, expression_stands, statement_stands}
use Rattle.js_runs.proofs.begin.begin.Goals as goal

pub returns-in_ok-descend-in-Expression : goal.returns-in_ok-descend-in-Expression
returns-in_ok-descend-in-Expression c = rw c.in-Expression.is (begins_expression _ _ _ _ _ c.in_ok-descend-in-Expression.ensures c.in-Expression.e (ap expression_place (sym c.e.view_is) ∙ expression_stands c.e.inside.place c.e.inside.node) c.expression_node.ensures)

pub returns-in_err-descend-in-Expression : goal.returns-in_err-descend-in-Expression
returns-in_err-descend-in-Expression c = rw c.in-Expression.is (begins_stopped _ _ _ _ _ _ c.from_residual.ensures.1 (ap expression_place (sym c.e.view_is) ∙ expression_stands c.e.inside.place c.e.inside.node) c.in_err-descend-in-Expression.ensures)

pub returns-in_ok-descend-in-Target : goal.returns-in_ok-descend-in-Target
returns-in_ok-descend-in-Target c = rw c.in-Target.is (begins_target _ _ _ _ _ c.in_ok-descend-in-Target.ensures c.in-Target.e (ap expression_place (sym c.e-in-Target.view_is) ∙ expression_stands c.e-in-Target.inside.place c.e-in-Target.inside.node) c.target_node.ensures)

pub returns-in_err-descend-in-Target : goal.returns-in_err-descend-in-Target
returns-in_err-descend-in-Target c = rw c.in-Target.is (begins_stopped _ _ _ _ _ _ c.from_residual-in_err-descend-in-Target.ensures.1 (ap expression_place (sym c.e-in-Target.view_is) ∙ expression_stands c.e-in-Target.inside.place c.e-in-Target.inside.node) c.in_err-descend-in-Target.ensures)

pub returns-in_ok-descend-in-Statement : goal.returns-in_ok-descend-in-Statement
returns-in_ok-descend-in-Statement c = rw c.in-Statement.is (begins_statement _ _ _ _ _ c.in_ok-descend-in-Statement.ensures c.in-Statement.s (ap statement_place (sym c.s.view_is) ∙ statement_stands c.s.inside.place c.s.inside.node) c.statement_node.ensures)

pub returns-in_err-descend-in-Statement : goal.returns-in_err-descend-in-Statement
returns-in_err-descend-in-Statement c = rw c.in-Statement.is (begins_stopped _ _ _ _ _ _ c.from_residual-in_err-descend-in-Statement.ensures.1 (ap statement_place (sym c.s.view_is) ∙ statement_stands c.s.inside.place c.s.inside.node) c.in_err-descend-in-Statement.ensures)

pub returns-in_ok-descend-in-Declare : goal.returns-in_ok-descend-in-Declare
returns-in_ok-descend-in-Declare c = rw c.in-Declare.is (begins_declare _ _ _ _ _ c.in_ok-descend-in-Declare.ensures _ c.variables_from.ensures)

pub returns-in_err-descend-in-Declare : goal.returns-in_err-descend-in-Declare
returns-in_err-descend-in-Declare c = rw c.in-Declare.is (begins_stopped _ _ _ _ _ _ c.from_residual-in_err-descend-in-Declare.ensures.1 refl c.in_err-descend-in-Declare.ensures)

pub returns-in_ok-descend-in-Call : goal.returns-in_ok-descend-in-Call
returns-in_ok-descend-in-Call c = rw c.in-Call.is (begins_call _ _ _ _ _ c.in_ok-descend-in-Call.ensures _ _ _ c.call_node.ensures)

pub returns-in_err-descend-in-Call : goal.returns-in_err-descend-in-Call
returns-in_err-descend-in-Call c = rw c.in-Call.is (begins_stopped _ _ _ _ _ _ c.from_residual-in_err-descend-in-Call.ensures.1 refl c.in_err-descend-in-Call.ensures)

pub returns-in_ok-descend-in-Construct : goal.returns-in_ok-descend-in-Construct
returns-in_ok-descend-in-Construct c = rw c.in-Construct.is (begins_construct _ _ _ _ _ c.in_ok-descend-in-Construct.ensures _ _ c.construct_node.ensures)

pub returns-in_err-descend-in-Construct : goal.returns-in_err-descend-in-Construct
returns-in_err-descend-in-Construct c = rw c.in-Construct.is (begins_stopped _ _ _ _ _ _ c.from_residual-in_err-descend-in-Construct.ensures.1 refl c.in_err-descend-in-Construct.ensures)

pub returns-in_ok-descend-in-Load : goal.returns-in_ok-descend-in-Load
returns-in_ok-descend-in-Load c = rw c.in-Load.is (begins_load _ _ _ _ _ c.in_ok-descend-in-Load.ensures _ refl c.load_node.ensures)

pub returns-in_err-descend-in-Load : goal.returns-in_err-descend-in-Load
returns-in_err-descend-in-Load c = rw c.in-Load.is (begins_stopped _ _ _ _ _ _ c.from_residual-in_err-descend-in-Load.ensures.1 refl c.in_err-descend-in-Load.ensures)
