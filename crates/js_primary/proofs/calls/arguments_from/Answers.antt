use Rattle.std.proofs.Common.{drop, refl}
use Rattle.js_tree.specs.Tree.{expressions_of}
use Rattle.heap_steps.proofs.Lists.{list_step, list_rest, list_end}
use Rattle.js_machine.proofs.Steps.{forgets}
use Rattle.js_primary.proofs.CallSteps.{argument_then, argument_stops, argument_visited}
use Rattle.js_primary.proofs.calls.arguments_from.Goals as goal

pub loop-left-init : goal.loop-left-init
loop-left-init c = λ r m k. k

pub returns-in_err-value : goal.returns-in_err-value
returns-in_err-value c = c.loop-left.invariant _ _ (rw (list_step _ _ c.e-item.is c.in-len1-up.len_at_least)
    (argument_stops _ _ c.args.call c.loop-left.done _ (expressions_of (drop 1 c.loop-left.left.now)) _ _ c.from_residual.ensures.1 c.in_err-value.ensures))

pub returns-in_default-2 : goal.returns-in_default-2
returns-in_default-2 c = c.loop-left.invariant _ _ (rw (list_step _ _ c.e-item.is c.in-len1-up.len_at_least)
    (argument_visited _ _ c.args.call c.loop-left.done _ (expressions_of (drop 1 c.loop-left.left.now)) _ _ (rw c.in_default-2.is at c.in_ok-value.ensures) (rw (list_rest c.loop-left.left.now) at c.argument.ensures)))

pub returns-in_err-push : goal.returns-in_err-push
returns-in_err-push c = c.loop-left.invariant _ _ (forgets _ _ c.from_residual-in_err-push.ensures.1 refl)

pub loop-left-preserved : goal.loop-left-preserved
loop-left-preserved c = λ r m k. c.loop-left.invariant r m (rw (list_step _ _ c.e-item.is c.in-len1-up.len_at_least)
    (argument_then _ _ c.args.call c.loop-left.done _ (expressions_of (drop 1 c.loop-left.left.now)) _ _ _ (rw c.in-Some.is at c.in_ok-value.ensures) (rw (c.in_ok-push.ensures.ok, list_rest c.loop-left.left.now) at k)))

pub returns : goal.returns
returns c = c.loop-left.invariant _ _ (rw (list_end c.loop-left.left.now c.in_default.len_below) c.call_value.ensures)
