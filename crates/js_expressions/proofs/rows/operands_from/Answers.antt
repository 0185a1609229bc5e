use Rattle.std.proofs.Common.{drop, refl, sym, ◌∙◌}
use Rattle.heap_steps.proofs.Lists.{list_step, list_rest, list_end}
use Rattle.js_native_calls.proofs.Steps.{gives}
use Rattle.js_expressions.proofs.Binary.{decided_moves, evaluated_moves}
use Rattle.js_expressions.proofs.AtOnce.{operand_worked, operand_stops, operation_stops, operand_converted, operand_visited}
use Rattle.js_expressions.proofs.rows.operands_from.Goals as goal

pub loop-left-init : goal.loop-left-init
loop-left-init c = λ r m k. k

pub loop-left-preserved-then-decides : goal.loop-left-preserved-then-decides
loop-left-preserved-then-decides c = λ r m k. c.loop-left.invariant r m (rw (list_step _ _ c.operand-item.is c.in-len1-up.len_at_least)
    (decided_moves c.loop-left.machine _ c.operand-item.result (drop 1 c.loop-left.left.now) r m (sym c.decides.ensures ∙ c.if-decides.true) (rw (list_rest c.loop-left.left.now) at k)))

pub returns-then-not-is_at_once : goal.returns-then-not-is_at_once
returns-then-not-is_at_once c = c.loop-left.invariant _ _ (rw (list_step _ _ c.operand-item.is c.in-len1-up.len_at_least)
    (evaluated_moves c.loop-left.machine _ c.operand-item.result (drop 1 c.loop-left.left.now) _ _ (sym c.decides.ensures ∙ c.if-decides.false) (rw (list_rest c.loop-left.left.now) at c.operand_of.ensures)))

pub returns-in_err-right : goal.returns-in_err-right
returns-in_err-right c = c.loop-left.invariant _ _ (rw (list_step _ _ c.operand-item.is c.in-len1-up.len_at_least)
    (operand_stops c.loop-left.machine c.leaf.new.self c.loop-left.value c.operand-item.result (drop 1 c.loop-left.left.now) (sym c.is_at_once.ensures ∙ c.if-not-is_at_once.false) _ _ c.from_residual.ensures.1 c.in_err-right.ensures))

pub returns-in_default-2 : goal.returns-in_default-2
returns-in_default-2 c = c.loop-left.invariant _ _ (rw (list_step _ _ c.operand-item.is c.in-len1-up.len_at_least)
    (operand_visited c.loop-left.machine c.leaf.new.self c.loop-left.value c.operand-item.result (drop 1 c.loop-left.left.now) _ _ (rw c.in_default-2.is at c.in_ok-right.ensures)
    (evaluated_moves c.leaf.new.self _ c.operand-item.result (drop 1 c.loop-left.left.now) _ _ (sym c.decides.ensures ∙ c.if-decides.false) (rw (list_rest c.loop-left.left.now) at c.operand_of-in_default-2.ensures))))

pub returns-in-Some-converted_object : goal.returns-in-Some-converted_object
returns-in-Some-converted_object c = c.loop-left.invariant _ _ (rw (list_step _ _ c.operand-item.is c.in-len1-up.len_at_least)
    (operand_converted c.loop-left.machine c.leaf.new.self c.loop-left.value c.operand-item.result (drop 1 c.loop-left.left.now) (sym c.is_at_once.ensures ∙ c.if-not-is_at_once.false) _ _ _ c.in-Some-converted_object.object
    (λ call. sym (c.converted_object.ensures call) ∙ c.in-Some-converted_object.is) (rw c.in-Some.is at c.in_ok-right.ensures) (rw (list_rest c.loop-left.left.now) at c.right_object.ensures)))

pub returns-in_err-value : goal.returns-in_err-value
returns-in_err-value c = c.loop-left.invariant _ _ (rw (list_step _ _ c.operand-item.is c.in-len1-up.len_at_least)
    (operation_stops c.loop-left.machine c.leaf.new.self c.loop-left.value c.operand-item.result (drop 1 c.loop-left.left.now) (sym c.is_at_once.ensures ∙ c.if-not-is_at_once.false) _ _ c.from_residual-in_err-value.ensures.1 _ _ (λ call. sym (c.converted_object.ensures call) ∙ c.in_default-converted_object.is)
    (rw c.in-Some.is at c.in_ok-right.ensures) c.in_err-value.ensures))

pub loop-left-preserved-in_ok-value : goal.loop-left-preserved-in_ok-value
loop-left-preserved-in_ok-value c = λ r m k. c.loop-left.invariant r m (rw (list_step _ _ c.operand-item.is c.in-len1-up.len_at_least)
    (operand_worked c.loop-left.machine c.leaf.new.self c.loop-left.value c.operand-item.result (drop 1 c.loop-left.left.now) (sym c.is_at_once.ensures ∙ c.if-not-is_at_once.false) r m _ _ _ (λ call. sym (c.converted_object.ensures call) ∙ c.in_default-converted_object.is)
    (rw c.in-Some.is at c.in_ok-right.ensures) c.in_ok-value.ensures (rw (list_rest c.loop-left.left.now) at k)))

pub loop-left-preserved : goal.loop-left-preserved
loop-left-preserved c = λ r m k. c.loop-left.invariant r m (rw (list_step _ _ c.operand-item.is c.in-len1-up.len_at_least)
    (operand_worked c.loop-left.machine c.leaf.new.self c.loop-left.value c.operand-item.result (drop 1 c.loop-left.left.now) (sym c.is_at_once.ensures ∙ c.if-not-is_at_once.false) r m _ _ _ (λ call. sym (c.converted_object.ensures call) ∙ c.in_default-converted_object.is)
    (rw c.in-Some.is at c.in_ok-right.ensures) c.in_ok-value.ensures (rw (list_rest c.loop-left.left.now) at k)))

pub returns : goal.returns
returns c = c.loop-left.invariant _ _ (rw (list_end c.loop-left.left.now c.in_default.len_below) (gives _ _ _ (λ after. refl)))
