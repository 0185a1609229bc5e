use Rattle.std.proofs.Common.{◌≡◌, ◌-◌, suc, arith}
use Rattle.js_native_calls.proofs.Elements.{no_element, element_stops, plain_element, asked_element}
use Rattle.js_native_calls.proofs.joining.joined_from.Goals as goal

pub returns-in_err-value : goal.returns-in_err-value
returns-in_err-value c =
    let some : c.loop-left.left ≡ suc (c.loop-left.left - 1) = omega arith in
    c.loop-left.invariant _ _ (element_stops c.loop-left.machine c.args.count c.args.array c.loop-left.texts c.loop-left.separator c.args.place c.loop-left.left _ (c.loop-left.left - 1) some _ _
    c.from_residual.ensures.1 (rw c.saturating_sub-index.ensures at c.in_err-value.ensures))

pub returns-in-Object : goal.returns-in-Object
returns-in-Object c =
    let some : c.loop-left.left ≡ suc (c.loop-left.left - 1) = omega arith in
    c.loop-left.invariant _ _ (asked_element c.loop-left.machine c.args.count c.args.array c.loop-left.texts c.loop-left.separator c.args.place c.loop-left.left _ (c.loop-left.left - 1) some _ _
    c.in_ok-value.value (rw c.saturating_sub-index.ensures at c.in_ok-value.ensures) c.in-Object.object c.in-Object.is c.convert.ensures)

pub loop-left-preserved : goal.loop-left-preserved
loop-left-preserved c = λ r m k.
    let some : c.loop-left.left ≡ suc (c.loop-left.left - 1) = omega arith in
    c.loop-left.invariant _ _ (plain_element c.loop-left.machine c.args.count c.args.array c.loop-left.texts c.loop-left.separator c.args.place c.loop-left.left _ (c.loop-left.left - 1) some _ _
    c.in_ok-value.value (rw c.saturating_sub-index.ensures at c.in_ok-value.ensures) _ c.in_default.not-Object c.in_ok-push_text-in_default.ensures k)

pub loop-left-preserved-in_ok-push_text-in_default : goal.loop-left-preserved-in_ok-push_text-in_default
loop-left-preserved-in_ok-push_text-in_default c = λ r m k.
    let some : c.loop-left.left ≡ suc (c.loop-left.left - 1) = omega arith in
    c.loop-left.invariant _ _ (plain_element c.loop-left.machine c.args.count c.args.array c.loop-left.texts c.loop-left.separator c.args.place c.loop-left.left _ (c.loop-left.left - 1) some _ _
    c.in_ok-value.value (rw c.saturating_sub-index.ensures at c.in_ok-value.ensures) _ c.in_default.not-Object c.in_ok-push_text-in_default.ensures k)

pub returns : goal.returns
returns c =
    c.loop-left.invariant _ _ (no_element c.loop-left.machine c.args.count c.args.array c.loop-left.texts c.loop-left.separator c.args.place c.loop-left.left _ _ (omega arith) c.give_texts.ensures)
