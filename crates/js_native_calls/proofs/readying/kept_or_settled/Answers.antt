use Rattle.std.proofs.Common.{sym, ◌∙◌}
use Rattle.js_native_calls.proofs.Tested.{kept_as, settled_as, settled_stops}
use Rattle.js_native_calls.proofs.readying.kept_or_settled.Goals as goal

pub returns-then-is_kept : goal.returns-then-is_kept
returns-then-is_kept c = λ call. kept_as call c.args.conversion c.args.value c.args.place c.args.heap.now (sym c.is_kept.ensures ∙ c.if-is_kept.true)

pub returns-in_err-settled-in_default : goal.returns-in_err-settled-in_default
returns-in_err-settled-in_default c = λ call.
    settled_stops call c.args.conversion c.args.value c.args.place c.args.heap.now (sym c.is_kept.ensures ∙ c.if-is_kept.false) c.in_default.not-Object _ _ c.from_residual.ensures.1 (c.in_err-settled-in_default.ensures c.args.heap.now)

pub returns-in_ok-settled-in_default : goal.returns-in_ok-settled-in_default
returns-in_ok-settled-in_default c = λ call.
    settled_as call c.args.conversion c.args.value c.args.place c.args.heap.now (sym c.is_kept.ensures ∙ c.if-is_kept.false) c.in_default.not-Object _ (c.in_ok-settled-in_default.ensures c.args.heap.now)
