use Rattle.std.proofs.Common.{◌∙◌, ◌/◌, inl, inr, ⊎_elim}
use Rattle.std.proofs.lemmas.Result.{err_from_is_err_and}
use Rattle.array_builtins.specs.Order.{reverse_step}
use Rattle.array_builtins.proofs.StepLemmas.{steps-ok, steps-err}
use Rattle.array_builtins.proofs.order.swap_all.Goals as goal

pub loop-low-preserved : goal.loop-low-preserved
loop-low-preserved c =
    c.loop-low.invariant
    ∙ steps-ok (reverse_step c.args.array c.args.length) (c.args.length / 2) c.loop-low.low c.loop-low.heap
    c.swap.new.heap c.loop-low-test.true c.in_ok-swap.ensures.ok

pub returns-in_err-swap-clause-err : goal.returns-in_err-swap-clause-err
returns-in_err-swap-clause-err c =
    let p = err_from_is_err_and c.from_residual.result c.from_residual.ensures.1 in
    rw (p.1, p.2)
    (⊎_elim inl
    (λ q. inr (c.loop-low.invariant
    ∙ steps-err (reverse_step c.args.array c.args.length) (c.args.length / 2) c.loop-low.low c.loop-low.heap
    c.in_err-swap.field-0.0 c.loop-low-test.true q))
    c.in_err-swap.ensures.err)
