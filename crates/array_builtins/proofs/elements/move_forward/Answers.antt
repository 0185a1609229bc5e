use Rattle.std.proofs.Common.{◌∙◌, inl, inr, ⊎_elim}
use Rattle.std.proofs.lemmas.Result.{err_from_is_err_and}
use Rattle.array_builtins.specs.Elements.{move_step}
use Rattle.array_builtins.proofs.StepLemmas.{steps-ok, steps-err}
use Rattle.array_builtins.proofs.elements.move_forward.Goals as goal

pub loop-k-preserved : goal.loop-k-preserved
loop-k-preserved c =
    c.loop-k.invariant
    ∙ steps-ok (move_step c.args.array c.args.from c.args.to) c.args.count c.loop-k.k c.loop-k.heap
    c.move_element.new.heap c.loop-k-test.true c.in_ok-move_element.ensures.ok

pub returns-in_err-move_element-clause-err : goal.returns-in_err-move_element-clause-err
returns-in_err-move_element-clause-err c =
    let p = err_from_is_err_and c.from_residual.result c.from_residual.ensures.1 in
    rw (p.1, p.2)
    (⊎_elim inl
    (λ q. inr (c.loop-k.invariant
    ∙ steps-err (move_step c.args.array c.args.from c.args.to) c.args.count c.loop-k.k c.loop-k.heap
    c.in_err-move_element.field-0.0 c.loop-k-test.true q))
    c.in_err-move_element.ensures.err)
