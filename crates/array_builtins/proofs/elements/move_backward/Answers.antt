use Rattle.std.proofs.Common.{◌∙◌, inl, inr, ⊎_elim, arith}
use Rattle.std.proofs.lemmas.Result.{err_from_is_err_and}
use Rattle.array_builtins.specs.Elements.{move_step}
use Rattle.array_builtins.proofs.StepLemmas.{steps_down-ok, steps_down-err}
use Rattle.array_builtins.proofs.elements.move_backward.Goals as goal

pub loop-left-preserved : goal.loop-left-preserved
loop-left-preserved c = record {
  within = omega (arith, c.loop-left.invariant.within);
  moved =
      c.loop-left.invariant.moved
      ∙ steps_down-ok (move_step c.args.array c.args.from c.args.to) c.loop-left.left c.loop-left.heap
      c.move_element.new.heap c.loop-left-test.true c.in_ok-move_element.ensures.ok;
}

pub returns-in_err-move_element-clause-err : goal.returns-in_err-move_element-clause-err
returns-in_err-move_element-clause-err c =
    let p = err_from_is_err_and c.from_residual.result c.from_residual.ensures.1 in
    rw (p.1, p.2)
    (⊎_elim inl
    (λ q. inr (c.loop-left.invariant.moved
    ∙ steps_down-err (move_step c.args.array c.args.from c.args.to) c.loop-left.left c.loop-left.heap
    c.in_err-move_element.field-0.0 c.loop-left-test.true q))
    c.in_err-move_element.ensures.err)
