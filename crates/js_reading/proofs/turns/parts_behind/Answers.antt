use Rattle.std.proofs.Common.{◌-◌, ◌+◌, arith}
use Rattle.std.proofs.lemmas.Result.{err_from_is_err_and}
use Rattle.js_reading.proofs.Rows.{begins, goes_on, is_last, is_end, no_more, fails}
use Rattle.js_reading.proofs.turns.parts_behind.Goals as goal

pub loop-turn-init : goal.loop-turn-init
loop-turn-init g c reader reads = begins reader _ _ _ _ (omega arith)

pub loop-turn-preserved : goal.loop-turn-preserved
loop-turn-preserved g c reader reads =
    rw c.in_ok-add_part-in-More.ensures
    (goes_on reader _ _ _ _ (c.loop-turn.invariant reader reads) _ (omega (arith, c.loop-turn-test.true)) c.in_ok-one.one _ c.in-More.x c.in-More.is (reads _ _ c.in_ok-one.ensures))

pub returns-in_err-one : goal.returns-in_err-one
returns-in_err-one g c reader reads =
    let p = err_from_is_err_and c.from_residual.result c.from_residual.ensures.1 in
    rw (p.1, p.2) (fails reader _ _ _ _ (c.loop-turn.invariant reader reads) (c.args.turns - (c.loop-turn._turn + 1)) (omega (arith, c.loop-turn-test.true)) c.in_err-one.field-0.0 (reads _ _ c.in_err-one.ensures))

pub returns-in-Last : goal.returns-in-Last
returns-in-Last g c reader reads =
    rw (c.from_vec.ensures, c.in_ok-add_part-in-Last.ensures)
    (is_last reader _ _ _ _ (c.loop-turn.invariant reader reads) (c.args.turns - (c.loop-turn._turn + 1)) (omega (arith, c.loop-turn-test.true)) c.in_ok-one.one _ c.in-Last.x c.in-Last.is (reads _ _ c.in_ok-one.ensures))

pub returns-in-End : goal.returns-in-End
returns-in-End g c reader reads =
    rw c.from_vec-in-End.ensures
    (is_end reader _ _ _ _ (c.loop-turn.invariant reader reads) (c.args.turns - (c.loop-turn._turn + 1)) (omega (arith, c.loop-turn-test.true)) c.in_ok-one.one _ c.in-End.is (reads _ _ c.in_ok-one.ensures))

pub returns : goal.returns
returns g c reader reads = rw c.from_vec-2.ensures (no_more reader _ _ _ _ (c.loop-turn.invariant reader reads) (omega (arith, c.loop-turn-test.false)))
