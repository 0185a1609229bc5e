use Rattle.std.proofs.Common.{arith}
use Rattle.batch_text.proofs.Batches.{goes_on}
use Rattle.batch_text.proofs.batch.read_batch.Goals as goal

pub loop-line-preserved : goal.loop-line-preserved
loop-line-preserved c =
    let before = rw c.in-Some.ensures.steps at c.loop-line.invariant in
    (goes_on {line = c.in-Some.line.now} before.0 c.in_ok-enter.ensures, omega arith)
