use Rattle.js_evaluation.specs.Handed as handed
use Rattle.js_evaluation.specs.NativeTable as table
use Rattle.js_native_calls.proofs.Tested.{tested_then}
use Rattle.js_native_calls.proofs.readying.ready.Goals as goal

pub returns : goal.returns
returns c = λ call.
    tested_then call c.args.native (table.conversion_at c.args.native c.args.at) (handed.argument c.args.at c.args.values.now) c.args.place c.args.heap.now c.test_handed.new.heap
    c.kept_or_settled.result (rw (c.conversion_at-conversion.ensures, c.in_ok-value.ensures) at c.in_ok-test_handed.ensures)
    (rw (c.conversion_at-conversion.ensures, c.in_ok-value.ensures) at (c.kept_or_settled.ensures call))
