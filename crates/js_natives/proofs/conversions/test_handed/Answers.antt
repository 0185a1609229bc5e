use Rattle.std.proofs.Common.{refl}
use Rattle.heap_steps.proofs.Chains.{as_part}
use Rattle.js_natives.proofs.conversions.test_handed.Goals as goal

pub returns-in-ThisArray : goal.returns-in-ThisArray
returns-in-ThisArray c = rw c.in-ThisArray.is (as_part _ (λ after fuel beside. refl) (rw c.is_array.ensures at (c.test_kept.ensures c.args.heap.now)))

pub returns-in-Replacement : goal.returns-in-Replacement
returns-in-Replacement c = rw c.in-Replacement.is (as_part _ (λ after fuel beside. refl) (rw c.is_callable.ensures at (c.test_kept-in-Replacement.ensures c.args.heap.now)))

pub returns-in-ThisPattern : goal.returns-in-ThisPattern
returns-in-ThisPattern c = rw c.in-ThisPattern.is (as_part _ (λ after fuel beside. refl) (rw c.is_pattern-is_right.ensures at c.test_receiver-in-ThisPattern.ensures))

pub returns-in-Pattern : goal.returns-in-Pattern
returns-in-Pattern c = rw c.in-Pattern.is (as_part _ (λ after fuel beside. refl) (rw c.is_pattern.ensures at (c.test_kept-in-Pattern.ensures c.args.heap.now)))
