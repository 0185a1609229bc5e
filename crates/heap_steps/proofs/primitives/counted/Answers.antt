use Rattle.std.proofs.Common.{refl, ap}
use Rattle.heap_values.specs.declared.value.Value.{Value}
use Rattle.run_trees.specs.Runs.{pure}
use Rattle.js_evaluation.specs.State.{Does}
use Rattle.heap_steps.specs.Works.{state_with}
use Rattle.heap_steps.proofs.Chains.{as_part}
use Rattle.heap_steps.proofs.Operators.{uncounted}
use Rattle.heap_steps.proofs.primitives.counted.Goals as goal

pub returns-in-Text : goal.returns-in-Text
returns-in-Text c = rw c.in-Text.is c.counted_text.ensures

pub returns-in_default : goal.returns-in_default
returns-in_default c = as_part {q = pure c.args.value} _ (λ after fuel beside. ap (λ (p : Does Value). p after (state_with c.args.heap.now fuel beside)) (uncounted _ c.args.place c.in_default.not-Text)) (record { is = λ after fuel beside. refl })
