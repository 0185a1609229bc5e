use Rattle.std.proofs.Common.{sym, ap}
use Rattle.heap_values.specs.declared.value.Value.TheVariants as value
use Rattle.js_evaluation.specs.Objects.{found_value}
use Rattle.heap_steps.specs.Works.{state_with}
use Rattle.heap_steps.proofs.Chains.{as_part}
use Rattle.heap_steps.proofs.properties.get_by.Goals as goal

pub returns-in_ok-found-in-Some-Some : goal.returns-in_ok-found-in-Some-Some
returns-in_ok-found-in-Some-Some c =
    rw (c.in-Some-Some.ensures, c.in-Some-Some.ensures') (as_part _
    (λ after fuel beside. ap (λ f. found_value value.Undefined f c.args.place after (state_with c.args.heap.now fuel beside)) (sym c.in_ok-found-in-Some-Some.ensures))
    (c.found_value.ensures _))
