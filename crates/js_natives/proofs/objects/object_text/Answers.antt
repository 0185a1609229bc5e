use Rattle.std.proofs.Common.{refl}
use Rattle.heap_steps.proofs.Chains.{as_part}
use Rattle.js_natives.proofs.objects.object_text.Goals as goal

pub returns : goal.returns
returns c = as_part _ (λ after fuel beside. refl) (rw (c.in_ok-class.ensures, c.class_in.ensures) at c.counted.ensures)
