use Rattle.js_natives.proofs.Parts.{keys_work}
use Rattle.js_natives.proofs.objects.keys_value.Goals as goal

pub returns-in_ok-keys-in-Object : goal.returns-in_ok-keys-in-Object
returns-in_ok-keys-in-Object c = rw c.in-Object.is (keys_work _ _ _ _ c.in-Object.object (rw (c.as_slice.ensures, c.in_ok-keys-in-Object.ensures) at c.give_texts.ensures))
