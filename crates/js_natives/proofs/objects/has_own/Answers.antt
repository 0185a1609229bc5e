use Rattle.js_natives.proofs.Parts.{own_work}
use Rattle.js_natives.proofs.objects.has_own.Goals as goal

pub returns-in_ok-get_own-in-Object : goal.returns-in_ok-get_own-in-Object
returns-in_ok-get_own-in-Object c = rw c.in-Object.is (own_work c.args.heap.now _ _ c.args.place c.in-Object.object c.args.name.now (rw c.in_ok-get_own-in-Object.ensures at (c.is_there.ensures c.args.heap.now)))
