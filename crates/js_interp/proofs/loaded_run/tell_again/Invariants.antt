use Rattle.std.proofs.Common.{◌≡◌, take, fold}
use Rattle.js_host.specs.Seen.{alerted, with_alert}
use Rattle.js_interp.proofs.loaded_run.tell_again.Given as goal

abbrev pub invariant-loop-text : goal.invariant-loop-text
invariant-loop-text g l =
    (g.H.Host.seen l.host ≡ fold alerted (g.H.Host.seen l.fn.host) (take l.text-index l.told))
    × (l.alerts ≡ fold with_alert l.fn.alerts (take l.text-index l.told))
