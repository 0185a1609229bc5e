use Rattle.std.proofs.Common.{refl}
use Rattle.js_runs.proofs.Calling.{call_gives, call_asks_too_many, call_needs_clock, call_misses, call_forgets}
use Rattle.js_runs.proofs.asking.call_host.Goals as goal

pub returns-in-Ok : goal.returns-in-Ok
returns-in-Ok g c = call_gives _ _ _ c.as_slice-values.ensures _ _ _ _ _ _ _ _ _ (rw c.in-Value.is at c.call_pac.ensures) c.given_back.ensures (rw c.in-Ok.is at c.keep.ensures)

pub returns-in-Missing : goal.returns-in-Missing
returns-in-Missing g c = call_misses _ _ _ c.as_slice-values.ensures _ _ _ _ _ _ _ _ (rw c.in-Missing.is at c.call_pac.ensures)

pub returns-in-TooMany : goal.returns-in-TooMany
returns-in-TooMany g c = call_asks_too_many _ _ _ c.as_slice-values.ensures _ _ _ _ _ _ _ (rw c.in-TooMany.is at c.call_pac.ensures) refl

pub returns-in-NoClock : goal.returns-in-NoClock
returns-in-NoClock g c = call_needs_clock _ _ _ c.as_slice-values.ensures _ _ _ _ _ _ _ (rw c.in-NoClock.is at c.call_pac.ensures) refl

pub returns : goal.returns
returns g c = call_forgets _ _ _ c.as_slice-values.ensures _ _ _ _ _ _ _
