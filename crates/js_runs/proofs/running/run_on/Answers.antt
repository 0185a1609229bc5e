use Rattle.std.proofs.Common.{◌<◌, length, arith, refl, sym}
use Rattle.js_frames.proofs.Passing.{unwound-keeps, unwound-closes}
use Rattle.js_runs.proofs.Loops.{goes_over, goes_on, lighter, closes_stopped, kept_at_end, kept_on, kept_stopped}
use Rattle.js_runs.proofs.running.run_on.Goals as goal

pub returns-in_err-now-in-Begin-clause-closes : goal.returns-in_err-now-in-Begin-clause-closes
returns-in_err-now-in-Begin-clause-closes g c =
    closes_stopped _ _ _ _ _ _ _ _ c.from_residual.ensures.1 (sym c.in_err-now-in-Begin.ensures)
    (λ last. rw (c.loop-now.invariant.0 last, c.in-Begin.is) (goes_over last _ _ _ _ (c.begin.ensures.goes last)))

pub returns-in_err-now-in-Begin-clause-keeps : goal.returns-in_err-now-in-Begin-clause-keeps
returns-in_err-now-in-Begin-clause-keeps g c = λ begun. kept_at_end _ _ _ (c.loop-now.invariant.1 begun)

pub loop-now-preserved-in-Begin : goal.loop-now-preserved-in-Begin
loop-now-preserved-in-Begin g c = (
  λ last. rw (c.loop-now.invariant.0 last, c.in-Begin.is) (goes_on last _ _ _ _ _ (sym c.in_ok-now-in-Begin.ensures) (goes_over last _ _ _ _ (c.begin.ensures.goes last))),
  c.loop-now.invariant.1,
)

pub loop-now-smaller-in-Begin : goal.loop-now-smaller-in-Begin
loop-now-smaller-in-Begin g c =
    let less = lighter _ _ _ _ (sym c.in_ok-now-in-Begin.ensures) c.begin.ensures.light in
    rw c.in-Begin.is (omega (arith, less))

pub returns-in-None-clause-closes : goal.returns-in-None-clause-closes
returns-in-None-clause-closes g c =
    record { closes = λ last. rw (c.loop-now.invariant.0 last, c.in-Back-Ok.is, c.in-Back-Ok.field-0-is, c.in-None.ensures.closed) refl }

pub returns-in-None-clause-keeps : goal.returns-in-None-clause-keeps
returns-in-None-clause-keeps g c = λ begun. c.loop-now.invariant.1 begun

pub returns-in_err-now-in-Some-clause-closes : goal.returns-in_err-now-in-Some-clause-closes
returns-in_err-now-in-Some-clause-closes g c =
    closes_stopped _ _ _ _ _ _ _ _ c.from_residual-in_err-now-in-Some.ensures.1 (sym c.in_err-now-in-Some.ensures)
    (λ last. rw (c.loop-now.invariant.0 last, c.in-Back-Ok.is, c.in-Back-Ok.field-0-is, c.in-Some.ensures.closed) (goes_over last _ _ _ _ (c.back.ensures.goes last)))

pub returns-in_err-now-in-Some-clause-keeps : goal.returns-in_err-now-in-Some-clause-keeps
returns-in_err-now-in-Some-clause-keeps g c = λ begun. kept_at_end _ _ _ (c.loop-now.invariant.1 begun)

pub loop-now-preserved-in-Some : goal.loop-now-preserved-in-Some
loop-now-preserved-in-Some g c = (
  λ last. rw (c.loop-now.invariant.0 last, c.in-Back-Ok.is, c.in-Back-Ok.field-0-is, c.in-Some.ensures.closed)
      (goes_on last _ _ _ _ _ (sym c.in_ok-now-in-Some.ensures) (goes_over last _ _ _ _ (c.back.ensures.goes last))),
  c.loop-now.invariant.1,
)

pub loop-now-smaller-in-Some : goal.loop-now-smaller-in-Some
loop-now-smaller-in-Some g c =
    let less = lighter _ _ _ _ (sym c.in_ok-now-in-Some.ensures) c.back.ensures.light in
    rw (c.in-Back-Ok.is, c.in-Some.ensures.closed) (omega (arith, less))

pub returns-in-None-unwind-clause-closes : goal.returns-in-None-unwind-clause-closes
returns-in-None-unwind-clause-closes g c =
    record { closes = λ last. rw (c.loop-now.invariant.0 last, c.in-Back-Err.is, c.in-Back-Err.field-0-is, unwound-keeps _ last c.in-Back-Err.stop c.loop-now.machine.frames, sym c.of.ensures, c.in-None-unwind.ensures.taken) refl }

pub returns-in-None-unwind-clause-keeps : goal.returns-in-None-unwind-clause-keeps
returns-in-None-unwind-clause-keeps g c = λ begun. c.loop-now.invariant.1 begun

pub returns-in_err-now-in-Some-unwind-clause-closes : goal.returns-in_err-now-in-Some-unwind-clause-closes
returns-in_err-now-in-Some-unwind-clause-closes g c =
    closes_stopped _ _ _ _ _ _ _ _ c.from_residual-in_err-now-in-Some-unwind.ensures.1 (sym c.in_err-now-in-Some-unwind.ensures)
    (λ last. rw (c.loop-now.invariant.0 last, c.in-Back-Err.is, c.in-Back-Err.field-0-is, unwound-keeps _ last c.in-Back-Err.stop c.loop-now.machine.frames, sym c.of.ensures, c.in-Some-unwind.ensures.taken)
    (goes_over last _ _ _ _ (c.stopped.ensures.goes last)))

pub returns-in_err-now-in-Some-unwind-clause-keeps : goal.returns-in_err-now-in-Some-unwind-clause-keeps
returns-in_err-now-in-Some-unwind-clause-keeps g c = λ begun. kept_at_end _ _ _ (c.loop-now.invariant.1 begun)

pub loop-now-preserved-in-Some-unwind : goal.loop-now-preserved-in-Some-unwind
loop-now-preserved-in-Some-unwind g c = (
  λ last. rw (c.loop-now.invariant.0 last, c.in-Back-Err.is, c.in-Back-Err.field-0-is, unwound-keeps _ last c.in-Back-Err.stop c.loop-now.machine.frames, sym c.of.ensures, c.in-Some-unwind.ensures.taken)
      (goes_on last _ _ _ _ _ (sym c.in_ok-now-in-Some-unwind.ensures) (goes_over last _ _ _ _ (c.stopped.ensures.goes last))),
  c.loop-now.invariant.1,
)

pub loop-now-smaller-in-Some-unwind : goal.loop-now-smaller-in-Some-unwind
loop-now-smaller-in-Some-unwind g c =
    let less = lighter _ _ _ _ (sym c.in_ok-now-in-Some-unwind.ensures) c.stopped.ensures.light in
    let short : length c.unwind.new.self < length c.loop-now.machine.frames = unwound-closes _ _ _ _ c.in-Some-unwind.ensures.taken in
    rw c.in-Back-Err.is (omega (arith, less, short))

pub returns-in_err-now-in-Some-pop-clause-closes : goal.returns-in_err-now-in-Some-pop-clause-closes
returns-in_err-now-in-Some-pop-clause-closes g c =
    closes_stopped _ _ _ _ _ _ _ _ c.from_residual-in_err-now-in-Some-pop.ensures.1 (sym c.in_err-now-in-Some-pop.ensures)
    (λ last. rw (c.loop-now.invariant.0 last, c.in-Refers.is, c.in-Some-pop.ensures.closed) (goes_over last _ _ _ _ (c.referred.ensures.goes last)))

pub returns-in_err-now-in-Some-pop-clause-keeps : goal.returns-in_err-now-in-Some-pop-clause-keeps
returns-in_err-now-in-Some-pop-clause-keeps g c = λ begun. kept_at_end _ _ _ (c.loop-now.invariant.1 begun)

pub returns-in-None-pop-clause-closes : goal.returns-in-None-pop-clause-closes
returns-in-None-pop-clause-closes g c =
    record { closes = λ last. rw (c.loop-now.invariant.0 last, c.in-Refers.is, c.in-None-pop.ensures.closed) refl }

pub returns-in-None-pop-clause-keeps : goal.returns-in-None-pop-clause-keeps
returns-in-None-pop-clause-keeps g c = λ begun. c.loop-now.invariant.1 begun

pub loop-now-preserved : goal.loop-now-preserved
loop-now-preserved g c = (
  λ last. rw (c.loop-now.invariant.0 last, c.in-Refers.is, c.in-Some-pop.ensures.closed)
      (goes_on last _ _ _ _ _ (sym c.in_ok-now-in-Some-pop.ensures) (goes_over last _ _ _ _ (c.referred.ensures.goes last))),
  c.loop-now.invariant.1,
)

pub loop-now-smaller : goal.loop-now-smaller
loop-now-smaller g c =
    let less = lighter _ _ _ _ (sym c.in_ok-now-in-Some-pop.ensures) c.referred.ensures.light in
    rw (c.in-Refers.is, c.in-Some-pop.ensures.closed) (omega (arith, less))

pub returns-in-Err-clause-closes : goal.returns-in-Err-clause-closes
returns-in-Err-clause-closes g c =
    record { closes = λ last. rw (c.loop-now.invariant.0 last, c.in-Host.is) (rw c.in-Err.is at (c.call_host.ensures.goes last)) }

pub returns-in_err-now-in-Ok-clause-closes : goal.returns-in_err-now-in-Ok-clause-closes
returns-in_err-now-in-Ok-clause-closes g c =
    closes_stopped _ _ _ _ _ _ _ _ c.from_residual-in_err-now-in-Ok.ensures.1 (sym c.in_err-now-in-Ok.ensures)
    (λ last. rw (c.loop-now.invariant.0 last, c.in-Host.is) (rw c.in-Ok.is at (c.call_host.ensures.goes last)))

pub returns-in_err-now-in-Ok-clause-keeps : goal.returns-in_err-now-in-Ok-clause-keeps
returns-in_err-now-in-Ok-clause-keeps g c =
    λ begun. kept_stopped _ _ _ _ _ c.from_residual-in_err-now-in-Ok.ensures.1 (sym c.in_err-now-in-Ok.ensures)
    (rw c.in-Ok.is at (c.call_host.ensures.keeps (c.loop-now.invariant.1 begun)))

pub loop-now-preserved-in-Ok : goal.loop-now-preserved-in-Ok
loop-now-preserved-in-Ok g c = (
  λ last. rw (c.loop-now.invariant.0 last, c.in-Host.is) (goes_on last _ _ _ _ _ (sym c.in_ok-now-in-Ok.ensures) (rw c.in-Ok.is at (c.call_host.ensures.goes last))),
  λ begun. kept_on _ _ _ _ (sym c.in_ok-now-in-Ok.ensures) (rw c.in-Ok.is at (c.call_host.ensures.keeps (c.loop-now.invariant.1 begun))),
)

pub loop-now-smaller-in-Ok : goal.loop-now-smaller-in-Ok
loop-now-smaller-in-Ok g c =
    let less = lighter _ _ _ _ (sym c.in_ok-now-in-Ok.ensures) (rw c.in-Ok.is at c.call_host.ensures.light) in
    rw c.in-Host.is (omega (arith, less))
