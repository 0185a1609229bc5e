use Rattle.std.proofs.Common.{refl}
use Rattle.session_core.proofs.Drawing.{at_error}
use Rattle.session_core.proofs.Start.{began}
use Rattle.session_core.proofs.poller.Core.start.Goals as goal

pub returns-clause-ok : goal.returns-clause-ok
returns-clause-ok g c old d r =
    rw c.in_ok-sent.ensures
    (began g.R.Run.gives g.R.Run.tree c.args.terms (record { waits = c.requires.waits; wait = c.requires.wait; tried = c.requires.tried; tries = c.requires.tries })
    c.args.all.items c.new-lookups.result _ _ _ _ c.new-lookups.ensures refl c.in_ok-begun.ensures.ok g.met.R.Run.named _ _ c.in_ok-begun.ensures.ran old d r)

pub returns-clause-sessions : goal.returns-clause-sessions
returns-clause-sessions g c = c.in_ok-begun.ensures.ok.runs_are

pub returns-in_err-sent-clause-memory : goal.returns-in_err-sent-clause-memory
returns-in_err-sent-clause-memory g c = at_error c.from_residual-in_err-sent.result (_, c.in_ok-begun.ensures.ok.drew)
