use Rattle.std.proofs.Common.{ap, arith, map, refl, ◌+◌, ◌∙◌, ◌≤◌}
use Rattle.stub_poller.specs.State.{dying}
use Rattle.poll_loop.specs.Events.{event_of}
use Rattle.session_core.specs.declared.session.Session.{Session}
use Rattle.session_core.specs.Lookups.{found_at, told_name}
use Rattle.session_core.specs.Sessions.{count_woken}
use Rattle.session_core.proofs.Drawing.{at_error, gave_none}
use Rattle.session_core.proofs.Turning.{cascades_keep, ended_keeps, step_fails, stepped_beat, stepped_none}
use Rattle.session_core.proofs.events.take_event.Goals as goal

pub returns-then-not-count-clause-ok : goal.returns-then-not-count-clause-ok
returns-then-not-count-clause-ok g c task turns s =
    stepped_none _ _ _ _ _ _ _ _ _ _ _ _ _ _ _ _ _ c.in_ok-told.ensures.told c.in_ok-told.ensures.heard c.in_ok-asked.ensures.ok c.in_ok-asked.ensures.ran c.in_ok-sent.ensures c.count.ensures.beat c.count.ensures.counted task turns s c.if-not-count.true

pub returns-clause-ok : goal.returns-clause-ok
returns-clause-ok g c task turns s =
    stepped_beat _ _ _ _ _ _ _ _ _ _ _ _ _ _ _ _ _ c.in_ok-told.ensures.told c.in_ok-told.ensures.heard c.in_ok-asked.ensures.ok c.in_ok-asked.ensures.ran c.in_ok-sent.ensures c.count.ensures.beat c.count.ensures.counted task turns s c.if-not-count.false _ _ _ _
    c.in_ok-again.ensures.again c.in_ok-again.ensures.stub c.in_ok-again.ensures.sessions c.in_ok-append.ensures.items

pub returns-in_err-told-clause-memory : goal.returns-in_err-told-clause-memory
returns-in_err-told-clause-memory g c =
    let few : c.args.runs.now ≤ c.args.runs.now + count_woken (told_name (found_at (event_of c.args.event) c.args.lookups.now.stub)) c.args.roster.now.all.items = omega arith in
    at_error c.from_residual.result (step_fails _ _ _ _ _ _ _ _ _ _ refl (gave_none _) few)

pub returns-in_err-asked-clause-memory : goal.returns-in_err-asked-clause-memory
returns-in_err-asked-clause-memory g c =
    at_error c.from_residual-in_err-asked.result (step_fails _ _ _ _ _ _ _ _ _ _ c.in_ok-told.ensures.told c.in_err-asked.ensures.memory c.rerun.ensures.most)

pub returns-in_err-sent-clause-memory : goal.returns-in_err-sent-clause-memory
returns-in_err-sent-clause-memory g c =
    at_error c.from_residual-in_err-sent.result (step_fails _ _ _ _ _ _ _ _ _ _ c.in_ok-told.ensures.told (_, c.in_ok-asked.ensures.ok.drew) c.rerun.ensures.most)

pub returns-in_err-again-clause-memory : goal.returns-in_err-again-clause-memory
returns-in_err-again-clause-memory g c =
    at_error c.from_residual-in_err-again.result (step_fails _ _ _ _ _ _ _ _ _ _ c.in_ok-told.ensures.told (_, c.in_ok-asked.ensures.ok.drew) c.rerun.ensures.most)

pub returns-in_err-append-clause-memory : goal.returns-in_err-append-clause-memory
returns-in_err-append-clause-memory g c =
    at_error c.from_residual-in_err-append.result (step_fails _ _ _ _ _ _ _ _ _ _ c.in_ok-told.ensures.told (_, c.in_ok-asked.ensures.ok.drew) c.rerun.ensures.most)

pub returns-then-not-count-clause-kept : goal.returns-then-not-count-clause-kept
returns-then-not-count-clause-kept g c = cascades_keep _ _ _ _ _ _ _ _ _ _ c.in_ok-asked.ensures.ok

pub returns-clause-kept : goal.returns-clause-kept
returns-clause-kept g c =
    ap (map (λ (s : Session g.row.R.Denot g.row.R-Outcome.Denot). s.run)) c.in_ok-again.ensures.sessions
    ∙ ended_keeps (dying c.rerun.new.lookups.stub) c.rerun.new.roster.all.items ∙ cascades_keep _ _ _ _ _ _ _ _ _ _ c.in_ok-asked.ensures.ok
