use Rattle.std.proofs.Common.{◌≡◌, ◌+◌, ◌≤◌, [], arith, length, refl, subst, sym, ◌∙◌}
use Rattle.std.proofs.lemmas.List.{length-map}
use Rattle.pac_plan.specs.Plan.{around, unfinished}
use Rattle.pac_ports.specs.Link.{LinkState}
use Rattle.poll_log.specs.Turns.{turns_of}
use Rattle.poll_loop.specs.Talks.{Talked}
use Rattle.poll_log.specs.Sendings.{AreTerms}
use Rattle.session_log.specs.Asked.{job_of}
use Rattle.session_core.specs.Beginning.{run_jobs}
use Rattle.session_core.specs.Resolved.{talk_of}
use Rattle.session_core.proofs.Drawing.{GaveSome}
use Rattle.session_core.proofs.Start.{all_ended, all_named, not_sent}
use Rattle.session_core.proofs.resolving.run_all.Goals as goal

pub returns-in_default-clause-memory : goal.returns-in_default-clause-memory
returns-in_default-clause-memory g c e old l d r =
    let many : length (run_jobs g.R.Run.tree c.args.all.items) ≡ length c.args.all.items = length-map c.args.all.items (λ run. job_of (g.R.Run.tree run)) in
    let most : c.start.new.runs ≤ c.args.runs.now + length c.args.all.items = c.start.ensures.most in
    let terms : AreTerms c.args.upstream.terms = record { waits = c.requires.waits; wait = c.requires.wait; tried = c.requires.tried; tries = c.requires.tries } in
    let drew : GaveSome old.dice (g.D.Dice.told c.start.new.dice) = subst (λ x. GaveSome x (g.D.Dice.told c.start.new.dice)) (sym d) c.in_default.ensures.memory in (
      [],
      subst (λ (x : LinkState). Talked (talk_of c.args.upstream (run_jobs g.R.Run.tree c.args.all.items)) old unfinished [] (around old x (g.D.Dice.told c.start.new.dice) c.start.new.runs)) l
          (not_sent c.args.upstream (run_jobs g.R.Run.tree c.args.all.items) old terms (all_named g.R.Run.gives g.R.Run.tree g.met.R.Run.named c.args.all.items) (g.D.Dice.told c.start.new.dice) c.start.new.runs drew (omega arith)),
    )

pub returns-in-Ok-poll-clause-ok : goal.returns-in-Ok-poll-clause-ok
returns-in-Ok-poll-clause-ok g c old l d r =
    let polled = c.in-Ok-poll.ensures.polled (talk_of c.args.upstream (run_jobs g.R.Run.tree c.args.all.items)) old refl refl l (rw c.deref.ensures.value (c.in-Ok.ensures.ok old d r)) in
    (polled.0, polled.1, all_ended g.R.Run.gives g.R.Run.tree c.args.all.items _ _ c.args.upstream.terms (run_jobs g.R.Run.tree c.args.all.items) (turns_of polled.0) (c.in-Ok-poll.ensures.kept ∙ c.in-Ok.ensures.sessions) polled.2.stands polled.1.ends.polled.ended)

pub returns-in-Err-Link-clause-fault : goal.returns-in-Err-Link-clause-fault
returns-in-Err-Link-clause-fault g c e old l d r =
    rw c.in-Err-Link.field-0-is at (c.in-Err-Link.ensures.polled (talk_of c.args.upstream (run_jobs g.R.Run.tree c.args.all.items)) old refl refl l (rw c.deref.ensures.value (c.in-Ok.ensures.ok old d r)))

pub returns-clause-memory : goal.returns-clause-memory
returns-clause-memory g c e old l d r =
    rw c.in-Err-Memory.field-0-is at (c.in-Err-Memory.ensures.polled (talk_of c.args.upstream (run_jobs g.R.Run.tree c.args.all.items)) old refl refl l (rw c.deref.ensures.value (c.in-Ok.ensures.ok old d r)))
