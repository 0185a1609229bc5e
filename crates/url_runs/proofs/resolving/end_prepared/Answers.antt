use Rattle.std.proofs.Common.{[], map, refl}
use Rattle.js_interp.specs.Answers.{entry_of}
use Rattle.pac_plan.specs.Plan.{around, unfinished}
use Rattle.poll_log.specs.Turns.{turns_of}
use Rattle.poll_loop.proofs.Kept.{not_begun}
use Rattle.url_runs.specs.Runs.{program_runs}
use Rattle.url_runs.proofs.AllEnds.{have_ended}
use Rattle.url_runs.proofs.Ending.{for_urls, urls_end}
use Rattle.url_runs.proofs.resolving.end_prepared.Goals as goal

pub returns-in_default : goal.returns-in_default
returns-in_default g c = λ o. (unfinished, [], not_begun _ _)

pub returns-in-Ok-run_all : goal.returns-in-Ok-run_all
returns-in-Ok-run_all g c = λ o.
    let ended = c.in-Ok-run_all.ensures.ok (around o (g.N.Link.state c.args.link.now) (g.D.Dice.told c.args.dice.now) c.args.runs.now) refl refl refl in
    have_ended c.args.upstream (program_runs c.args.program.now.program.now) (map entry_of c.args.entries.items) _ _ ended.0 _ c.ends_of.result
    (for_urls c.args.upstream (program_runs c.args.program.now.program.now) c.args.entries.items c.in-Ok.all.items c.in-Ok.ensures ended.1)
    (λ answers holds. urls_end (program_runs c.args.program.now.program.now) c.args.upstream.terms (turns_of ended.0) answers holds c.args.entries.items c.in-Ok.all.items c.in-Ok-run_all.sessions.items c.in-Ok.ensures ended.2)
    c.ends_of.ensures.ends c.ends_of.ensures.memory

pub returns-in-Err-Link : goal.returns-in-Err-Link
returns-in-Err-Link g c = λ o.
    let ended = c.in-Err-Link.ensures.fault (cc) (around o (g.N.Link.state c.args.link.now) (g.D.Dice.told c.args.dice.now) c.args.runs.now) refl refl refl in
    (ended.0, for_urls c.args.upstream (program_runs c.args.program.now.program.now) c.args.entries.items c.in-Ok.all.items c.in-Ok.ensures ended.1)

pub returns-in-Err-Memory : goal.returns-in-Err-Memory
returns-in-Err-Memory g c = λ o.
    let ended = c.in-Err-Memory.ensures.memory (cc) (around o (g.N.Link.state c.args.link.now) (g.D.Dice.told c.args.dice.now) c.args.runs.now) refl refl refl in
    (unfinished, ended.0, for_urls c.args.upstream (program_runs c.args.program.now.program.now) c.args.entries.items c.in-Ok.all.items c.in-Ok.ensures ended.1)
