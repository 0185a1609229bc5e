use Rattle.std.proofs.Common.{◌<◌, ◌∙◌, ap, arith, get_or, length, length-set}
use Rattle.std.proofs.lemmas.List.{get_or_default}
use Rattle.session_core.specs.declared.session.Progress.TheVariants.{Unanswered}
use Rattle.session_core.specs.declared.session.Session.{Session}
use Rattle.session_core.proofs.Waits.{ended_more}
use Rattle.session_core.proofs.beats.end_all.Goals as goal

pub loop-place-preserved : goal.loop-place-preserved
loop-place-preserved g c =
    let places = c.args.places.now in
    let i = c.loop-place.place-index in
    let place = get_or places i 0 in
    let within : place < length c.args.sessions.now = c.requires i 0 c.loop-place-test.true in
    let inside : place < length c.loop-place.sessions = omega (arith, c.loop-place.invariant.long) in
    record {
      long = length-set c.loop-place.sessions place c.end_one.new.session ∙ c.loop-place.invariant.long;
      ended = ended_more c.args.name.now c.args.sessions.now c.loop-place.sessions places i place c.end_one.new.session c.loop-place-test.true (get_or_default places i 0 place c.loop-place-test.true) within c.loop-place.invariant.long c.loop-place.invariant.ended
          (λ d. c.end_one.ensures ∙ ap (λ (x : Session g.row.R.Denot g.row.O.Denot). record x { progress = Unanswered c.args.name.now }) (get_or_default c.loop-place.sessions place c.index-sessions-place.result d inside));
    }
