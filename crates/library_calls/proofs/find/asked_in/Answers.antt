use Rattle.std.proofs.Common.{rules, FitsSigned, w64, to_z-of_z}
use Rattle.library_calls.proofs.Found.{asked_is}
use Rattle.library_calls.proofs.find.asked_in.Goals as goal

pub returns : goal.returns
returns c =
    let fits : FitsSigned w64 c.args.settings.now.moment = search rules in
    asked_is c.args.settings.now c.args.zone c.args.script c.args.url.now c.in_ok-seen.seen
    (record { program = c.in_ok-program.program; batch = c.in_ok-batch.batch; entry = c.in_ok-entry.entry })
    c.requires c.in_ok-seen.ensures c.in_ok-program.ensures (rw (to_z-of_z fits) at c.in_ok-batch.ensures) c.in_ok-entry.ensures
