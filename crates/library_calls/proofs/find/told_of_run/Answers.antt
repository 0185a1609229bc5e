use Rattle.std.proofs.Common.{subst, sym}
use Rattle.library_calls.specs.Finding.{seen_asked}
use Rattle.library_calls.specs.Told.{Told, Tells}
use Rattle.library_calls.proofs.Found.{ended, stopped}
use Rattle.library_calls.proofs.find.told_of_run.Goals as goal

pub returns-in-Done : goal.returns-in-Done
returns-in-Done c = λ all extends.
    subst (λ (told : Told). Tells told c.reported.result)
    (sym (ended all c.args.known.now (seen_asked c.args.asked.now) c.in-Done.outcome c.in-Done.ensures.0 extends c.in-Done.ensures.1)) c.reported.ensures

pub returns-in-Missing : goal.returns-in-Missing
returns-in-Missing c = λ all extends.
    subst (λ (told : Told). Tells told c.wanted.result)
    (sym (stopped all c.args.known.now (seen_asked c.args.asked.now) c.in-Missing.name c.in-Missing.ensures.0 extends c.in-Missing.ensures.1)) c.wanted.ensures
