use Rattle.std.proofs.lemmas.Result.{IfOk-weaker}
use Rattle.session_core.proofs.OneRun.{settles_done, settles_missing}
use Rattle.session_core.proofs.settling.settle.Goals as goal

pub returns-in-Done-clause-ok : goal.returns-in-Done-clause-ok
returns-in-Done-clause-ok g c = settles_done _ _ _ _ _ _ (c.in-Done.ensures.answer _ c.new-host.ensures)

pub returns-in-Missing-clause-ok : goal.returns-in-Missing-clause-ok
returns-in-Missing-clause-ok g c =
    IfOk-weaker c.await_name.result _ _ (λ settled w. settles_missing _ _ _ _ _ _ _ _ settled (c.in-Missing.ensures.answer _ c.new-host.ensures) w) c.await_name.ensures.ok
