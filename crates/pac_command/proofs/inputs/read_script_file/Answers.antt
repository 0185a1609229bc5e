use Rattle.std.specs.Prelude.{codes}
use Rattle.std.proofs.lemmas.Result.{err_from_is_err_and}
use Rattle.pac_plan.specs.Plan.{read}
use Rattle.pac_command.specs.Scripts.{script_then}
use Rattle.pac_command.proofs.Stepping.{step_then}
use Rattle.pac_command.proofs.inputs.read_script_file.Goals as goal

pub returns-in_err-bytes-clause-step : goal.returns-in_err-bytes-clause-step
returns-in_err-bytes-clause-step g c =
    let p = err_from_is_err_and c.from_residual.result c.from_residual.ensures.1 in
    rw (p.1, p.2) (λ o next. c.in_err-bytes.ensures.step o (λ bytes. script_then bytes next))

pub returns-clause-step : goal.returns-clause-step
returns-clause-step g c =
    step_then (read (codes "script") c.args.name.now) (λ bytes. script_then bytes) _ _ _ c.in_ok-bytes.bytes.items c.script_in.result
    c.in_ok-bytes.ensures.step (rw c.deref.ensures.value at (c.script_in.ensures.step (g.F.Files.state c.read_file.new.files)))
