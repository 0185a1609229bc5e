use Rattle.std.specs.Prelude.{codes}
use Rattle.std.proofs.lemmas.Result.{err_from_is_err_and}
use Rattle.pac_plan.specs.Plan.{read}
use Rattle.pac_command.specs.Names.{names_then}
use Rattle.pac_command.proofs.Stepping.{step_then}
use Rattle.pac_command.proofs.inputs.read_names_file.Goals as goal

pub returns-in_err-bytes : goal.returns-in_err-bytes
returns-in_err-bytes g c =
    let p = err_from_is_err_and c.from_residual.result c.from_residual.ensures.1 in
    rw (p.1, p.2) (λ o next. c.in_err-bytes.ensures.step o (λ bytes. names_then bytes next))

pub returns : goal.returns
returns g c =
    step_then (read (codes "names") c.args.name.now) (λ bytes. names_then bytes) _ _ _ c.in_ok-bytes.bytes.items c.answers_in.result
    c.in_ok-bytes.ensures.step (rw c.deref.ensures.value at (c.answers_in.ensures (g.F.Files.state c.read_file.new.files)))
