use Rattle.std.proofs.lemmas.Result.{err_from_is_err_and}
use Rattle.pac_plan.proofs.GivesUp.{gives_up}
use Rattle.memory_talk.proofs.Answering.{answering}
use Rattle.pac_command.specs.Generate.{generate_plan}
use Rattle.pac_command.proofs.Generated.{refuses, script_fits, sums}
use Rattle.pac_command.proofs.generate.generate.Goals as goal

-- for want of memory
pub returns-in_err-input : goal.returns-in_err-input
returns-in_err-input g c = λ o.
    let p = err_from_is_err_and c.from_residual.result c.from_residual.ensures.1 in
    rw p.1 (gives_up answering (generate_plan c.args.generating.seed c.args.generating.sites) _)

pub returns : goal.returns
returns g c = λ o. gives_up answering (generate_plan c.args.generating.seed c.args.generating.sites) _

pub read_script-requires : goal.read_script-requires
read_script-requires g c = rw c.in_ok-input.ensures script_fits

pub sum_script-requires-clause-read : goal.sum_script-requires-clause-read
sum_script-requires-clause-read g c = (_, c.in-Ok.ensures)

pub returns-in-Ok : goal.returns-in-Ok
returns-in-Ok g c = λ o.
    sums c.args.generating.seed c.args.generating.sites c.in-Ok.script _ _ _ (rw c.in_ok-input.ensures at c.in-Ok.ensures) (c.sum_script.ensures o)

pub returns-in-Err-Refused : goal.returns-in-Err-Refused
returns-in-Err-Refused g c = λ o.
    refuses c.args.generating.seed c.args.generating.sites (c.in-Err-Refused.kind, c.in-Err-Refused.place) _ _
    (rw (c.in-Err-Refused.field-0-is, c.in_ok-input.ensures) at c.in-Err-Refused.ensures) (rw c.in-Err-Refused.field-0-is at c.refused_script.ensures)
