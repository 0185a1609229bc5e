use Rattle.std.specs.Prelude.{Ok}
use Rattle.std.proofs.lemmas.Result.{err_from_is_err_and}
use Rattle.library_calls.specs.Finding.{seen_asked}
use Rattle.library_calls.proofs.Found.{all_read, no_names, no_script, no_url}
use Rattle.library_calls.proofs.Reading.{stops}
use Rattle.library_calls.proofs.find.found.Goals as goal

pub returns-in_err-zone : goal.returns-in_err-zone
returns-in_err-zone c = λ all agrees.
    let p = err_from_is_err_and c.from_residual.result c.from_residual.ensures.1 in
    rw (p.1, p.2) (stops _ _ _ c.in_err-zone.ensures)

pub returns-in_err-script : goal.returns-in_err-script
returns-in_err-script c = λ all agrees.
    let p = err_from_is_err_and c.from_residual-in_err-script.result c.from_residual-in_err-script.ensures.1 in
    rw (p.1, p.2) (no_script all c.args.script.now c.args.url.now c.args.names.now c.args.settings.now c.in_ok-zone.zone c.in_err-script.field-0.0 c.in_ok-zone.ensures c.in_err-script.ensures.reads)

pub returns-in_err-known : goal.returns-in_err-known
returns-in_err-known c = λ all agrees.
    let p = err_from_is_err_and c.from_residual-in_err-known.result c.from_residual-in_err-known.ensures.1 in
    rw (p.1, p.2) (no_names all c.args.script.now c.args.url.now c.args.names.now c.args.settings.now c.in_ok-zone.zone c.in_ok-script.script c.in_err-known.field-0.0 c.in_ok-zone.ensures c.in_ok-script.ensures.reads c.in_err-known.ensures)

pub returns-in_err-asked : goal.returns-in_err-asked
returns-in_err-asked c = λ all agrees.
    let p = err_from_is_err_and c.from_residual-in_err-asked.result c.from_residual-in_err-asked.ensures.1 in
    rw (p.1, p.2)
    (no_url all c.args.script.now c.args.url.now c.args.names.now c.args.settings.now c.in_ok-zone.zone c.in_ok-script.script c.in_ok-known.known c.in_err-asked.field-0.0
    c.in_ok-zone.ensures c.in_ok-script.ensures.reads c.in_ok-known.ensures c.in_err-asked.ensures)

pub returns : goal.returns
returns c = λ all agrees.
    all_read all c.args.script.now c.args.url.now c.args.names.now c.args.settings.now c.in_ok-zone.zone c.in_ok-script.script c.in_ok-known.known (seen_asked c.in_ok-asked.asked) (Ok c.in_ok-told.told)
    c.in_ok-zone.ensures c.in_ok-script.ensures.reads c.in_ok-known.ensures c.in_ok-asked.ensures
    (c.in_ok-told.ensures all (agrees _ c.in_ok-known.ensures))
