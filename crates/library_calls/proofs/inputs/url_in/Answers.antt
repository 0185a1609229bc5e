use Rattle.std.proofs.Common.{◌∙◌, ap, sym}
use Rattle.batch_text.specs.View.{view_of}
use Rattle.library_calls.specs.Inputs.{seen_or_told}
use Rattle.library_calls.proofs.Urls.{isnt_read, of_no_text, of_text}
use Rattle.library_calls.proofs.inputs.url_in.Goals as goal

pub returns-in_default : goal.returns-in_default
returns-in_default c =
    of_no_text c.args.bytes.now c.in_default.ensures.cases.0 ∙ ap isnt_read c.in_ok-refused_url.ensures

pub returns-in-Ok-view : goal.returns-in-Ok-view
returns-in-Ok-view c =
    of_text c.args.bytes.now c.in-Ok.ensures.cases.1 ∙ ap (λ text. seen_or_told (view_of text)) (sym c.in-Ok.ensures.cases.0)
    ∙ ap seen_or_told c.in-Ok-view.ensures
