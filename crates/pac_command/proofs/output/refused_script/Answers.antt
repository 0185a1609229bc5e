use Rattle.std.proofs.Common.{◌∙◌, ◌++◌, ◌∷◌, [], append_assoc, sym, ap}
use Rattle.std.specs.Prelude.{codes}
use Rattle.std.specs.Fmt.{decimal}
use Rattle.pac_plan.specs.declared.status.Status.TheVariants.{Refused}
use Rattle.report_text.specs.Report.{place_text}
use Rattle.pac_command.specs.Scripts as scripts
use Rattle.pac_command.proofs.output.refused_script.Goals as goal

pub returns : goal.returns
returns c =
    let place = place_text c.args.place in
    let name = scripts.kind_name c.args.kind in
    ap (λ v. record { status = Refused; text = v.items }) c.into_bytes.ensures.value
    ∙ ap (λ bytes. record { status = Refused; text = bytes }) c.in_ok-text.ensures.ok
    ∙ ap (λ text. record { status = Refused; text = codes "refused script " ++ (text ++ 32 ∷ (c.kind_name-name.result.now ++ 10 ∷ [])) }) (sym (append_assoc (decimal c.args.place.line) (58 ∷ []) (decimal c.args.place.column)))
    ∙ ap (λ word. record { status = Refused; text = codes "refused script " ++ (place ++ 32 ∷ (word ++ 10 ∷ [])) }) c.kind_name-name.ensures
    ∙ ap (λ rest. record { status = Refused; text = codes "refused script " ++ rest }) (sym (append_assoc place (32 ∷ name) (10 ∷ [])))
    ∙ ap (λ rest. record { status = Refused; text = codes "refused script " ++ (rest ++ 10 ∷ []) }) (sym (append_assoc place (32 ∷ []) name))
