use Rattle.std.proofs.Common.{ℕ, List, ◌∙◌, ◌++◌, ◌∷◌, [], append_assoc, sym, ap}
use Rattle.std.specs.Prelude.{codes}
use Rattle.std.specs.Fmt.{decimal}
use Rattle.report_text.specs.Report.{place_text}
use Rattle.pac_command.specs.Scripts as scripts
use Rattle.library_calls.specs.declared.told.Status.TheVariants.{BadScript}
use Rattle.library_calls.specs.Told.{Told}
use Rattle.library_calls.proofs.inputs.refused_script.Goals as goal

abbrev refused : List ℕ → Told
refused bytes = record { status = BadScript; bytes = bytes }

pub returns : goal.returns
returns c =
    let place = place_text c.args.place in
    let name = scripts.kind_name c.args.kind in
    sym (ap (λ v. refused v.items) c.into_bytes.ensures.value
    ∙ ap refused c.in_ok-line.ensures.ok
    ∙ ap (λ text. refused (codes "refused script " ++ (text ++ 32 ∷ (c.script_kind-name.result.now ++ 10 ∷ [])))) (sym (append_assoc (decimal c.args.place.line) (58 ∷ []) (decimal c.args.place.column)))
    ∙ ap (λ word. refused (codes "refused script " ++ (place ++ 32 ∷ (word ++ 10 ∷ [])))) c.script_kind-name.ensures
    ∙ ap (λ rest. refused (codes "refused script " ++ rest)) (sym (append_assoc place (32 ∷ name) (10 ∷ [])))
    ∙ ap (λ rest. refused (codes "refused script " ++ (rest ++ 10 ∷ []))) (sym (append_assoc place (32 ∷ []) name)))
