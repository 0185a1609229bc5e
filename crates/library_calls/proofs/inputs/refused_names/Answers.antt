use Rattle.std.proofs.Common.{ℕ, List, ◌∙◌, ◌++◌, ◌∷◌, [], append_assoc, sym, ap}
use Rattle.std.specs.Prelude.{codes}
use Rattle.std.specs.Fmt.{decimal}
use Rattle.pac_command.specs.Names as commands
use Rattle.library_calls.specs.declared.told.Status.TheVariants.{BadNames}
use Rattle.library_calls.specs.Told.{Told}
use Rattle.library_calls.proofs.inputs.refused_names.Goals as goal

abbrev refused : List ℕ → Told
refused bytes = record { status = BadNames; bytes = bytes }

pub returns : goal.returns
returns c =
    let number = decimal c.args.number in
    let name = commands.names_kind c.args.kind in
    sym (ap (λ v. refused v.items) c.into_bytes.ensures.value
    ∙ ap refused c.in_ok-line.ensures.ok
    ∙ ap (λ word. refused (codes "refused names " ++ (number ++ 32 ∷ (word ++ 10 ∷ [])))) c.names_kind-name.ensures
    ∙ ap (λ rest. refused (codes "refused names " ++ rest)) (sym (append_assoc number (32 ∷ name) (10 ∷ [])))
    ∙ ap (λ rest. refused (codes "refused names " ++ (rest ++ 10 ∷ []))) (sym (append_assoc number (32 ∷ []) name)))
