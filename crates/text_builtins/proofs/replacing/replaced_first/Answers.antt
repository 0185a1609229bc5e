use Rattle.std.proofs.Common.{◌≡◌, ℕ, List, Some, ap, ◌∙◌, subst}
use Rattle.std.specs.Prelude.{IfOk}
use Rattle.utf16_text.specs.Search.{place_from}
use Rattle.text_builtins.specs.declared.call.TextResult.{TextResult}
use Rattle.text_builtins.specs.Replacing.{replaced_at, replaced_first, replaced_in}
use Rattle.text_builtins.proofs.replacing.replaced_first.Goals as goal

replaced_at-first : (us part by text piece : List ℕ) (at : ℕ) → text ≡ us → piece ≡ part → Some at ≡ place_from us part 0
    → replaced_at text at piece by ≡ replaced_first us part by
replaced_at-first us part by text piece at e f found =
    ap (λ t. replaced_at t at piece by) e
    ∙ ap (λ p. replaced_at us at p by) f
    ∙ ap (λ o. replaced_in o us part by) found

pub returns-in-Some : goal.returns-in-Some
returns-in-Some c =
    let P : TextResult → Type 0 = λ t. IfOk c.replaced.result (λ r. r ≡ t) in
    let first = replaced_at-first c.args.receiver.now c.args.part.now c.args.by.now c.units.result.now c.units-in-Some.result.now c.in-Some.at
    c.units.ensures.value c.units-in-Some.ensures.value c.in-Some.ensures.place in
    subst P first c.replaced.ensures
