use Rattle.std.proofs.Common.{ℕ, ◌≤◌, Option, sym, subst}
use Rattle.std.specs.Prelude.{IfSome}
use Rattle.text_builtins.proofs.Placing.{place_up_to-le}
use Rattle.text_builtins.proofs.places.last_index_of.Goals as goal
use Rattle.utf16_text.specs.declared.limits.TheConstants.{LONGEST_TEXT}

pub number_of-requires : goal.number_of-requires
number_of-requires c =
    let P : Option ℕ → Type 0 = λ o. IfSome o (λ at. at ≤ LONGEST_TEXT) in
    subst P (sym c.rfind.ensures) (place_up_to-le _ _ _ LONGEST_TEXT c.requires)
