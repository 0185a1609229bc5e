use Rattle.std.proofs.Common.{rules, ◌≡◌, ℕ, ◌≤◌, List, length, subst}
use Rattle.std.specs.Fmt.{signed_decimal}
use Rattle.whole_number.proofs.DigitLemmas.{text_fits}
use Rattle.whole_number.proofs.whole.Whole.write_text.Goals as goal

pub write_front-requires : goal.write_front-requires
write_front-requires c =
    let Fits : List ℕ → Type 0 = λ text. length text ≤ 17 in
    let text : signed_decimal c.self.inside.value ≡ c.as_bytes-text.result.now = search rules in
    subst Fits text (text_fits c.self.inside.value c.self.invariant)
