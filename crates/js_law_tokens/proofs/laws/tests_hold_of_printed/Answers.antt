use Rattle.std.proofs.Common.{◌≡◌, true}
use Rattle.js_law_tokens.proofs.KeptTokens.{holds_of_printed}
use Rattle.js_law_tokens.proofs.laws.tests_hold_of_printed.Goals as goal

pub returns : goal.returns
returns c = λ test. holds_of_printed (λ k. test k ≡ true)
