use Rattle.std.proofs.Common.{refl}
use Rattle.js_native_calls.proofs.Steps.{gives_value}
use Rattle.js_expressions.proofs.References.{gives_reference}
use Rattle.js_expressions.proofs.suffixes.behind_suffixes.Goals as goal

pub returns-in-Value : goal.returns-in-Value
returns-in-Value c = λ m this. rw c.in-Value.is (gives_value m _ _ refl)

pub returns-in-Target : goal.returns-in-Target
returns-in-Target c = λ m this. rw c.in-Target.is (gives_reference m _ _ c.none.ensures)
