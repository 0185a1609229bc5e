use Rattle.std.proofs.Common.{sym}
use Rattle.js_expressions.proofs.Binary.{takes_else}
use Rattle.js_expressions.proofs.operators.takes_primitives.Goals as goal

pub returns-in-Equal : goal.returns-in-Equal
returns-in-Equal c = λ call. rw c.in-Equal.is (c.is_compared.ensures call)

pub returns-in-NotEqual : goal.returns-in-NotEqual
returns-in-NotEqual c = λ call. rw c.in-NotEqual.is (c.is_compared-in-NotEqual.ensures call)

pub returns-in_default : goal.returns-in_default
returns-in_default c = λ call. sym (takes_else call _ _ _ c.in_default.not-StrictEqual c.in_default.not-StrictNotEqual c.in_default.not-Equal c.in_default.not-NotEqual)
