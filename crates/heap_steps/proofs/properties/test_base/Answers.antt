use Rattle.std.proofs.Common.{refl}
use Rattle.heap_steps.proofs.properties.test_base.Goals as goal

pub returns-in-Undefined : goal.returns-in-Undefined
returns-in-Undefined c = rw c.in-Undefined.is c.throw_type_error.ensures

pub returns-in-Null : goal.returns-in-Null
returns-in-Null c = rw c.in-Null.is c.throw_type_error-in-Null.ensures

pub returns-in-Bool : goal.returns-in-Bool
returns-in-Bool c = record { is = λ after fuel beside. rw c.in-Bool.is refl }

pub returns-in-Number : goal.returns-in-Number
returns-in-Number c = record { is = λ after fuel beside. rw c.in-Number.is refl }

pub returns-in-Text : goal.returns-in-Text
returns-in-Text c = record { is = λ after fuel beside. rw c.in-Text.is refl }

pub returns-in-Object : goal.returns-in-Object
returns-in-Object c = record { is = λ after fuel beside. rw c.in-Object.is refl }
