-- What comes after a part of a run that is asked for its value or for what it refers to.
use Rattle.std.specs.Prelude.{Ok, Err}
use Rattle.heap_values.specs.declared.value.Value.{Value}
use Rattle.heap_values.specs.declared.value.Value.TheVariants as value
use Rattle.run_trees.specs.RunTree.{RunTree}
use Rattle.run_trees.specs.Runs.{After}
use Rattle.js_evaluation.specs.State.{RunState, RunEnd, Stop, Does, AfterValue}
use Rattle.js_evaluation.specs.Parts.{Reference}

-- what is made of a value and of an abrupt end, and what of a reference
pub record Rest : Type 0 where
  pub given : AfterValue
  pub referred : Reference → RunState → RunTree RunEnd

-- the same of a reference and of an abrupt end
abbrev pub after_reference : Rest → After RunState Stop RunEnd Reference
after_reference rest (Ok r) = rest.referred r
after_reference rest (Err stop) = rest.given (Err stop)

-- where a value is waited for; a reference comes up in no run
abbrev pub waits_for_value : AfterValue → Rest
waits_for_value after = record { given = after; referred = λ r. after (Ok value.Undefined) }

-- a part of a run that gives a value or a reference, whatever comes after it
abbrev pub DoesEither : Type 0
DoesEither = Rest → RunState → RunTree RunEnd

abbrev pub giving : Does Value → DoesEither
giving part = λ rest. part rest.given

abbrev pub referring : Does Reference → DoesEither
referring part = λ rest. part (after_reference rest)

-- a value goes to the next part; an abrupt end passes it
abbrev pub either_after : {A : Type 0} → (A → DoesEither) → Rest → After RunState Stop RunEnd A
either_after next rest (Ok v) = next v rest
either_after next rest (Err stop) = rest.given (Err stop)

infixl 10 ◌>=>◌
abbrev pub ◌>=>◌ : {A : Type 0} → Does A → (A → DoesEither) → DoesEither
part >=> next = λ rest. part (either_after next rest)
