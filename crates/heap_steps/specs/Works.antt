-- What the parts of a rule that visit nothing do to the heap.
use Rattle.std.specs.Prelude.{◌≡◌, ℕ, List, [], ◌++◌, Bool, true, false, not, Option, Some, None, Result, Ok, Err, codes}
use Rattle.js_tree.specs.declared.place.Place.{Place}
use Rattle.heap_values.specs.declared.answer.HeapAnswer.{HeapAnswer}
use Rattle.heap_values.specs.declared.answer.HeapAnswer.TheVariants as heap
use Rattle.heap_values.specs.declared.built_in.BuiltIn.TheVariants as built_in
use Rattle.heap_values.specs.declared.ids.ObjectId.{ObjectId}
use Rattle.heap_values.specs.declared.value.Value.{Value}
use Rattle.heap_values.specs.declared.value.Value.TheVariants as value
use Rattle.heap_values.specs.Views.{HeapView}
use Rattle.run_trees.specs.declared.abrupt.Abrupt.TheVariants as ending
use Rattle.run_trees.specs.RunTree.{Done}
use Rattle.run_trees.specs.Runs.{After, reading}
use Rattle.pac_calendar.specs.declared.moment.Moments.{Moments}
use Rattle.pac_functions.specs.declared.call.PacSettings.{PacSettings}
use Rattle.js_evaluation.specs.declared.fault.FaultCode.{FaultCode}
use Rattle.js_evaluation.specs.declared.fault.FaultCode.TheVariants as code
use Rattle.js_evaluation.specs.declared.fault.Fault.{Fault}
use Rattle.js_convert.specs.declared.answer.ConvertAnswer.{ConvertAnswer}
use Rattle.js_convert.specs.declared.answer.ConvertAnswer.TheVariants as convert
use Rattle.js_evaluation.specs.State.{RunState, RunEnd, Faults, Stop, Does, throw_error}
use Rattle.heap_objects.specs.declared.marks.Marks.{Marks}
use Rattle.js_evaluation.specs.Objects.{global_id, global_value, deleted_unless, is_callable}
use Rattle.object_heap.specs.Heap.{found_of, object_at, own_found_in}
use Rattle.heap_steps.specs.declared.halt.Halt.{Halt}
use Rattle.heap_steps.specs.declared.halt.Halt.TheVariants as halt

-- what a state has beside its heap and its fuel
pub record Beside : Type 0 where
  pub now : Option Moments
  pub settings : PacSettings

abbrev pub state_with : HeapView → ℕ → Beside → RunState
state_with heap fuel beside =
    record { heap = heap; fuel = fuel; now = beside.now; settings = beside.settings; names = [] }

abbrev pub plain_fault : FaultCode → Place → Fault
plain_fault code place = record { code = code; place = place; detail = [] }

abbrev pub left_out : List ℕ → Place → Fault
left_out name place = record { code = code.Unsupported; place = place; detail = name }

-- The part does this to the heap, whatever comes after it: it gives a value, throws or ends the run.
abbrev pub Worked : {A : Type 0} → Does A → HeapView → Result A Halt → HeapView → Type 0
Worked {A} part h (Ok v) h' = (after : After RunState Stop RunEnd A) (fuel : ℕ) (beside : Beside)
    → part after (state_with h fuel beside) ≡ after (Ok v) (state_with h' fuel beside)
Worked {A} part h (Err (halt.Throw thrown)) h' = (after : After RunState Stop RunEnd A) (fuel : ℕ) (beside : Beside)
    → part after (state_with h fuel beside) ≡ after (Err (ending.Thrown thrown)) (state_with h' fuel beside)
Worked {A} part h (Err (halt.Fault c place)) h' = (after : After RunState Stop RunEnd A) (fuel : ℕ) (beside : Beside)
    → part after (state_with h fuel beside) ≡ Done (Faults (plain_fault c place))
Worked {A} part h (Err (halt.LeftOut name place)) h' = (after : After RunState Stop RunEnd A) (fuel : ℕ) (beside : Beside)
    → part after (state_with h fuel beside) ≡ Done (Faults (left_out name place))
Worked part h (Err halt.Memory) h' = Unit {0}

pub record Works {A : Type 0} (part : Does A) (h : HeapView) (r : Result A Halt) (h' : HeapView) : Type 0 where
  pub is : Worked part h r h'

-- the same of a part that leaves the heap as it is
abbrev pub Tests : {A : Type 0} → Does A → Result A Halt → Type 0
Tests part r = (h : HeapView) → Works part h r h

-- the value that the global object has under a name
abbrev pub global_read : List ℕ → Place → Does Value
global_read name place = reading (λ s. global_value name (found_of s.heap global_id name) place)

-- what a refusal of the heap comes to
abbrev pub refusal : HeapAnswer → Place → Halt
refusal heap.StringTooLong place = halt.Fault code.StringTooLong place
refusal heap.TextSpent place = halt.Fault code.TextSpent place
refusal heap.ArrayTooLong place = halt.Fault code.ArrayTooLong place
refusal heap.HeapFull place = halt.Fault code.HeapFull place
refusal heap.BadLength place = halt.Fault code.ArrayTooLong place
refusal heap.Memory place = halt.Memory

-- what a refusal of an operator comes to
abbrev pub operator_refusal : ConvertAnswer → Place → Halt
operator_refusal convert.NumberRange place = halt.Fault code.NumberRange place
operator_refusal convert.Fraction place = halt.Fault code.Fraction place
operator_refusal convert.NotANumber place = halt.Fault code.NotANumber place
operator_refusal convert.DivisionByZero place = halt.Fault code.DivisionByZero place
operator_refusal convert.Memory place = halt.Memory

-- a name that stands for nothing is read
abbrev pub unknown : List ℕ → Place → Does Value
unknown name place = throw_error built_in.ReferenceErrorPrototype (name ++ codes " is not defined") place

-- a property of an object is deleted
abbrev pub deletion : ObjectId → List ℕ → Place → Does Value
deletion id name place = reading (λ s. deleted_unless (own_found_in (object_at s.heap id) name) id name place)

-- whether the object has a property of this name that can't be deleted
abbrev pub is_kept : Option Marks → Bool
is_kept None = false
is_kept (Some marks) = not marks.deletable

-- the object that a value is, where it can be called (9.11)
abbrev pub called_if : Bool → ObjectId → Option ObjectId
called_if true id = Some id
called_if false id = None

abbrev pub called_object : HeapView → Value → Option ObjectId
called_object h (value.Object id) = called_if (is_callable h (value.Object id)) id
called_object h v = None
