-- The state of a run, how a run ends, and the words that its rules are written in. In the standard's words a text is a
-- String value, a native a built-in function, the kind of an object its [[Class]] and code, a listed property one that
-- is [[Enumerable]], and a deletable one is [[Configurable]]. A name that stands for nothing is an unresolvable
-- reference. No script can catch a fault.
use Rattle.std.specs.Prelude.{ℕ, ◌-◌, List, [], length, Bool, true, false, if◌then◌else◌, nat_lt, Option, Some, Result, Ok, Err, codes}
use Rattle.js_tree.specs.declared.place.Place.{Place}
use Rattle.js_binding.specs.Scopes.{Scope}
use Rattle.js_pattern_reader.specs.Literal.{Literal}
use Rattle.heap_values.specs.declared.answer.HeapAnswer.{HeapAnswer}
use Rattle.heap_values.specs.declared.answer.HeapAnswer.TheVariants as heap
use Rattle.heap_values.specs.declared.ids.Kind.{Kind}
use Rattle.heap_values.specs.declared.ids.Kind.TheVariants as kind
use Rattle.heap_values.specs.declared.ids.ObjectId.{ObjectId}
use Rattle.heap_values.specs.declared.ids.ScopeId.{ScopeId}
use Rattle.heap_values.specs.declared.built_in.BuiltIn.{BuiltIn}
use Rattle.heap_values.specs.declared.built_in.BuiltIn.TheVariants as built_in
use Rattle.heap_values.specs.declared.value.Value.{Value}
use Rattle.heap_values.specs.declared.value.Value.TheVariants.{Text, Object}
use Rattle.heap_values.specs.Views.{HeapView}
use Rattle.heap_objects.specs.Object.{value_property}
use Rattle.object_heap.specs.Fresh.{built_in_number}
use Rattle.object_heap.specs.Heap.{made_of, pattern_made_of, scope_made_of, stored, slot_written_of, text_spent_of}
use Rattle.pac_calendar.specs.declared.moment.Moments.{Moments}
use Rattle.pac_functions.specs.declared.call.PacSettings.{PacSettings}
use Rattle.js_evaluation.specs.declared.fault.Fault.{Fault}
use Rattle.js_evaluation.specs.declared.fault.FaultCode.{FaultCode}
use Rattle.js_evaluation.specs.declared.fault.FaultCode.TheVariants as code
use Rattle.js_evaluation.specs.declared.thrown.Thrown.{Thrown}
use Rattle.run_trees.specs.declared.abrupt.Abrupt.{Abrupt}
use Rattle.run_trees.specs.declared.abrupt.Abrupt.TheVariants as ending
use Rattle.run_trees.specs.Runs.{Run, After, pure, abrupt, halt, reading, changing, ◌>>=◌, ◌>>◌}
use Rattle.utf16_text.specs.declared.limits.TheConstants.{LONGEST_TEXT}

-- What a run has of its own: its heap and the fuel that is left. And what its script is told of its surroundings, which
-- no rule changes: what clocks show, but where a script is loaded for runs at any moment, and the settings of the
-- functions of the proxy format.
pub record RunState : Type 0 where
  pub heap : HeapView
  pub fuel : ℕ
  pub now : Option Moments
  pub settings : PacSettings
  -- the names of each scope of the heap, by the scope's number; empty in a run by slots
  pub names : List Scope

-- the state without the names of its scopes, so that a run by names and one by slots end with one state
abbrev pub nameless : RunState → RunState
nameless s = record s { names = [] }

-- a throw, a return, a break or a continue
abbrev pub Stop : Type 0
Stop = Abrupt Thrown Value (Unit {0})

-- A run comes to an end with its state, or it has a fault.
pub data RunEnd : Type 0 where
  Comes : Result Value Stop → RunState → RunEnd
  Faults : Fault → RunEnd

-- a part of a run that gives an A
abbrev pub Does : Type 0 → Type 0
Does A = Run RunState Stop RunEnd A

-- what comes after a part that gives a value
abbrev pub AfterValue : Type 0
AfterValue = After RunState Stop RunEnd Value

-- ---- faults

abbrev pub fault : {A : Type 0} → FaultCode → Place → Does A
fault c place = halt (Faults (record { code = c; place = place; detail = [] }))

-- a property or form that is left out, by its name
abbrev pub unsupported : {A : Type 0} → List ℕ → Place → Does A
unsupported name place = halt (Faults (record { code = code.Unsupported; place = place; detail = name }))

-- ---- fuel

-- so many units at once
abbrev pub charges : ℕ → Place → Does (Unit {0})
charges n place = reading (λ s. if nat_lt s.fuel n then fault code.FuelSpent place else changing (λ t. record t { fuel = t.fuel - n }))

abbrev pub charge : Place → Does (Unit {0})
charge place = charges 1 place

-- ---- the heap

abbrev pub with_heap : HeapView → Does (Unit {0})
with_heap h = changing (λ s. record s { heap = h })

-- what a refusal of the heap is as a fault; BadLength and Memory come from no call that is made so
abbrev pub heap_fault : HeapAnswer → FaultCode
heap_fault heap.StringTooLong = code.StringTooLong
heap_fault heap.TextSpent = code.TextSpent
heap_fault heap.ArrayTooLong = code.ArrayTooLong
heap_fault heap.HeapFull = code.HeapFull
heap_fault heap.BadLength = code.ArrayTooLong
heap_fault heap.Memory = code.HeapFull

abbrev pub made : {A : Type 0} → Place → Result (A × HeapView) HeapAnswer → Does A
made place (Ok x) = with_heap x.1 >> pure x.0
made place (Err e) = fault (heap_fault e) place

abbrev pub changed : Place → Result HeapView HeapAnswer → Does (Unit {0})
changed place (Ok h) = with_heap h
changed place (Err e) = fault (heap_fault e) place

abbrev pub built_in_object : BuiltIn → ObjectId
built_in_object which = record { 0 = built_in_number which }

-- a new object
abbrev pub make : Kind → Option ObjectId → Place → Does ObjectId
make k prototype place = reading (λ s. made place (made_of s.heap k prototype))

-- a new object for a pattern literal
abbrev pub make_pattern : Literal → Place → Does ObjectId
make_pattern l place = reading (λ s. made place (pattern_made_of s.heap l (Some (built_in_object built_in.PatternPrototype))))

-- a new scope of so many slots, each undefined
abbrev pub make_scope : ℕ → ScopeId → Place → Does ScopeId
make_scope size around place = reading (λ s. made place (scope_made_of s.heap size (Some around)))

-- a property that is listed or not and deletable or not, in place of one of that name
abbrev pub define : ObjectId → List ℕ → Value → Bool → Bool → Place → Does (Unit {0})
define object name v listed deletable place = reading (λ s. changed place (stored s.heap object name v (λ _. value_property v listed deletable)))

abbrev pub write_slot : ScopeId → ℕ → Value → Does (Unit {0})
write_slot scope slot v = changing (λ s. record s { heap = slot_written_of s.heap scope slot v })

-- the units of a text that is made are counted
abbrev pub spend : List ℕ → Place → Does (Unit {0})
spend text place = reading (λ s. changed place (text_spent_of s.heap (length text)))

-- a text that becomes a value and isn't counted must be short enough
abbrev pub test_text : List ℕ → Place → Does (Unit {0})
test_text text place = if nat_lt LONGEST_TEXT (length text) then fault code.StringTooLong place else pure tt

abbrev pub global_object : Value
global_object = Object (built_in_object built_in.Global)

-- ---- throws

abbrev pub throw : {A : Type 0} → Value → Place → Does A
throw v place = abrupt (ending.Thrown (record { value = v; place = place }))

-- An error of the engine's own (15.11): its message is tested, then the object and its message are made.
abbrev pub throw_error : {A : Type 0} → BuiltIn → List ℕ → Place → Does A
throw_error prototype message place = do
  _tested ← test_text message place
  error ← make kind.Error (Some (built_in_object prototype)) place
  _defined ← define error (codes "message") (Text message) false true place
  throw (Object error) place

abbrev pub throw_type_error : {A : Type 0} → List ℕ → Place → Does A
throw_type_error message place = throw_error built_in.TypeErrorPrototype message place
