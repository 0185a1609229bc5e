-- Parts of evaluation that have one end, ask for lookup names alone and go alike without a clock, and the words of its
-- state.
use Rattle.std.proofs.Common.{refl, ℕ, List, Bool, true, false, if◌then◌else◌, Option, Some, Result, Ok, Err}
use Rattle.std.specs.Prelude.{◌-◌, length, nat_lt, codes}
use Rattle.js_tree.specs.declared.place.Place.{Place}
use Rattle.js_pattern_reader.specs.Literal.{Literal}
use Rattle.heap_values.specs.declared.answer.HeapAnswer.{HeapAnswer}
use Rattle.heap_values.specs.declared.ids.Kind.{Kind}
use Rattle.heap_values.specs.declared.ids.Kind.TheVariants as kind
use Rattle.heap_values.specs.declared.ids.ObjectId.{ObjectId}
use Rattle.heap_values.specs.declared.ids.ScopeId.{ScopeId}
use Rattle.heap_values.specs.declared.built_in.BuiltIn.{BuiltIn}
use Rattle.heap_values.specs.declared.built_in.BuiltIn.TheVariants as built_in
use Rattle.heap_values.specs.declared.value.Value.{Value}
use Rattle.heap_values.specs.declared.value.Value.TheVariants.{Text, Object}
use Rattle.heap_values.specs.Views.{HeapView}
use Rattle.object_heap.specs.Heap.{made_of, pattern_made_of, scope_made_of, text_spent_of}
use Rattle.run_trees.specs.Runs.{pure, abrupt, halt, reading, changing, ◌>>=◌, ◌>>◌, with_last, catching, breaking, turning, returning}
use Rattle.run_trees.specs.OneEnd.{HasOneEnd}
use Rattle.run_trees.proofs.Ending.{one_end-ends, one_end-halt, one_end-next, one_end-with_last, one_end-reading, one_end-changing, one_end-if, one_end-catching, one_end-breaking, one_end-turning, one_end-returning}
use Rattle.js_evaluation.specs.declared.fault.FaultCode.{FaultCode}
use Rattle.js_evaluation.specs.declared.fault.FaultCode.TheVariants as code
use Rattle.js_evaluation.specs.declared.thrown.Thrown.{Thrown}
use Rattle.js_evaluation.specs.State.{RunState, Faults, Stop, Does, fault, charges, with_heap, made, changed, make, make_pattern, make_scope, define, write_slot, spend, test_text, built_in_object, throw, throw_error, throw_type_error}
use Rattle.js_evaluation.specs.declared.fault.Fault.{Fault}
use Rattle.js_law_evaluation.proofs.Asking.{KeepsToLookupNames, asking-ends, asking-halt, asking-next, asking-with_last, asking-reading, asking-changing, asking-if, asking-catching, asking-breaking, asking-turning, asking-returning}
use Rattle.js_law_evaluation.proofs.Clocks.{GoesAlike, SeesNoClock, KeepsClock, alike-ends, alike-halt, alike-next, alike-with_last, alike-reading, alike-changing, alike-if, alike-catching, alike-breaking, alike-turning, alike-returning}
use Rattle.utf16_text.specs.declared.limits.TheConstants.{LONGEST_TEXT}

-- ---- parts in general

-- A part has one end; and where what comes after it does, it asks for lookup names alone, and goes alike without a clock.
pub record Ends {A : Type 0} (part : Does A) : Type 0 where
  pub one_end : HasOneEnd part
  pub asks : KeepsToLookupNames part
  pub alike : GoesAlike part

pub gives : {A : Type 0} (value : A) → Ends (pure value)
gives value = record { one_end = one_end-ends (Ok value); asks = asking-ends (Ok value); alike = alike-ends (Ok value) }

pub stops : {A : Type 0} (stop : Stop) → Ends {A = A} (abrupt stop)
stops stop = record { one_end = one_end-ends (Err stop); asks = asking-ends (Err stop); alike = alike-ends (Err stop) }

pub halts : {A : Type 0} (f : Fault) → Ends {A = A} (halt (Faults f))
halts f = record { one_end = one_end-halt (Faults f); asks = asking-halt (Faults f); alike = alike-halt f }

pub fails : {A : Type 0} (code : FaultCode) (place : Place) → Ends {A = A} (fault code place)
fails code place = halts _

pub changes : (change : RunState → RunState) → KeepsClock change → Ends (changing change)
changes change keeps =
    record { one_end = one_end-changing change; asks = asking-changing change; alike = alike-changing change keeps }

pub reads : {A : Type 0} {part : RunState → Does A} → SeesNoClock part → ((state : RunState) → Ends (part state)) → Ends (reading part)
reads {part = part} same has =
    record {
      one_end = one_end-reading part (λ state. (has state).one_end);
      asks = asking-reading part (λ state. (has state).asks);
      alike = alike-reading part same (λ state. (has state).alike);
    }

infixl 10 ◌onto◌
pub ◌onto◌ : {A B : Type 0} {part : Does A} {next : A → Does B} → Ends part → ((value : A) → Ends (next value)) → Ends (part >>= next)
◌onto◌ {part = part} {next = next} before has =
    record {
      one_end = one_end-next part next before.one_end (λ value. (has value).one_end);
      asks = asking-next part next before.asks (λ value. (has value).asks);
      alike = alike-next part next before.alike (λ value. (has value).alike);
    }

infixl 10 ◌then◌
pub ◌then◌ : {A B : Type 0} {part : Does A} {next : Does B} → Ends part → Ends next → Ends (part >> next)
before then has = before onto (λ _. has)

pub either : {A : Type 0} (b : Bool) {one other : Does A} → Ends one → Ends other → Ends (if b then one else other)
either b {one = one} {other = other} has has_other =
    record {
      one_end = one_end-if b one other has.one_end has_other.one_end;
      asks = asking-if b one other has.asks has_other.asks;
      alike = alike-if b one other has.alike has_other.alike;
    }

-- ---- parts that take an abrupt end

pub ends_with_last : {A B : Type 0} (part : Does A) (last : Does B) → Ends part → Ends last → Ends (with_last part last)
ends_with_last part last before has =
    record {
      one_end = one_end-with_last part last before.one_end has.one_end;
      asks = asking-with_last part last before.asks has.asks;
      alike = alike-with_last part last before.alike has.alike;
    }

pub catches : {A : Type 0} (part : Does A) (handler : Thrown → Does A) → Ends part → ((thrown : Thrown) → Ends (handler thrown))
    → Ends (catching part handler)
catches part handler before has =
    record {
      one_end = one_end-catching part handler before.one_end (λ thrown. (has thrown).one_end);
      asks = asking-catching part handler before.asks (λ thrown. (has thrown).asks);
      alike = alike-catching part handler before.alike (λ thrown. (has thrown).alike);
    }

pub breaks : {A : Type 0} (nothing : A) (is_here : Unit {0} → Bool) (part : Does A) → Ends part
    → Ends (breaking nothing is_here part)
breaks nothing is_here part before =
    record {
      one_end = one_end-breaking nothing is_here part before.one_end;
      asks = asking-breaking nothing is_here part before.asks;
      alike = alike-breaking nothing is_here part before.alike;
    }

pub turns : {A : Type 0} (nothing : A) (is_here : Unit {0} → Bool) (body next : Does A) → Ends body → Ends next
    → Ends (turning nothing is_here body next)
turns nothing is_here body next before has =
    record {
      one_end = one_end-turning nothing is_here body next before.one_end has.one_end;
      asks = asking-turning nothing is_here body next before.asks has.asks;
      alike = alike-turning nothing is_here body next before.alike has.alike;
    }

pub returns : (nothing : Value) (body : Does Value) → Ends body → Ends (returning nothing body)
returns nothing body before =
    record {
      one_end = one_end-returning nothing body before.one_end;
      asks = asking-returning nothing body before.asks;
      alike = alike-returning nothing body before.alike;
    }

-- ---- the words of the state

pub charges-ends : (n : ℕ) (place : Place) → Ends (charges n place)
charges-ends n place = reads (λ m s. refl) (λ s. either (nat_lt s.fuel n) (fails code.FuelSpent place) (changes (λ t. record t { fuel = t.fuel - n }) (λ m s. (refl, refl))))

pub with_heap-ends : (h : HeapView) → Ends (with_heap h)
with_heap-ends h = changes _ (λ m s. (refl, refl))

pub made-ends : {A : Type 0} (place : Place) (result : Result (A × HeapView) HeapAnswer) → Ends (made place result)
made-ends place (Ok x) = with_heap-ends x.1 then gives x.0
made-ends place (Err e) = fails _ place

pub changed-ends : (place : Place) (result : Result HeapView HeapAnswer) → Ends (changed place result)
changed-ends place (Ok h) = with_heap-ends h
changed-ends place (Err e) = fails _ place

pub make-ends : (k : Kind) (prototype : Option ObjectId) (place : Place) → Ends (make k prototype place)
make-ends k prototype place = reads (λ m s. refl) (λ s. made-ends place (made_of s.heap k prototype))

pub make_pattern-ends : (l : Literal) (place : Place) → Ends (make_pattern l place)
make_pattern-ends l place = reads (λ m s. refl) (λ s. made-ends place (pattern_made_of s.heap l (Some (built_in_object built_in.PatternPrototype))))

pub make_scope-ends : (size : ℕ) (around : ScopeId) (place : Place) → Ends (make_scope size around place)
make_scope-ends size around place = reads (λ m s. refl) (λ s. made-ends place (scope_made_of s.heap size (Some around)))

pub define-ends : (object : ObjectId) (name : List ℕ) (v : Value) (listed deletable : Bool) (place : Place)
    → Ends (define object name v listed deletable place)
define-ends object name v listed deletable place = reads (λ m s. refl) (λ s. changed-ends place _)

pub write_slot-ends : (scope : ScopeId) (slot : ℕ) (v : Value) → Ends (write_slot scope slot v)
write_slot-ends scope slot v = changes _ (λ m s. (refl, refl))

pub spend-ends : (text : List ℕ) (place : Place) → Ends (spend text place)
spend-ends text place = reads (λ m s. refl) (λ s. changed-ends place (text_spent_of s.heap (length text)))

pub test_text-ends : (text : List ℕ) (place : Place) → Ends (test_text text place)
test_text-ends text place = either (nat_lt LONGEST_TEXT (length text)) (fails code.StringTooLong place) (gives tt)

pub throw-ends : {A : Type 0} (v : Value) (place : Place) → Ends {A = A} (throw v place)
throw-ends v place = stops _

pub throw_error-ends : {A : Type 0} (prototype : BuiltIn) (message : List ℕ) (place : Place)
    → Ends {A = A} (throw_error prototype message place)
throw_error-ends prototype message place =
    test_text-ends message place then (make-ends kind.Error (Some (built_in_object prototype)) place onto (λ error.
    define-ends error (codes "message") (Text message) false true place then throw-ends (Object error) place))

pub throw_type_error-ends : {A : Type 0} (message : List ℕ) (place : Place) → Ends {A = A} (throw_type_error message place)
throw_type_error-ends message place = throw_error-ends built_in.TypeErrorPrototype message place
