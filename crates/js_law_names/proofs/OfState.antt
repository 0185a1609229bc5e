-- The words of the state.
use Rattle.std.proofs.Common.{◌≡◌, refl, sym, ◌∙◌, ap, ℕ, ◌+◌, List, Bool, true, false, Option, Some, Result, Ok, Err}
use Rattle.std.specs.Prelude.{◌-◌, length, nat_lt, slice_get, codes}
use Rattle.js_tree.specs.declared.place.Place.{Place}
use Rattle.utf16_text.specs.declared.limits.TheConstants.{LONGEST_TEXT}
use Rattle.js_pattern_reader.specs.Literal.{Literal}
use Rattle.heap_values.specs.declared.answer.HeapAnswer.{HeapAnswer}
use Rattle.heap_values.specs.declared.ids.Kind.{Kind}
use Rattle.heap_values.specs.declared.ids.Kind.TheVariants as kind
use Rattle.heap_values.specs.declared.ids.ObjectId.{ObjectId}
use Rattle.heap_values.specs.declared.ids.ScopeId.{ScopeId}
use Rattle.heap_values.specs.declared.built_in.BuiltIn.{BuiltIn}
use Rattle.heap_values.specs.declared.built_in.BuiltIn.TheVariants as built_in
use Rattle.heap_values.specs.declared.value.Value.{Value}
use Rattle.heap_values.specs.declared.value.Value.TheVariants.{Text, Object}
use Rattle.heap_values.specs.Views.{HeapView}
use Rattle.heap_objects.specs.Object.{value_property}
use Rattle.object_heap.specs.Heap.{kind_in, made_of, pattern_made_of, stored, text_spent_of}
use Rattle.object_heap.specs.declared.limits.TheConstants.{MOST_TEXT}
use Rattle.run_trees.specs.Runs.{changing}
use Rattle.js_evaluation.specs.declared.fault.FaultCode.TheVariants as fault_code
use Rattle.js_evaluation.specs.State.{RunState, charges, made, changed, make, make_pattern, define, write_slot, spend, test_text, built_in_object, throw, throw_error, throw_type_error}
use Rattle.js_law_right.specs.Right.{Setting}
use Rattle.js_law_names.proofs.Steady.{Leads, itself, beside, made_leads, pattern_made_leads, stored_steady, leads_if}
use Rattle.js_law_names.proofs.Worlds.{Later, Fine, shape_later, written_kept, length_with, kinds_with}
use Rattle.js_law_names.proofs.Agreeing.{Agrees, Now, gives, stops, fails, sees, sees_now, heap_now, only_heap_now, halts_now, changes, ◌onto◌, ◌then◌, either}

spent_leads : (h : HeapView) (n : ℕ) → Leads itself h (text_spent_of h n)
spent_leads h n = leads_if itself h (nat_lt LONGEST_TEXT n) _ _ tt (leads_if itself h (nat_lt MOST_TEXT (h.units + n)) _ _ tt (record { scopes = refl; functions = λ i n scope e. e }))

module _ {setting : ℕ → Setting} where
  spends : {z : RunState} (n : ℕ)
      → Agrees setting z (changing (λ t. record t { fuel = t.fuel - n })) (changing (λ t. record t { fuel = t.fuel - n }))
  spends n = changes _ _ (λ t f. (record { kept = λ i x around h. h }, record { counts = f.counts; closures = f.closures }, refl))

  pub charges-agrees : {z : RunState} (n : ℕ) (place : Place) → Agrees setting z (charges n place) (charges n place)
  charges-agrees n place = sees (λ z _l _f. either (nat_lt z.fuel n) (fails fault_code.FuelSpent place) (spends n)) (λ z. refl)

  pub made_now : {A : Type 0} {z : RunState} (place : Place) (result : Result (A × HeapView) HeapAnswer)
      → Leads beside z.heap result → Fine setting z
      → Now setting z (made place result) (made place result)
  made_now place (Ok x) h f = heap_now x.1 h f (gives x.0)
  made_now place (Err e) h f = halts_now _

  pub changed_now : {z : RunState} (place : Place) (result : Result HeapView HeapAnswer) → Leads itself z.heap result
      → Fine setting z
      → Now setting z (changed place result) (changed place result)
  changed_now place (Ok g) h f = only_heap_now g h f
  changed_now place (Err e) h f = halts_now _

  pub make-agrees : {z : RunState} (k : Kind) (prototype : Option ObjectId) (place : Place)
      → ((n : ℕ) (scope : ScopeId) → k ≡ kind.Function n scope → ⊥)
      → Agrees setting z (make k prototype place) (make k prototype place)
  make-agrees k prototype place other = sees_now (λ z _l f. made_now place (made_of z.heap k prototype) (made_leads z.heap k prototype other) f) (λ z. refl)

  pub make_pattern-agrees : {z : RunState} (l : Literal) (place : Place)
      → Agrees setting z (make_pattern l place) (make_pattern l place)
  make_pattern-agrees l place =
      let prototype : Option ObjectId = Some (built_in_object built_in.PatternPrototype) in
      sees_now (λ z _l f. made_now place (pattern_made_of z.heap l prototype) (pattern_made_leads z.heap l prototype) f) (λ z. refl)

  pub define-agrees : {z : RunState} (object : ObjectId) (name : List ℕ) (v : Value) (listed deletable : Bool) (place : Place)
      → Agrees setting z (define object name v listed deletable place) (define object name v listed deletable place)
  define-agrees object name v listed deletable place =
      sees_now (λ z _l f. changed_now place (stored z.heap object name v (λ _. value_property v listed deletable)) (stored_steady z.heap object name v _) f) (λ z. refl)

  pub write_slot-agrees : {z : RunState} (scope : ScopeId) (slot : ℕ) (v : Value)
      → Agrees setting z (write_slot scope slot v) (write_slot scope slot v)
  write_slot-agrees scope slot v = changes _ _ (λ t f.
      let o = slice_get t.heap.scopes scope.0 in
      let l : Later t _ = record { kept = λ j x around h. written_kept t.names t.heap scope slot v j x around h } in (
        l,
        record {
          counts = f.counts ∙ sym (length_with t.heap scope.0 o slot v);
          closures = λ id n i k. shape_later t _ i (setting n).around l (f.closures id n i (ap (λ os. kind_in (slice_get os id)) (sym (kinds_with t.heap scope.0 o slot v)) ∙ k));
        },
        refl,
      ))

  pub spend-agrees : {z : RunState} (text : List ℕ) (place : Place) → Agrees setting z (spend text place) (spend text place)
  spend-agrees text place = sees_now (λ z _l f. changed_now place (text_spent_of z.heap (length text)) (spent_leads z.heap (length text)) f) (λ z. refl)

  pub test_text-agrees : {z : RunState} (text : List ℕ) (place : Place)
      → Agrees setting z (test_text text place) (test_text text place)
  test_text-agrees text place = either (nat_lt LONGEST_TEXT (length text)) (fails fault_code.StringTooLong place) (gives tt)

  pub throw-agrees : {A : Type 0} {z : RunState} (v : Value) (place : Place)
      → Agrees setting {A = A} z (throw v place) (throw v place)
  throw-agrees v place = stops _

  pub throw_error-agrees : {A : Type 0} {z : RunState} (prototype : BuiltIn) (message : List ℕ) (place : Place)
      → Agrees setting {A = A} z (throw_error prototype message place) (throw_error prototype message place)
  throw_error-agrees prototype message place =
      test_text-agrees message place then (make-agrees kind.Error (Some (built_in_object prototype)) place (λ n i e. cc) onto (λ error.
      define-agrees error (codes "message") (Text message) false true place then throw-agrees (Object error) place))

  pub throw_type_error-agrees : {A : Type 0} {z : RunState} (message : List ℕ) (place : Place)
      → Agrees setting {A = A} z (throw_type_error message place) (throw_type_error message place)
  throw_type_error-agrees message place = throw_error-agrees built_in.TypeErrorPrototype message place
