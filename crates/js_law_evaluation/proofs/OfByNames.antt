-- Names and scopes by names have one end and ask for lookup names alone.
use Rattle.std.proofs.Common.{refl, ℕ, List, false, Some, Result, Ok, Err}
use Rattle.js_tree.specs.declared.place.Place.{Place}
use Rattle.js_tree.specs.declared.bound.BoundName.{BoundName}
use Rattle.js_binding.specs.Scopes.{Scope}
use Rattle.heap_values.specs.declared.answer.HeapAnswer.{HeapAnswer}
use Rattle.heap_values.specs.declared.ids.ScopeId.{ScopeId}
use Rattle.heap_values.specs.declared.value.Value.{Value}
use Rattle.heap_values.specs.declared.value.Value.TheVariants.{Undefined, Bool as Truth, Object}
use Rattle.heap_values.specs.Views.{HeapView}
use Rattle.object_heap.specs.Heap.{slot_of, scope_made_of, found_of}
use Rattle.js_evaluation.specs.Objects.{Context, global_id}
use Rattle.js_evaluation.specs.ByNames.{Standing, in_scope, in_own, in_global, standing, read_at, read_name, read_or_undefined_at, read_or_undefined, write_at, write_name, delete_at, delete_name, size_of, scoped, make_scope}
use Rattle.js_law_evaluation.proofs.OfState.{Ends, gives, fails, changes, reads, ◌then◌, write_slot-ends}
use Rattle.js_law_evaluation.proofs.OfObjects.{found_value-ends, put_on-ends, delete_property-ends, global_value-ends}

-- ---- names

read_at-ends : (x : List ℕ) (place : Place) (at : Standing) → Ends (read_at x place at)
read_at-ends x place (in_scope scope slot) = reads (λ m s. refl) (λ s. gives (slot_of s.heap scope slot))
read_at-ends x place (in_own scope) = reads (λ m s. refl) (λ s. gives (slot_of s.heap scope 0))
read_at-ends x place in_global = reads (λ m s. refl) (λ s. global_value-ends x (found_of s.heap global_id x) place)

pub read_name-ends : (cx : Context) (x : BoundName) (place : Place) → Ends (read_name cx x place)
read_name-ends cx x place = reads (λ m s. refl) (λ s. read_at-ends x.name place (standing s cx.scope x.name))

read_or_undefined_at-ends : (x : List ℕ) (place : Place) (at : Standing) → Ends (read_or_undefined_at x place at)
read_or_undefined_at-ends x place in_global = reads (λ m s. refl) (λ s. found_value-ends Undefined (found_of s.heap global_id x) place)
read_or_undefined_at-ends x place at = read_at-ends x place at

pub read_or_undefined-ends : (cx : Context) (x : BoundName) (place : Place) → Ends (read_or_undefined cx x place)
read_or_undefined-ends cx x place = reads (λ m s. refl) (λ s. read_or_undefined_at-ends x.name place (standing s cx.scope x.name))

write_at-ends : (x : List ℕ) (v : Value) (place : Place) (at : Standing) → Ends (write_at x v place at)
write_at-ends x v place (in_scope scope slot) = write_slot-ends scope slot v
write_at-ends x v place (in_own scope) = gives tt
write_at-ends x v place in_global = put_on-ends global_id x v place

pub write_name-ends : (cx : Context) (x : BoundName) (v : Value) (place : Place) → Ends (write_name cx x v place)
write_name-ends cx x v place = reads (λ m s. refl) (λ s. write_at-ends x.name v place (standing s cx.scope x.name))

delete_at-ends : (x : List ℕ) (place : Place) (at : Standing) → Ends (delete_at x place at)
delete_at-ends x place in_global = delete_property-ends (Object global_id) x place
delete_at-ends x place at = gives (Truth false)

pub delete_name-ends : (cx : Context) (x : BoundName) (place : Place) → Ends (delete_name cx x place)
delete_name-ends cx x place = reads (λ m s. refl) (λ s. delete_at-ends x.name place (standing s cx.scope x.name))

-- ---- scopes

scoped-ends : (names : Scope) (place : Place) (result : Result (ScopeId × HeapView) HeapAnswer) → Ends (scoped names place result)
scoped-ends names place (Ok made) = changes _ (λ m s. (refl, refl)) then gives made.0
scoped-ends names place (Err e) = fails _ place

pub make_scope-ends : (names : Scope) (around : ScopeId) (place : Place) → Ends (make_scope names around place)
make_scope-ends names around place = reads (λ m s. refl) (λ s. scoped-ends names place (scope_made_of s.heap (size_of names) (Some around)))
