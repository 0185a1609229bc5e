-- Names and scopes by names. A scope is a lexical environment: a record of names, each with a value, and the scope
-- around it (ECMA-262 5.1, section 10.2). Its values stand in the heap, and its names beside it, in the same order.
-- Where a name is bound in the resolved script isn't looked at.
use Rattle.std.specs.Prelude.{false, ℕ, zero, suc, List, [], ◌∷◌, ◌++◌, length, slice_get, Option, Some, None, Result, Ok, Err, if◌then◌else◌}
use Rattle.std.specs.Str.{bytes_eq}
use Rattle.js_tree.specs.declared.place.Place.{Place}
use Rattle.js_tree.specs.declared.bound.BoundName.{BoundName}
use Rattle.js_tree.specs.Tree.{FunctionTree, a_function}
use Rattle.js_binding.specs.Names.{names_of}
use Rattle.js_binding.specs.Scopes.{Scope, named, itself, place_of}
use Rattle.heap_values.specs.declared.answer.HeapAnswer.{HeapAnswer}
use Rattle.heap_values.specs.declared.ids.ScopeId.{ScopeId}
use Rattle.heap_values.specs.declared.value.Value.{Value}
use Rattle.heap_values.specs.declared.value.Value.TheVariants.{Undefined, Bool as Truth, Object}
use Rattle.heap_values.specs.Views.{HeapView}
use Rattle.object_heap.specs.Heap.{parent_in, scope_at, slot_of, scope_made_of, found_of}
use Rattle.run_trees.specs.Runs.{pure, reading, changing, ◌>>◌}
use Rattle.js_evaluation.specs.State.{RunState, Does, fault, heap_fault, write_slot}
use Rattle.js_evaluation.specs.Objects.{Context, global_id, global_value, found_value, put_on, delete_property}

-- ---- a look-up (8.7, 10.2.2.1)

-- Where a name stands in a run, which is the base of its reference: in this place of this scope; in this scope as the
-- own name of a function expression, whose binding is immutable (10.2.1.1.7); or in the global object, which may not
-- have it: then the reference is unresolvable.
pub data Standing : Type 0 where
  in_scope : ScopeId → ℕ → Standing
  in_own : ScopeId → Standing
  in_global : Standing

-- in this place of the scope, where it has the name, or else what is found further out
abbrev pub place_or : ScopeId → Option ℕ → Standing → Standing
place_or i None further = further
place_or i (Some slot) further = in_scope i slot

abbrev pub found_in : ScopeId → Option Scope → List ℕ → Standing → Standing
found_in i None x further = further
found_in i (Some (named names)) x further = place_or i (place_of x names) further
found_in i (Some (itself y)) x further = if bytes_eq x y then in_own i else further

-- A name is looked up in a scope, and then in the scope around it; behind the outermost, which has no names, stands the
-- global object (10.2.3). No scope has as many scopes around it as there are scopes. The standard finds the place of a
-- name once, before what is written is evaluated; no name comes into a scope or leaves it, so it is the same.
abbrev pub found_from : ℕ → List Scope → HeapView → Option ScopeId → List ℕ → Standing
found_from zero names h o x = in_global
found_from (suc n) names h None x = in_global
found_from (suc n) names h (Some i) x = found_in i (slice_get names i.0) x (found_from n names h (parent_in (scope_at h i)) x)

abbrev pub standing : RunState → ScopeId → List ℕ → Standing
standing s scope x = found_from (length s.names) s.names s.heap (Some scope) x

-- ---- reads and writes (8.7.1, 8.7.2)

abbrev pub read_at : List ℕ → Place → Standing → Does Value
read_at x place (in_scope scope slot) = reading (λ s. pure (slot_of s.heap scope slot))
read_at x place (in_own scope) = reading (λ s. pure (slot_of s.heap scope 0))
read_at x place in_global = reading (λ s. global_value x (found_of s.heap global_id x) place)

abbrev pub read_name : Context → BoundName → Place → Does Value
read_name cx x place = reading (λ s. read_at x.name place (standing s cx.scope x.name))

-- what `typeof` reads: undefined for a name that stands for nothing (11.4.3)
abbrev pub read_or_undefined_at : List ℕ → Place → Standing → Does Value
read_or_undefined_at x place in_global = reading (λ s. found_value Undefined (found_of s.heap global_id x) place)
read_or_undefined_at x place at = read_at x place at

abbrev pub read_or_undefined : Context → BoundName → Place → Does Value
read_or_undefined cx x place = reading (λ s. read_or_undefined_at x.name place (standing s cx.scope x.name))

-- the own name of a function keeps its value (10.2.1.1.3, 13)
abbrev pub write_at : List ℕ → Value → Place → Standing → Does (Unit {0})
write_at x v place (in_scope scope slot) = write_slot scope slot v
write_at x v place (in_own scope) = pure tt
write_at x v place in_global = put_on global_id x v place

abbrev pub write_name : Context → BoundName → Value → Place → Does (Unit {0})
write_name cx x v place = reading (λ s. write_at x.name v place (standing s cx.scope x.name))

-- names of scopes stay (10.2.1.1.5, 11.4.1)
abbrev pub delete_at : List ℕ → Place → Standing → Does Value
delete_at x place in_global = delete_property (Object global_id) x place
delete_at x place at = pure (Truth false)

abbrev pub delete_name : Context → BoundName → Place → Does Value
delete_name cx x place = reading (λ s. delete_at x.name place (standing s cx.scope x.name))

-- ---- new scopes (10.2.2.2)

abbrev pub size_of : Scope → ℕ
size_of (named names) = length names
size_of (itself x) = 1

-- a new scope with these names, each undefined
abbrev pub scoped : Scope → Place → Result (ScopeId × HeapView) HeapAnswer → Does ScopeId
scoped names place (Ok made) = changing (λ s. record s { heap = made.1; names = s.names ++ names ∷ [] }) >> pure made.0
scoped names place (Err e) = fault (heap_fault e) place

abbrev pub make_scope : Scope → ScopeId → Place → Does ScopeId
make_scope names around place = reading (λ s. scoped names place (scope_made_of s.heap (size_of names) (Some around)))

-- the names of the scope of a function (10.5)
abbrev pub own_names : FunctionTree → List (List ℕ)
own_names (a_function own parameters names body) = names_of parameters body
