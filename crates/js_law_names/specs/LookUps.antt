-- The names of a run by names are those of scopes as the standard has them: a scope is an environment record, which is
-- a list of names, each with its value, and has a scope around it (ECMA-262 5.1, sections 10.2.1 and 10.2.2.1).
use Rattle.std.specs.Prelude.{◌≡◌, false, ℕ, zero, suc, List, [], ◌∷◌, length, slice_get, Option, Some, None, if◌then◌else◌}
use Rattle.std.specs.Str.{bytes_eq}
use Rattle.js_tree.specs.declared.place.Place.{Place}
use Rattle.js_tree.specs.declared.bound.BoundName.{BoundName}
use Rattle.js_binding.specs.Scopes.{Scope, named, itself}
use Rattle.heap_values.specs.declared.ids.ScopeId.{ScopeId}
use Rattle.heap_values.specs.declared.value.Value.{Value}
use Rattle.heap_values.specs.declared.value.Value.TheVariants.{Undefined, Bool as Truth, Object}
use Rattle.heap_values.specs.Views.{ScopeView, HeapView}
use Rattle.object_heap.specs.Heap.{scope_at, parent_in, slot_at, found_of}
use Rattle.run_trees.specs.Runs.{pure, reading}
use Rattle.js_evaluation.specs.State.{RunState, Does}
use Rattle.js_evaluation.specs.Objects.{Context, global_id, global_value, found_value, delete_property}
use Rattle.js_evaluation.specs.ByNames.{read_name, read_or_undefined, delete_name}

-- ---- scopes and look-ups

-- a list of names, each with its value
abbrev pub Pairs : Type 0
Pairs = List (List ℕ × Value)

-- A scope with the scopes around it, or the end of them, behind which stands the global object. A scope has its number,
-- so that one that stands around several is known as the same. The scope of a function expression's own name has one
-- pair, whose value stays (10.2.1.1.7, 13).
pub data Environment : Type 0 where
  no_scope : Environment
  a_scope : ScopeId → Pairs → Environment → Environment
  own_scope : ScopeId → List ℕ × Value → Environment → Environment

-- the value of a name in a list, or what is found further out
abbrev pub value_or : Option Value → List ℕ → Pairs → Option Value
value_or further x [] = further
value_or further x (pair ∷ pairs) = if bytes_eq x pair.0 then Some pair.1 else value_or further x pairs

-- the value of a name in the innermost scope that has it
abbrev pub look_up : List ℕ → Environment → Option Value
look_up x no_scope = None
look_up x (a_scope i pairs around) = value_or (look_up x around) x pairs
look_up x (own_scope i pair around) = value_or (look_up x around) x (pair ∷ [])

-- ---- the scopes of a state

-- these names, each with the value of its slot, from this slot on
abbrev pub pairs_from : Option ScopeView → ℕ → List (List ℕ) → Pairs
pairs_from view slot [] = []
pairs_from view slot (x ∷ xs) = (x, slot_at view slot) ∷ pairs_from view (suc slot) xs

-- a scope of the heap with its names
abbrev pub scope_of : ScopeId → Option ScopeView → Option Scope → Environment → Environment
scope_of i view None around = a_scope i [] around
scope_of i view (Some (named names)) around = a_scope i (pairs_from view 0 names) around
scope_of i view (Some (itself x)) around = own_scope i (x, slot_at view 0) around

-- A scope of the heap, and those around it. No scope has as many scopes around it as there are scopes.
abbrev pub environment_from : ℕ → List Scope → HeapView → Option ScopeId → Environment
environment_from zero names h scope = no_scope
environment_from (suc n) names h None = no_scope
environment_from (suc n) names h (Some i) =
    scope_of i (scope_at h i) (slice_get names i.0) (environment_from n names h (parent_in (scope_at h i)))

abbrev pub environment_of : RunState → ScopeId → Environment
environment_of s scope = environment_from (length s.names) s.names s.heap (Some scope)

-- ---- reads (8.7.1)

-- a value that was found; where no scope has the name, the global object's property, or a ReferenceError without one
abbrev pub found_or_global : Option Value → List ℕ → Place → Does Value
found_or_global (Some v) x place = pure v
found_or_global None x place = reading (λ s. global_value x (found_of s.heap global_id x) place)

-- In each state, and in whatever scope code runs, what is read by a name is what a look-up finds.
abbrev pub ReadsAreLookUps : Type 0
ReadsAreLookUps = (cx : Context) (x : BoundName) (place : Place)
    → read_name cx x place ≡ reading (λ s. found_or_global (look_up x.name (environment_of s cx.scope)) x.name place)

-- ---- what `typeof` asks (11.4.3)

-- a value that was found; where no scope has the name, the global object's property, or undefined without one
abbrev pub found_or_undefined : Option Value → List ℕ → Place → Does Value
found_or_undefined (Some v) x place = pure v
found_or_undefined None x place = reading (λ s. found_value Undefined (found_of s.heap global_id x) place)

-- What `typeof` asks of a name is what a look-up finds.
abbrev pub TypesAreLookUps : Type 0
TypesAreLookUps = (cx : Context) (x : BoundName) (place : Place) → read_or_undefined cx x place
    ≡ reading (λ s. found_or_undefined (look_up x.name (environment_of s cx.scope)) x.name place)

-- ---- `delete` of a name (11.4.1)

-- false for a name that was found; where no scope has it, the global object's property is deleted
abbrev pub kept_or_global : Option Value → List ℕ → Place → Does Value
kept_or_global (Some v) x place = pure (Truth false)
kept_or_global None x place = delete_property (Object global_id) x place

-- A name that a look-up finds stays.
abbrev pub DeletesAreLookUps : Type 0
DeletesAreLookUps = (cx : Context) (x : BoundName) (place : Place) → delete_name cx x place
    ≡ reading (λ s. kept_or_global (look_up x.name (environment_of s cx.scope)) x.name place)
