-- What a write to a name, and a new scope, do to the scopes of a run (ECMA-262 5.1, sections 8.7.2 and 10.2.2.2).
use Rattle.std.specs.Prelude.{◌≡◌, Bool, true, false, ◌==◌, ℕ, suc, ◌<◌, List, [], ◌∷◌, ◌++◌, map, length, Option, Some, None, is_some, option_map, Ok, if◌then◌else◌}
use Rattle.std.specs.Str.{bytes_eq}
use Rattle.js_tree.specs.declared.place.Place.{Place}
use Rattle.js_tree.specs.declared.bound.BoundName.{BoundName}
use Rattle.js_binding.specs.Scopes.{Scope, named, itself}
use Rattle.heap_values.specs.declared.ids.ScopeId.{ScopeId}
use Rattle.heap_values.specs.declared.value.Value.{Value}
use Rattle.heap_values.specs.declared.value.Value.TheVariants.{Undefined}
use Rattle.heap_values.specs.Views.{ScopeView, HeapView}
use Rattle.object_heap.specs.Heap.{scope_at, parent_in, slot_of, scope_made_of}
use Rattle.run_trees.specs.Runs.{After, reading}
use Rattle.js_evaluation.specs.State.{RunState, RunEnd, Stop}
use Rattle.js_evaluation.specs.Objects.{Context, global_id, put_on}
use Rattle.js_evaluation.specs.ByNames.{Standing, in_scope, in_own, in_global, place_or, write_at, write_name, make_scope, size_of}
use Rattle.js_evaluation.specs.Scoping.{by_names}
use Rattle.js_evaluation.specs.Evaluation.{Entry, first_state}
use Rattle.js_law_names.specs.LookUps.{Pairs, Environment, no_scope, a_scope, own_scope, look_up, environment_of}

-- ---- the scope that a write goes to

abbrev pub has_name : List ℕ → Pairs → Bool
has_name x [] = false
has_name x (pair ∷ pairs) = if bytes_eq x pair.0 then true else has_name x pairs

-- the innermost scope that has the name, by its number
abbrev pub holder : List ℕ → Environment → Option ScopeId
holder x no_scope = None
holder x (a_scope i pairs around) = if has_name x pairs then Some i else holder x around
holder x (own_scope i pair around) = if bytes_eq x pair.0 then Some i else holder x around

-- the innermost scope that has the name is that of a function expression's own name
abbrev pub is_own : List ℕ → Environment → Bool
is_own x no_scope = false
is_own x (a_scope i pairs around) = if has_name x pairs then false else is_own x around
is_own x (own_scope i pair around) = if bytes_eq x pair.0 then true else is_own x around

-- these pairs, in which the first of this name has this value
abbrev pub with_value : List ℕ → Value → Pairs → Pairs
with_value x v [] = []
with_value x v (pair ∷ pairs) = if bytes_eq x pair.0 then (pair.0, v) ∷ pairs else pair ∷ with_value x v pairs

-- The scopes behind a write of this value to this name in the scope of this number. The own name of a function
-- expression keeps its value (10.2.1.1.3).
abbrev pub written : ScopeId → List ℕ → Value → Environment → Environment
written i x v no_scope = no_scope
written i x v (a_scope j pairs around) =
    a_scope j (if i.0 == j.0 then with_value x v pairs else pairs) (written i x v around)
written i x v (own_scope j pair around) = own_scope j pair (written i x v around)

-- A look-up finds a value where there is such a scope.
abbrev pub FoundWhereHeld : Type 0
FoundWhereHeld = (x : List ℕ) (env : Environment) → is_some (look_up x env) ≡ is_some (holder x env)

-- Behind a write a look-up finds what was written, but for such an own name.
abbrev pub WrittenIsFound : Type 0
WrittenIsFound = (x : List ℕ) (v : Value) (env : Environment) (i : ScopeId) → holder x env ≡ Some i
    → look_up x (written i x v env) ≡ (if is_own x env then look_up x env else Some v)

-- ---- the place that a write goes to

-- the first pair of a name in a list, counted from 0
abbrev pub pair_of : List ℕ → Pairs → Option ℕ
pair_of x [] = None
pair_of x (pair ∷ pairs) = if bytes_eq x pair.0 then Some 0 else option_map suc (pair_of x pairs)

-- the place of a name: the first of its pairs in the innermost scope that has one
abbrev pub standing_in : List ℕ → Environment → Standing
standing_in x no_scope = in_global
standing_in x (a_scope i pairs around) = place_or i (pair_of x pairs) (standing_in x around)
standing_in x (own_scope i pair around) = if bytes_eq x pair.0 then in_own i else standing_in x around

-- the value in a place; the global object has its properties
abbrev pub value_at : HeapView → Standing → Option Value
value_at h (in_scope i slot) = Some (slot_of h i slot)
value_at h (in_own i) = Some (slot_of h i 0)
value_at h in_global = None

-- In each state, what a look-up finds is the value in that place.
abbrev pub FoundInPlace : Type 0
FoundInPlace = (x : List ℕ) (s : RunState) (scope : ScopeId)
    → look_up x (environment_of s scope) ≡ value_at s.heap (standing_in x (environment_of s scope))

-- In each state, a write goes to that place.
abbrev pub WritesHaveTheirPlace : Type 0
WritesHaveTheirPlace = (cx : Context) (x : BoundName) (v : Value) (place : Place) → write_name cx x v place
    ≡ reading (λ s. write_at x.name v place (standing_in x.name (environment_of s cx.scope)))

-- ---- writes (8.7.2)

abbrev pub slots_in : ScopeView → ℕ
slots_in view = length view.slots

-- Each scope has as many slots as it has names, and is newer than the scope around it. A run keeps this: so it is where
-- a run begins, and a write and a new scope keep it, which are laws; that no other rule changes a scope, and that code
-- runs in scopes of the run, is seen in the rules.
pub record ScopesFit (s : RunState) : Type 0 where
  pub slots : map slots_in s.heap.scopes ≡ map size_of s.names
  pub newer : (i p : ScopeId) → parent_in (scope_at s.heap i) ≡ Some p → p.0 < i.0

abbrev pub FirstScopesFit : Type 0
FirstScopesFit = (entry : Entry) → ScopesFit (first_state by_names entry)

-- Behind the write stands this state: from whatever scope code looks, it sees the scopes as before, but for the written
-- pair. And nothing else changes.
pub record IsWritten (i : ScopeId) (x : List ℕ) (v : Value) (s t : RunState) : Type 0 where
  pub seen : (scope : ScopeId) → environment_of t scope ≡ written i x v (environment_of s scope)
  pub rest : t ≡ record s { heap = record s.heap { scopes = t.heap.scopes } }
  pub fit : ScopesFit t

-- A write goes to the innermost scope that has the name, and the run goes on with the scopes so written.
abbrev pub WritesAreLookUps : Type 0
WritesAreLookUps = (cx : Context) (x : BoundName) (v : Value) (place : Place) (s : RunState) (i : ScopeId) → ScopesFit s
    → holder x.name (environment_of s cx.scope) ≡ Some i
    → (t : RunState) × IsWritten i x.name v s t
    × ((after : After RunState Stop RunEnd (Unit {0})) → write_name cx x v place after s ≡ after (Ok tt) t)

-- Where no scope has the name, the write goes to the property of the global object.
abbrev pub WritesBehindScopes : Type 0
WritesBehindScopes = (cx : Context) (x : BoundName) (v : Value) (place : Place) (s : RunState)
    → holder x.name (environment_of s cx.scope) ≡ None
    → (after : After RunState Stop RunEnd (Unit {0}))
    → write_name cx x v place after s ≡ put_on global_id x.name v place after s

-- ---- new scopes (10.2.2.2)

-- a new scope with these names, each undefined
abbrev pub new_scope : ScopeId → Scope → Environment → Environment
new_scope i (named names) around = a_scope i (map (λ x. (x, Undefined)) names) around
new_scope i (itself x) around = own_scope i (x, Undefined) around

-- Behind a new scope of this number stands this state: the new scope has these names and that scope around it, each
-- scope of before is seen as before, and nothing changes but the scopes and the cells that the heap counts.
pub record IsNewScope (i : ScopeId) (names : Scope) (around : ScopeId) (s t : RunState) : Type 0 where
  pub new : i.0 ≡ length s.names
  pub seen : environment_of t i ≡ new_scope i names (environment_of s around)
  pub before : (scope : ScopeId) → scope.0 < length s.names → environment_of t scope ≡ environment_of s scope
  pub rest : t ≡ record s {
    heap = record s.heap { scopes = t.heap.scopes; cells = t.heap.cells };
    names = s.names ++ names ∷ [];
  }
  pub fit : ScopesFit t

-- Where the heap has room for it, there is a new scope around which stands a scope of the run. Where it has none, its
-- refusal is a fault, as the rule has it.
abbrev pub NewScopesAreAround : Type 0
NewScopesAreAround = (names : Scope) (around : ScopeId) (place : Place) (s : RunState) (made : ScopeId × HeapView)
    → ScopesFit s → around.0 < length s.names → scope_made_of s.heap (size_of names) (Some around) ≡ Ok made
    → (t : RunState) × IsNewScope made.0 names around s t
    × ((after : After RunState Stop RunEnd ScopeId) → make_scope names around place after s ≡ after (Ok made.0) t)
