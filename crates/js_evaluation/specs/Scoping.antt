-- How a run has its scopes: the words by which rules read and write names and make scopes. The rules are written once
-- over these. A run by names is what a script means. The run of the resolved script by slots is what code does, and is
-- the same (js_law_names).
use Rattle.std.specs.Prelude.{ℕ, List, [], ◌∷◌}
use Rattle.js_tree.specs.declared.place.Place.{Place}
use Rattle.js_tree.specs.declared.bound.BoundName.{BoundName}
use Rattle.js_tree.specs.Tree.{FunctionTree, a_function}
use Rattle.js_binding.specs.Scopes.{Scope, named}
use Rattle.heap_values.specs.declared.ids.ScopeId.{ScopeId}
use Rattle.heap_values.specs.declared.value.Value.{Value}
use Rattle.js_evaluation.specs.State as state
use Rattle.js_evaluation.specs.State.{Does}
use Rattle.js_evaluation.specs.Objects.{Context}
use Rattle.js_evaluation.specs.ByNames as names
use Rattle.js_evaluation.specs.BySlots as slots

pub record Scoping : Type 0 where
  pub read_name : Context → BoundName → Place → Does Value
  -- what `typeof` reads: undefined for a name that stands for nothing (11.4.3)
  pub read_or_undefined : Context → BoundName → Place → Does Value
  pub write_name : Context → BoundName → Value → Place → Does (Unit {0})
  pub delete_name : Context → BoundName → Place → Does Value
  pub make_scope : Scope → ScopeId → Place → Does ScopeId
  -- the names of the scope of a function
  pub names_within : FunctionTree → List (List ℕ)
  -- the names of the one scope that a run begins with: none, since global names are properties
  pub outermost : List Scope

abbrev pub by_names : Scoping
by_names = record {
  read_name = names.read_name;
  read_or_undefined = names.read_or_undefined;
  write_name = names.write_name;
  delete_name = names.delete_name;
  make_scope = names.make_scope;
  names_within = names.own_names;
  outermost = named [] ∷ [];
}

-- the names that a resolved function was given
abbrev pub given_names : FunctionTree → List (List ℕ)
given_names (a_function own parameters names body) = names

abbrev pub by_slots : Scoping
by_slots = record {
  read_name = slots.read_name;
  read_or_undefined = slots.read_or_undefined;
  write_name = slots.write_name;
  delete_name = slots.delete_name;
  make_scope = λ scope around place. state.make_scope (names.size_of scope) around place;
  names_within = given_names;
  outermost = [];
}
