-- Both ways in which a run has its scopes have one end and ask for lookup names alone.
use Rattle.js_tree.specs.declared.place.Place.{Place}
use Rattle.js_tree.specs.declared.bound.BoundName.{BoundName}
use Rattle.js_binding.specs.Scopes.{Scope}
use Rattle.heap_values.specs.declared.ids.ScopeId.{ScopeId}
use Rattle.heap_values.specs.declared.value.Value.{Value}
use Rattle.js_evaluation.specs.Objects.{Context}
use Rattle.js_evaluation.specs.ByNames.{size_of}
use Rattle.js_evaluation.specs.Scoping.{Scoping, by_names, by_slots}
use Rattle.js_law_evaluation.proofs.OfState as state
use Rattle.js_law_evaluation.proofs.OfState.{Ends}
use Rattle.js_law_evaluation.proofs.OfByNames as names
use Rattle.js_law_evaluation.proofs.OfBySlots as slots

-- The words by which a run has its scopes have one end and ask for lookup names alone.
pub record WordsEnd (scoping : Scoping) : Type 0 where
  pub read_name : (cx : Context) (x : BoundName) (place : Place) → Ends (scoping.read_name cx x place)
  pub read_or_undefined : (cx : Context) (x : BoundName) (place : Place) → Ends (scoping.read_or_undefined cx x place)
  pub write_name : (cx : Context) (x : BoundName) (v : Value) (place : Place) → Ends (scoping.write_name cx x v place)
  pub delete_name : (cx : Context) (x : BoundName) (place : Place) → Ends (scoping.delete_name cx x place)
  pub make_scope : (scope : Scope) (around : ScopeId) (place : Place) → Ends (scoping.make_scope scope around place)

pub by_names-end : WordsEnd by_names
by_names-end = record {
  read_name = names.read_name-ends;
  read_or_undefined = names.read_or_undefined-ends;
  write_name = names.write_name-ends;
  delete_name = names.delete_name-ends;
  make_scope = names.make_scope-ends;
}

pub by_slots-end : WordsEnd by_slots
by_slots-end = record {
  read_name = slots.read_name-ends;
  read_or_undefined = slots.read_or_undefined-ends;
  write_name = slots.write_name-ends;
  delete_name = slots.delete_name-ends;
  make_scope = λ scope around place. state.make_scope-ends (size_of scope) around place;
}
