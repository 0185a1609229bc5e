-- Names and scopes as code has them: a name of a resolved script says in which slot of which scope its value stands, or
-- that it is global. So the names of a scope need not be kept. No name of a resolved script is unbound.
use Rattle.std.specs.Prelude.{ℕ, zero, suc, List, false, Option, Some, None}
use Rattle.js_tree.specs.declared.place.Place.{Place}
use Rattle.js_tree.specs.declared.bound.Bound.{Bound}
use Rattle.js_tree.specs.declared.bound.Bound.TheVariants as bound
use Rattle.js_tree.specs.declared.bound.BoundName.{BoundName}
use Rattle.heap_values.specs.declared.ids.ScopeId.{ScopeId}
use Rattle.heap_values.specs.declared.value.Value.{Value}
use Rattle.heap_values.specs.declared.value.Value.TheVariants.{Undefined, Bool as Truth, Object}
use Rattle.heap_values.specs.Views.{HeapView}
use Rattle.object_heap.specs.Heap.{scope_at, parent_in, slot_of, found_of}
use Rattle.run_trees.specs.Runs.{pure, reading}
use Rattle.js_evaluation.specs.State.{Does, write_slot}
use Rattle.js_evaluation.specs.Objects.{Context, found_value, put_on, delete_property, global_id, global_value}

-- ---- the scopes around one

abbrev pub around_or : Option ScopeId → ScopeId → ScopeId
around_or None scope = scope
around_or (Some around) scope = around

-- the scope so many scopes outward
abbrev pub scope_out : HeapView → ℕ → ScopeId → ScopeId
scope_out h zero scope = scope
scope_out h (suc up) scope = scope_out h up (around_or (parent_in (scope_at h scope)) scope)

-- ---- names

-- the value of a name
abbrev pub read_bound : Context → List ℕ → Bound → Place → Does Value
read_bound cx name (bound.Slot up slot) place = reading (λ s. pure (slot_of s.heap (scope_out s.heap up cx.scope) slot))
read_bound cx name (bound.Own up) place = reading (λ s. pure (slot_of s.heap (scope_out s.heap up cx.scope) 0))
read_bound cx name bound.Global place = reading (λ s. global_value name (found_of s.heap global_id name) place)
read_bound cx name bound.Unbound place = pure Undefined

abbrev pub read_name : Context → BoundName → Place → Does Value
read_name cx x place = read_bound cx x.name x.bound place

-- the value of a name of which `typeof` asks: one that stands for nothing is undefined (11.4.3)
abbrev pub read_or_undefined_by : Context → BoundName → Bound → Place → Does Value
read_or_undefined_by cx x bound.Global place = reading (λ s. found_value Undefined (found_of s.heap global_id x.name) place)
read_or_undefined_by cx x b place = read_name cx x place

abbrev pub read_or_undefined : Context → BoundName → Place → Does Value
read_or_undefined cx x place = read_or_undefined_by cx x x.bound place

-- A write to a name: one that stands for nothing becomes a global property; the own name of a function keeps its value
-- (10.2.1.1, 13).
abbrev pub write_bound : Context → List ℕ → Bound → Value → Place → Does (Unit {0})
write_bound cx name (bound.Slot up slot) v place = reading (λ s. write_slot (scope_out s.heap up cx.scope) slot v)
write_bound cx name (bound.Own up) v place = pure tt
write_bound cx name bound.Global v place = put_on global_id name v place
write_bound cx name bound.Unbound v place = pure tt

abbrev pub write_name : Context → BoundName → Value → Place → Does (Unit {0})
write_name cx x v place = write_bound cx x.name x.bound v place

-- `delete` of a name: names of scopes stay, and one that stands for nothing is gone already (11.4.1)
abbrev pub delete_bound : List ℕ → Bound → Place → Does Value
delete_bound name bound.Global place = delete_property (Object global_id) name place
delete_bound name b place = pure (Truth false)

abbrev pub delete_name : Context → BoundName → Place → Does Value
delete_name cx x place = delete_bound x.name x.bound place
