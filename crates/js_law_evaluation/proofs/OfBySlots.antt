-- Names and scopes by slots have one end and ask for lookup names alone.
use Rattle.std.proofs.Common.{refl, ℕ, List, false}
use Rattle.js_tree.specs.declared.place.Place.{Place}
use Rattle.js_tree.specs.declared.bound.Bound.{Bound}
use Rattle.js_tree.specs.declared.bound.Bound.TheVariants as bound
use Rattle.js_tree.specs.declared.bound.BoundName.{BoundName}
use Rattle.heap_values.specs.declared.value.Value.{Value}
use Rattle.heap_values.specs.declared.value.Value.TheVariants.{Undefined, Bool as Truth, Object}
use Rattle.object_heap.specs.Heap.{slot_of, found_of}
use Rattle.js_evaluation.specs.Objects.{Context, global_id}
use Rattle.js_evaluation.specs.BySlots.{scope_out, read_bound, read_name, read_or_undefined_by, read_or_undefined, write_bound, write_name, delete_bound, delete_name}
use Rattle.js_law_evaluation.proofs.OfState.{Ends, gives, reads, write_slot-ends}
use Rattle.js_law_evaluation.proofs.OfObjects.{found_value-ends, put_on-ends, delete_property-ends, global_value-ends}

read_bound-ends : (cx : Context) (name : List ℕ) (b : Bound) (place : Place) → Ends (read_bound cx name b place)
read_bound-ends cx name (bound.Slot up slot) place = reads (λ m s. refl) (λ s. gives (slot_of s.heap (scope_out s.heap up cx.scope) slot))
read_bound-ends cx name (bound.Own up) place = reads (λ m s. refl) (λ s. gives (slot_of s.heap (scope_out s.heap up cx.scope) 0))
read_bound-ends cx name bound.Global place = reads (λ m s. refl) (λ s. global_value-ends name (found_of s.heap global_id name) place)
read_bound-ends cx name bound.Unbound place = gives Undefined

pub read_name-ends : (cx : Context) (x : BoundName) (place : Place) → Ends (read_name cx x place)
read_name-ends cx x place = read_bound-ends cx x.name x.bound place

read_or_undefined_by-ends : (cx : Context) (x : BoundName) (b : Bound) (place : Place) → Ends (read_or_undefined_by cx x b place)
read_or_undefined_by-ends cx x bound.Global place = reads (λ m s. refl) (λ s. found_value-ends Undefined (found_of s.heap global_id x.name) place)
read_or_undefined_by-ends cx x b place = read_name-ends cx x place

pub read_or_undefined-ends : (cx : Context) (x : BoundName) (place : Place) → Ends (read_or_undefined cx x place)
read_or_undefined-ends cx x place = read_or_undefined_by-ends cx x x.bound place

write_bound-ends : (cx : Context) (name : List ℕ) (b : Bound) (v : Value) (place : Place) → Ends (write_bound cx name b v place)
write_bound-ends cx name (bound.Slot up slot) v place = reads (λ m s. refl) (λ s. write_slot-ends (scope_out s.heap up cx.scope) slot v)
write_bound-ends cx name (bound.Own up) v place = gives tt
write_bound-ends cx name bound.Global v place = put_on-ends global_id name v place
write_bound-ends cx name bound.Unbound v place = gives tt

pub write_name-ends : (cx : Context) (x : BoundName) (v : Value) (place : Place) → Ends (write_name cx x v place)
write_name-ends cx x v place = write_bound-ends cx x.name x.bound v place

delete_bound-ends : (name : List ℕ) (b : Bound) (place : Place) → Ends (delete_bound name b place)
delete_bound-ends name bound.Global place = delete_property-ends (Object global_id) name place
delete_bound-ends name b place = gives (Truth false)

pub delete_name-ends : (cx : Context) (x : BoundName) (place : Place) → Ends (delete_name cx x place)
delete_name-ends cx x place = delete_bound-ends x.name x.bound place
