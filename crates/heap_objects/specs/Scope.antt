-- A scope: the values of its slots, and the scope around it (ECMA-262 5.1, section 10.2).
use Rattle.std.specs.Prelude.{ℕ, unwrap_or, slice_get, slice_set, replicate, Option}
use Rattle.heap_values.specs.declared.value.Value.{Value}
use Rattle.heap_values.specs.declared.value.Value.TheVariants.{Undefined}
use Rattle.heap_values.specs.declared.ids.ScopeId.{ScopeId}
use Rattle.heap_values.specs.Views.{ScopeView}

-- a scope of so many slots, each undefined
abbrev pub fresh_scope : ℕ → Option ScopeId → ScopeView
fresh_scope size parent = record { slots = replicate size Undefined; parent = parent }

-- the value of a slot; undefined where there is none
abbrev pub slot_in : ScopeView → ℕ → Value
slot_in s slot = unwrap_or (slice_get s.slots slot) Undefined

-- the scope with this value in the slot; the same where there is none
abbrev pub scope_with : ScopeView → ℕ → Value → ScopeView
scope_with s slot v = record s { slots = slice_set s.slots slot v }
