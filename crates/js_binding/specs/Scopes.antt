-- The scopes around a place of a script, and where a name stands among them (ECMA-262 5.1, section 10.2).
use Rattle.std.specs.Prelude.{ℕ, suc, List, [], ◌∷◌, Option, Some, None, option_map, if◌then◌else◌}
use Rattle.std.specs.Str.{bytes_eq}
use Rattle.js_tree.specs.declared.bound.Bound.{Bound}
use Rattle.js_tree.specs.declared.bound.Bound.TheVariants.{Slot, Own, Global}
use Rattle.js_tree.specs.declared.bound.BoundName.{BoundName}

-- a scope: the names of a function or of a `catch`, each with a slot, or the own name of a function expression
pub data Scope : Type 0 where
  named : List (List ℕ) → Scope
  itself : List ℕ → Scope

-- the place of a name in a list, counted from 0
abbrev pub place_of : List ℕ → List (List ℕ) → Option ℕ
place_of x [] = None
place_of x (y ∷ ys) = if bytes_eq x y then Some 0 else option_map suc (place_of x ys)

-- the slot where it is there, else what is found further out
abbrev pub slot_or : ℕ → Option ℕ → Bound → Bound
slot_or up None outer = outer
slot_or up (Some slot) outer = Slot up slot

-- The identifier is looked for in each scope, from the innermost outward (10.2.2.1). The first of these is `up` scopes
-- outward; the outermost scope is the global object, which has no slots.
abbrev pub binding_from : ℕ → List ℕ → List Scope → Bound
binding_from up x [] = Global
binding_from up x (named names ∷ around) = slot_or up (place_of x names) (binding_from (suc up) x around)
binding_from up x (itself y ∷ around) = if bytes_eq x y then Own up else binding_from (suc up) x around

-- where a name stands among these scopes, of which the first is the innermost
abbrev pub binding_of : List ℕ → List Scope → Bound
binding_of x scopes = binding_from 0 x scopes

-- the name with where it stands
abbrev pub bound_in : List Scope → BoundName → BoundName
bound_in scopes x = record { name = x.name; bound = binding_of x.name scopes }
