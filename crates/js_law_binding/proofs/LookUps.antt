-- Where a name is bound, the look-up finds it.
use Rattle.std.proofs.Common.{◌≡◌, ℕ, suc, ◌+◌, Bool, true, false, cond, List, [], ◌∷◌, length, Option, Some, None, refl, ◌∙◌, ap, arith}
use Rattle.std.specs.Prelude.{option_map}
use Rattle.std.specs.Str.{bytes_eq}
use Rattle.js_tree.specs.declared.bound.Bound.{Bound}
use Rattle.js_tree.specs.declared.bound.Bound.TheVariants.{Unbound, Slot, Own, Global}
use Rattle.js_binding.specs.Scopes.{Scope, named, itself, place_of, slot_or, binding_from, binding_of}
use Rattle.js_law_binding.specs.Environments.{Record, value_or, looked_up, record_from, with_record, values_from, with_values, at_slot, value_at, value_of}
use Rattle.js_law_binding.proofs.Bounds.{further, binding_further}

-- the records and the values of scopes
abbrev pub records_of : (ℕ → ℕ → ℕ) → List Scope → List Record
records_of value [] = []
records_of value (named names ∷ around) = with_record value names (records_of value around)
records_of value (itself x ∷ around) = with_record value (x ∷ []) (records_of value around)

abbrev pub values_of : (ℕ → ℕ → ℕ) → List Scope → List (List ℕ)
values_of value [] = []
values_of value (named names ∷ around) = with_values value names (values_of value around)
values_of value (itself x ∷ around) = with_values value (x ∷ []) (values_of value around)

same_depth : (value : ℕ → ℕ → ℕ) (scopes : List Scope) → length (values_of value scopes) ≡ length (records_of value scopes)
same_depth value [] = refl
same_depth value (named names ∷ around) = ap suc (same_depth value around)
same_depth value (itself x ∷ around) = ap suc (same_depth value around)

-- further out the same is found
value_further : (values : List ℕ) (around : List (List ℕ)) (b : Bound) → value_of (further 1 b) (values ∷ around) ≡ value_of b around
value_further values around Unbound = refl
value_further values around (Slot up slot) = let e : 1 + up ≡ suc up = omega arith in ap (λ n. value_at n slot (values ∷ around)) e
value_further values around (Own up) = let e : 1 + up ≡ suc up = omega arith in ap (λ n. value_at n 0 (values ∷ around)) e
value_further values around Global = refl

-- the value in this slot, or another
abbrev slot_value : Option ℕ → List ℕ → Option ℕ → Option ℕ
slot_value None values other = other
slot_value (Some slot) values other = at_slot slot values

slot_here : (o : Option ℕ) (values : List ℕ) (around : List (List ℕ)) (outer : Bound) → value_of (slot_or 0 o outer) (values ∷ around) ≡ slot_value o values (value_of outer (values ∷ around))
slot_here None values around outer = refl
slot_here (Some slot) values around outer = refl

slot_behind : (o : Option ℕ) (v : ℕ) (values : List ℕ) (other : Option ℕ) → slot_value (option_map suc o) (v ∷ values) other ≡ slot_value o values other
slot_behind None v values other = refl
slot_behind (Some slot) v values other = refl

by_test : (t : Bool) (o found other : Option ℕ) (v : ℕ) (values : List ℕ) → slot_value o values other ≡ found → slot_value (cond t (Some 0) (option_map suc o)) (v ∷ values) other ≡ cond t (Some v) found
by_test true o found other v values h = refl
by_test false o found other v values h = slot_behind o v values other ∙ h

place_reads : (value : ℕ → ℕ) (slot : ℕ) (x : List ℕ) (names : List (List ℕ)) (other : Option ℕ) → slot_value (place_of x names) (values_from value slot names) other ≡ value_or other x (record_from value slot names)
place_reads value slot x [] other = refl
place_reads value slot x (y ∷ ys) other =
    by_test (bytes_eq x y) (place_of x ys) (value_or other x (record_from value (suc slot) ys)) other (value slot) (values_from value (suc slot) ys) (place_reads value (suc slot) x ys other)

own_reads : (t : Bool) (v : ℕ) (around : List (List ℕ)) (outer : Bound) (other : Option ℕ) → value_of outer ((v ∷ []) ∷ around) ≡ other → value_of (cond t (Own 0) outer) ((v ∷ []) ∷ around) ≡ cond t (Some v) other
own_reads true v around outer other h = refl
own_reads false v around outer other h = h

-- The bound of a name leads to the value that is looked up.
pub binding_reads : (value : ℕ → ℕ → ℕ) (x : List ℕ) (scopes : List Scope) → value_of (binding_of x scopes) (values_of value scopes) ≡ looked_up x (records_of value scopes)
binding_reads value x [] = refl
binding_reads value x (named names ∷ around) =
    let values = values_of value around in
    let depth = length values in
    let outer : value_of (binding_from 1 x around) (values_from (value depth) 0 names ∷ values) ≡ looked_up x (records_of value around) =
    ap (λ b. value_of b (values_from (value depth) 0 names ∷ values)) (binding_further 1 x around) ∙ value_further (values_from (value depth) 0 names) values (binding_of x around) ∙ binding_reads value x around
    in
    slot_here (place_of x names) (values_from (value depth) 0 names) values (binding_from 1 x around)
    ∙ ap (λ o. slot_value (place_of x names) (values_from (value depth) 0 names) o) outer
    ∙ place_reads (value depth) 0 x names (looked_up x (records_of value around))
    ∙ ap (λ n. value_or (looked_up x (records_of value around)) x (record_from (value n) 0 names)) (same_depth value around)
binding_reads value x (itself y ∷ around) =
    let values = values_of value around in
    let v = value (length values) 0 in
    let outer : value_of (binding_from 1 x around) ((v ∷ []) ∷ values) ≡ looked_up x (records_of value around) =
    ap (λ b. value_of b ((v ∷ []) ∷ values)) (binding_further 1 x around) ∙ value_further (v ∷ []) values (binding_of x around) ∙ binding_reads value x around
    in
    own_reads (bytes_eq x y) v values (binding_from 1 x around) (looked_up x (records_of value around)) outer
    ∙ ap (λ n. cond (bytes_eq x y) (Some (value n 0)) (looked_up x (records_of value around))) (same_depth value around)
