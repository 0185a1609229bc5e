-- The pair that a look-up finds is the one that a write goes to.
use Rattle.std.proofs.Common.{◌≡◌, ℕ, zero, suc, length, List, [], ◌∷◌, Bool, true, false, if◌then◌else◌, Option, Some, None, refl, sym, ◌∙◌, ap, eq-eqb}
use Rattle.std.specs.Prelude.{slice_get, option_map, ◌==◌, is_some}
use Rattle.std.specs.Str.{bytes_eq}
use Rattle.js_binding.specs.Scopes.{Scope, named, itself, place_of}
use Rattle.heap_values.specs.declared.ids.ScopeId.{ScopeId}
use Rattle.heap_values.specs.declared.value.Value.{Value}
use Rattle.heap_values.specs.Views.{ScopeView, HeapView}
use Rattle.object_heap.specs.Heap.{scope_at, parent_in}
use Rattle.js_evaluation.specs.ByNames.{Standing, in_own, place_or, found_in, found_from, write_at}
use Rattle.js_law_names.specs.LookUps.{Pairs, Environment, no_scope, a_scope, own_scope, value_or, look_up, pairs_from, scope_of, environment_from}
use Rattle.js_law_names.specs.Writes.{has_name, holder, is_own, with_value, written, pair_of, standing_in, value_at, FoundInPlace, FoundWhereHeld, WrittenIsFound, WritesHaveTheirPlace}
use Rattle.js_law_names.proofs.OfLookUps.{from_one}

-- ---- one list of pairs

module _ (x : List ℕ) where
  found_pairs_by : (t : Bool) (v : Value) (rest : Option Value) (has : Bool) (outer : Option Value)
      → is_some rest ≡ (if has then true else is_some outer)
      → is_some (if t then Some v else rest) ≡ (if if t then true else has then true else is_some outer)
  found_pairs_by true v rest has outer e = refl
  found_pairs_by false v rest has outer e = e

  found_pairs : (pairs : Pairs) (outer : Option Value)
      → is_some (value_or outer x pairs) ≡ (if has_name x pairs then true else is_some outer)
  found_pairs [] outer = refl
  found_pairs (pair ∷ pairs) outer = found_pairs_by (bytes_eq x pair.0) pair.1 _ (has_name x pairs) outer (found_pairs pairs outer)

  held_by : (t : Bool) (i : ScopeId) (outer : Option ScopeId)
      → is_some (if t then Some i else outer) ≡ (if t then true else is_some outer)
  held_by true i outer = refl
  held_by false i outer = refl

  -- where the list has the name, its value is the written one; elsewhere the list is as it was
  written_by : (t : Bool) (v : Value) (pair : List ℕ × Value) (pairs changed : Pairs) (outer : Option Value) → bytes_eq x pair.0 ≡ t
      → value_or outer x changed ≡ (if has_name x pairs then Some v else value_or outer x pairs)
      → value_or outer x (if t then (pair.0, v) ∷ pairs else pair ∷ changed)
      ≡ (if if t then true else has_name x pairs then Some v else if t then Some pair.1 else value_or outer x pairs)
  written_by true v pair pairs changed outer e h = ap (λ (b : Bool). if b then Some v else value_or outer x pairs) e
  written_by false v pair pairs changed outer e h = ap (λ (b : Bool). if b then Some pair.1 else value_or outer x changed) e ∙ h

  written_pairs : (v : Value) (pairs : Pairs) (outer : Option Value)
      → value_or outer x (with_value x v pairs) ≡ (if has_name x pairs then Some v else value_or outer x pairs)
  written_pairs v [] outer = refl
  written_pairs v (pair ∷ pairs) outer = written_by (bytes_eq x pair.0) v pair pairs _ outer refl (written_pairs v pairs outer)

  passed_by : (t : Bool) (v : Value) (rest : Option Value) (has : Bool) (outer : Option Value) → (has ≡ false → rest ≡ outer)
      → (if t then true else has) ≡ false → (if t then Some v else rest) ≡ outer
  passed_by true v rest has outer h e = cc
  passed_by false v rest has outer h e = h e

  passed : (pairs : Pairs) (outer : Option Value) → has_name x pairs ≡ false → value_or outer x pairs ≡ outer
  passed [] outer e = refl
  passed (pair ∷ pairs) outer e = passed_by (bytes_eq x pair.0) pair.1 _ (has_name x pairs) outer (passed pairs outer) e

  -- whether the list is the written one or not, what stands further out is found where it hasn't the name
  passed_either : (t : Bool) (v : Value) (pairs : Pairs) (outer : Option Value) → has_name x pairs ≡ false
      → value_or outer x (if t then with_value x v pairs else pairs) ≡ outer
  passed_either true v pairs outer e = written_pairs v pairs outer
      ∙ ap (λ (b : Bool). if b then Some v else value_or outer x pairs) e ∙ passed pairs outer e
  passed_either false v pairs outer e = passed pairs outer e

  -- ---- scopes

  found : (env : Environment) → is_some (look_up x env) ≡ is_some (holder x env)
  found no_scope = refl
  found (a_scope i pairs around) = found_pairs pairs (look_up x around)
      ∙ ap (λ (b : Bool). if has_name x pairs then true else b) (found around)
      ∙ sym (held_by (has_name x pairs) i (holder x around))
  found (own_scope i pair around) = held_own (bytes_eq x pair.0) (found around)
    where
      held_own : (t : Bool) → is_some (look_up x around) ≡ is_some (holder x around)
          → is_some (if t then Some pair.1 else look_up x around) ≡ is_some (if t then Some i else holder x around)
      held_own true e = refl
      held_own false e = e

  module _ (v : Value) (i : ScopeId) where
    abbrev Finds : Environment → Type 0
    Finds env = holder x env ≡ Some i → look_up x (written i x v env) ≡ (if is_own x env then look_up x env else Some v)

    in_pairs : (t : Bool) (j : ScopeId) (pairs : Pairs) (around : Environment) → has_name x pairs ≡ t → Finds around
        → (if t then Some j else holder x around) ≡ Some i
        → value_or (look_up x (written i x v around)) x (if i.0 == j.0 then with_value x v pairs else pairs)
        ≡ (if if t then false else is_own x around then value_or (look_up x around) x pairs else Some v)
    in_pairs true j pairs around e h held =
        let same : i ≡ j = cc in
        ap (λ (b : Bool). value_or (look_up x (written i x v around)) x (if b then with_value x v pairs else pairs)) (eq-eqb i.0 j.0 (ap (λ (k : ScopeId). k.0) same))
        ∙ written_pairs v pairs _ ∙ ap (λ (b : Bool). if b then Some v else value_or (look_up x (written i x v around)) x pairs) e
    in_pairs false j pairs around e h held = passed_either (i.0 == j.0) v pairs _ e ∙ h held
        ∙ ap (λ o. if is_own x around then o else Some v) (sym (passed pairs (look_up x around) e))

    in_own_pair : (t : Bool) (j : ScopeId) (w : Value) (around : Environment) → Finds around
        → (if t then Some j else holder x around) ≡ Some i
        → (if t then Some w else look_up x (written i x v around))
        ≡ (if if t then true else is_own x around then if t then Some w else look_up x around else Some v)
    in_own_pair true j w around h held = refl
    in_own_pair false j w around h held = h held

    finds : (env : Environment) → Finds env
    finds no_scope held = cc
    finds (a_scope j pairs around) held = in_pairs (has_name x pairs) j pairs around refl (finds around) held
    finds (own_scope j pair around) held = in_own_pair (bytes_eq x pair.0) j pair.1 around (finds around) held

pub found_where_held : FoundWhereHeld
found_where_held x env = found x env

pub written_is_found : WrittenIsFound
written_is_found x v env i held = finds x v i env held

-- ---- the place of a name

module _ (names : List Scope) (h : HeapView) (x : List ℕ) where
  pair_place : (view : Option ScopeView) (slot : ℕ) (ys : List (List ℕ)) → pair_of x (pairs_from view slot ys) ≡ place_of x ys
  pair_place view slot [] = refl
  pair_place view slot (y ∷ ys) = ap (λ o. if bytes_eq x y then Some 0 else option_map suc o) (pair_place view (suc slot) ys)

  standing_one : (i : ScopeId) (view : Option ScopeView) (o : Option Scope) (further : Standing) (around : Environment)
      → standing_in x around ≡ further → standing_in x (scope_of i view o around) ≡ found_in i o x further
  standing_one i view None further around e = e
  standing_one i view (Some (named ys)) further around e =
      ap (λ o. place_or i o (standing_in x around)) (pair_place view 0 ys) ∙ ap (place_or i (place_of x ys)) e
  standing_one i view (Some (itself y)) further around e = ap (λ at. if bytes_eq x y then in_own i else at) e

  standing_from : (n : ℕ) (o : Option ScopeId) → standing_in x (environment_from n names h o) ≡ found_from n names h o x
  standing_from zero o = refl
  standing_from (suc n) None = refl
  standing_from (suc n) (Some i) = standing_one i (scope_at h i) (slice_get names i.0) _ _ (standing_from n (parent_in (scope_at h i)))

pub writes_have_their_place : WritesHaveTheirPlace
writes_have_their_place cx x v place = λ i after s.
    ap (λ at. write_at x.name v place at after s) (sym (standing_from s.names s.heap x.name (length s.names) (Some cx.scope))) i

pub found_in_place : FoundInPlace
found_in_place x s scope =
    sym (from_one s.names s.heap (length s.names) (Some scope) x)
    ∙ ap (value_at s.heap) (sym (standing_from s.names s.heap x (length s.names) (Some scope)))
