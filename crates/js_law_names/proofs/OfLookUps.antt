-- What is read where a name stands is what a look-up finds, and so it is with `typeof` and `delete`.
use Rattle.std.proofs.Common.{◌≡◌, ℕ, zero, suc, ◌+◌, List, [], ◌∷◌, length, Bool, true, false, if◌then◌else◌, Option, Some, None, refl, ◌∙◌, ap, arith, add-zero}
use Rattle.std.specs.Prelude.{slice_get, option_map}
use Rattle.std.specs.Str.{bytes_eq}
use Rattle.js_tree.specs.declared.place.Place.{Place}
use Rattle.js_binding.specs.Scopes.{Scope, named, itself, place_of}
use Rattle.heap_values.specs.declared.ids.ScopeId.{ScopeId}
use Rattle.heap_values.specs.declared.value.Value.{Value}
use Rattle.heap_values.specs.Views.{ScopeView, HeapView}
use Rattle.object_heap.specs.Heap.{scope_at, parent_in, slot_at}
use Rattle.run_trees.specs.Runs.{After}
use Rattle.js_evaluation.specs.State.{RunState, RunEnd, Stop}
use Rattle.js_evaluation.specs.ByNames.{Standing, in_scope, in_own, in_global, place_or, found_in, found_from, standing, read_at, read_or_undefined_at, delete_at}
use Rattle.js_law_names.specs.LookUps.{Environment, value_or, look_up, pairs_from, scope_of, environment_from, environment_of, found_or_global, found_or_undefined, kept_or_global, ReadsAreLookUps, TypesAreLookUps, DeletesAreLookUps}
use Rattle.js_law_names.specs.Writes.{value_at}

-- ---- one scope

-- the value so many slots further, or another
abbrev value_behind : Option ScopeView → ℕ → Option ℕ → Option Value → Option Value
value_behind view slot None other = other
value_behind view slot (Some n) other = Some (slot_at view (slot + n))

next_slot : (view : Option ScopeView) (slot : ℕ) (o : Option ℕ) (other : Option Value)
    → value_behind view slot (option_map suc o) other ≡ value_behind view (suc slot) o other
next_slot view slot None other = refl
next_slot view slot (Some n) other = let e : slot + suc n ≡ suc slot + n = omega arith in ap (λ k. Some (slot_at view k)) e

by_test : (t : Bool) (view : Option ScopeView) (slot : ℕ) (o : Option ℕ) (other rest : Option Value)
    → value_behind view (suc slot) o other ≡ rest
    → value_behind view slot (if t then Some 0 else option_map suc o) other ≡ (if t then Some (slot_at view slot) else rest)
by_test true view slot o other rest h = ap (λ k. Some (slot_at view k)) (add-zero slot)
by_test false view slot o other rest h = next_slot view slot o other ∙ h

places : (view : Option ScopeView) (slot : ℕ) (x : List ℕ) (names : List (List ℕ)) (other : Option Value)
    → value_behind view slot (place_of x names) other ≡ value_or other x (pairs_from view slot names)
places view slot x [] other = refl
places view slot x (y ∷ ys) other = by_test (bytes_eq x y) view slot (place_of x ys) other _ (places view (suc slot) x ys other)

-- ---- the scopes of a heap

module _ (names : List Scope) (h : HeapView) where
  placed : (i : ScopeId) (o : Option ℕ) (further : Standing)
      → value_at h (place_or i o further) ≡ value_behind (scope_at h i) 0 o (value_at h further)
  placed i None further = refl
  placed i (Some n) further = let e : n ≡ 0 + n = omega arith in ap (λ k. Some (slot_at (scope_at h i) k)) e

  own_placed : (t : Bool) (i : ScopeId) (further : Standing)
      → value_at h (if t then in_own i else further) ≡ (if t then Some (slot_at (scope_at h i) 0) else value_at h further)
  own_placed true i further = refl
  own_placed false i further = refl

  in_one : (i : ScopeId) (o : Option Scope) (x : List ℕ) (further : Standing) (around : Environment)
      → value_at h further ≡ look_up x around
      → value_at h (found_in i o x further) ≡ look_up x (scope_of i (scope_at h i) o around)
  in_one i None x further around e = e
  in_one i (Some (named ys)) x further around e = placed i (place_of x ys) further
      ∙ places (scope_at h i) 0 x ys (value_at h further)
      ∙ ap (λ o. value_or o x (pairs_from (scope_at h i) 0 ys)) e
  in_one i (Some (itself y)) x further around e = own_placed (bytes_eq x y) i further
      ∙ ap (λ o. if bytes_eq x y then Some (slot_at (scope_at h i) 0) else o) e

  pub from_one : (n : ℕ) (o : Option ScopeId) (x : List ℕ)
      → value_at h (found_from n names h o x) ≡ look_up x (environment_from n names h o)
  from_one zero o x = refl
  from_one (suc n) None x = refl
  from_one (suc n) (Some i) x = in_one i (slice_get names i.0) x _ _ (from_one n (parent_in (scope_at h i)) x)

-- ---- reads, `typeof` and `delete`

at_look_up : {A : Type 0} (rule : Option Value → A) (s : RunState) (scope : ScopeId) (x : List ℕ)
    → rule (value_at s.heap (standing s scope x)) ≡ rule (look_up x (environment_of s scope))
at_look_up rule s scope x = ap rule (from_one s.names s.heap (length s.names) (Some scope) x)

module _ (x : List ℕ) (place : Place) (after : After RunState Stop RunEnd Value) (s : RunState) where
  reads_value : (at : Standing) → read_at x place at after s ≡ found_or_global (value_at s.heap at) x place after s
  reads_value (in_scope i slot) = refl
  reads_value (in_own i) = refl
  reads_value in_global = refl

  types_value : (at : Standing) → read_or_undefined_at x place at after s ≡ found_or_undefined (value_at s.heap at) x place after s
  types_value (in_scope i slot) = refl
  types_value (in_own i) = refl
  types_value in_global = refl

  deletes_value : (at : Standing) → delete_at x place at after s ≡ kept_or_global (value_at s.heap at) x place after s
  deletes_value (in_scope i slot) = refl
  deletes_value (in_own i) = refl
  deletes_value in_global = refl

pub reads_are_look_ups : ReadsAreLookUps
reads_are_look_ups cx x place = λ i after s.
    (reads_value x.name place after s (standing s cx.scope x.name)
    ∙ at_look_up (λ o. found_or_global o x.name place after s) s cx.scope x.name) i

pub types_are_look_ups : TypesAreLookUps
types_are_look_ups cx x place = λ i after s.
    (types_value x.name place after s (standing s cx.scope x.name)
    ∙ at_look_up (λ o. found_or_undefined o x.name place after s) s cx.scope x.name) i

pub deletes_are_look_ups : DeletesAreLookUps
deletes_are_look_ups cx x place = λ i after s.
    (deletes_value x.name place after s (standing s cx.scope x.name)
    ∙ at_look_up (λ o. kept_or_global o x.name place after s) s cx.scope x.name) i
