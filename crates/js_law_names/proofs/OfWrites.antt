-- What a write to a name does to the scopes of a run.
use Rattle.std.proofs.Common.{◌≡◌, ℕ, zero, suc, ◌+◌, ◌<◌, ◌≤◌, List, [], ◌∷◌, map, length, Bool, true, false, if◌then◌else◌, Option, Some, None, Ok, refl, sym, ◌∙◌, ap, ap₂, subst, arith, le_of_eq, eqb-true}
use Rattle.std.proofs.lemmas.Bool.{eqb-false}
use Rattle.std.specs.Prelude.{slice_get, slice_set, option_map, ◌==◌, is_some, unwrap_or}
use Rattle.std.specs.Str.{bytes_eq}
use Rattle.js_tree.specs.declared.place.Place.{Place}
use Rattle.js_binding.specs.Scopes.{Scope, named, itself, place_of}
use Rattle.heap_values.specs.declared.ids.ScopeId.{ScopeId}
use Rattle.heap_values.specs.declared.value.Value.{Value}
use Rattle.heap_values.specs.declared.value.Value.TheVariants.{Undefined}
use Rattle.heap_values.specs.Views.{ScopeView, HeapView}
use Rattle.heap_objects.specs.Scope.{scope_with}
use Rattle.object_heap.specs.Heap.{scope_at, parent_in, slot_at, slot_written_in}
use Rattle.run_trees.specs.Runs.{After}
use Rattle.js_evaluation.specs.State.{RunState, RunEnd, Stop}
use Rattle.js_evaluation.specs.Objects.{global_id, put_on}
use Rattle.js_evaluation.specs.ByNames.{Standing, in_scope, in_own, in_global, place_or, found_in, found_from, standing, write_at, size_of}
use Rattle.js_law_names.specs.LookUps.{Environment, a_scope, own_scope, pairs_from, scope_of, environment_from}
use Rattle.js_law_names.specs.Writes.{has_name, holder, with_value, written, slots_in, ScopesFit, IsWritten, WritesAreLookUps, WritesBehindScopes}

-- ---- lists

get_same : {A : Type 0} (xs : List A) (i : ℕ) (y : A) → i < length xs → slice_get (slice_set xs i y) i ≡ Some y
get_same [] i y h = absurd (omega (arith, h))
get_same (x ∷ xs) zero y h = refl
get_same (x ∷ xs) (suc i) y h = let b : i < length xs = omega (arith, h) in get_same xs i y b

get_other : {A : Type 0} (xs : List A) (i j : ℕ) (y : A) → (i ≡ j → ⊥) → slice_get (slice_set xs i y) j ≡ slice_get xs j
get_other [] i j y h = refl
get_other (x ∷ xs) zero zero y h = absurd (h refl)
get_other (x ∷ xs) zero (suc j) y h = refl
get_other (x ∷ xs) (suc i) zero y h = refl
get_other (x ∷ xs) (suc i) (suc j) y h = get_other xs i j y (λ e. h (ap suc e))

set_length : {A : Type 0} (xs : List A) (i : ℕ) (y : A) → length (slice_set xs i y) ≡ length xs
set_length [] i y = refl
set_length (x ∷ xs) zero y = refl
set_length (x ∷ xs) (suc i) y = ap suc (set_length xs i y)

get_is_below : {A : Type 0} (xs : List A) (i : ℕ) (x : A) → slice_get xs i ≡ Some x → i < length xs
get_is_below [] i x h = cc
get_is_below (y ∷ xs) zero x h = omega arith
get_is_below (y ∷ xs) (suc i) x h = let b : i < length xs = get_is_below xs i x h in omega (arith, b)

-- ---- the pairs of one scope

-- the view with this value so many slots further
abbrev view_behind : ScopeView → ℕ → Option ℕ → Value → ScopeView
view_behind view slot None v = view
view_behind view slot (Some n) v = scope_with view (slot + n) v

module _ (view : ScopeView) (v : Value) where
  -- slots behind the written one
  pairs_above : (i slot : ℕ) (ys : List (List ℕ)) → i < slot
      → pairs_from (Some (scope_with view i v)) slot ys ≡ pairs_from (Some view) slot ys
  pairs_above i slot [] h = refl
  pairs_above i slot (y ∷ ys) h =
      let b : i < suc slot = omega (arith, h) in
      ap₂ (λ o pairs. (y, unwrap_or o Undefined) ∷ pairs) (get_other view.slots i slot v (λ e. omega (arith, h, e))) (pairs_above i (suc slot) ys b)

  by_test : (t : Bool) (slot : ℕ) (o : Option ℕ) (y : List ℕ) (ys : List (List ℕ)) (rest : List (List ℕ × Value))
      → slot < length view.slots
      → pairs_from (Some (view_behind view (suc slot) o v)) (suc slot) ys ≡ rest
      → pairs_from (Some (view_behind view slot (if t then Some 0 else option_map suc o) v)) slot (y ∷ ys)
      ≡ (if t then (y, v) ∷ pairs_from (Some view) (suc slot) ys else (y, slot_at (Some view) slot) ∷ rest)
  by_test true slot o y ys rest room h =
      let e : slot + 0 ≡ slot = omega arith in
      let b : slot < suc slot = omega arith in
      ap (λ n. pairs_from (Some (scope_with view n v)) slot (y ∷ ys)) e
      ∙ ap₂ (λ o pairs. (y, unwrap_or o Undefined) ∷ pairs) (get_same view.slots slot v room) (pairs_above slot (suc slot) ys b)
  by_test false slot None y ys rest room h = ap (λ pairs. (y, slot_at (Some view) slot) ∷ pairs) h
  by_test false slot (Some n) y ys rest room h =
      let e : slot + suc n ≡ suc slot + n = omega arith in
      let b : slot < suc slot + n = omega arith in
      ap (λ m. pairs_from (Some (scope_with view m v)) slot (y ∷ ys)) e
      ∙ ap₂ (λ o pairs. (y, unwrap_or o Undefined) ∷ pairs) (get_other view.slots (suc slot + n) slot v (λ e. omega (arith, b, e))) h

  pairs_written : (slot : ℕ) (x : List ℕ) (ys : List (List ℕ)) → slot + length ys ≤ length view.slots
      → pairs_from (Some (view_behind view slot (place_of x ys) v)) slot ys ≡ with_value x v (pairs_from (Some view) slot ys)
  pairs_written slot x [] room = refl
  pairs_written slot x (y ∷ ys) room =
      let b : slot < length view.slots = omega (arith, room) in
      let c : suc slot + length ys ≤ length view.slots = omega (arith, room) in
      by_test (bytes_eq x y) slot (place_of x ys) y ys _ b (pairs_written (suc slot) x ys c)

-- ---- one scope

module _ (i : ScopeId) (x : List ℕ) (v : Value) (j : ScopeId) (around around' : Environment)
    (further : around' ≡ written i x v around) where
  -- a scope that isn't written, or has no names that a write changes
  kept_one : (view : Option ScopeView) (t : Bool) (o : Option Scope) → (i.0 == j.0) ≡ t
      → ((ys : List (List ℕ)) → t ≡ true → o ≡ Some (named ys) → ⊥)
      → scope_of j view o around' ≡ written i x v (scope_of j view o around)
  kept_one view true None e other = ap₂ (λ (b : Bool) env. a_scope j (if b then [] else []) env) (sym e) further
  kept_one view false None e other = ap₂ (λ (b : Bool) env. a_scope j (if b then [] else []) env) (sym e) further
  kept_one view true (Some (named ys)) e other = absurd (other ys refl refl)
  kept_one view false (Some (named ys)) e other =
      ap₂ (λ (b : Bool) env. a_scope j (if b then with_value x v (pairs_from view 0 ys) else pairs_from view 0 ys) env) (sym e) further
  kept_one view t (Some (itself y)) e other = ap (own_scope j (y, slot_at view 0)) further

  written_one : (ys : List (List ℕ)) (view : ScopeView) → (i.0 == j.0) ≡ true → length ys ≤ length view.slots
      → scope_of j (Some (view_behind view 0 (place_of x ys) v)) (Some (named ys)) around'
      ≡ written i x v (scope_of j (Some view) (Some (named ys)) around)
  written_one ys view e room =
      let b : 0 + length ys ≤ length view.slots = omega (arith, room) in
      ap (λ pairs. a_scope j pairs around') (pairs_written view v 0 x ys b)
      ∙ ap₂ (λ (b : Bool) env. a_scope j (if b then with_value x v (pairs_from (Some view) 0 ys) else pairs_from (Some view) 0 ys) env) (sym e) further

-- ---- the scopes around

parent_behind : (view : ScopeView) (slot : ℕ) (o : Option ℕ) (v : Value) → (view_behind view slot o v).parent ≡ view.parent
parent_behind view slot None v = refl
parent_behind view slot (Some n) v = refl

parent_set : (scopes : List ScopeView) (i j : ℕ) (view new : ScopeView) → slice_get scopes i ≡ Some view
    → new.parent ≡ view.parent → parent_in (slice_get (slice_set scopes i new) j) ≡ parent_in (slice_get scopes j)
parent_set [] i j view new h e = refl
parent_set (w ∷ scopes) zero zero view new h e = let f : w ≡ view = cc in e ∙ ap (λ (z : ScopeView). z.parent) (sym f)
parent_set (w ∷ scopes) zero (suc j) view new h e = refl
parent_set (w ∷ scopes) (suc i) zero view new h e = refl
parent_set (w ∷ scopes) (suc i) (suc j) view new h e = parent_set scopes i j view new h e

module _ (names : List Scope) (h : HeapView) (i : ScopeId) (x : List ℕ) (v : Value) where
  -- the own name of a function expression keeps its value
  kept_from : (y : List ℕ) → slice_get names i.0 ≡ Some (itself y) → (n : ℕ) (o : Option ScopeId)
      → environment_from n names h o ≡ written i x v (environment_from n names h o)
  kept_from y here zero o = refl
  kept_from y here (suc n) None = refl
  kept_from y here (suc n) (Some j) =
      kept_one i x v j _ _ (kept_from y here n (parent_in (scope_at h j))) (scope_at h j) (i.0 == j.0) (slice_get names j.0) refl
      (λ ys e f. let at : slice_get names i.0 ≡ slice_get names j.0 = ap (slice_get names) (eqb-true i.0 j.0 e) in cc)

  module _ (ys : List (List ℕ)) (view : ScopeView) (here : slice_get names i.0 ≡ Some (named ys))
      (there : slice_get h.scopes i.0 ≡ Some view) (room : length ys ≤ length view.slots) where
    abbrev new_view : ScopeView
    new_view = view_behind view 0 (place_of x ys) v

    abbrev new_heap : HeapView
    new_heap = record h { scopes = slice_set h.scopes i.0 new_view }

    one_from : (j : ScopeId) (around around' : Environment) → around' ≡ written i x v around → (t : Bool) → (i.0 == j.0) ≡ t
        → scope_of j (scope_at new_heap j) (slice_get names j.0) around'
        ≡ written i x v (scope_of j (scope_at h j) (slice_get names j.0) around)
    one_from j around around' further true e =
        let same : i.0 ≡ j.0 = eqb-true i.0 j.0 e in
        let old : scope_at h j ≡ Some view = ap (slice_get h.scopes) (sym same) ∙ there in
        let new : scope_at new_heap j ≡ Some new_view = ap (slice_get new_heap.scopes) (sym same)
        ∙ get_same h.scopes i.0 new_view (get_is_below h.scopes i.0 view there) in
        let name : slice_get names j.0 ≡ Some (named ys) = ap (slice_get names) (sym same) ∙ here in
        ap₂ (λ o p. scope_of j o p around') new name
        ∙ written_one i x v j around around' further ys view e room
        ∙ sym (ap₂ (λ o p. written i x v (scope_of j o p around)) old name)
    one_from j around around' further false e =
        ap (λ o. scope_of j o (slice_get names j.0) around') (get_other h.scopes i.0 j.0 new_view (eqb-false i.0 j.0 e))
        ∙ kept_one i x v j around around' further (scope_at h j) false (slice_get names j.0) e (λ ys f g. cc)

    written_from : (n : ℕ) (o : Option ScopeId)
        → environment_from n names new_heap o ≡ written i x v (environment_from n names h o)
    written_from zero o = refl
    written_from (suc n) None = refl
    written_from (suc n) (Some j) =
        ap (λ p. scope_of j (scope_at new_heap j) (slice_get names j.0) (environment_from n names new_heap p))
        (parent_set h.scopes i.0 j.0 view new_view there (parent_behind view 0 (place_of x ys) v))
        ∙ one_from j _ _ (written_from n (parent_in (scope_at h j))) (i.0 == j.0) refl

-- ---- where a name stands

-- the scope where a name stands; none where it is global
abbrev scope_where : Standing → Option ScopeId
scope_where (in_scope i slot) = Some i
scope_where (in_own i) = Some i
scope_where in_global = None

-- the scope has this name in this place
abbrev Stands : List Scope → List ℕ → Standing → Type 0
Stands names x (in_scope i slot) = (ys : List (List ℕ)) × (slice_get names i.0 ≡ Some (named ys)) × (place_of x ys ≡ Some slot)
Stands names x (in_own i) = (y : List ℕ) × (slice_get names i.0 ≡ Some (itself y))
Stands names x in_global = Unit {0}

module _ (names : List Scope) (h : HeapView) (x : List ℕ) where
  stands_placed : (i : ScopeId) (ys : List (List ℕ)) (o : Option ℕ) (further : Standing) → slice_get names i.0 ≡ Some (named ys)
      → place_of x ys ≡ o → Stands names x further → Stands names x (place_or i o further)
  stands_placed i ys None further e f k = k
  stands_placed i ys (Some slot) further e f k = (ys, e, f)

  stands_own : (i : ScopeId) (y : List ℕ) (t : Bool) (further : Standing) → slice_get names i.0 ≡ Some (itself y)
      → Stands names x further → Stands names x (if t then in_own i else further)
  stands_own i y true further e k = (y, e)
  stands_own i y false further e k = k

  stands_one : (i : ScopeId) (o : Option Scope) (further : Standing) → slice_get names i.0 ≡ o → Stands names x further
      → Stands names x (found_in i o x further)
  stands_one i None further e k = k
  stands_one i (Some (named ys)) further e k = stands_placed i ys (place_of x ys) further e refl k
  stands_one i (Some (itself y)) further e k = stands_own i y (bytes_eq x y) further e k

  stands_from : (n : ℕ) (o : Option ScopeId) → Stands names x (found_from n names h o x)
  stands_from zero o = tt
  stands_from (suc n) None = tt
  stands_from (suc n) (Some i) = stands_one i (slice_get names i.0) _ refl (stands_from n (parent_in (scope_at h i)))

  -- ---- the holder of a name

  has_or : (t : Bool) (o : Option ℕ) (rest : Bool) → rest ≡ is_some o
      → (if t then true else rest) ≡ is_some (if t then Some 0 else option_map suc o)
  has_or true o rest e = refl
  has_or false None rest e = e
  has_or false (Some n) rest e = e

  has_place : (view : Option ScopeView) (slot : ℕ) (ys : List (List ℕ)) → has_name x (pairs_from view slot ys) ≡ is_some (place_of x ys)
  has_place view slot [] = refl
  has_place view slot (y ∷ ys) = has_or (bytes_eq x y) (place_of x ys) _ (has_place view (suc slot) ys)

  holder_placed : (i : ScopeId) (o : Option ℕ) (further : Standing) (outer : Option ScopeId) → outer ≡ scope_where further
      → (if is_some o then Some i else outer) ≡ scope_where (place_or i o further)
  holder_placed i None further outer e = e
  holder_placed i (Some slot) further outer e = refl

  holder_own : (i : ScopeId) (t : Bool) (further : Standing) (outer : Option ScopeId) → outer ≡ scope_where further
      → (if t then Some i else outer) ≡ scope_where (if t then in_own i else further)
  holder_own i true further outer e = refl
  holder_own i false further outer e = e

  holder_one : (i : ScopeId) (view : Option ScopeView) (o : Option Scope) (further : Standing) (around : Environment)
      → holder x around ≡ scope_where further → holder x (scope_of i view o around) ≡ scope_where (found_in i o x further)
  holder_one i view None further around e = e
  holder_one i view (Some (named ys)) further around e =
      ap (λ (b : Bool). if b then Some i else holder x around) (has_place view 0 ys)
      ∙ holder_placed i (place_of x ys) further (holder x around) e
  holder_one i view (Some (itself y)) further around e = holder_own i (bytes_eq x y) further (holder x around) e

  holder_from : (n : ℕ) (o : Option ScopeId) → holder x (environment_from n names h o) ≡ scope_where (found_from n names h o x)
  holder_from zero o = refl
  holder_from (suc n) None = refl
  holder_from (suc n) (Some i) = holder_one i (scope_at h i) (slice_get names i.0) _ _ (holder_from n (parent_in (scope_at h i)))

-- ---- a state whose scopes fit

-- the view of a scope that has names
record Fits (scopes : List ScopeView) (i size : ℕ) : Type 0 where
  view : ScopeView
  there : slice_get scopes i ≡ Some view
  slots : length view.slots ≡ size

fits_at : (scopes : List ScopeView) (names : List Scope) (i : ℕ) (x : Scope) → map slots_in scopes ≡ map size_of names
    → slice_get names i ≡ Some x → Fits scopes i (size_of x)
fits_at scopes [] i x e h = cc
fits_at [] (y ∷ names) i x e h = cc
fits_at (w ∷ scopes) (y ∷ names) zero x e h =
    let f : length w.slots ≡ size_of y = cc in
    let g : y ≡ x = cc in
    record { view = w; there = refl; slots = f ∙ ap size_of g }
fits_at (w ∷ scopes) (y ∷ names) (suc i) x e h =
    let f : map slots_in scopes ≡ map size_of names = cc in
    let k = fits_at scopes names i x f h in
    record { view = k.view; there = k.there; slots = k.slots }

sizes_set : (scopes : List ScopeView) (i : ℕ) (view new : ScopeView) → slice_get scopes i ≡ Some view
    → length new.slots ≡ length view.slots → map slots_in (slice_set scopes i new) ≡ map slots_in scopes
sizes_set [] i view new h e = refl
sizes_set (w ∷ scopes) zero view new h e =
    let f : w ≡ view = cc in ap (λ n. n ∷ map slots_in scopes) (e ∙ ap (λ (z : ScopeView). length z.slots) (sym f))
sizes_set (w ∷ scopes) (suc i) view new h e = ap (λ ns. length w.slots ∷ ns) (sizes_set scopes i view new h e)

size_behind : (view : ScopeView) (slot : ℕ) (o : Option ℕ) (v : Value) → length (view_behind view slot o v).slots ≡ length view.slots
size_behind view slot None v = refl
size_behind view slot (Some n) v = set_length view.slots (slot + n) v

-- ---- writes

module _ (x : List ℕ) (v : Value) (place : Place) (s : RunState) (fit : ScopesFit s) where
  abbrev Goes : Standing → ScopeId → Type 0
  Goes at i = (t : RunState) × IsWritten i x v s t
      × ((after : After RunState Stop RunEnd (Unit {0})) → write_at x v place at after s ≡ after (Ok tt) t)

  writes : (at : Standing) (i : ScopeId) → Stands s.names x at → scope_where at ≡ Some i → Goes at i
  writes (in_scope j slot) i k e =
      let same : j ≡ i = cc in
      let f = fits_at s.heap.scopes s.names j.0 (named k.0) fit.slots k.1 in
      let g : HeapView = new_heap s.names s.heap j x v k.0 f.view k.1 f.there (le_of_eq (sym f.slots)) in
      let t : RunState = record s { heap = g } in
      let seen = λ (scope : ScopeId). written_from s.names s.heap j x v k.0 f.view k.1 f.there (le_of_eq (sym f.slots)) (length s.names) (Some scope) in
      let at : slice_set s.heap.scopes j.0 (scope_with f.view slot v) ≡ g.scopes = (
      let e : slot ≡ 0 + slot = omega arith in
      ap (λ n. slice_set s.heap.scopes j.0 (scope_with f.view n v)) e
      ∙ ap (λ o. slice_set s.heap.scopes j.0 (view_behind f.view 0 o v)) (sym k.2)) in
      let is : IsWritten j x v s t = record {
        seen = seen;
        rest = refl;
        fit = record {
          slots = sizes_set s.heap.scopes j.0 f.view _ f.there (size_behind f.view 0 (place_of x k.0) v) ∙ fit.slots;
          newer = λ m p e. fit.newer m p (sym (parent_set s.heap.scopes j.0 m.0 f.view _ f.there (parent_behind f.view 0 (place_of x k.0) v)) ∙ e);
        };
      } in
      subst (Goes (in_scope j slot)) same (
        t,
        is,
        λ after.
            ap (λ o. after (Ok tt) (record s { heap = slot_written_in s.heap j.0 o slot v })) f.there
            ∙ ap (λ scopes. after (Ok tt) (record s { heap = record s.heap { scopes = scopes } })) at,
      )
  writes (in_own j) i k e =
      let same : j ≡ i = cc in
      let is : IsWritten j x v s s = record {
        seen = λ scope. kept_from s.names s.heap j x v k.0 k.1 (length s.names) (Some scope);
        rest = refl;
        fit = fit;
      } in
      subst (Goes (in_own j)) same (s, is, λ after. refl)
  writes in_global i k e = cc

pub writes_are_look_ups : WritesAreLookUps
writes_are_look_ups cx x v place s i fit held =
    writes x.name v place s fit (standing s cx.scope x.name) i
    (stands_from s.names s.heap x.name (length s.names) (Some cx.scope))
    (sym (holder_from s.names s.heap x.name (length s.names) (Some cx.scope)) ∙ held)

-- where no scope has the name
writes_on : (x : List ℕ) (v : Value) (place : Place) (s : RunState) (at : Standing) → scope_where at ≡ None
    → (after : After RunState Stop RunEnd (Unit {0})) → write_at x v place at after s ≡ put_on global_id x v place after s
writes_on x v place s (in_scope j slot) e after = cc
writes_on x v place s (in_own j) e after = cc
writes_on x v place s in_global e after = refl

pub writes_behind_scopes : WritesBehindScopes
writes_behind_scopes cx x v place s none after =
    writes_on x.name v place s (standing s cx.scope x.name)
    (sym (holder_from s.names s.heap x.name (length s.names) (Some cx.scope)) ∙ none) after
