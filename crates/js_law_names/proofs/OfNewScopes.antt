-- What a new scope does to the scopes of a run, and that the scopes fit where a run begins.
use Rattle.std.proofs.Common.{◌≡◌, ℕ, zero, suc, ◌+◌, ◌<◌, List, [], ◌∷◌, ◌++◌, map, length, replicate, Bool, true, false, if◌then◌else◌, Option, Some, None, Result, Ok, Err, refl, sym, ◌∙◌, ap, ap₂, subst, arith, length-append}
use Rattle.std.specs.Prelude.{slice_get, unwrap_or, nat_lt}
use Rattle.js_binding.specs.Scopes.{Scope, named, itself}
use Rattle.heap_values.specs.declared.answer.HeapAnswer.{HeapAnswer}
use Rattle.heap_values.specs.declared.answer.HeapAnswer.TheVariants as answer
use Rattle.heap_values.specs.declared.ids.ScopeId.{ScopeId}
use Rattle.heap_values.specs.declared.value.Value.{Value}
use Rattle.heap_values.specs.declared.value.Value.TheVariants.{Undefined}
use Rattle.heap_values.specs.Views.{ScopeView, HeapView}
use Rattle.heap_objects.specs.Scope.{fresh_scope}
use Rattle.object_heap.specs.Heap.{scope_at, parent_in}
use Rattle.object_heap.specs.declared.limits.TheConstants.{MOST_CELLS}
use Rattle.js_evaluation.specs.State.{RunState}
use Rattle.js_evaluation.specs.ByNames.{scoped, size_of}
use Rattle.js_law_names.specs.LookUps.{Environment, no_scope, a_scope, own_scope, pairs_from, scope_of, environment_from, environment_of}
use Rattle.js_law_names.specs.Writes.{slots_in, ScopesFit, FirstScopesFit, new_scope, IsNewScope, NewScopesAreAround}
use Rattle.js_law_names.proofs.Worlds.{get_behind}

-- ---- lists

get_before : {A : Type 0} (xs ys : List A) (i : ℕ) → i < length xs → slice_get (xs ++ ys) i ≡ slice_get xs i
get_before [] ys i h = absurd (omega (arith, h))
get_before (x ∷ xs) ys zero h = refl
get_before (x ∷ xs) ys (suc i) h = let b : i < length xs = omega (arith, h) in get_before xs ys i b

map_behind : {A B : Type 0} (f : A → B) (xs : List A) (x : A) → map f (xs ++ x ∷ []) ≡ map f xs ++ f x ∷ []
map_behind f [] x = refl
map_behind f (y ∷ xs) x = ap (λ ys. f y ∷ ys) (map_behind f xs x)

map_length : {A B : Type 0} (f : A → B) (xs : List A) → length (map f xs) ≡ length xs
map_length f [] = refl
map_length f (x ∷ xs) = ap suc (map_length f xs)

length_replicate : (n : ℕ) (v : Value) → length (replicate n v) ≡ n
length_replicate zero v = refl
length_replicate (suc n) v = ap suc (length_replicate n v)

undefined_at : (n i : ℕ) → unwrap_or (slice_get (replicate n Undefined) i) Undefined ≡ Undefined
undefined_at zero i = refl
undefined_at (suc n) zero = refl
undefined_at (suc n) (suc i) = undefined_at n i

fit_counts : (s : RunState) → ScopesFit s → length s.heap.scopes ≡ length s.names
fit_counts s fit = sym (map_length slots_in s.heap.scopes) ∙ ap length fit.slots ∙ map_length size_of s.names

-- ---- the scopes around one of these

module _ (names : List Scope) (h : HeapView) where
  none_from : (n : ℕ) → environment_from n names h None ≡ no_scope
  none_from zero = refl
  none_from (suc n) = refl

  module _ (newer : (i p : ScopeId) → parent_in (scope_at h i) ≡ Some p → p.0 < i.0) where
    -- a scope has fewer scopes around it than its number says
    longer_in : (n m : ℕ) (i : ScopeId) → i.0 < n → i.0 < m → (o : Option ScopeId) → parent_in (scope_at h i) ≡ o
        → environment_from n names h (Some i) ≡ environment_from m names h (Some i)
    longer_in zero m i a b o e = absurd (omega (arith, a))
    longer_in (suc n) zero i a b o e = absurd (omega (arith, b))
    longer_in (suc n) (suc m) i a b None e =
        let none : environment_from n names h (parent_in (scope_at h i)) ≡ environment_from m names h (parent_in (scope_at h i))
        = ap (environment_from n names h) e ∙ none_from n ∙ sym (none_from m) ∙ ap (environment_from m names h) (sym e) in
        ap (scope_of i (scope_at h i) (slice_get names i.0)) none
    longer_in (suc n) (suc m) i a b (Some p) e =
        let c : p.0 < i.0 = newer i p e in
        let d : p.0 < n = omega (arith, a, c) in
        let f : p.0 < m = omega (arith, b, c) in
        ap (scope_of i (scope_at h i) (slice_get names i.0))
        (ap (environment_from n names h) e ∙ longer_in n m p d f (parent_in (scope_at h p)) refl ∙ ap (environment_from m names h) (sym e))

    longer : (n m : ℕ) (i : ScopeId) → i.0 < n → i.0 < m
        → environment_from n names h (Some i) ≡ environment_from m names h (Some i)
    longer n m i a b = longer_in n m i a b (parent_in (scope_at h i)) refl

-- ---- one scope more

module _ (s : RunState) (fit : ScopesFit s) (x : Scope) (around : ScopeId) (inside : around.0 < length s.names) where
  abbrev view : ScopeView
  view = fresh_scope (size_of x) (Some around)

  abbrev heap : HeapView
  heap = record s.heap { scopes = s.heap.scopes ++ view ∷ []; cells = s.heap.cells + (size_of x + 1) }

  abbrev names : List Scope
  names = s.names ++ x ∷ []

  abbrev new : ScopeId
  new = record { 0 = length s.heap.scopes }

  abbrev behind : RunState
  behind = record s { heap = heap; names = names }

  view_before : (i : ScopeId) → i.0 < length s.names → scope_at heap i ≡ scope_at s.heap i
  view_before i b = let c : i.0 < length s.heap.scopes = omega (arith, b, fit_counts s fit) in get_before s.heap.scopes (view ∷ []) i.0 c

  same_in : (n : ℕ) (i : ScopeId) → i.0 < length s.names → (o : Option ScopeId) → parent_in (scope_at s.heap i) ≡ o
      → environment_from n names heap (Some i) ≡ environment_from n s.names s.heap (Some i)
  same_in zero i b o e = refl
  same_in (suc n) i b None e =
      ap₂ (λ w y. scope_of i w y (environment_from n names heap (parent_in w))) (view_before i b) (get_before s.names (x ∷ []) i.0 b)
      ∙ ap (scope_of i (scope_at s.heap i) (slice_get s.names i.0))
      (ap (environment_from n names heap) e ∙ none_from names heap n ∙ sym (none_from s.names s.heap n) ∙ ap (environment_from n s.names s.heap) (sym e))
  same_in (suc n) i b (Some p) e =
      let c : p.0 < i.0 = fit.newer i p e in
      let d : p.0 < length s.names = omega (arith, b, c) in
      ap₂ (λ w y. scope_of i w y (environment_from n names heap (parent_in w))) (view_before i b) (get_before s.names (x ∷ []) i.0 b)
      ∙ ap (scope_of i (scope_at s.heap i) (slice_get s.names i.0))
      (ap (environment_from n names heap) e ∙ same_in n p d (parent_in (scope_at s.heap p)) refl ∙ ap (environment_from n s.names s.heap) (sym e))

  same_from : (n : ℕ) (i : ScopeId) → i.0 < length s.names
      → environment_from n names heap (Some i) ≡ environment_from n s.names s.heap (Some i)
  same_from n i b = same_in n i b (parent_in (scope_at s.heap i)) refl

  more_names : length names ≡ suc (length s.names)
  more_names = let e = length-append s.names (x ∷ []) in omega (arith, e)

  seen_before : (i : ScopeId) → i.0 < length s.names → environment_of behind i ≡ environment_of s i
  seen_before i b =
      let c : i.0 < length names = omega (arith, b, more_names) in
      same_from (length names) i b ∙ longer s.names s.heap fit.newer (length names) (length s.names) i c b

  fresh_pairs : (slot : ℕ) (ys : List (List ℕ)) → pairs_from (Some view) slot ys ≡ map (λ y. (y, Undefined)) ys
  fresh_pairs slot [] = refl
  fresh_pairs slot (y ∷ ys) = ap₂ (λ v pairs. (y, v) ∷ pairs) (undefined_at (size_of x) slot) (fresh_pairs (suc slot) ys)

  fresh_one : (i : ScopeId) (y : Scope) (outer : Environment) → scope_of i (Some view) (Some y) outer ≡ new_scope i y outer
  fresh_one i (named ys) outer = ap (λ pairs. a_scope i pairs outer) (fresh_pairs 0 ys)
  fresh_one i (itself y) outer = ap (λ v. own_scope i (y, v) outer) (undefined_at (size_of x) 0)

  new_name : slice_get names (length s.heap.scopes) ≡ Some x
  new_name = ap (slice_get names) (fit_counts s fit) ∙ get_behind s.names x

  seen_new : environment_of behind new ≡ new_scope new x (environment_of s around)
  seen_new =
      ap (λ n. environment_from n names heap (Some new)) more_names
      ∙ ap₂ (λ w y. scope_of new w y (environment_from (length s.names) names heap (parent_in w))) (get_behind s.heap.scopes view) new_name
      ∙ ap (scope_of new (Some view) (Some x)) (same_from (length s.names) around inside)
      ∙ fresh_one new x (environment_of s around)

  newer_end : (scopes : List ScopeView) (a : ℕ) → ((i : ℕ) (p : ScopeId) → parent_in (slice_get scopes i) ≡ Some p → p.0 < a + i)
      → around.0 < a + length scopes
      → (i : ℕ) (p : ScopeId) → parent_in (slice_get (scopes ++ view ∷ []) i) ≡ Some p → p.0 < a + i
  newer_end [] a old b zero p e =
      let f : around ≡ p = cc in
      subst (λ (q : ScopeId). q.0 < a + 0) f b
  newer_end [] a old b (suc i) p e = cc
  newer_end (w ∷ scopes) a old b zero p e = old zero p e
  newer_end (w ∷ scopes) a old b (suc i) p e =
      let c : around.0 < suc a + length scopes = omega (arith, b) in
      let d : p.0 < suc a + i = newer_end scopes (suc a) (λ j q f. let g = old (suc j) q f in omega (arith, g)) c i p e in
      omega (arith, d)

  behind_fits : ScopesFit behind
  behind_fits = record {
    slots = map_behind slots_in s.heap.scopes view
        ∙ ap₂ (λ ns n. ns ++ n ∷ []) fit.slots (length_replicate (size_of x) Undefined)
        ∙ sym (map_behind size_of s.names x);
    newer = λ i p e.
        let old = λ (j : ℕ) (q : ScopeId) (f : parent_in (slice_get s.heap.scopes j) ≡ Some q).
        (let g : q.0 < j = fit.newer (record { 0 = j }) q f in let k : q.0 < 0 + j = omega (arith, g) in k) in
        let c : around.0 < 0 + length s.heap.scopes = omega (arith, inside, fit_counts s fit) in
        let d : p.0 < 0 + i.0 = newer_end s.heap.scopes 0 old c i.0 p e in
        omega (arith, d);
  }

  new_is : IsNewScope new x around s behind
  new_is = record { new = fit_counts s fit; seen = seen_new; before = seen_before; rest = refl; fit = behind_fits }

-- what was made, where there was room
made_is : (b : Bool) (m made : ScopeId × HeapView)
    → let result : Result (ScopeId × HeapView) HeapAnswer = Ok m in (if b then Err answer.HeapFull else result) ≡ Ok made → m ≡ made
made_is true m made e = cc
made_is false m made e = cc

pub new_scopes_are_around : NewScopesAreAround
new_scopes_are_around names around place s made fit inside e =
    let same = made_is (nat_lt MOST_CELLS (s.heap.cells + (size_of names + 1))) (new s fit names around inside, heap s fit names around inside) made e in (
      record s { heap = made.1; names = s.names ++ names ∷ [] },
      subst (λ (m : ScopeId × HeapView). IsNewScope m.0 names around s (record s { heap = m.1; names = s.names ++ names ∷ [] })) same (new_is s fit names around inside),
      λ after. ap (λ result. scoped names place result after s) e,
    )

first_newer : (i : ℕ) (p : ScopeId) → parent_in (slice_get (fresh_scope 0 None ∷ []) i) ≡ Some p → p.0 < i
first_newer zero p e = cc
first_newer (suc i) p e = cc

pub first_scopes_fit : FirstScopesFit
first_scopes_fit entry = record { slots = refl; newer = λ i p e. first_newer i.0 p e }
