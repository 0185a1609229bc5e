-- The scopes of a run by names: what each change of the state keeps of them.
use Rattle.std.proofs.Common.{◌≡◌, ℕ, zero, suc, ◌<◌, List, [], ◌∷◌, ◌++◌, length, Option, Some, None, refl, sym, ◌∙◌, ap, subst, arith}
use Rattle.std.specs.Prelude.{slice_get, slice_set}
use Rattle.js_binding.specs.Scopes.{Scope, named}
use Rattle.heap_values.specs.declared.ids.Kind.{Kind}
use Rattle.heap_values.specs.declared.ids.Kind.TheVariants.{Function, Plain}
use Rattle.heap_values.specs.declared.ids.ScopeId.{ScopeId}
use Rattle.heap_values.specs.declared.value.Value.{Value}
use Rattle.heap_values.specs.Views.{ScopeView, HeapView, ObjectView}
use Rattle.object_heap.specs.Heap.{kind_in, slot_written_in}
use Rattle.js_evaluation.specs.State.{RunState}
use Rattle.js_law_right.specs.Right.{Setting}
use Rattle.js_law_names.proofs.Steady.{kind_at, Steady}

-- ---- lists

pub get_more : {A : Type 0} (xs ys : List A) (i : ℕ) (x : A) → slice_get xs i ≡ Some x → slice_get (xs ++ ys) i ≡ Some x
get_more [] ys i x h = cc
get_more (y ∷ xs) ys zero x h = h
get_more (y ∷ xs) ys (suc i) x h = get_more xs ys i x h

pub get_behind : {A : Type 0} (xs : List A) (x : A) → slice_get (xs ++ x ∷ []) (length xs) ≡ Some x
get_behind [] x = refl
get_behind (y ∷ xs) x = get_behind xs x

pub get_below : {A : Type 0} (xs : List A) (i : ℕ) (x : A) → slice_get xs i ≡ Some x → i < length xs
get_below [] i x h = cc
get_below (y ∷ xs) zero x h = omega arith
get_below (y ∷ xs) (suc i) x h = let b : i < length xs = get_below xs i x h in omega (arith, b)

-- ---- scopes

-- the scope of this number has these names, and this one around it
pub record IsScope (names : List Scope) (scopes : List ScopeView) (i : ScopeId) (x : Scope) (around : Option ScopeId) : Type 0 where
  pub has_names : slice_get names i.0 ≡ Some x
  pub view : ScopeView
  pub there : slice_get scopes i.0 ≡ Some view
  pub parent : view.parent ≡ around

-- From this scope outward stand scopes with these names; each is newer than the one around it. The outermost has no names.
abbrev pub Shape : List Scope → List ScopeView → ScopeId → List Scope → Type 0
Shape names scopes i [] = IsScope names scopes i (named []) None
Shape names scopes i (x ∷ xs) = (p : ScopeId) × IsScope names scopes i x (Some p) × (p.0 < i.0) × Shape names scopes p xs

-- the scopes of a state, with their names and what is around them, are those of a later one
pub record Later (s t : RunState) : Type 0 where
  pub kept : (i : ScopeId) (x : Scope) (around : Option ScopeId)
      → IsScope s.names s.heap.scopes i x around → IsScope t.names t.heap.scopes i x around

pub later_self : (s : RunState) → Later s s
later_self s = record { kept = λ i x around h. h }

pub later_then : (s t u : RunState) → Later s t → Later t u → Later s u
later_then s t u a b = record { kept = λ i x around h. b.kept i x around (a.kept i x around h) }

pub shape_later : (s t : RunState) (i : ScopeId) (xs : List Scope) → Later s t
    → Shape s.names s.heap.scopes i xs → Shape t.names t.heap.scopes i xs
shape_later s t i [] l h = l.kept i (named []) None h
shape_later s t i (x ∷ xs) l h = (h.0, l.kept i x (Some h.0) h.1, h.2, shape_later s t h.0 xs l h.3)

-- Each scope has its names, and each function stands among the scopes that its setting has around it.
pub record Fine (setting : ℕ → Setting) (s : RunState) : Type 0 where
  pub counts : length s.names ≡ length s.heap.scopes
  pub closures : (id n : ℕ) (scope : ScopeId) → kind_at s.heap id ≡ Function n scope
      → Shape s.names s.heap.scopes scope (setting n).around

-- ---- a new scope

pub new_kept : (names : List Scope) (scopes : List ScopeView) (y : Scope) (v : ScopeView) (i : ScopeId) (x : Scope) (around : Option ScopeId)
    → IsScope names scopes i x around → IsScope (names ++ y ∷ []) (scopes ++ v ∷ []) i x around
new_kept names scopes y v i x around h = record {
  has_names = get_more names (y ∷ []) i.0 x h.has_names;
  view = h.view;
  there = get_more scopes (v ∷ []) i.0 h.view h.there;
  parent = h.parent;
}

pub new_is : (names : List Scope) (scopes : List ScopeView) (y : Scope) (v : ScopeView) (around : Option ScopeId)
    → length names ≡ length scopes → v.parent ≡ around
    → IsScope (names ++ y ∷ []) (scopes ++ v ∷ []) (record { 0 = length scopes }) y around
new_is names scopes y v around counts parent = record {
  has_names = subst (λ n. slice_get (names ++ y ∷ []) n ≡ Some y) counts (get_behind names y);
  view = v;
  there = get_behind scopes v;
  parent = parent;
}

-- ---- a write to a slot

-- the view of this number has this scope around it
abbrev Around : List ScopeView → ℕ → Option ScopeId → Type 0
Around scopes i around = (view : ScopeView) × (slice_get scopes i ≡ Some view) × (view.parent ≡ around)

around_set : (scopes : List ScopeView) (j : ℕ) (w : ScopeView) → Around scopes j w.parent
    → (i : ℕ) (around : Option ScopeId) → Around scopes i around → Around (slice_set scopes j w) i around
around_set [] j w h i around a = a
around_set (v ∷ scopes) zero w h zero around a =
    let e : v ≡ h.0 = cc in
    let f : v ≡ a.0 = cc in
    (w, refl, sym h.2 ∙ ap (λ (z : ScopeView). z.parent) (sym e ∙ f) ∙ a.2)
around_set (v ∷ scopes) zero w h (suc i) around a = a
around_set (v ∷ scopes) (suc j) w h zero around a = a
around_set (v ∷ scopes) (suc j) w h (suc i) around a = around_set scopes j w h i around a

length_set : (scopes : List ScopeView) (j : ℕ) (w : ScopeView) → length (slice_set scopes j w) ≡ length scopes
length_set [] j w = refl
length_set (v ∷ scopes) zero w = refl
length_set (v ∷ scopes) (suc j) w = ap suc (length_set scopes j w)

around_with : (h : HeapView) (j : ℕ) (o : Option ScopeView) → slice_get h.scopes j ≡ o → (slot : ℕ) (v : Value)
    → (i : ℕ) (around : Option ScopeId) → Around h.scopes i around → Around (slot_written_in h j o slot v).scopes i around
around_with h j None e slot v i around a = a
around_with h j (Some w) e slot v i around a = around_set h.scopes j _ (w, e, refl) i around a

pub written_kept : (names : List Scope) (h : HeapView) (j : ScopeId) (slot : ℕ) (v : Value) (i : ScopeId) (x : Scope) (around : Option ScopeId)
    → IsScope names h.scopes i x around
    → IsScope names (slot_written_in h j.0 (slice_get h.scopes j.0) slot v).scopes i x around
written_kept names h j slot v i x around k =
    let a = around_with h j.0 (slice_get h.scopes j.0) refl slot v i.0 around (k.view, k.there, k.parent) in
    record { has_names = k.has_names; view = a.0; there = a.1; parent = a.2 }

pub length_with : (h : HeapView) (j : ℕ) (o : Option ScopeView) (slot : ℕ) (v : Value)
    → length (slot_written_in h j o slot v).scopes ≡ length h.scopes
length_with h j None slot v = refl
length_with h j (Some w) slot v = length_set h.scopes j _

pub kinds_with : (h : HeapView) (j : ℕ) (o : Option ScopeView) (slot : ℕ) (v : Value)
    → (slot_written_in h j o slot v).objects ≡ h.objects
kinds_with h j None slot v = refl
kinds_with h j (Some w) slot v = refl

-- ---- a heap with the same scopes and no new functions

pub steady_later : (s : RunState) (g : HeapView) → Steady s.heap g → Later s (record s { heap = g })
steady_later s g h = record { kept = λ i x around k. subst (λ scopes. IsScope s.names scopes i x around) (sym h.scopes) k }

pub steady_fine : (setting : ℕ → Setting) (s : RunState) (g : HeapView) → Steady s.heap g → Fine setting s
    → Fine setting (record s { heap = g })
steady_fine setting s g h f = record {
  counts = f.counts ∙ ap length (sym h.scopes);
  closures = λ id n scope e. shape_later s (record s { heap = g }) scope (setting n).around (steady_later s g h) (f.closures id n scope (h.functions id n scope e));
}

-- ---- a new object

pub kind_new : (P : Kind → Type 0) → P Plain → (o : ObjectView) → P o.kind → (objects : List ObjectView)
    → ((id : ℕ) → P (kind_in (slice_get objects id)))
    → (id : ℕ) → P (kind_in (slice_get (objects ++ o ∷ []) id))
kind_new P plain o new [] old zero = new
kind_new P plain o new [] old (suc id) = plain
kind_new P plain o new (p ∷ objects) old zero = old 0
kind_new P plain o new (p ∷ objects) old (suc id) = kind_new P plain o new objects (λ i. old (suc i)) id
