-- Names and scopes: a name stands by its slot where it is looked up, and new scopes and functions keep it so.
use Rattle.std.proofs.Common.{◌≡◌, ℕ, zero, suc, ◌+◌, ◌<◌, pos, List, [], ◌∷◌, ◌++◌, length, Bool, true, false, if◌then◌else◌, Option, Some, None, Result, Ok, Err, refl, sym, ◌∙◌, ap, subst, arith, length-append, true≢false}
use Rattle.std.specs.Str.{bytes_eq}
use Rattle.std.specs.Prelude.{nat_lt, nat_le, codes}
use Rattle.js_tree.specs.declared.place.Place.{Place}
use Rattle.js_tree.specs.declared.bound.Bound.{Bound}
use Rattle.js_tree.specs.declared.bound.Bound.TheVariants.{Unbound, Slot, Own, Global}
use Rattle.js_tree.specs.declared.bound.BoundName.{BoundName}
use Rattle.js_binding.specs.Scopes.{Scope, named, itself, place_of, slot_or, binding_from}
use Rattle.js_binding.specs.Source.{unbound}
use Rattle.heap_values.specs.declared.answer.HeapAnswer.{HeapAnswer}
use Rattle.heap_values.specs.declared.answer.HeapAnswer.TheVariants as answer
use Rattle.heap_values.specs.declared.found.Found.{Found}
use Rattle.heap_values.specs.declared.found.Found.TheVariants as found
use Rattle.heap_values.specs.declared.ids.Kind.{Kind}
use Rattle.heap_values.specs.declared.ids.Kind.TheVariants as kind
use Rattle.heap_values.specs.declared.ids.ObjectId.{ObjectId}
use Rattle.heap_values.specs.declared.ids.ScopeId.{ScopeId}
use Rattle.heap_values.specs.declared.built_in.BuiltIn.TheVariants as built_in
use Rattle.heap_values.specs.declared.value.Value.{Value}
use Rattle.heap_values.specs.declared.value.Value.TheVariants.{Undefined, Bool as Truth, Number, Object}
use Rattle.heap_values.specs.Views.{HeapView}
use Rattle.heap_objects.specs.Object.{empty_object}
use Rattle.heap_objects.specs.Scope.{fresh_scope}
use Rattle.object_heap.specs.declared.limits.TheConstants.{MOST_CELLS}
use Rattle.object_heap.specs.Heap.{parent_in, scope_at, slot_of, found_of, older_of, made_of, scope_made_of}
use Rattle.run_trees.specs.Runs.{After, ◌>>=◌}
use Rattle.js_evaluation.specs.State.{RunState, nameless, RunEnd, Stop, Does, made, built_in_object}
use Rattle.js_evaluation.specs.State as state
use Rattle.js_evaluation.specs.Objects.{Context, global_id, global_value, closure}
use Rattle.js_evaluation.specs.ByNames as names
use Rattle.js_evaluation.specs.ByNames.{Standing, in_scope, in_own, in_global, place_or, found_in, found_from, standing, read_at, read_or_undefined_at, write_at, delete_at, size_of, scoped}
use Rattle.js_evaluation.specs.BySlots as slots
use Rattle.js_evaluation.specs.BySlots.{around_or, scope_out}
use Rattle.js_law_right.specs.Right.{Setting, NameRight}
use Rattle.js_law_names.proofs.Worlds.{get_below, IsScope, Shape, Later, later_self, later_then, shape_later, Fine, new_kept, new_is, kind_new}
use Rattle.js_law_names.proofs.Agreeing.{Agrees, Now, goes_on, gives, halts, reads_now, halts_now, sees, ◌onto◌, ◌then◌}
use Rattle.js_law_names.proofs.OfState.{make-agrees, define-agrees, write_slot-agrees, throw_error-agrees}
use Rattle.js_law_names.proofs.OfObjects.{found_value-agrees, put_on-agrees, delete_property-agrees}

-- ---- where a name stands

-- where a name of this bound stands
abbrev bound_stands : HeapView → ScopeId → Bound → Standing
bound_stands h scope Unbound = in_global
bound_stands h scope (Slot up slot) = in_scope (scope_out h up scope) slot
bound_stands h scope (Own up) = in_own (scope_out h up scope)
bound_stands h scope Global = in_global

module _ (names : List Scope) (h : HeapView) where
  out_next : (up : ℕ) (i : ScopeId)
      → scope_out h (suc up) i ≡ around_or (parent_in (scope_at h (scope_out h up i))) (scope_out h up i)
  out_next zero i = refl
  out_next (suc up) i = out_next up (around_or (parent_in (scope_at h i)) i)

  parent_is : (i : ScopeId) (x : Scope) (o : Option ScopeId) → IsScope names h.scopes i x o → parent_in (scope_at h i) ≡ o
  parent_is i x o k = ap parent_in k.there ∙ k.parent

  outward : (start : ScopeId) (up : ℕ) (i : ScopeId) (x : Scope) (p : ScopeId) → scope_out h up start ≡ i
      → IsScope names h.scopes i x (Some p)
      → scope_out h (suc up) start ≡ p
  outward start up i x p at k =
      out_next up start ∙ ap (λ j. around_or (parent_in (scope_at h j)) j) at ∙ ap (λ o. around_or o i) (parent_is i x (Some p) k)

  place_stands : (start : ScopeId) (up : ℕ) (i : ScopeId) (o : Option ℕ) (further : Standing) (b : Bound)
      → scope_out h up start ≡ i
      → further ≡ bound_stands h start b → place_or i o further ≡ bound_stands h start (slot_or up o b)
  place_stands start up i None further b at k = k
  place_stands start up i (Some slot) further b at k = ap (λ j. in_scope j slot) (sym at)

  own_stands : (start : ScopeId) (up : ℕ) (i : ScopeId) (t : Bool) (further : Standing) (b : Bound)
      → scope_out h up start ≡ i
      → further ≡ bound_stands h start b → (if t then in_own i else further) ≡ bound_stands h start (if t then Own up else b)
  own_stands start up i true further b at k = ap in_own (sym at)
  own_stands start up i false further b at k = k

  -- the look-up from a scope on comes to the place of the binding among the scopes around
  found_binding : (start : ScopeId) (x : List ℕ) (n up : ℕ) (i : ScopeId) (xs : List Scope) → scope_out h up start ≡ i
      → i.0 < n → Shape names h.scopes i xs
      → found_from n names h (Some i) x ≡ bound_stands h start (binding_from up x xs)
  found_binding start x zero up i xs at b k = absurd (omega (arith, b))
  found_binding start x (suc n) up i [] at b k =
      ap (λ o. found_in i o x (found_from n names h (parent_in (scope_at h i)) x)) k.has_names
      ∙ ap (λ o. found_from n names h o x) (parent_is i (named []) None k) ∙ none n
    where
      none : (n : ℕ) → found_from n names h None x ≡ in_global
      none zero = refl
      none (suc n) = refl
  found_binding start x (suc n) up i (named ys ∷ xs) at b k =
      ap (λ o. found_in i o x (found_from n names h (parent_in (scope_at h i)) x)) k.1.has_names
      ∙ ap (λ o. place_or i (place_of x ys) (found_from n names h o x)) (parent_is i (named ys) (Some k.0) k.1)
      ∙ place_stands start up i (place_of x ys) _ (binding_from (suc up) x xs) at
      (found_binding start x n (suc up) k.0 xs (outward start up i (named ys) k.0 at k.1) (omega (arith, b, k.2)) k.3)
  found_binding start x (suc n) up i (itself y ∷ xs) at b k =
      ap (λ o. found_in i o x (found_from n names h (parent_in (scope_at h i)) x)) k.1.has_names
      ∙ ap (λ o. if bytes_eq x y then in_own i else found_from n names h o x) (parent_is i (itself y) (Some k.0) k.1)
      ∙ own_stands start up i (bytes_eq x y) _ (binding_from (suc up) x xs) at
      (found_binding start x n (suc up) k.0 xs (outward start up i (itself y) k.0 at k.1) (omega (arith, b, k.2)) k.3)

  shape_below : (i : ScopeId) (xs : List Scope) → Shape names h.scopes i xs → i.0 < length names
  shape_below i [] k = get_below names i.0 (named []) k.has_names
  shape_below i (x ∷ xs) k = get_below names i.0 x k.1.has_names

stands : (s : RunState) (i : ScopeId) (xs : List Scope) (x : BoundName) → Shape s.names s.heap.scopes i xs → NameRight xs x
    → standing s i x.name ≡ bound_stands s.heap i x.bound
stands s i xs x h right =
    found_binding s.names s.heap i x.name (length s.names) 0 i xs refl (shape_below s.names s.heap i xs h) h
    ∙ ap (bound_stands s.heap i) (sym right)

-- ---- the words of slots

abbrev is_bound : Bound → Bool
is_bound Unbound = false
is_bound b = true

bound_or : (o : Option ℕ) (up : ℕ) (b : Bound) → is_bound b ≡ true → is_bound (slot_or up o b) ≡ true
bound_or None up b h = h
bound_or (Some slot) up b h = refl

bound_own : (t : Bool) (up : ℕ) (b : Bound) → is_bound b ≡ true → is_bound (if t then Own up else b) ≡ true
bound_own true up b h = refl
bound_own false up b h = h

bound_somewhere : (x : List ℕ) (up : ℕ) (xs : List Scope) → is_bound (binding_from up x xs) ≡ true
bound_somewhere x up [] = refl
bound_somewhere x up (named ys ∷ xs) = bound_or (place_of x ys) up (binding_from (suc up) x xs) (bound_somewhere x (suc up) xs)
bound_somewhere x up (itself y ∷ xs) = bound_own (bytes_eq x y) up (binding_from (suc up) x xs) (bound_somewhere x (suc up) xs)

-- a name of this bound
abbrev with_bound : List ℕ → Bound → BoundName
with_bound x b = record { name = x; bound = b }

module _ (cx : Context) (x : List ℕ) (place : Place) where
  read_there : (b : Bound) → is_bound b ≡ true → (k : After RunState Stop RunEnd Value) (t : RunState)
      → slots.read_name cx (with_bound x b) place k t ≡ read_at x place (bound_stands t.heap cx.scope b) k t
  read_there (Slot up slot) h k t = refl
  read_there (Own up) h k t = refl
  read_there Global h k t = refl
  read_there Unbound h k t = absurd (true≢false (sym h))

  undefined_there : (b : Bound) → is_bound b ≡ true → (k : After RunState Stop RunEnd Value) (t : RunState)
      → slots.read_or_undefined cx (with_bound x b) place k t ≡ read_or_undefined_at x place (bound_stands t.heap cx.scope b) k t
  undefined_there (Slot up slot) h k t = refl
  undefined_there (Own up) h k t = refl
  undefined_there Global h k t = refl
  undefined_there Unbound h k t = absurd (true≢false (sym h))

  written_there : (v : Value) (b : Bound) → is_bound b ≡ true → (k : After RunState Stop RunEnd (Unit {0})) (t : RunState)
      → slots.write_name cx (with_bound x b) v place k t ≡ write_at x v place (bound_stands t.heap cx.scope b) k t
  written_there v (Slot up slot) h k t = refl
  written_there v (Own up) h k t = refl
  written_there v Global h k t = refl
  written_there v Unbound h k t = absurd (true≢false (sym h))

  deleted_there : (b : Bound) → is_bound b ≡ true → (k : After RunState Stop RunEnd Value) (t : RunState)
      → slots.delete_bound x b place k t ≡ delete_at x place (bound_stands t.heap cx.scope b) k t
  deleted_there (Slot up slot) h k t = refl
  deleted_there (Own up) h k t = refl
  deleted_there Global h k t = refl
  deleted_there Unbound h k t = absurd (true≢false (sym h))

bound : (xs : List Scope) (x : BoundName) → NameRight xs x → is_bound x.bound ≡ true
bound xs x right = ap is_bound right ∙ bound_somewhere x.name 0 xs

at_bound : (z t : RunState) (cx : Context) (xs : List Scope) (x : BoundName) → Shape z.names z.heap.scopes cx.scope xs
    → NameRight xs x → Later z t
    → standing t cx.scope x.name ≡ bound_stands t.heap cx.scope x.bound
at_bound z t cx xs x h right l = stands t cx.scope xs x (shape_later z t cx.scope xs l h) right

abbrev scope_in_kind : Kind → ScopeId
scope_in_kind (kind.Function n i) = i
scope_in_kind k = record { 0 = 0 }

abbrev number_in : Kind → ℕ
number_in (kind.Function n i) = n
number_in k = 0

module _ {setting : ℕ → Setting} where
  -- ---- names

  global_value-agrees : {z : RunState} (name : List ℕ) (f : Found) (place : Place)
      → Agrees setting z (global_value name f place) (global_value name f place)
  global_value-agrees name (found.Value v) place = gives v
  global_value-agrees name found.Absent place = throw_error-agrees built_in.ReferenceErrorPrototype (name ++ codes " is not defined") place
  global_value-agrees name (found.LeftOut left_out) place = halts _

  at_reads : {z : RunState} (x : List ℕ) (place : Place) (at : Standing)
      → Agrees setting z (read_at x place at) (read_at x place at)
  at_reads x place (in_scope i slot) = sees (λ t l f. gives (slot_of t.heap i slot)) (λ t. refl)
  at_reads x place (in_own i) = sees (λ t l f. gives (slot_of t.heap i 0)) (λ t. refl)
  at_reads x place in_global = sees (λ t l f. global_value-agrees x (found_of t.heap global_id x) place) (λ t. refl)

  at_undefined : {z : RunState} (x : List ℕ) (place : Place) (at : Standing)
      → Agrees setting z (read_or_undefined_at x place at) (read_or_undefined_at x place at)
  at_undefined x place (in_scope i slot) = at_reads x place (in_scope i slot)
  at_undefined x place (in_own i) = at_reads x place (in_own i)
  at_undefined x place in_global = sees (λ t l f. found_value-agrees Undefined (found_of t.heap global_id x) place) (λ t. refl)

  at_writes : {z : RunState} (x : List ℕ) (v : Value) (place : Place) (at : Standing)
      → Agrees setting z (write_at x v place at) (write_at x v place at)
  at_writes x v place (in_scope i slot) = write_slot-agrees i slot v
  at_writes x v place (in_own i) = gives tt
  at_writes x v place in_global = put_on-agrees global_id x v place

  at_deletes : {z : RunState} (x : List ℕ) (place : Place) (at : Standing)
      → Agrees setting z (delete_at x place at) (delete_at x place at)
  at_deletes x place (in_scope i slot) = gives (Truth false)
  at_deletes x place (in_own i) = gives (Truth false)
  at_deletes x place in_global = delete_property-agrees (Object global_id) x place

  module _ {z : RunState} (cx : Context) (xs : List Scope) (x : BoundName) (place : Place) (h : Shape z.names z.heap.scopes cx.scope xs) (right : NameRight xs x) where
    pub reads_name : Agrees setting z (names.read_name cx (unbound x) place) (slots.read_name cx x place)
    reads_name = record {
      agree = λ t l f k k' w. ap (λ at. read_at x.name place at k t) (at_bound z t cx xs x h right l)
          ∙ (at_reads x.name place (bound_stands t.heap cx.scope x.bound)).agree t (later_self t) f k k' w
          ∙ sym (read_there cx x.name place x.bound (bound xs x right) k' (nameless t));
    }

    pub reads_or_undefined : Agrees setting z (names.read_or_undefined cx (unbound x) place) (slots.read_or_undefined cx x place)
    reads_or_undefined = record {
      agree = λ t l f k k' w. ap (λ at. read_or_undefined_at x.name place at k t) (at_bound z t cx xs x h right l)
          ∙ (at_undefined x.name place (bound_stands t.heap cx.scope x.bound)).agree t (later_self t) f k k' w
          ∙ sym (undefined_there cx x.name place x.bound (bound xs x right) k' (nameless t));
    }

    pub writes_name : (v : Value)
        → Agrees setting z (names.write_name cx (unbound x) v place) (slots.write_name cx x v place)
    writes_name v = record {
      agree = λ t l f k k' w. ap (λ at. write_at x.name v place at k t) (at_bound z t cx xs x h right l)
          ∙ (at_writes x.name v place (bound_stands t.heap cx.scope x.bound)).agree t (later_self t) f k k' w
          ∙ sym (written_there cx x.name place v x.bound (bound xs x right) k' (nameless t));
    }

    pub deletes_name : Agrees setting z (names.delete_name cx (unbound x) place) (slots.delete_bound x.name x.bound place)
    deletes_name = record {
      agree = λ t l f k k' w. ap (λ at. delete_at x.name place at k t) (at_bound z t cx xs x h right l)
          ∙ (at_deletes x.name place (bound_stands t.heap cx.scope x.bound)).agree t (later_self t) f k k' w
          ∙ sym (deleted_there cx x.name place x.bound (bound xs x right) k' (nameless t));
    }

  -- ---- functions

  function_now : (t : RunState) (n : ℕ) (scope : ScopeId) (prototype : Option ObjectId) (place : Place) (b : Bool)
      → Fine setting t
      → Shape t.names t.heap.scopes scope (setting n).around
      → let there : Result (ObjectId × HeapView) HeapAnswer = Ok (record { 0 = length t.heap.objects }, record t.heap { objects = t.heap.objects ++ empty_object (kind.Function n scope) prototype ∷ []; cells = t.heap.cells + 1 }) in
      Now setting t (made place (if b then Err answer.HeapFull else there)) (made place (if b then Err answer.HeapFull else there))
  function_now t n scope prototype place true f h = halts_now _
  function_now t n scope prototype place false f h =
      let u : RunState = record t { heap = record t.heap { objects = t.heap.objects ++ empty_object (kind.Function n scope) prototype ∷ []; cells = t.heap.cells + 1 } } in
      let Fits : Kind → Type 0 = λ k. (m : ℕ) (i : ScopeId) → k ≡ kind.Function m i → Shape t.names t.heap.scopes i (setting m).around in
      let fine : Fine setting u = record {
        counts = f.counts;
        closures = λ id m i e. kind_new Fits (λ m i d. cc) (empty_object (kind.Function n scope) prototype)
            (λ m i d. subst (λ (k : Kind). Shape t.names t.heap.scopes (scope_in_kind k) (setting (number_in k)).around) d h) t.heap.objects (λ j. f.closures j) id m i e;
      } in
      record { now = λ k k' w. w (Ok (record { 0 = length t.heap.objects })) u (record { kept = λ i x around h. h }) fine }

  -- a function is made in scopes that its setting has around it
  pub closes : {z : RunState} (n arity : ℕ) (scope : ScopeId) (place : Place)
      → Shape z.names z.heap.scopes scope (setting n).around
      → Agrees setting z (closure n arity scope place) (closure n arity scope place)
  closes {z = z} n arity scope place h =
      reads_now (λ t. made place (made_of t.heap (kind.Function n scope) (Some (built_in_object built_in.FunctionPrototype))))
      (λ t l f. function_now t n scope (older_of (Some (built_in_object built_in.FunctionPrototype)) (length t.heap.objects)) place (nat_le MOST_CELLS t.heap.cells) f (shape_later z t scope (setting n).around l h))
      onto (λ f. define-agrees f (codes "length") (Number (pos arity)) false false place
      then (make-agrees kind.Plain (Some (built_in_object built_in.ObjectPrototype)) place (λ m i e. cc) onto (λ prototype.
      define-agrees prototype (codes "constructor") (Object f) false true place
      then define-agrees f (codes "prototype") (Object prototype) false false place then gives (Object f))))

  -- ---- a new scope

  scope_now : {A : Type 0} (t : RunState) (x : Scope) (around : ScopeId) (xs : List Scope) (place : Place) (b : Bool) (f g : ScopeId → Does A)
      → Fine setting t → Shape t.names t.heap.scopes around xs
      → ((u : RunState) (i : ScopeId) → Later t u → Shape u.names u.heap.scopes i (x ∷ xs) → Agrees setting u (f i) (g i))
      → let there : Result (ScopeId × HeapView) HeapAnswer = Ok (record { 0 = length t.heap.scopes }, record t.heap { scopes = t.heap.scopes ++ fresh_scope (size_of x) (Some around) ∷ []; cells = t.heap.cells + (size_of x + 1) }) in
      Now setting t (scoped x place (if b then Err answer.HeapFull else there) >>= f) (made place (if b then Err answer.HeapFull else there) >>= g)
  scope_now t x around xs place true f g fine h w = halts_now _
  scope_now t x around xs place false f g fine h w =
      let u : RunState = record t {
        heap = record t.heap { scopes = t.heap.scopes ++ fresh_scope (size_of x) (Some around) ∷ []; cells = t.heap.cells + (size_of x + 1) };
        names = t.names ++ x ∷ [];
      } in
      let l : Later t u = record { kept = λ i y o h. new_kept t.names t.heap.scopes x (fresh_scope (size_of x) (Some around)) i y o h } in
      let finer : Fine setting u = record {
        counts = length-append t.names (x ∷ []) ∙ ap (λ n. n + 1) fine.counts ∙ sym (length-append t.heap.scopes (fresh_scope (size_of x) (Some around) ∷ []));
        closures = λ id n scope k. shape_later t u scope (setting n).around l (fine.closures id n scope k);
      } in
      let below : around.0 < length t.names = shape_below t.names t.heap around xs h in
      let new : ScopeId = record { 0 = length t.heap.scopes } in
      let shape : Shape u.names u.heap.scopes new (x ∷ xs) = (
        around,
        new_is t.names t.heap.scopes x (fresh_scope (size_of x) (Some around)) (Some around) fine.counts refl,
        omega (arith, below, fine.counts),
        shape_later t u around xs l h,
      ) in
      record { now = λ k k' v. (w u new l shape).agree u (later_self u) finer k k' (goes_on t u k k' l v) }

  -- a part that has a new scope, which stands in those around it
  pub in_new_scope : {A : Type 0} {z : RunState} (x : Scope) (around : ScopeId) (xs : List Scope) (place : Place) {f g : ScopeId → Does A}
      → Shape z.names z.heap.scopes around xs
      → ((u : RunState) (i : ScopeId) → Later z u → Shape u.names u.heap.scopes i (x ∷ xs) → Agrees setting u (f i) (g i))
      → Agrees setting z (names.make_scope x around place >>= f) (state.make_scope (size_of x) around place >>= g)
  in_new_scope {z = z} x around xs place {f = f} {g = g} h w = reads_now (λ t. made place (scope_made_of t.heap (size_of x) (Some around)) >>= g) (λ t l fine.
      scope_now t x around xs place (nat_lt MOST_CELLS (t.heap.cells + (size_of x + 1))) f g fine (shape_later z t around xs l h)
      (λ u i m shape. w u i (later_then z t u l m) shape))
