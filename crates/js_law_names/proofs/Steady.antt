-- No call of a heap but the making of a function brings a function, and none of these changes a scope.
use Rattle.std.proofs.Common.{◌≡◌, ℕ, zero, suc, ◌+◌, ◌-◌, pos, List, [], ◌∷◌, ◌++◌, length, Bool, true, false, if◌then◌else◌, Option, Some, None, Result, Ok, Err, refl, sym, ◌∙◌, ap}
use Rattle.std.specs.Prelude.{negsuc, slice_get, slice_set, nat_eq, nat_le, nat_lt, ◌/◌, codes}
use Rattle.std.specs.Fmt.{decimal}
use Rattle.js_pattern_reader.specs.Literal.{Literal}
use Rattle.heap_values.specs.declared.answer.HeapAnswer.{HeapAnswer}
use Rattle.heap_values.specs.declared.ids.Kind.{Kind}
use Rattle.heap_values.specs.declared.ids.Kind.TheVariants as kind
use Rattle.heap_values.specs.declared.ids.ObjectId.{ObjectId}
use Rattle.heap_values.specs.declared.ids.ScopeId.{ScopeId}
use Rattle.heap_values.specs.declared.property.Property.{Property}
use Rattle.heap_values.specs.declared.value.Value.{Value}
use Rattle.heap_values.specs.declared.value.Value.TheVariants as value
use Rattle.heap_values.specs.Views.{HeapView, ObjectView}
use Rattle.heap_objects.specs.Object.{is_length, object_with, object_without, object_cut, can_delete, empty_object}
use Rattle.heap_elements.specs.Properties.{property_at}
use Rattle.object_heap.specs.Heap.{object_at, kind_in, older_of, made_of, pattern_object, pattern_made_of, length_stored, property_cost, stored_at, stored_in, stored, deleted_in, deleted_of}
use Rattle.object_heap.specs.declared.limits.TheConstants.{LONGEST_ARRAY, MOST_CELLS}
use Rattle.array_builtins.specs.declared.call.ArrayMethod.{ArrayMethod}
use Rattle.array_builtins.specs.declared.call.ArrayMethod.TheVariants as method
use Rattle.array_builtins.specs.Steps.{then_on, steps, steps_down, giving}
use Rattle.array_builtins.specs.Elements as def
use Rattle.array_builtins.specs.Ends as ends
use Rattle.array_builtins.specs.Order as order
use Rattle.array_builtins.specs.Parts as parts
use Rattle.array_builtins.specs.Arguments.{place_or, first_number, second_number}
use Rattle.array_builtins.specs.Splicing as splicing
use Rattle.array_builtins.specs.Call.{array_result}

-- the kind of the object of a number
abbrev pub kind_at : HeapView → ℕ → Kind
kind_at h i = kind_in (slice_get h.objects i)

-- the scopes are the same, and each function was one
pub record Steady (h g : HeapView) : Type 0 where
  pub scopes : g.scopes ≡ h.scopes
  pub functions : (i n : ℕ) (scope : ScopeId) → kind_at g i ≡ kind.Function n scope → kind_at h i ≡ kind.Function n scope

pub steady_self : (h : HeapView) → Steady h h
steady_self h = record { scopes = refl; functions = λ i n scope e. e }

pub steady_then : (h g f : HeapView) → Steady h g → Steady g f → Steady h f
steady_then h g f a b = record { scopes = b.scopes ∙ a.scopes; functions = λ i n scope e. a.functions i n scope (b.functions i n scope e) }

-- where it isn't refused, what is given has such a heap
abbrev pub Leads : {A : Type 0} → (A → HeapView) → HeapView → Result A HeapAnswer → Type 0
Leads heap h (Ok a) = Steady h (heap a)
Leads heap h (Err e) = Unit {0}

abbrev pub itself : HeapView → HeapView
itself h = h

abbrev pub beside : {A : Type 0} → A × HeapView → HeapView
beside x = x.1

pub leads_behind : {A : Type 0} (heap : A → HeapView) (h g : HeapView) (r : Result A HeapAnswer) → Steady h g
    → Leads heap g r → Leads heap h r
leads_behind heap h g (Ok a) s l = steady_then h g (heap a) s l
leads_behind heap h g (Err e) s l = tt

pub leads_then : {A B : Type 0} (heap : A → HeapView) (next : B → HeapView) (h : HeapView) (r : Result A HeapAnswer) (f : A → Result B HeapAnswer)
    → Leads heap h r → ((a : A) → Leads next (heap a) (f a)) → Leads next h (then_on r f)
leads_then heap next h (Ok a) f l w = leads_behind next h (heap a) (f a) l (w a)
leads_then heap next h (Err e) f l w = tt

pub leads_if : {A : Type 0} (heap : A → HeapView) (h : HeapView) (b : Bool) (r q : Result A HeapAnswer) → Leads heap h r
    → Leads heap h q → Leads heap h (if b then r else q)
leads_if heap h true r q l m = l
leads_if heap h false r q l m = m

-- ---- the heap

pub kinds_set : (objects : List ObjectView) (at : ℕ) (o p : ObjectView) → slice_get objects at ≡ Some o → p.kind ≡ o.kind
    → (i : ℕ) → kind_in (slice_get (slice_set objects at p) i) ≡ kind_in (slice_get objects i)
kinds_set [] at o p e k i = refl
kinds_set (q ∷ objects) zero o p e k zero = let f : q ≡ o = cc in k ∙ ap (λ (z : ObjectView). z.kind) (sym f)
kinds_set (q ∷ objects) zero o p e k (suc i) = refl
kinds_set (q ∷ objects) (suc at) o p e k zero = refl
kinds_set (q ∷ objects) (suc at) o p e k (suc i) = kinds_set objects at o p e k i

-- an object of the same kind in its place
pub set_steady : (h : HeapView) (at : ℕ) (o p : ObjectView) (cells : ℕ) → slice_get h.objects at ≡ Some o → p.kind ≡ o.kind
    → Steady h (record h { objects = slice_set h.objects at p; cells = cells })
set_steady h at o p cells e k = record { scopes = refl; functions = λ i n scope f. sym (kinds_set h.objects at o p e k i) ∙ f }

length_steady : (h : HeapView) (at : ℕ) (o : ObjectView) (v : Value) → slice_get h.objects at ≡ Some o
    → Leads itself h (length_stored h at o v)
length_steady h at o (value.Number (pos n)) e =
    leads_if itself h (nat_lt LONGEST_ARRAY n) _ _ tt (leads_if itself h (nat_lt MOST_CELLS (h.cells + (n - o.length))) _ _ tt (set_steady h at o (object_cut o n) _ e refl))
length_steady h at o (value.Number (negsuc n)) e = tt
length_steady h at o value.Undefined e = tt
length_steady h at o value.Null e = tt
length_steady h at o (value.Bool b) e = tt
length_steady h at o (value.Text t) e = tt
length_steady h at o (value.Object id) e = tt

at_steady : (h : HeapView) (at : ℕ) (o p : ObjectView) (r : Result ℕ HeapAnswer) → slice_get h.objects at ≡ Some o
    → p.kind ≡ o.kind → Leads itself h (stored_at h at p r)
at_steady h at o p (Ok cost) e k = set_steady h at o p _ e k
at_steady h at o p (Err x) e k = tt

in_steady : (h : HeapView) (at : ℕ) (o : Option ObjectView) (name : List ℕ) (v : Value) (new : Option Property → Property)
    → slice_get h.objects at ≡ o → Leads itself h (stored_in h at o name v new)
in_steady h at None name v new e = steady_self h
in_steady h at (Some o) name v new e =
    leads_if itself h (is_length o.kind name) _ _ (length_steady h at o v e)
    (at_steady h at o (object_with o name (new (property_at o.properties name))) (property_cost h.cells o name) e refl)

pub stored_steady : (h : HeapView) (id : ObjectId) (name : List ℕ) (v : Value) (new : Option Property → Property)
    → Leads itself h (stored h id name v new)
stored_steady h id name v new = in_steady h id.0 (object_at h id) name v new refl

without_kind : (o : ObjectView) (name : List ℕ) (b : Bool) (p : ObjectView) → p.kind ≡ o.kind
    → (if b then p else o).kind ≡ o.kind
without_kind o name true p e = e
without_kind o name false p e = refl

deleted_in_steady : (h : HeapView) (id : ℕ) (o : Option ObjectView) (name : List ℕ) → slice_get h.objects id ≡ o
    → Steady h (deleted_in h id o name).1
deleted_in_steady h id None name e = steady_self h
deleted_in_steady h id (Some o) name e = set_steady h id o (object_without o name) h.cells e (without_kind o name (can_delete o name) _ refl)

pub deleted_steady : (h : HeapView) (id : ObjectId) (name : List ℕ) → Steady h (deleted_of h id name).1
deleted_steady h id name = deleted_in_steady h id.0 (object_at h id) name refl

-- ---- arrays

module _ (array : ObjectId) where
  put_leads : (h : HeapView) (name : List ℕ) (v : Value) → Leads itself h (def.put h array name v)
  put_leads h name v = stored_steady h array name v _

  length_leads : (h : HeapView) (n : ℕ) → Leads itself h (def.length_set h array n)
  length_leads h n = leads_if itself h (nat_lt LONGEST_ARRAY n) _ _ tt (put_leads h (codes "length") _)

  cut_leads : (h : HeapView) (name : List ℕ) (n : ℕ) → Leads itself h (def.cut h array name n)
  cut_leads h name n = leads_behind itself h (def.without h array name) _ (deleted_steady h array name) (length_leads (def.without h array name) n)

  all_put_leads : (h : HeapView) (at : ℕ) (vs : List Value) → Leads itself h (def.all_put h array at vs)
  all_put_leads h at [] = steady_self h
  all_put_leads h at (v ∷ vs) = leads_then itself itself h _ _ (put_leads h (decimal at) v) (λ g. all_put_leads g (at + 1) vs)

  put_or_deleted_leads : (h : HeapView) (name : List ℕ) (o : Option Value)
      → Leads itself h (def.put_or_deleted h array name o)
  put_or_deleted_leads h name (Some v) = put_leads h name v
  put_or_deleted_leads h name None = deleted_steady h array name

steps_lead : (f : ℕ → HeapView → Result HeapView HeapAnswer) → ((k : ℕ) (h : HeapView) → Leads itself h (f k h))
    → (count k : ℕ) (h : HeapView) → Leads itself h (steps f count k h)
steps_lead f w zero k h = steady_self h
steps_lead f w (suc count) k h = leads_then itself itself h (f k h) _ (w k h) (λ g. steps_lead f w count (k + 1) g)

steps_down_lead : (f : ℕ → HeapView → Result HeapView HeapAnswer) → ((k : ℕ) (h : HeapView) → Leads itself h (f k h))
    → (n : ℕ) (h : HeapView) → Leads itself h (steps_down f n h)
steps_down_lead f w zero h = steady_self h
steps_down_lead f w (suc n) h = leads_then itself itself h (f n h) _ (w n h) (λ g. steps_down_lead f w n g)

giving_leads : (h : HeapView) (v : Value) (r : Result HeapView HeapAnswer) → Leads itself h r → Leads beside h (giving v r)
giving_leads h v (Ok g) l = l
giving_leads h v (Err e) l = tt

module _ (array : ObjectId) where
  forward_leads : (h : HeapView) (from to count : ℕ) → Leads itself h (def.moved_forward h array from to count)
  forward_leads h from to count = steps_lead (def.move_step array from to) (λ k g. put_or_deleted_leads array g _ _) count 0 h

  backward_leads : (h : HeapView) (from to count : ℕ) → Leads itself h (def.moved_backward h array from to count)
  backward_leads h from to count = steps_down_lead (def.move_step array from to) (λ k g. put_or_deleted_leads array g _ _) count h

  with_length_leads : (h : HeapView) (n : ℕ) → Leads beside h (ends.with_length h array n)
  with_length_leads h n = giving_leads h _ _ (length_leads array h n)

  push_leads : (h : HeapView) (vs : List Value) → Leads beside h (ends.push_of h array vs)
  push_leads h vs = leads_then itself beside h _ _ (all_put_leads array h (def.size_of h array) vs) (λ g. with_length_leads g _)

  popped_leads : (h : HeapView) (n : ℕ) → Leads beside h (ends.popped h array n)
  popped_leads h n = leads_if beside h (nat_eq n 0) _ _ (giving_leads h _ _ (length_leads array h 0)) (giving_leads h _ _ (cut_leads array h _ (n - 1)))

  shifted_leads : (h : HeapView) (n : ℕ) → Leads beside h (ends.shifted h array n)
  shifted_leads h n = leads_if beside h (nat_eq n 0) _ _ (giving_leads h _ _ (length_leads array h 0))
      (giving_leads h _ _ (leads_then itself itself h _ _ (forward_leads h 1 0 (n - 1)) (λ g. cut_leads array g _ (n - 1))))

  unshift_leads : (h : HeapView) (vs : List Value) → Leads beside h (ends.unshift_of h array vs)
  unshift_leads h vs = leads_then itself beside h _ _ (backward_leads h 0 (length vs) (def.size_of h array)) (λ g.
      leads_then itself beside g _ _ (all_put_leads array g 0 vs) (λ f. with_length_leads f _))

  exchanged_leads : (h : HeapView) (low high : List ℕ) (a b : Option Value)
      → Leads itself h (order.exchanged h array low high a b)
  exchanged_leads h low high (Some a) (Some b) = leads_then itself itself h _ _ (put_leads array h low b) (λ g. put_leads array g high a)
  exchanged_leads h low high None (Some b) = leads_then itself itself h _ _ (put_leads array h low b) (λ g. deleted_steady g array high)
  exchanged_leads h low high (Some a) None = leads_behind itself h (def.without h array low) _ (deleted_steady h array low) (put_leads array (def.without h array low) high a)
  exchanged_leads h low high None None = steady_self h

  reversed_leads : (h : HeapView) (n : ℕ) → Leads itself h (order.reversed h array n)
  reversed_leads h n = steps_lead (order.reverse_step array n) (λ k g. exchanged_leads g _ _ _ _) (n / 2) 0 h

  all_deleted_leads : (h : HeapView) (from count : ℕ) → Leads itself h (splicing.all_deleted h array from count)
  all_deleted_leads h from count = steps_down_lead (splicing.delete_step array from) (λ k g. deleted_steady g array _) count h

  room_leads : (h : HeapView) (n start count more : ℕ) → Leads itself h (splicing.room_made h array n start count more)
  room_leads h n start count more = leads_if itself h (nat_lt more count) _ _
      (leads_then itself itself h _ _ (forward_leads h (start + count) (start + more) (n - start - count)) (λ g. all_deleted_leads g (n - count + more) (count - more)))
      (leads_if itself h (nat_lt count more) _ _ (backward_leads h _ _ _) (steady_self h))

  replaced_leads : (h : HeapView) (n start count : ℕ) (vs : List Value)
      → Leads itself h (splicing.replaced h array n start count vs)
  replaced_leads h n start count vs = leads_then itself itself h _ _ (room_leads h n start count (length vs)) (λ g.
      leads_then itself itself g _ _ (all_put_leads array g start vs) (λ f. length_leads array f _))

-- a new object that is no function
made_kind : (objects : List ObjectView) (o : ObjectView) (i : ℕ) (n : ℕ) (scope : ScopeId)
    → (o.kind ≡ kind.Function n scope → ⊥)
    → kind_in (slice_get (objects ++ o ∷ []) i) ≡ kind.Function n scope
    → kind_in (slice_get objects i) ≡ kind.Function n scope
made_kind [] o zero n scope not e = absurd (not e)
made_kind [] o (suc i) n scope not e = e
made_kind (p ∷ objects) o zero n scope not e = e
made_kind (p ∷ objects) o (suc i) n scope not e = made_kind objects o i n scope not e

pub made_leads : (h : HeapView) (k : Kind) (prototype : Option ObjectId)
    → ((n : ℕ) (scope : ScopeId) → k ≡ kind.Function n scope → ⊥) → Leads beside h (made_of h k prototype)
made_leads h k prototype not = leads_if beside h (nat_le MOST_CELLS h.cells) _ _ tt
    (record { scopes = refl; functions = λ i n scope e. made_kind h.objects (empty_object k (older_of prototype (length h.objects))) i n scope (not n scope) e })

pub pattern_made_leads : (h : HeapView) (l : Literal) (prototype : Option ObjectId)
    → Leads beside h (pattern_made_of h l prototype)
pattern_made_leads h l prototype = leads_if beside h (nat_le MOST_CELLS h.cells) _ _ tt
    (record { scopes = refl; functions = λ i n scope e. made_kind h.objects (pattern_object (length h.literals) l (older_of prototype (length h.objects))) i n scope (λ f. cc) e })

array_leads : (h : HeapView) → Leads beside h (def.array_made h)
array_leads h = made_leads h kind.Array (Some def.array_prototype) (λ n scope e. cc)

defined_if_leads : (into : ObjectId) (h : HeapView) (name : List ℕ) (o : Option Value)
    → Leads itself h (parts.defined_if h into name o)
defined_if_leads into h name (Some v) = stored_steady h into name v _
defined_if_leads into h name None = steady_self h

copied_leads : (array into : ObjectId) (h : HeapView) (from to count : ℕ)
    → Leads itself h (parts.copied h array from into to count)
copied_leads array into h from to count = steps_lead (parts.copy_step array from into to) (λ k g. defined_if_leads into g _ _) count 0 h

appended_leads : (into : ObjectId) (h : HeapView) (at : ℕ) (v : Value) (o : Option ObjectId)
    → Leads beside h (parts.appended_as h into at v o)
appended_leads into h at v None = leads_then itself beside h _ _ (stored_steady h into (decimal at) v _) (λ g. steady_self g)
appended_leads into h at v (Some array) = leads_then itself beside h _ _ (copied_leads array into h 0 at (def.size_of h array)) (λ g. steady_self g)

all_appended_leads : (into : ObjectId) (h : HeapView) (at : ℕ) (vs : List Value)
    → Leads itself h (parts.all_appended h into at vs)
all_appended_leads into h at [] = steady_self h
all_appended_leads into h at (v ∷ vs) = leads_then beside itself h _ _ (appended_leads into h at v _) (λ p. all_appended_leads into p.1 p.0 vs)

concat_leads : (array : ObjectId) (h : HeapView) (vs : List Value) → Leads beside h (parts.concat_of h array vs)
concat_leads array h vs = leads_then beside beside h _ _ (array_leads h) (λ made. giving_leads made.1 _ _ (all_appended_leads made.0 made.1 0 (value.Object array ∷ vs)))

sliced_leads : (array : ObjectId) (h : HeapView) (from to : ℕ) → Leads beside h (parts.sliced h array from to)
sliced_leads array h from to = leads_then beside beside h _ _ (array_leads h) (λ made. giving_leads made.1 _ _ (copied_leads array made.0 made.1 from 0 (to - from)))

spliced_leads : (array : ObjectId) (h : HeapView) (n start count : ℕ) (vs : List Value)
    → Leads beside h (splicing.spliced h array n start count vs)
spliced_leads array h n start count vs = leads_then beside beside h _ _ (array_leads h) (λ made.
    leads_then itself beside made.1 _ _ (copied_leads array made.0 made.1 start 0 count) (λ g. giving_leads g _ _ (replaced_leads array g n start count vs)))

pub array_result_leads : (m : ArrayMethod) (h : HeapView) (array : ObjectId) (vs : List Value)
    → Leads beside h (array_result m h array vs)
array_result_leads method.Push h array vs = push_leads array h vs
array_result_leads method.Pop h array vs = popped_leads array h (def.size_of h array)
array_result_leads method.Shift h array vs = shifted_leads array h (def.size_of h array)
array_result_leads method.Unshift h array vs = unshift_leads array h vs
array_result_leads method.Concat h array vs = concat_leads array h vs
array_result_leads method.Slice h array vs = let n = def.size_of h array in sliced_leads array h (place_or n 0 (first_number vs)) (place_or n n (second_number vs))
array_result_leads method.Splice h array vs =
    let n = def.size_of h array in
    let start = place_or n 0 (first_number vs) in
    spliced_leads array h n start (splicing.count_of (n - start) (second_number vs)) (splicing.items_in vs)
array_result_leads method.Reverse h array vs = giving_leads h _ _ (reversed_leads array h (def.size_of h array))
array_result_leads method.IndexOf h array vs = steady_self h
array_result_leads method.LastIndexOf h array vs = steady_self h
