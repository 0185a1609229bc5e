-- The line of an object is the object, and behind it the line of its prototype.
use Rattle.std.proofs.Common.{◌≡◌, ℕ, ◌<◌, ◌≤◌, ◌+◌, ◌==◌, ◌||◌, Bool, true, false, if◌then◌else◌, List, [], ◌∷◌, ◌++◌, reverse, get_or, length-append, append_assoc, ◌≢◌, Option, Some, None, IfSome, length, take, drop, length-take, inl, inr, refl, ap, ◌∙◌, sym, subst, arith}
use Rattle.std.specs.List.{list_any}
use Rattle.std.proofs.lemmas.List.{length-reverse, reverse-append, take-append-drop, drop_more}
use Rattle.std.proofs.lemmas.Bool.{ne_eqb, eq-eqb}
use Rattle.std.proofs.lemmas.Option.{IfSome_then, slice_get_cases}
use Rattle.heap_values.specs.declared.found.Found.{Found}
use Rattle.heap_values.specs.declared.found.Found.TheVariants as found
use Rattle.heap_values.specs.declared.ids.ObjectId.{ObjectId}
use Rattle.heap_values.specs.Views.{ObjectView, HeapView}
use Rattle.heap_objects.specs.Keys.{with_names}
use Rattle.object_heap.specs.Heap.{object_at, prototype_in, line_among, line_of, is_absent, or_found, own_found_in, found_among, own_keys_in, keys_among}

-- the number of the next object, and 0 where there is none
abbrev pub numbers_left : Option ObjectId → ℕ
numbers_left None = 0
numbers_left (Some id) = id.0 + 1

line_among-here : (o : ObjectView) (older : List ObjectView) (id : ObjectId) → id.0 ≡ length older
    → line_among (o ∷ older) (Some id) ≡ id ∷ line_among older o.prototype
line_among-here o older id here =
    ap (λ (b : Bool). if b then id ∷ line_among older o.prototype else line_among older (Some id)) (eq-eqb id.0 (length older) here)

line_among-pass : (o : ObjectView) (older : List ObjectView) (id : ObjectId) → id.0 ≢ length older
    → line_among (o ∷ older) (Some id) ≡ line_among older (Some id)
line_among-pass o older id other =
    ap (λ (b : Bool). if b then id ∷ line_among older o.prototype else line_among older (Some id)) (ne_eqb id.0 (length older) other)

pub line_among-none : (objects : List ObjectView) → line_among objects None ≡ []
line_among-none [] = refl
line_among-none (o ∷ older) = refl

-- one that is not there has no line
line_among-past : (objects : List ObjectView) (id : ObjectId) → length objects ≤ id.0 → line_among objects (Some id) ≡ []
line_among-past [] id past = refl
line_among-past (o ∷ older) id past =
    line_among-pass o older id (λ here. absurd (omega arith)) ∙ line_among-past older id (omega arith)

-- newer objects are passed over
line_among-append : (newer older : List ObjectView) (id : ObjectId) → id.0 < length older
    → line_among (newer ++ older) (Some id) ≡ line_among older (Some id)
line_among-append [] older id below = refl
line_among-append (o ∷ newer) older id below =
    line_among-pass o (newer ++ older) id (λ here. absurd (omega (arith, length-append newer older)))
    ∙ line_among-append newer older id below

line_among-append_option : (newer older : List ObjectView) (p : Option ObjectId) → IfSome p (λ id. id.0 < length older)
    → line_among (newer ++ older) p ≡ line_among older p
line_among-append_option newer older None below = line_among-none (newer ++ older) ∙ sym (line_among-none older)
line_among-append_option newer older (Some id) below = line_among-append newer older id below

-- an object that stands behind the newer ones is followed by its prototype
line_among-split : (newer older : List ObjectView) (o : ObjectView) (id : ObjectId) → id.0 ≡ length older → IfSome o.prototype (λ p. p.0 < id.0)
    → line_among (newer ++ o ∷ older) (Some id) ≡ id ∷ line_among (newer ++ o ∷ older) o.prototype
line_among-split newer older o id here below =
    let older_there : IfSome o.prototype (λ p. p.0 < length older) = subst (λ (n : ℕ). IfSome o.prototype (λ p. p.0 < n)) here below in
    let there : IfSome o.prototype (λ p. p.0 < length (o ∷ older)) = IfSome_then o.prototype older_there (λ p h. omega arith) in
    line_among-append newer (o ∷ older) id (omega arith)
    ∙ line_among-here o older id here
    ∙ ap (λ ids. id ∷ ids) (sym (line_among-append_option (o ∷ []) older o.prototype older_there))
    ∙ ap (λ ids. id ∷ ids) (sym (line_among-append_option newer (o ∷ older) o.prototype there))

-- the newer objects, the object of this number and the older ones
reverse-at : (objects : List ObjectView) (at : ℕ) (o : ObjectView) → at < length objects → get_or objects at o ≡ o
    → reverse objects ≡ reverse (drop (at + 1) objects) ++ o ∷ reverse (take at objects)
reverse-at objects at o within is =
    ap reverse (sym (take-append-drop at objects) ∙ ap (λ rest. take at objects ++ rest) (drop_more objects at o within ∙ ap (λ first. first ∷ drop (at + 1) objects) is))
    ∙ reverse-append (take at objects) (o ∷ drop (at + 1) objects)
    ∙ ap (λ front. front ++ reverse (take at objects)) (reverse-append (o ∷ []) (drop (at + 1) objects))
    ∙ append_assoc (reverse (drop (at + 1) objects)) (o ∷ []) (reverse (take at objects))

-- an object that is there comes first
line_of-front : (h : HeapView) (id : ObjectId) (o : ObjectView) → id.0 < length h.objects → get_or h.objects id.0 o ≡ o
    → line_of h (Some id) ≡ id ∷ line_among (reverse (take id.0 h.objects)) o.prototype
line_of-front h id o within is =
    let here : id.0 ≡ length (reverse (take id.0 h.objects)) = omega (arith, length-reverse (take id.0 h.objects), length-take id.0 h.objects) in
    ap (λ objects. line_among objects (Some id)) (reverse-at h.objects id.0 o within is)
    ∙ line_among-append (reverse (drop (id.0 + 1) h.objects)) (o ∷ reverse (take id.0 h.objects)) id (omega arith)
    ∙ line_among-here o (reverse (take id.0 h.objects)) id here

line_of-object : (h : HeapView) (id : ObjectId) (o : ObjectView) → id.0 < length h.objects → get_or h.objects id.0 o ≡ o
    → IfSome o.prototype (λ p. p.0 < id.0) → line_of h (Some id) ≡ id ∷ line_of h o.prototype
line_of-object h id o within is older =
    let split = reverse-at h.objects id.0 o within is in
    let here : id.0 ≡ length (reverse (take id.0 h.objects)) = omega (arith, length-reverse (take id.0 h.objects), length-take id.0 h.objects) in
    ap (λ objects. line_among objects (Some id)) split
    ∙ line_among-split (reverse (drop (id.0 + 1) h.objects)) (reverse (take id.0 h.objects)) o id here older
    ∙ ap (λ objects. id ∷ line_among objects o.prototype) (sym split)

line_of-past : (h : HeapView) (id : ObjectId) → length h.objects ≤ id.0 → line_of h (Some id) ≡ []
line_of-past h id past = line_among-past (reverse h.objects) id (omega (arith, length-reverse h.objects))

pub or_found-absent : (found rest : Found) → is_absent found ≡ true → or_found found rest ≡ rest
or_found-absent (found.Value v) rest absent = cc
or_found-absent found.Absent rest absent = refl
or_found-absent (found.LeftOut t) rest absent = cc

or_found-present : (found rest : Found) → is_absent found ≡ false → or_found found rest ≡ found
or_found-present (found.Value v) rest present = refl
or_found-present found.Absent rest present = cc
or_found-present (found.LeftOut t) rest present = refl

-- a look-up ends at an object that has the name
pub found_among-own : (h : HeapView) (id : ObjectId) (name : List ℕ) → is_absent (own_found_in (object_at h id) name) ≡ false
    → found_among h (line_of h (Some id)) name ≡ own_found_in (object_at h id) name
found_among-own h id name present =
    elim (slice_get_cases h.objects id.0).1 as (λ _. found_among h (line_of h (Some id)) name ≡ own_found_in (object_at h id) name) [
      | inl c ↦
          let ids = line_among (reverse (take id.0 h.objects)) (c.0).prototype in
          ap (λ line. found_among h line name) (line_of-front h id c.0 c.1 c.3)
          ∙ or_found-present (own_found_in (object_at h id) name) (found_among h ids name) present
      | inr c ↦ let absent : true ≡ false = sym (ap (λ o. is_absent (own_found_in o name)) c.1) ∙ present in cc
    ]

-- a look-up sees the object, and then what stands behind it
pub found_among-line : (h : HeapView) (id : ObjectId) (name : List ℕ) → IfSome (prototype_in (object_at h id)) (λ p. p.0 < id.0)
    → found_among h (line_of h (Some id)) name ≡ or_found (own_found_in (object_at h id) name) (found_among h (line_of h (prototype_in (object_at h id))) name)
found_among-line h id name older =
    let Step : Type 0 = found_among h (line_of h (Some id)) name ≡ or_found (own_found_in (object_at h id) name) (found_among h (line_of h (prototype_in (object_at h id))) name) in
    elim (slice_get_cases h.objects id.0).1 as (λ _. Step) [
      | inl c ↦
          let behind : prototype_in (object_at h id) ≡ (c.0).prototype = ap prototype_in c.2 in
          ap (λ ids. found_among h ids name) (line_of-object h id c.0 c.1 c.3 (subst (λ (p : Option ObjectId). IfSome p (λ q. q.0 < id.0)) behind older))
          ∙ ap (λ p. or_found (own_found_in (object_at h id) name) (found_among h (line_of h p) name)) (sym behind)
      | inr c ↦
          ap (λ ids. found_among h ids name) (line_of-past h id c.0)
          ∙ sym (ap (λ ids. found_among h ids name) (line_among-none (reverse h.objects)))
          ∙ sym (ap (λ o. or_found (own_found_in o name) (found_among h (line_of h (prototype_in o)) name)) c.1)
    ]

-- the names are those of the object, and then those of what stands behind it
pub keys_among-line : (h : HeapView) (id : ObjectId) (names : List (List ℕ)) → IfSome (prototype_in (object_at h id)) (λ p. p.0 < id.0)
    → keys_among h (line_of h (Some id)) names ≡ keys_among h (line_of h (prototype_in (object_at h id))) (with_names names (own_keys_in (object_at h id)))
keys_among-line h id names older =
    let Step : Type 0 = keys_among h (line_of h (Some id)) names ≡ keys_among h (line_of h (prototype_in (object_at h id))) (with_names names (own_keys_in (object_at h id))) in
    elim (slice_get_cases h.objects id.0).1 as (λ _. Step) [
      | inl c ↦
          let behind : prototype_in (object_at h id) ≡ (c.0).prototype = ap prototype_in c.2 in
          ap (λ ids. keys_among h ids names) (line_of-object h id c.0 c.1 c.3 (subst (λ (p : Option ObjectId). IfSome p (λ q. q.0 < id.0)) behind older))
          ∙ ap (λ p. keys_among h (line_of h p) (with_names names (own_keys_in (object_at h id)))) (sym behind)
      | inr c ↦
          ap (λ ids. keys_among h ids names) (line_of-past h id c.0)
          ∙ sym (ap (λ ids. keys_among h ids names) (line_among-none (reverse h.objects)))
          ∙ sym (ap (λ o. keys_among h (line_of h (prototype_in o)) (with_names names (own_keys_in o))) c.1)
    ]

-- a prototype that an object has is there
pub next_is_there : (h : HeapView) (id : ObjectId) (next : Option ObjectId) → next ≡ prototype_in (object_at h id) → IfSome next (λ p. p.0 < id.0)
    → IfSome next (λ p. p.0 < length h.objects)
next_is_there h id None is older = tt
next_is_there h id (Some p) is older =
    elim (slice_get_cases h.objects id.0).1 as (λ _. p.0 < length h.objects) [
      | inl c ↦ omega (arith, older, c.1)
      | inr c ↦ let nothing : Some p ≡ None = is ∙ ap prototype_in c.1 in absurd (cc)
    ]

-- an object that is there stands before its prototypes
pub inherits-here : (h : HeapView) (id prototype : ObjectId) → id.0 < length h.objects → (id.0 == prototype.0) ≡ true
    → list_any (λ p. p.0 == prototype.0) (line_of h (Some id)) ≡ true
inherits-here h id prototype there same =
    elim (slice_get_cases h.objects id.0).1 as (λ _. list_any (λ p. p.0 == prototype.0) (line_of h (Some id)) ≡ true) [
      | inl c ↦
          let behind = line_among (reverse (take id.0 h.objects)) (c.0).prototype in
          ap (list_any (λ p. p.0 == prototype.0)) (line_of-front h id c.0 c.1 c.3)
          ∙ ap (λ b. b || list_any (λ p. p.0 == prototype.0) behind) same
      | inr c ↦ absurd (omega (arith, there, c.0))
    ]

pub inherits-pass : (h : HeapView) (id prototype : ObjectId) → id.0 < length h.objects → IfSome (prototype_in (object_at h id)) (λ p. p.0 < id.0)
    → (id.0 == prototype.0) ≡ false
    → list_any (λ p. p.0 == prototype.0) (line_of h (Some id)) ≡ list_any (λ p. p.0 == prototype.0) (line_of h (prototype_in (object_at h id)))
inherits-pass h id prototype there older other =
    let any : List ObjectId → Bool = list_any (λ p. p.0 == prototype.0) in
    elim (slice_get_cases h.objects id.0).1 as (λ _. any (line_of h (Some id)) ≡ any (line_of h (prototype_in (object_at h id)))) [
      | inl c ↦
          let behind : prototype_in (object_at h id) ≡ (c.0).prototype = ap prototype_in c.2 in
          ap any (line_of-object h id c.0 c.1 c.3 (subst (λ (p : Option ObjectId). IfSome p (λ q. q.0 < id.0)) behind older))
          ∙ ap (λ b. b || any (line_of h (c.0).prototype)) other
          ∙ sym (ap (λ p. any (line_of h p)) behind)
      | inr c ↦ absurd (omega (arith, there, c.0))
    ]
