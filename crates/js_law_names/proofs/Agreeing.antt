-- Parts of a run by names that do what parts of a run by slots do: the relation, and each word of runs.
use Rattle.std.proofs.Common.{◌≡◌, ℕ, Bool, true, false, if◌then◌else◌, Result, Ok, Err, refl, sym, ◌∙◌, ap, subst}
use Rattle.js_tree.specs.declared.place.Place.{Place}
use Rattle.heap_values.specs.declared.value.Value.{Value}
use Rattle.heap_values.specs.Views.{HeapView}
use Rattle.run_trees.specs.declared.abrupt.Abrupt.TheVariants.{Thrown, Returned, Broken, Continued}
use Rattle.run_trees.specs.Runs.{After, ends, pure, abrupt, halt, onward, ◌>>=◌, ◌>>◌, last_then, with_last, reading, changing, caught, catching, broken_at, breaking, turned, turning, returned_to, returning}
use Rattle.js_evaluation.specs.declared.fault.FaultCode.{FaultCode}
use Rattle.js_evaluation.specs.declared.thrown.Thrown.{Thrown as Cause}
use Rattle.js_evaluation.specs.State.{RunState, nameless, RunEnd, Stop, Does, fault, with_heap}
use Rattle.js_law_right.specs.Right.{Setting}
use Rattle.js_law_names.proofs.Steady.{Steady}
use Rattle.js_law_names.proofs.Worlds.{Later, later_self, later_then, Fine, steady_later, steady_fine}

-- what comes after, by names, does from each later state what comes after, by slots, does from it without its names
abbrev pub Follows : {A : Type 0} → (ℕ → Setting) → RunState → After RunState Stop RunEnd A → After RunState Stop RunEnd A
    → Type 0
Follows {A} setting s k k' = (r : Result A Stop) (t : RunState) → Later s t → Fine setting t → k r t ≡ k' r (nameless t)

-- so do two parts, from this state on
pub record Agrees (setting : ℕ → Setting) {A : Type 0} (from : RunState) (p q : Does A) : Type 0 where
  pub agree : (s : RunState) → Later from s → Fine setting s → (k k' : After RunState Stop RunEnd A)
      → Follows setting s k k' → p k s ≡ q k' (nameless s)

-- and at once, at this state
pub record Now (setting : ℕ → Setting) {A : Type 0} (s : RunState) (p q : Does A) : Type 0 where
  pub now : (k k' : After RunState Stop RunEnd A) → Follows setting s k k' → p k s ≡ q k' (nameless s)

-- what comes after the end at a target that is here, or further out
here_or : {A : Type 0} (b : Bool) (r q : Result A Stop) (k k' : After RunState Stop RunEnd A) (u : RunState)
    → k r u ≡ k' r (nameless u) → k q u ≡ k' q (nameless u)
    → (if b then k r else k q) u ≡ (if b then k' r else k' q) (nameless u)
here_or true r q k k' u h w = h
here_or false r q k k' u h w = w

module _ {setting : ℕ → Setting} where
  pub goes_on : {A : Type 0} (s t : RunState) (k k' : After RunState Stop RunEnd A) → Later s t → Follows setting s k k'
      → Follows setting t k k'
  goes_on s t k k' l h = λ r u m f. h r u (later_then s t u l m) f

  pub later : {A : Type 0} {p q : Does A} (s t : RunState) → Later s t → Agrees setting s p q → Agrees setting t p q
  later s t l h = record { agree = λ u m f k k' w. h.agree u (later_then s t u l m) f k k' w }

  -- so does the part of an equal value
  pub along : {A B : Type 0} {s : RunState} {q : Does A} (p : B → Does A) {x y : B} → x ≡ y → Agrees setting s (p x) q → Agrees setting s (p y) q
  along {s = s} {q = q} p e h = subst (λ x. Agrees setting s (p x) q) e h

  pub ending : {A : Type 0} {s : RunState} (r : Result A Stop) → Agrees setting s (ends r) (ends r)
  ending r = record { agree = λ t l f k k' h. h r t (later_self t) f }

  pub gives : {A : Type 0} {s : RunState} (a : A) → Agrees setting s (pure a) (pure a)
  gives a = ending (Ok a)

  pub stops : {A : Type 0} {s : RunState} (e : Stop) → Agrees setting {A = A} s (abrupt e) (abrupt e)
  stops e = ending (Err e)

  pub halts : {A : Type 0} {s : RunState} (e : RunEnd) → Agrees setting {A = A} s (halt e) (halt e)
  halts e = record { agree = λ t l f k k' h. refl }

  pub fails : {A : Type 0} {s : RunState} (c : FaultCode) (place : Place)
      → Agrees setting {A = A} s (fault c place) (fault c place)
  fails c place = halts _

  pub reads : {A : Type 0} {s : RunState} {p : RunState → Does A} (q : RunState → Does A)
      → ((t : RunState) → Later s t → Fine setting t → Agrees setting t (p t) (q (nameless t)))
      → Agrees setting s (reading p) (reading q)
  reads q h = record { agree = λ t l f k k' w. (h t l f).agree t (later_self t) f k k' w }

  -- a part that looks at no names of scopes
  pub sees : {A : Type 0} {s : RunState} {p q : RunState → Does A}
      → ((t : RunState) → Later s t → Fine setting t → Agrees setting t (p t) (q t))
      → ((t : RunState) → q (nameless t) ≡ q t)
      → Agrees setting s (reading p) (reading q)
  sees h e = record { agree = λ t l f k k' w. (h t l f).agree t (later_self t) f k k' w ∙ ap (λ r. r k' (nameless t)) (sym (e t)) }

  -- a part that is made of the state as it stands
  pub reads_now : {A : Type 0} {s : RunState} {p : RunState → Does A} (q : RunState → Does A)
      → ((t : RunState) → Later s t → Fine setting t → Now setting t (p t) (q (nameless t)))
      → Agrees setting s (reading p) (reading q)
  reads_now q h = record { agree = λ t l f k k' w. (h t l f).now k k' w }

  pub halts_now : {A : Type 0} {s : RunState} (e : RunEnd) → Now setting {A = A} s (halt e) (halt e)
  halts_now e = record { now = λ k k' w. refl }

  pub sees_now : {A : Type 0} {s : RunState} {p q : RunState → Does A}
      → ((t : RunState) → Later s t → Fine setting t → Now setting t (p t) (q t)) → ((t : RunState) → q (nameless t) ≡ q t)
      → Agrees setting s (reading p) (reading q)
  sees_now h e = record { agree = λ t l f k k' w. (h t l f).now k k' w ∙ ap (λ r. r k' (nameless t)) (sym (e t)) }

  pub at_once : {A : Type 0} {s : RunState} {p q : Does A} → Fine setting s → Agrees setting s p q → Now setting s p q
  at_once {s = s} f h = record { now = h.agree s (later_self s) f }

  -- a steady heap in place of the one that stands, and then another part
  pub heap_now : {A : Type 0} {s : RunState} (h : HeapView) {p q : Does A} → Steady s.heap h → Fine setting s
      → Agrees setting (record s { heap = h }) p q → Now setting s (with_heap h >> p) (with_heap h >> q)
  heap_now {s = s} h g f w = record {
    now = λ k k' v.
        let t : RunState = record s { heap = h } in
        w.agree t (later_self t) (steady_fine setting s h g f) k k' (goes_on s t k k' (steady_later s h g) v);
  }

  pub only_heap_now : {s : RunState} (h : HeapView) → Steady s.heap h → Fine setting s
      → Now setting s (with_heap h) (with_heap h)
  only_heap_now {s = s} h g f = record { now = λ k k' v. v (Ok tt) (record s { heap = h }) (steady_later s h g) (steady_fine setting s h g f) }

  pub changes : {s : RunState} (c d : RunState → RunState)
      → ((t : RunState) → Fine setting t → Later t (c t) × Fine setting (c t) × (d (nameless t) ≡ nameless (c t)))
      → Agrees setting s (changing c) (changing d)
  changes c d h = record {
    agree = λ t l f k k' w. w (Ok tt) (c t) (h t f).0 (h t f).1 ∙ ap (k' (Ok tt)) (sym (h t f).2);
  }

  -- ---- words that change what comes after

  by : {A B : Type 0} {s : RunState} (c d : After RunState Stop RunEnd B → After RunState Stop RunEnd A) (p q : Does A)
      → Agrees setting s p q
      → ((t : RunState) → Later s t → (k k' : After RunState Stop RunEnd B) → Follows setting t k k' → Follows setting t (c k) (d k'))
      → Agrees setting s (λ k. p (c k)) (λ k. q (d k))
  by c d p q h w = record { agree = λ t l f k k' v. h.agree t l f (c k) (d k') (w t l k k' v) }

  infixl 10 ◌onto◌
  pub ◌onto◌ : {A B : Type 0} {s : RunState} {p q : Does A} {f g : A → Does B} → Agrees setting s p q → ((a : A) → Agrees setting s (f a) (g a))
      → Agrees setting s (p >>= f) (q >>= g)
  ◌onto◌ {s = s} {p = p} {q = q} {f = f} {g = g} h w = by (onward f) (onward g) p q h went
    where
      went : (t : RunState) → Later s t → (k k' : After RunState Stop RunEnd _) → Follows setting t k k'
          → Follows setting t (onward f k) (onward g k')
      went t l k k' v (Ok a) u m fine = (w a).agree u (later_then s t u l m) fine k k' (goes_on t u k k' m v)
      went t l k k' v (Err e) u m fine = v (Err e) u m fine

  infixl 10 ◌then◌
  pub ◌then◌ : {A B : Type 0} {s : RunState} {p q : Does A} {f g : Does B} → Agrees setting s p q → Agrees setting s f g → Agrees setting s (p >> f) (q >> g)
  h then w = h onto (λ _. w)

  pub either : {A : Type 0} {s : RunState} (b : Bool) {p q f g : Does A} → Agrees setting s p q → Agrees setting s f g
      → Agrees setting s (if b then p else f) (if b then q else g)
  either true h w = h
  either false h w = w

  -- so where the two test equal values
  pub either_same : {A : Type 0} {s : RunState} (b : Bool) {c : Bool} {p q f g : Does A} → c ≡ b → Agrees setting s p q
      → Agrees setting s f g
      → Agrees setting s (if c then p else f) (if b then q else g)
  either_same b {p = p} {f = f} e h w = along (λ d. if d then p else f) (sym e) (either b h w)

  pub catches : {A : Type 0} {s : RunState} {p q : Does A} {f g : Cause → Does A} → Agrees setting s p q
      → ((v : Cause) → Agrees setting s (f v) (g v))
      → Agrees setting s (catching p f) (catching q g)
  catches {s = s} {p = p} {q = q} {f = f} {g = g} h w = by (caught f) (caught g) p q h went
    where
      went : (t : RunState) → Later s t → (k k' : After RunState Stop RunEnd _) → Follows setting t k k'
          → Follows setting t (caught f k) (caught g k')
      went t l k k' v (Ok a) u m fine = v (Ok a) u m fine
      went t l k k' v (Err (Thrown a)) u m fine = (w a).agree u (later_then s t u l m) fine k k' (goes_on t u k k' m v)
      went t l k k' v (Err (Returned a)) u m fine = v (Err (Returned a)) u m fine
      went t l k k' v (Err (Broken at)) u m fine = v (Err (Broken at)) u m fine
      went t l k k' v (Err (Continued at)) u m fine = v (Err (Continued at)) u m fine

  pub lasts : {A B : Type 0} {s : RunState} {p q : Does A} {f g : Does B} → Agrees setting s p q → Agrees setting s f g
      → Agrees setting s (with_last p f) (with_last q g)
  lasts {A = A} {s = s} {p = p} {q = q} {f = f} {g = g} h w = by (last_then f) (last_then g) p q h went
    where
      went : (t : RunState) → Later s t → (k k' : After RunState Stop RunEnd A) → Follows setting t k k'
          → Follows setting t (last_then f k) (last_then g k')
      went t l k k' v r u m fine = (w then ending r).agree u (later_then s t u l m) fine k k' (goes_on t u k k' m v)

  pub breaks : {A : Type 0} {s : RunState} (n : A) (here : Unit {0} → Bool) {p q : Does A} → Agrees setting s p q
      → Agrees setting s (breaking n here p) (breaking n here q)
  breaks {A = A} {s = s} n here {p = p} {q = q} h = by (broken_at n here) (broken_at n here) p q h went
    where
      went : (t : RunState) → Later s t → (k k' : After RunState Stop RunEnd A) → Follows setting t k k'
          → Follows setting t (broken_at n here k) (broken_at n here k')
      went t l k k' v (Ok a) u m fine = v (Ok a) u m fine
      went t l k k' v (Err (Thrown a)) u m fine = v (Err (Thrown a)) u m fine
      went t l k k' v (Err (Returned a)) u m fine = v (Err (Returned a)) u m fine
      went t l k k' v (Err (Broken at)) u m fine = here_or (here at) (Ok n) (Err (Broken at)) k k' u (v (Ok n) u m fine) (v (Err (Broken at)) u m fine)
      went t l k k' v (Err (Continued at)) u m fine = v (Err (Continued at)) u m fine

  pub turns_on : {A : Type 0} {s : RunState} (n : A) (here : Unit {0} → Bool) {p q f g : Does A} → Agrees setting s p q
      → Agrees setting s f g
      → Agrees setting s (turning n here p f) (turning n here q g)
  turns_on {A = A} {s = s} n here {p = p} {q = q} {f = f} {g = g} h w = by (turned n here f) (turned n here g) p q h went
    where
      next_or : (t : RunState) → Later s t → (b : Bool) (r : Result A Stop) (k k' : After RunState Stop RunEnd A)
          → Follows setting t k k'
          → (u : RunState) → Later t u → Fine setting u
          → (if b then f k else k r) u ≡ (if b then g k' else k' r) (nameless u)
      next_or t l true r k k' v u m fine = w.agree u (later_then s t u l m) fine k k' (goes_on t u k k' m v)
      next_or t l false r k k' v u m fine = v r u m fine

      went : (t : RunState) → Later s t → (k k' : After RunState Stop RunEnd A) → Follows setting t k k'
          → Follows setting t (turned n here f k) (turned n here g k')
      went t l k k' v (Ok a) u m fine = w.agree u (later_then s t u l m) fine k k' (goes_on t u k k' m v)
      went t l k k' v (Err (Thrown a)) u m fine = v (Err (Thrown a)) u m fine
      went t l k k' v (Err (Returned a)) u m fine = v (Err (Returned a)) u m fine
      went t l k k' v (Err (Broken at)) u m fine = here_or (here at) (Ok n) (Err (Broken at)) k k' u (v (Ok n) u m fine) (v (Err (Broken at)) u m fine)
      went t l k k' v (Err (Continued at)) u m fine = next_or t l (here at) (Err (Continued at)) k k' v u m fine

  pub returns : {s : RunState} (n : Value) {p q : Does Value} → Agrees setting s p q
      → Agrees setting s (returning n p) (returning n q)
  returns {s = s} n {p = p} {q = q} h = by (returned_to n) (returned_to n) p q h went
    where
      went : (t : RunState) → Later s t → (k k' : After RunState Stop RunEnd Value) → Follows setting t k k'
          → Follows setting t (returned_to n k) (returned_to n k')
      went t l k k' v (Ok a) u m fine = v (Ok n) u m fine
      went t l k k' v (Err (Thrown a)) u m fine = v (Err (Thrown a)) u m fine
      went t l k k' v (Err (Returned a)) u m fine = v (Ok a) u m fine
      went t l k k' v (Err (Broken at)) u m fine = v (Err (Broken at)) u m fine
      went t l k k' v (Err (Continued at)) u m fine = v (Err (Continued at)) u m fine
