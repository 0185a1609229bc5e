-- References: those of the two runs differ in the places of names alone.
use Rattle.std.proofs.Common.{◌≡◌, ℕ, List, Ok, Err, refl}
use Rattle.js_tree.specs.declared.place.Place.{Place}
use Rattle.js_tree.specs.declared.bound.BoundName.{BoundName}
use Rattle.js_binding.specs.Scopes.{Scope}
use Rattle.js_binding.specs.Source.{unbound}
use Rattle.heap_values.specs.declared.value.Value.{Value}
use Rattle.run_trees.specs.Runs.{After, pure, onward, ◌>>=◌}
use Rattle.js_evaluation.specs.declared.fault.FaultCode.{FaultCode}
use Rattle.js_evaluation.specs.State.{RunState, nameless, RunEnd, Stop, Does, fault, global_object}
use Rattle.js_evaluation.specs.Objects.{Context}
use Rattle.js_evaluation.specs.Scoping.{by_names, by_slots}
use Rattle.js_evaluation.specs.Parts.{Reference, to_name, to_property}
use Rattle.js_evaluation.specs.Expressions.{read, read_or_undefined, write, delete, this_of, no_reference}
use Rattle.js_law_right.specs.Right.{Setting, NameRight}
use Rattle.js_law_names.proofs.Worlds.{Shape, Later, later_self, later_then, Fine}
use Rattle.js_law_names.proofs.Agreeing.{Follows, Agrees, goes_on, gives}
use Rattle.js_law_names.proofs.OfObjects.{get-agrees, put-agrees, delete_property-agrees}
use Rattle.js_law_names.proofs.OfNames.{reads_name, reads_or_undefined, writes_name, deletes_name}

-- A reference by names is one by slots without the place of its name, which is right among these scopes.
pub data SameReference (xs : List Scope) : Reference → Reference → Type 0 where
  same_name : (p : Place) (x : BoundName) → NameRight xs x → SameReference xs (to_name p (unbound x)) (to_name p x)
  same_property : (p : Place) (base : Value) (name : List ℕ)
      → SameReference xs (to_property p base name) (to_property p base name)

-- ---- what is done to a reference

module _ {setting : ℕ → Setting} (z : RunState) (cx : Context) (xs : List Scope) (shape : Shape z.names z.heap.scopes cx.scope xs) where
  pub read-agrees : {r r' : Reference} → SameReference xs r r' → Agrees setting z (read by_names cx r) (read by_slots cx r')
  read-agrees (same_name p x right) = reads_name cx xs x p shape right
  read-agrees (same_property p base name) = get-agrees base name p

  pub read_or_undefined-agrees : {r r' : Reference} → SameReference xs r r'
      → Agrees setting z (read_or_undefined by_names cx r) (read_or_undefined by_slots cx r')
  read_or_undefined-agrees (same_name p x right) = reads_or_undefined cx xs x p shape right
  read_or_undefined-agrees (same_property p base name) = get-agrees base name p

  pub write-agrees : {r r' : Reference} → SameReference xs r r' → (v : Value) (place : Place)
      → Agrees setting z (write by_names cx r v place) (write by_slots cx r' v place)
  write-agrees (same_name p x right) v place = writes_name cx xs x place shape right v
  write-agrees (same_property p base name) v place = put-agrees base name v place

  pub delete-agrees : {r r' : Reference} → SameReference xs r r' → (place : Place)
      → Agrees setting z (delete by_names cx r place) (delete by_slots cx r' place)
  delete-agrees (same_name p x right) place = deletes_name cx xs x place shape right
  delete-agrees (same_property p base name) place = delete_property-agrees base name place

-- a value behind the `this` of a call of it
pub gives_with_this : {setting : ℕ → Setting} {z : RunState} {xs : List Scope} {r r' : Reference} → SameReference xs r r'
    → (v : Value)
    → Agrees setting {A = Value × Value} z (pure (this_of r, v)) (pure (this_of r', v))
gives_with_this (same_name p x right) v = gives (global_object, v)
gives_with_this (same_property p base name) v = gives (base, v)

-- ---- parts that give a reference

-- what comes after, by names, does from each later state what comes after the same reference, by slots, does from it
-- without its names
pub record FollowsReference (setting : ℕ → Setting) (xs : List Scope) (s : RunState) (k k' : After RunState Stop RunEnd Reference) : Type 0 where
  pub at_reference : (r r' : Reference) (t : RunState) → SameReference xs r r' → Later s t → Fine setting t
      → k (Ok r) t ≡ k' (Ok r') (nameless t)
  pub at_stop : (e : Stop) (t : RunState) → Later s t → Fine setting t → k (Err e) t ≡ k' (Err e) (nameless t)

-- so do two parts, from this state on
pub record ReferencesAgree (setting : ℕ → Setting) (xs : List Scope) (from : RunState) (p q : Does Reference) : Type 0 where
  pub agree : (s : RunState) → Later from s → Fine setting s → (k k' : After RunState Stop RunEnd Reference)
      → FollowsReference setting xs s k k' → p k s ≡ q k' (nameless s)

module _ {setting : ℕ → Setting} {xs : List Scope} where
  pub refers_to : {s : RunState} {r r' : Reference} → SameReference xs r r'
      → ReferencesAgree setting xs s (pure r) (pure r')
  refers_to {r = r} {r' = r'} same = record { agree = λ t l f k k' h. h.at_reference r r' t same (later_self t) f }

  pub refers_to_nothing : {s : RunState} → ReferencesAgree setting xs s (pure no_reference) (pure no_reference)
  refers_to_nothing = refers_to (same_property _ _ _)

  pub fails_to_refer : {s : RunState} (c : FaultCode) (place : Place)
      → ReferencesAgree setting xs s (fault c place) (fault c place)
  fails_to_refer c place = record { agree = λ t l f k k' h. refl }

  -- a part that gives a reference behind one that agrees
  infixl 10 ◌referring◌
  pub ◌referring◌ : {A : Type 0} {s : RunState} {p q : Does A} {f g : A → Does Reference} → Agrees setting s p q
      → ((a : A) → ReferencesAgree setting xs s (f a) (g a))
      → ReferencesAgree setting xs s (p >>= f) (q >>= g)
  ◌referring◌ {s = s} {f = f} {g = g} h w =
      record { agree = λ t l fine k k' v. h.agree t l fine (onward f k) (onward g k') (went t l k k' v) }
    where
      went : (t : RunState) → Later s t → (k k' : After RunState Stop RunEnd Reference)
          → FollowsReference setting xs t k k'
          → Follows setting t (onward f k) (onward g k')
      went t l k k' v (Ok a) u m fine = (w a).agree u (later_then s t u l m) fine k k' (record {
        at_reference = λ r r' o same n. v.at_reference r r' o same (later_then t u o m n);
        at_stop = λ e o n. v.at_stop e o (later_then t u o m n);
      })
      went t l k k' v (Err e) u m fine = v.at_stop e u m fine

  -- a part that agrees behind one that gives a reference
  infixl 10 ◌onto_reference◌
  pub ◌onto_reference◌ : {A : Type 0} {s : RunState} {p q : Does Reference} {f g : Reference → Does A}
      → ReferencesAgree setting xs s p q
      → ((r r' : Reference) → SameReference xs r r' → Agrees setting s (f r) (g r'))
      → Agrees setting s (p >>= f) (q >>= g)
  ◌onto_reference◌ {A = A} {s = s} {f = f} {g = g} h w =
      record { agree = λ t l fine k k' v. h.agree t l fine (onward f k) (onward g k') (went t l k k' v) }
    where
      went : (t : RunState) → Later s t → (k k' : After RunState Stop RunEnd A) → Follows setting t k k'
          → FollowsReference setting xs t (onward f k) (onward g k')
      went t l k k' v = record {
        at_reference = λ r r' u same m fine. (w r r' same).agree u (later_then s t u l m) fine k k' (goes_on t u k k' m v);
        at_stop = λ e u m fine. v (Err e) u m fine;
      }
