-- Each prototype stays older than its object.
use Rattle.std.proofs.Common.{◌≡◌, ℕ, ◌<◌, ◌⊎◌, zero, suc, List, [], ◌∷◌, ◌++◌, Option, IfSome, slice_get, slice_set, length, refl, ap, sym, subst, inl, inr}
use Rattle.heap_values.specs.declared.ids.ObjectId.{ObjectId}
use Rattle.heap_values.specs.Views.{ObjectView}
use Rattle.object_heap.specs.Heap.{prototype_in, PrototypesAreOlder}

prototype-slice_set : (objects : List ObjectView) (k : ℕ) (o : ObjectView) → o.prototype ≡ prototype_in (slice_get objects k) → (at : ℕ)
    → prototype_in (slice_get (slice_set objects k o) at) ≡ prototype_in (slice_get objects at)
prototype-slice_set [] k o same at = refl
prototype-slice_set (x ∷ xs) zero o same zero = same
prototype-slice_set (x ∷ xs) zero o same (suc at) = refl
prototype-slice_set (x ∷ xs) (suc k) o same zero = refl
prototype-slice_set (x ∷ xs) (suc k) o same (suc at) = prototype-slice_set xs k o same at

-- an object may change, but for its prototype
pub older-slice_set : (objects : List ObjectView) (k : ℕ) (o : ObjectView) → o.prototype ≡ prototype_in (slice_get objects k)
    → PrototypesAreOlder objects → PrototypesAreOlder (slice_set objects k o)
older-slice_set objects k o same older at =
    subst (λ (p : Option ObjectId). IfSome p (λ q. q.0 < at)) (sym (prototype-slice_set objects k o same at)) (older at)

prototype-append : (objects : List ObjectView) (o : ObjectView) (at : ℕ)
    → (prototype_in (slice_get (objects ++ o ∷ []) at) ≡ prototype_in (slice_get objects at))
    ⊎ ((length objects ≡ at) × (prototype_in (slice_get (objects ++ o ∷ []) at) ≡ o.prototype))
prototype-append [] o zero = inr (refl, refl)
prototype-append [] o (suc at) = inl refl
prototype-append (x ∷ xs) o zero = inl refl
prototype-append (x ∷ xs) o (suc at) =
    elim (prototype-append xs o at) as (λ _. (prototype_in (slice_get (xs ++ o ∷ []) at) ≡ prototype_in (slice_get xs at))
    ⊎ ((suc (length xs) ≡ suc at) × (prototype_in (slice_get (xs ++ o ∷ []) at) ≡ o.prototype)))
    [ inl e ↦ inl e | inr e ↦ inr (ap (λ n. suc n) e.0, e.1) ]

-- an object may be added whose prototype is there
pub older-append : (objects : List ObjectView) (o : ObjectView) → IfSome o.prototype (λ p. p.0 < length objects)
    → PrototypesAreOlder objects → PrototypesAreOlder (objects ++ o ∷ [])
older-append objects o there older at =
    let Older : Option ObjectId → Type 0 = λ p. IfSome p (λ q. q.0 < at) in
    elim (prototype-append objects o at) as (λ _. Older (prototype_in (slice_get (objects ++ o ∷ []) at))) [
      | inl e ↦ subst Older (sym e) (older at)
      | inr e ↦ subst Older (sym e.1) (subst (λ (n : ℕ). IfSome o.prototype (λ p. p.0 < n)) e.0 there)
    ]
