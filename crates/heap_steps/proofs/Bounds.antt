-- Numbers of built-in objects, and names by where they stand.
use Rattle.std.proofs.Common.{◌≡◌, ℕ, suc, ◌-◌, ◌<◌, ap, refl, arith}
use Rattle.js_tree.specs.declared.place.Place.{Place}
use Rattle.js_tree.specs.declared.bound.Bound.{Bound}
use Rattle.js_tree.specs.declared.bound.Bound.TheVariants as bound
use Rattle.js_tree.specs.declared.bound.BoundName.{BoundName}
use Rattle.heap_values.specs.declared.ids.ObjectId.{ObjectId}
use Rattle.heap_values.specs.declared.ids.ScopeId.{ScopeId}
use Rattle.heap_values.specs.Views.{HeapView}
use Rattle.js_evaluation.specs.BySlots.{read_name, read_or_undefined_by, scope_out}
use Rattle.js_evaluation.specs.Objects.{Context}

-- an object is known by its number
pub by_number : (id : ObjectId) (n : ℕ) → id.0 ≡ n → id ≡ record { 0 = n }
by_number id n e = ap (λ k. record { 0 = k }) e

-- one scope outward, where some are left
pub out_some : (h : HeapView) (n : ℕ) (scope : ScopeId) → 0 < n → scope_out h n scope ≡ scope_out h (suc (n - 1)) scope
out_some h n scope some = let e : n ≡ suc (n - 1) = omega arith in ap (λ k. scope_out h k scope) e

-- only a global name may stand for nothing
pub stands : (cx : Context) (x : BoundName) (b : Bound) (place : Place) → (b ≡ bound.Global → ⊥) → read_or_undefined_by cx x b place ≡ read_name cx x place
stands cx x bound.Unbound place n = refl
stands cx x (bound.Slot up slot) place n = refl
stands cx x (bound.Own up) place n = refl
stands cx x bound.Global place n = absurd (n refl)
