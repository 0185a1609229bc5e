-- One step of a search for a value.
use Rattle.std.proofs.Common.{◌≡◌, ℕ, ◌+◌, ◌-◌, ◌<◌, zero, suc, Bool, false, Some, cond, sym, ap, ◌∙◌, arith}
use Rattle.std.specs.Fmt.{decimal}
use Rattle.heap_values.specs.declared.ids.ObjectId.{ObjectId}
use Rattle.heap_values.specs.declared.value.Value.{Value}
use Rattle.heap_values.specs.Views.{HeapView}
use Rattle.array_builtins.specs.Elements.{element}
use Rattle.array_builtins.specs.Places.{is_equal, place_from, place_below}

module _ (h : HeapView) (array : ObjectId) (v : Value) where
  -- whether the value stands at a place
  abbrev stands : ℕ → Bool
  stands at = is_equal v (element h array (decimal at))

  pub place_from-miss : (n at : ℕ) → at < n → stands at ≡ false
      → place_from h array v at (n - at) ≡ place_from h array v (at + 1) (n - (at + 1))
  place_from-miss n at lt miss = count (n - at) (n - (at + 1)) (omega arith)
    where
      count : (left rest : ℕ) → left ≡ rest + 1
          → place_from h array v at left ≡ place_from h array v (at + 1) rest
      count zero rest p = absurd (omega arith)
      count (suc left) rest p =
          ap (λ b. cond b (Some at) (place_from h array v (at + 1) left)) miss
          ∙ (let q : left ≡ rest = omega arith in ap (place_from h array v (at + 1)) q)

  pub place_below-miss : (n : ℕ) → 0 < n → stands (n - 1) ≡ false
      → place_below h array v n ≡ place_below h array v (n - 1)
  place_below-miss zero lt miss = absurd (omega arith)
  place_below-miss (suc n) lt miss =
      let e : suc n - 1 ≡ n = omega arith in
      ap (λ b. cond b (Some n) (place_below h array v n)) (ap stands (sym e) ∙ miss)
      ∙ ap (place_below h array v) (sym e)
