-- A place that is found is a place of the text.
use Rattle.std.proofs.Common.{ℕ, zero, suc, ◌≤◌, min, List, Option, Some, None, true, false, cond, length, drop, arith}
use Rattle.std.specs.Prelude.{IfSome, nat_eq}
use Rattle.std.specs.List.{starts_with}
use Rattle.utf16_text.specs.Search.{last_place, place_up_to}

weaker : (o : Option ℕ) (m n : ℕ) → m ≤ n → IfSome o (λ at. at ≤ m) → IfSome o (λ at. at ≤ n)
weaker None m n h p = tt
weaker (Some at) m n h p = omega arith

last_place-le : (text part : List ℕ) (k : ℕ) → IfSome (last_place text part k) (λ at. at ≤ k)
last_place-le text part zero =
    elim (starts_with nat_eq text part) as (λ b. IfSome (cond b (Some 0) None) (λ at. at ≤ 0)) [ true ↦ omega arith | false ↦ tt ]
last_place-le text part (suc k) =
    elim (starts_with nat_eq (drop (suc k) text) part) as (λ b. IfSome (cond b (Some (suc k)) (last_place text part k)) (λ at. at ≤ suc k)) [
      | true ↦ omega arith
      | false ↦ weaker (last_place text part k) k (suc k) (omega arith) (last_place-le text part k)
    ]

pub place_up_to-le : (text part : List ℕ) (last most : ℕ) → length text ≤ most → IfSome (place_up_to text part last) (λ at. at ≤ most)
place_up_to-le text part last most h =
    weaker (place_up_to text part last) (min last (length text)) most (omega arith) (last_place-le text part (min last (length text)))
