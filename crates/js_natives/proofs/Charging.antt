-- Charges that stop, and charges one behind another.
use Rattle.std.proofs.Common.{◌≡◌, ℕ, ◌+◌, ◌<◌, Result, Ok, Err, sym, subst, arith}
use Rattle.std.specs.Result.{IsErrAnd}
use Rattle.js_tree.specs.declared.place.Place.{Place}
use Rattle.heap_steps.specs.declared.halt.Halt.{Halt}
use Rattle.heap_steps.specs.declared.halt.Halt.TheVariants as halt
use Rattle.js_natives.specs.Charges.{Charges}

module _ (n total fuel begun left : ℕ) (place : Place) (less : fuel < n → begun < total) where
  stops : (e : Halt) → Charges n place fuel (Err e) left → Charges total place begun (Err e) left
  stops (halt.Throw thrown) c = absurd c
  stops (halt.Fault f p) c = (c.0, c.1, less c.2)
  stops (halt.LeftOut name p) c = absurd c
  stops halt.Memory c = tt

  -- where a part of the charge is more than is left, the whole is more than was there
  pub charge_stops : (r : Result (Unit {0}) Halt) (e : Halt) → IsErrAnd r (λ x. x ≡ e) → Charges n place fuel (Err e) left → Charges total place begun r left
  charge_stops (Ok done) e i c = absurd i
  charge_stops (Err x) e i c = subst (λ y. Charges total place begun (Err y) left) (sym i) (stops e c)

-- behind what was taken first
module _ (first n fuel begun left : ℕ) (place : Place) (taken : fuel + first ≡ begun) where
  pub charge_then : (r : Result (Unit {0}) Halt) → Charges n place fuel r left → Charges (n + first) place begun r left
  charge_then (Ok done) c = omega (arith, c, taken)
  charge_then (Err (halt.Throw thrown)) c = absurd c
  charge_then (Err (halt.Fault f p)) c = let less : begun < n + first = omega (arith, c.2, taken) in (c.0, c.1, less)
  charge_then (Err (halt.LeftOut name p)) c = absurd c
  charge_then (Err halt.Memory) c = tt
