-- What a charge does to the fuel.
use Rattle.std.specs.Prelude.{◌≡◌, ℕ, ◌+◌, ◌<◌, Result, Ok, Err}
use Rattle.js_tree.specs.declared.place.Place.{Place}
use Rattle.js_evaluation.specs.declared.fault.FaultCode.TheVariants as code
use Rattle.heap_steps.specs.declared.halt.Halt.{Halt}
use Rattle.heap_steps.specs.declared.halt.Halt.TheVariants as halt

-- so many units are taken, or fewer are left, which is the fault of the place; want of memory promises nothing
abbrev pub Charges : ℕ → Place → ℕ → Result (Unit {0}) Halt → ℕ → Type 0
Charges n place fuel (Ok taken) left = left + n ≡ fuel
Charges n place fuel (Err (halt.Throw thrown)) left = ⊥
Charges n place fuel (Err (halt.Fault c p)) left = (c ≡ code.FuelSpent) × (p ≡ place) × (fuel < n)
Charges n place fuel (Err (halt.LeftOut name p)) left = ⊥
Charges n place fuel (Err halt.Memory) left = Unit {0}
