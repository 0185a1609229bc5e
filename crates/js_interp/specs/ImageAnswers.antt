-- What the load of a script answers.
use Rattle.std.specs.Prelude.{◌≡◌, ℕ, Bool, false, Option, Some, None}
use Rattle.pac_functions.specs.declared.call.PacSettings.{PacSettings}
use Rattle.heap_steps.specs.declared.halt.Halt.TheVariants as halt
use Rattle.js_runs.specs.declared.running.Cut.{Cut}
use Rattle.js_runs.specs.declared.running.Cut.TheVariants as cut
use Rattle.js_interp.specs.Loads.{Beginning}
use Rattle.js_interp.specs.declared.image.LoadAnswer.{LoadAnswer}
use Rattle.js_interp.specs.declared.image.LoadAnswer.TheVariants as answer

-- an image of what runs begin with, or none exactly where there is no such beginning; want of memory promises nothing
abbrev pub LoadsTo : Option Beginning → PacSettings → ℕ → LoadAnswer → Type 0
LoadsTo beginning settings fuel (answer.Image image) =
    (image.settings ≡ settings) × (image.fuel ≡ fuel) × (beginning ≡ Some image.beginning)
LoadsTo beginning settings fuel answer.Plain = beginning ≡ None
LoadsTo beginning settings fuel answer.Memory = Unit {0}

-- a load that is cut comes to no end; it isn't known whether it does where memory was refused
abbrev pub ends_cut : Cut → Option Bool
ends_cut (cut.Missing name) = Some false
ends_cut (cut.Halt (halt.Throw thrown)) = Some false
ends_cut (cut.Halt (halt.Fault code place)) = Some false
ends_cut (cut.Halt (halt.LeftOut name place)) = Some false
ends_cut (cut.Halt halt.Memory) = None
