use Rattle.std.proofs.Common.{◌≡◌, length}
use Rattle.utf16_text.specs.Letters.{without_space_before}
use Rattle.number_builtins.proofs.parsing.without_space.Given as goal

abbrev pub invariant-loop-unit : goal.invariant-loop-unit
invariant-loop-unit l = without_space_before l.rest ≡ without_space_before l.units

abbrev pub decreases-loop-unit : goal.decreases-loop-unit
decreases-loop-unit l = length l.rest
