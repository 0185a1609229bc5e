use Rattle.std.proofs.Common.{◌≡◌, ◌-◌}
use Rattle.js_pattern.specs.Place.{unset_from}
use Rattle.js_regex.specs.Moves.{Sets}
use Rattle.js_regex.proofs.state.State.unset.Given as goal

abbrev pub invariant-loop-number : goal.invariant-loop-number
invariant-loop-number l =
    Sets l.self.groups l.initial.self l.self
    × (unset_from l.number (l.number-end - l.number) l.self.groups
    ≡ unset_from l.fn.bounds.from_group (l.fn.bounds.to_group - l.fn.bounds.from_group) l.initial.self.groups)
