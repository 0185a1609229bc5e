use Rattle.std.proofs.Common.{◌≡◌}
use Rattle.pac_generate.specs.Names.{gate_map}
use Rattle.pac_generate.proofs.names.gate_answers.Given as goal

-- the gates before this one have their answers
abbrev pub invariant-loop-digit : goal.invariant-loop-digit
invariant-loop-digit l = l.table ≡ gate_map l.digit
