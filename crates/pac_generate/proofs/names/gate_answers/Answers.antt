use Rattle.std.proofs.Common.{arith}
use Rattle.pac_generate.proofs.NameLaws.{gate_is_new}
use Rattle.pac_generate.proofs.names.gate_answers.Goals as goal

pub insert-requires : goal.insert-requires
insert-requires c = rw (c.loop-digit.invariant, c.in_ok-name.ensures) (gate_is_new _ (omega arith))
