use Rattle.std.proofs.Common.{arith}
use Rattle.pac_generate.proofs.NameLaws.{site_is_new}
use Rattle.pac_generate.proofs.names.answers.Goals as goal

pub insert-requires : goal.insert-requires
insert-requires c = rw (c.loop-site.invariant.0, c.in_ok-name.ensures) (site_is_new _ _ (omega arith))
