use Rattle.std.proofs.Common.{arith}
use Rattle.session_core.proofs.Cascades.{nobody_woken, none_woken}
use Rattle.session_core.proofs.cascade.rerun.Goals as goal

pub returns-in-None-clause-ok : goal.returns-in-None-clause-ok
returns-in-None-clause-ok g c = rw (c.in-None.is, c.new.ensures.items) (nobody_woken _ _ _ _ _)

pub returns-in-None-clause-ran : goal.returns-in-None-clause-ran
returns-in-None-clause-ran g c = rw c.in-None.is (let none = none_woken c.args.roster.now.all.items in omega arith)
