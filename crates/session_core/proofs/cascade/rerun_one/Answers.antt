use Rattle.std.proofs.Common.{refl, true}
use Rattle.session_core.proofs.Cascades.{runs_again}
use Rattle.session_core.proofs.cascade.rerun_one.Goals as goal

pub returns-clause-ok : goal.returns-clause-ok
returns-clause-ok g c = runs_again _ _ _ _ _ _ true _ _ _ refl c.in_ok-settled.ensures.ok refl refl c.saturating_add-session.ensures
