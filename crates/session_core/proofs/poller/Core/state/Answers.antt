use Rattle.std.proofs.Common.{ap, get_or, sym, ◌∙◌, subst}
use Rattle.session_core.specs.declared.session.Session.{Session}
use Rattle.session_core.specs.Ends.{IsState, without_outcome}
use Rattle.session_core.proofs.Start.{state_is}
use Rattle.session_core.proofs.poller.Core.state.Goals as goal

pub returns : goal.returns
returns g c task turns job s =
    subst (IsState task.terms turns (get_or task.jobs c.args.k job)) (sym (c.without_outcome.ensures ∙ ap (λ (x : Session g.row.R.Denot g.row.R-Outcome.Denot). without_outcome x.progress) c.index.ensures))
    (state_is g.R.Run.gives g.R.Run.tree c.args.self.now.sessions.roster.all.items c.args.self.now.lookups task turns s.stands c.args.k c.index.result.now c.requires job)
