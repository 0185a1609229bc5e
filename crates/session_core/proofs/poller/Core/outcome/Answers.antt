use Rattle.std.proofs.Common.{ap, sym, ◌∙◌}
use Rattle.std.proofs.lemmas.Option.{IfSome_then}
use Rattle.session_core.specs.Ends.{is_finished}
use Rattle.session_core.specs.declared.session.Session.{Session}
use Rattle.session_core.proofs.Start.{not_finished, outcome_is}
use Rattle.session_core.proofs.poller.Core.outcome.Goals as goal

pub returns-clause-none : goal.returns-clause-none
returns-clause-none g c e task turns job s =
    not_finished g.R.Run.gives g.R.Run.tree c.args.self.now.sessions.roster.all.items c.args.self.now.lookups task turns s.stands c.args.k c.index.result.now c.requires
    (ap (λ (x : Session g.row.R.Denot g.row.R-Outcome.Denot). is_finished x.progress) (sym c.index.ensures) ∙ c.outcome_of.ensures.none e) job

pub returns-clause-some : goal.returns-clause-some
returns-clause-some g c =
    IfSome_then c.outcome_of.result c.outcome_of.ensures.some
    (λ out e task turns job run s.
    outcome_is g.R.Run.gives g.R.Run.tree c.args.self.now.sessions.roster.all.items c.args.self.now.lookups task turns s.stands c.args.k c.index.result.now c.requires out.now
    (ap (λ (x : Session g.row.R.Denot g.row.R-Outcome.Denot). x.progress) (sym c.index.ensures) ∙ e) job run)
