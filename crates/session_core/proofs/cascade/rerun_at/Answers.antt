use Rattle.std.proofs.Common.{◌∙◌, ◌&&◌, ◌||◌, ap, arith, nat_eq, refl, set, sym}
use Rattle.std.proofs.lemmas.List.{get_or_default, length-set}
use Rattle.session_core.specs.Sessions.{waits_for}
use Rattle.session_core.specs.Waiting.{waits_in}
use Rattle.session_core.specs.declared.session.Session.{Session}
use Rattle.session_core.proofs.Waits.{waits_here}
use Rattle.session_core.proofs.cascade.rerun_at.Goals as goal

pub returns-clause-ok : goal.returns-clause-ok
returns-clause-ok g c =
    record {
      before = c.index_mut.result.now;
      after = c.rerun_one.new.session;
      was = λ d. get_or_default c.args.roster.now.all.items c.args.place d c.index_mut.result.now c.requires ∙ sym c.index_mut.ensures.value;
      becomes = refl;
      ran = c.in_ok-asked.ensures.ok;
    }

pub returns-clause-noted : goal.returns-clause-noted
returns-clause-noted g c name at =
    let sessions = set c.args.roster.now.all.items c.args.place c.rerun_one.new.session in
    let long = length-set c.args.roster.now.all.items c.args.place c.rerun_one.new.session in
    c.in_ok-note.ensures.noted name at
    ∙ ap (λ b. (b && nat_eq c.args.place at) || waits_in c.args.roster.now.waiting name at)
    (ap (λ (s : Session g.row.R.Denot g.row.R-Outcome.Denot). waits_for name s.progress) c.index.ensures ∙ sym (waits_here name sessions c.args.place c.index.result.now (omega (arith, c.requires))))
