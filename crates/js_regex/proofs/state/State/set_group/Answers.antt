use Rattle.std.proofs.Common.{refl, sym}
use Rattle.js_regex.proofs.Lists.{set_none}
use Rattle.js_regex.proofs.Steps.{group_undone}
use Rattle.js_regex.proofs.state.State.set_group.Goals as goal

pub returns-in-None : goal.returns-in-None
returns-in-None c = record {
  place = refl;
  groups = sym (set_none c.args.self.now.groups c.args.number c.args.value (sym c.in-None.ensures));
  pending = refl;
  back = λ s. refl;
}

pub returns-in_ok-log-in-Some : goal.returns-in_ok-log-in-Some
returns-in_ok-log-in-Some c = record {
  place = refl;
  groups = c.set.ensures;
  pending = refl;
  back = λ s. rw c.set.ensures (group_undone s c.args.number c.args.value _ _ _ _ _ (sym c.in-Some.ensures) c.in_ok-log-in-Some.ensures);
}
