use Rattle.std.proofs.Common.{None, refl, sym}
use Rattle.js_regex.proofs.Lists.{set_none, set_same}
use Rattle.js_regex.proofs.state.State.unset_group.Goals as goal

pub returns-in-None : goal.returns-in-None
returns-in-None c = record {
  place = refl;
  groups = sym (set_none c.args.self.now.groups c.args.number None (sym c.in-None.ensures));
  pending = refl;
  back = λ s. refl;
}

pub returns-in-Some-None : goal.returns-in-Some-None
returns-in-Some-None c = record {
  place = refl;
  groups = sym (set_same c.args.self.now.groups c.args.number None (rw c.in-Some-None.field-0-is at (sym c.in-Some-None.ensures)));
  pending = refl;
  back = λ s. refl;
}
