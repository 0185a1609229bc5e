use Rattle.std.proofs.Common.{inl}
use Rattle.std.specs.Prelude.{map, string_bytes}
use Rattle.pac_plan.specs.Plan.{at_once}
use Rattle.pac_plan.proofs.Served.{serves}
use Rattle.pac_lint.specs.Plans.{no_talks, plan_of}
use Rattle.pac_lint.proofs.command.lint.Goals as goal

pub returns : goal.returns
returns g c = λ o. serves no_talks (at_once (plan_of (map string_bytes c.args.words.now.items))) _ _ _ _ _ _ (inl (rw c.as_slice.ensures.value at (c.done.ensures o))) c.give.ensures
