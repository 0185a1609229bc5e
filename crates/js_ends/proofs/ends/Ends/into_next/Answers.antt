use Rattle.std.proofs.Common.{ap}
use Rattle.js_ends.specs.declared.ends.Ends.{Ends}
use Rattle.js_ends.specs.Ways.{into}
use Rattle.js_ends.proofs.ends.Ends.into_next.Goals as goal

pub returns : goal.returns
unfolding into
returns c = ap (λ (e : Ends). record e { completes = c.args.next.completes }) c.either.ensures
