use Rattle.std.proofs.Common.{arith}
use Rattle.dns_name.proofs.SameLaws.{same_whole}
use Rattle.dns_name.proofs.compare.same_name.Goals as goal

pub labels-init : goal.labels-init
labels-init c = (same_whole c.args.message.now c.args.a c.args.b, omega arith)
