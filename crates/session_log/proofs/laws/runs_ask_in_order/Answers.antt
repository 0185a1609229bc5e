use Rattle.session_log.proofs.Orders.{in_order as law}
use Rattle.session_log.proofs.laws.runs_ask_in_order.Goals as goal

pub returns : goal.returns
returns g c = law
