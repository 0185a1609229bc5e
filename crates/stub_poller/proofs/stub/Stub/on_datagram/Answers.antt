use Rattle.std.proofs.Common.{◌≡◌, ◌<◌, ◌≤◌, ap, arith, length}
use Rattle.std.proofs.lemmas.List.Elements.{All-same}
use Rattle.poll_log.specs.Sendings.{limit}
use Rattle.stub_poller.specs.State.{unanswered_by}
use Rattle.stub_poller.proofs.FlightLists.{unanswered_all, unanswered_few}
use Rattle.stub_poller.proofs.stub.Stub.on_datagram.Goals as goal

pub invariant_of-self : goal.invariant_of-self
invariant_of-self c =
    let before = c.self.inside.flights in
    let after = c.take_answered.new.self in
    let left : after ≡ unanswered_by c.args.datagram.now before = c.take_answered.ensures.taken in
    let few : length (unanswered_by c.args.datagram.now before) ≤ length before = unanswered_few c.args.datagram.now before in
    let many : length after ≡ length (unanswered_by c.args.datagram.now before) = ap length left in
    record {
      terms = c.self.invariant.terms;
      young = All-same (λ f. f.age < limit c.self.inside.terms) after (unanswered_by c.args.datagram.now before) left (unanswered_all (λ f. f.age < limit c.self.inside.terms) c.args.datagram.now before c.self.invariant.young);
      resend = omega (arith, c.self.invariant.resend);
      dying = omega (arith, c.self.invariant.dying);
      dead = omega (arith, c.self.invariant.dead);
    }
