use Rattle.std.proofs.Common.{ap, arith, length, length-append, ◌∷◌, []}
use Rattle.poll_log.specs.declared.question.Question.{Question}
use Rattle.stub_poller.proofs.Ages.{asked_young}
use Rattle.stub_poller.proofs.Rows.{flying_most}
use Rattle.stub_poller.proofs.stub.Stub.ask.Goals as goal

pub invariant_of-self-2 : goal.invariant_of-self-2
invariant_of-self-2 c =
    let q : Question = record { id = c.args.id; name = c.copy.result } in
    let before = c.self.inside.flights in
    let after = c.push.new.self in
    let most = flying_most c.slots-flights.result.now in
    let held = ap length c.slots-flights.ensures in
    let one = ap length c.in_ok-push.ensures.added in
    let more = length-append before (record { question = q; age = 0 } ∷ []) in
    record {
      terms = c.self.invariant.terms;
      young = asked_young c.self.inside.terms c.self.invariant.terms before c.self.invariant.young q after c.in_ok-push.ensures.added;
      resend = omega (arith, c.in_ok-make_room.ensures.resend);
      dying = omega (arith, c.in_ok-make_room.ensures.dead);
      dead = omega (arith, c.in_ok-reserve.ensures.ok, c.in_ok-reserve.ensures.len);
    }
