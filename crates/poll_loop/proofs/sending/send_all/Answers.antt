use Rattle.std.proofs.Common.{◌≡◌, ◌<◌, false, [], ◌∷◌, ap, ◌∙◌, arith, length, map, take, sym, subst}
use Rattle.std.proofs.lemmas.List.{length-map}
use Rattle.std.proofs.lemmas.Result.{err_from_is_err_and}
use Rattle.pac_ports.specs.Link.{LinkFails, LinkState, has_move, with_moves}
use Rattle.poll_log.specs.Rounds.{sent_move}
use Rattle.poll_log.specs.Questions.{outgoing_of}
use Rattle.poll_loop.specs.Sending.{SendFails}
use Rattle.poll_loop.proofs.Logs.{sent_more}
use Rattle.poll_loop.proofs.sending.send_all.Goals as goal

pub loop-sending-preserved : goal.loop-sending-preserved
loop-sending-preserved g c =
    let low : c.loop-sending.sending-index < length c.args.sendings.now = omega arith in
    c.in_ok-send.ensures
    ∙ ap (λ s. with_moves (sent_move (outgoing_of c.sending-item.result) ∷ []) s) c.loop-sending.invariant
    ∙ ap (λ q. with_moves (sent_move (outgoing_of q) ∷ []) (with_moves (map sent_move (take c.loop-sending.sending-index (map outgoing_of c.args.sendings.now))) (g.N.Link.state c.args.link.now))) c.sending-item.is
    ∙ sent_more c.args.sendings.now c.loop-sending.sending-index _ (g.N.Link.state c.args.link.now) low

pub returns-in_err-send : goal.returns-in_err-send
returns-in_err-send g c =
    let p = err_from_is_err_and c.from_residual.result c.from_residual.ensures.1 in
    let now : LinkState = with_moves (map sent_move (take c.loop-sending.sending-index (map outgoing_of c.args.sendings.now))) (g.N.Link.state c.args.link.now) in
    let fails : LinkFails (g.N.Link.state c.loop-sending.link) (g.N.Link.state c.send.new.link) × (has_move (g.N.Link.state c.loop-sending.link) ≡ false) = c.in_err-send.ensures in
    let all : length (map outgoing_of c.args.sendings.now) ≡ length c.args.sendings.now = length-map c.args.sendings.now outgoing_of in
    let few : SendFails (g.N.Link.state c.args.link.now) (map outgoing_of c.args.sendings.now) c.loop-sending.sending-index (g.N.Link.state c.send.new.link) = record {
      few = omega arith;
      link = subst (λ s. LinkFails s (g.N.Link.state c.send.new.link)) c.loop-sending.invariant fails.0;
      unsure = ap has_move (sym c.loop-sending.invariant) ∙ fails.1;
    } in
    rw p.1 (c.loop-sending.sending-index, few)
