use Rattle.std.proofs.Common.{◌≡◌, ◌<◌, ap, refl, sym, ◌∙◌, subst, arith, length, map}
use Rattle.std.proofs.lemmas.Bool.Decides.{nat_tests}
use Rattle.std.proofs.lemmas.List.{length-map}
use Rattle.pac_ports.specs.Link.{with_moves, with_open}
use Rattle.poll_log.specs.Rounds.{sent_move}
use Rattle.poll_log.specs.Questions.{outgoing_of}
use Rattle.poll_log.specs.Sendings.{limit}
use Rattle.poll_log.specs.Rounds.{turns_in}
use Rattle.poll_loop.specs.Sending.{SendFails}
use Rattle.poll_loop.proofs.Turns.{ended_by_bound, ended_if, ended_whole, faulted_begin, none_sent, nothing_begin, reached_begin, short_begin, stopped, waits_if_not}
use Rattle.poll_loop.proofs.looping.poll.Goals as goal

pub returns-then-is_empty-clause-polled : goal.returns-then-is_empty-clause-polled
returns-then-is_empty-clause-polled g c talk old server terms link b =
    nothing_begin talk _ old _ _ _ b _ (sym link) (none_sent c.args.first.now (let none : length c.args.first.now ≡ 0 = grind (arith, nat_tests) in none))

pub returns-in_default-clause-polled : goal.returns-in_default-clause-polled
returns-in_default-clause-polled g c talk old server terms link b = short_begin talk _ old _ _ _ b _ (sym link)

pub returns-in_default-open-clause-polled : goal.returns-in_default-open-clause-polled
returns-in_default-open-clause-polled g c talk old server terms link b =
    let opened : with_open c.args.upstream.servers (g.N.Link.state c.args.link.now) ≡ with_open talk.servers old.link = ap (λ s. with_open s (g.N.Link.state c.args.link.now)) (sym server) ∙ ap (with_open talk.servers) (sym link) in
    let fails = c.in_default-open.ensures in
    faulted_begin talk _ old _ _ _ b fails.0 _ (subst (λ s. SendFails s (map outgoing_of c.args.first.now) fails.0 (g.N.Link.state c.open.new.link)) opened fails.1)

pub loop-turn-init : goal.loop-turn-init
loop-turn-init g c =
    record {
      reached =
          λ talk old server terms link b.
          let opened : with_open c.args.upstream.servers (g.N.Link.state c.args.link.now) ≡ with_open talk.servers old.link = ap (λ s. with_open s (g.N.Link.state c.args.link.now)) (sym server) ∙ ap (with_open talk.servers) (sym link) in
          let all : length (map outgoing_of c.args.first.now) ≡ length c.args.first.now = length-map c.args.first.now outgoing_of in
          let some : 0 < length (map outgoing_of c.args.first.now) = grind (arith, nat_tests) in
          reached_begin talk _ old _ _ _ b _ _ c.in-Ok.ensures some (c.in-Ok-open.ensures ∙ ap (λ s. with_moves (map sent_move (map outgoing_of c.args.first.now)) s) opened);
      kept = refl;
    }

pub returns-then-ended-clause-polled : goal.returns-then-ended-clause-polled
returns-then-ended-clause-polled g c talk old server terms link b =
    let r = c.loop-turn.invariant.reached talk old server terms link b in
    ended_whole talk _ old _ _ _ _ _ r (ended_if _ _ (c.ended.ensures talk.task (turns_in r.rounds) r.stands) c.if-ended.true)

pub returns-in-Err-clause-polled : goal.returns-in-Err-clause-polled
returns-in-Err-clause-polled g c talk old server terms link b =
    let r = c.loop-turn.invariant.reached talk old server terms link b in
    stopped talk (g.P.Poller.stands c.turn.new.poller talk.task) old c.in-Err.error _ _ _ _ _
    (c.in-Err.ensures.turned talk old c.loop-turn._turn r (waits_if_not _ _ (c.ended.ensures talk.task (turns_in r.rounds) r.stands) c.if-ended.false))

pub loop-turn-preserved : goal.loop-turn-preserved
loop-turn-preserved g c =
    record {
      reached =
          λ talk old server terms link b.
          let r = c.loop-turn.invariant.reached talk old server terms link b in
          c.in-Ok-turn.ensures.turned talk old c.loop-turn._turn r (waits_if_not _ _ (c.ended.ensures talk.task (turns_in r.rounds) r.stands) c.if-ended.false);
      kept = c.in-Ok-turn.ensures.kept ∙ c.loop-turn.invariant.kept;
    }

pub returns-clause-polled : goal.returns-clause-polled
returns-clause-polled g c talk old server terms link b =
    let r = c.loop-turn.invariant.reached talk old server terms link b in
    let same : limit talk.task.terms ≡ limit c.args.upstream.terms = ap limit terms in
    ended_by_bound talk _ old _ _ _ _ _ r (omega arith)
