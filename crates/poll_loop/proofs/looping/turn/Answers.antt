use Rattle.std.proofs.Common.{◌∙◌, ap, map, subst}
use Rattle.pac_ports.specs.Link.{with_moves}
use Rattle.poll_log.specs.Questions.{outgoing_of}
use Rattle.poll_log.specs.Rounds.{sent_move, turns_in}
use Rattle.poll_loop.specs.Sending.{SendFails}
use Rattle.poll_loop.proofs.Made.{made_got}
use Rattle.poll_loop.proofs.Turns.{ended_memory, faulted_receive, faulted_send, reached_more, turned_frame}
use Rattle.poll_loop.proofs.looping.turn.Goals as goal

pub returns-in_default-clause-turned : goal.returns-in_default-clause-turned
returns-in_default-clause-turned g c talk old count r w =
    faulted_receive talk _ old _ _ _ _ count r _ w c.in_default.ensures.0 c.in_default.ensures.1

pub returns-in_default-step-clause-turned : goal.returns-in_default-step-clause-turned
returns-in_default-step-clause-turned g c talk old count r w =
    ended_memory talk _ old _ _ _ _ count r _ _ (made_got _ c.in-Ok.got _ _ c.in-Ok.ensures.1) c.take.new.self c.take.ensures.taken c.take.ensures.framed
    _ c.event.ensures _ (c.due-due.ensures talk.task (turns_in r.rounds) r.stands) w
    _ _ (c.in_default-step.ensures.memory talk.task (turns_in r.rounds) r.stands)

pub returns-in_default-send_all-clause-turned : goal.returns-in_default-send_all-clause-turned
returns-in_default-send_all-clause-turned g c talk old count r w =
    let f = c.in_default-send_all.ensures in
    faulted_send talk _ old _ _ _ _ count r _ _ (made_got _ c.in-Ok.got _ _ c.in-Ok.ensures.1) c.take.new.self c.take.ensures.taken c.take.ensures.framed
    _ c.event.ensures _ (c.due-due.ensures talk.task (turns_in r.rounds) r.stands) w
    _ _ _ _ (c.in-Ok-step.ensures.ok talk.task (turns_in r.rounds) r.stands)
    f.0 _ (subst (λ qs. SendFails (g.N.Link.state c.receive.new.self) (map outgoing_of qs) f.0 (g.N.Link.state c.send_all.new.link)) c.deref.ensures.value f.1)

pub returns-in-Some-clause-turned : goal.returns-in-Some-clause-turned
returns-in-Some-clause-turned g c talk old count r w =
    turned_frame talk _ old _ _ _ _ count r _ _ (made_got _ c.in-Ok.got _ _ c.in-Ok.ensures.1) c.take.new.self c.take.ensures.taken c.take.ensures.framed
    _ c.event.ensures _ (c.due-due.ensures talk.task (turns_in r.rounds) r.stands) w
    _ _ _ _ (c.in-Ok-step.ensures.ok talk.task (turns_in r.rounds) r.stands)
    _ (c.in-Ok-send_all.ensures ∙ ap (λ qs. with_moves (map sent_move (map outgoing_of qs)) (g.N.Link.state c.receive.new.self)) c.deref.ensures.value)
    c.in-Some.question c.in-Some.is _ _ c.send.result c.send.ensures

pub returns-clause-turned : goal.returns-clause-turned
returns-clause-turned g c talk old count r w =
    reached_more talk _ old _ _ _ _ count r _ _ (made_got _ c.in-Ok.got _ _ c.in-Ok.ensures.1) c.take.new.self c.take.ensures.taken c.take.ensures.framed
    _ c.event.ensures _ (c.due-due.ensures talk.task (turns_in r.rounds) r.stands) w
    _ _ _ _ (c.in-Ok-step.ensures.ok talk.task (turns_in r.rounds) r.stands)
    _ (c.in-Ok-send_all.ensures ∙ ap (λ qs. with_moves (map sent_move (map outgoing_of qs)) (g.N.Link.state c.receive.new.self)) c.deref.ensures.value)
    c.in-None.is
