use Rattle.std.proofs.Common.{◌≡◌, true, false, Some, ◌∙◌, sym, ap, subst}
use Rattle.std.specs.Prelude.{is_some}
use Rattle.pac_names.specs.declared.kind.NameKind.{NameKind}
use Rattle.dns_message.specs.Record.{facts_at}
use Rattle.dns_message.specs.Reply.{answer_on}
use Rattle.dns_message.specs.Seen.{facts_known, name_there}
use Rattle.dns_message.proofs.Replies.{no_header, no_response, a_response, no_question, name_error, no_error, not_readable, readable_answer}
use Rattle.dns_message.proofs.reply.read_reply.Goals as goal

pub returns-in_err-header : goal.returns-in_err-header
returns-in_err-header c = c.from_residual.ensures ∙ sym (no_header c.args.datagram.now c.args.name.now c.args.id c.in_err-header.ensures.none)

pub returns-then-not-is_response_to : goal.returns-then-not-is_response_to
returns-then-not-is_response_to c = sym (no_response c.args.datagram.now c.args.name.now c.args.id c.in_ok-header.header c.in_ok-header.ensures.some (sym c.is_response_to.ensures ∙ c.if-not-is_response_to.true))

pub returns-in_err-at : goal.returns-in_err-at
returns-in_err-at c =
    c.from_residual-in_err-at.ensures
    ∙ sym (a_response c.args.datagram.now c.args.name.now c.args.id c.in_ok-header.header c.in_ok-header.ensures.some c.in_ok-header.ensures.whole (sym c.is_response_to.ensures ∙ c.if-not-is_response_to.false)
    ∙ no_question c.args.datagram.now c.args.name.now (sym c.in_err-at.ensures))

pub returns-then-header-eq-NAME_ERROR : goal.returns-then-header-eq-NAME_ERROR
returns-then-header-eq-NAME_ERROR c =
    sym (a_response c.args.datagram.now c.args.name.now c.args.id c.in_ok-header.header c.in_ok-header.ensures.some c.in_ok-header.ensures.whole (sym c.is_response_to.ensures ∙ c.if-not-is_response_to.false)
    ∙ name_error c.args.datagram.now c.args.name.now c.in_ok-at.at c.in_ok-header.header c.in_ok-header.ensures.some (sym c.in_ok-at.ensures) c.if-header-eq-NAME_ERROR.true)

pub returns-then-not-is_readable : goal.returns-then-not-is_readable
returns-then-not-is_readable c =
    sym (a_response c.args.datagram.now c.args.name.now c.args.id c.in_ok-header.header c.in_ok-header.ensures.some c.in_ok-header.ensures.whole (sym c.is_response_to.ensures ∙ c.if-not-is_response_to.false)
    ∙ no_error c.args.datagram.now c.args.name.now c.in_ok-at.at c.in_ok-header.header c.in_ok-header.ensures.some (sym c.in_ok-at.ensures) c.if-header-eq-NAME_ERROR.false
    ∙ not_readable c.args.name.now (facts_at c.args.name.now.kind c.in_ok-header.header.ancount c.args.datagram.now c.in_ok-at.at)
    (subst (λ (kind : NameKind). is_some (facts_at kind c.in_ok-header.header.ancount c.args.datagram.now c.in_ok-at.at) ≡ false) c.kind.ensures
    (sym c.is_readable.ensures ∙ c.if-not-is_readable.true)))

pub returns : goal.returns
returns c =
    ap Some c.follow.ensures
    ∙ ap (λ (kind : NameKind). Some (answer_on 16 (facts_known (facts_at kind c.in_ok-header.header.ancount c.args.datagram.now c.in_ok-at.at)) (name_there c.args.datagram.now 12))) c.kind.ensures
    ∙ sym (a_response c.args.datagram.now c.args.name.now c.args.id c.in_ok-header.header c.in_ok-header.ensures.some c.in_ok-header.ensures.whole (sym c.is_response_to.ensures ∙ c.if-not-is_response_to.false)
    ∙ no_error c.args.datagram.now c.args.name.now c.in_ok-at.at c.in_ok-header.header c.in_ok-header.ensures.some (sym c.in_ok-at.ensures) c.if-header-eq-NAME_ERROR.false
    ∙ readable_answer c.args.datagram.now c.args.name.now c.in_ok-at.at (facts_at c.args.name.now.kind c.in_ok-header.header.ancount c.args.datagram.now c.in_ok-at.at) (sym c.in_ok-at.ensures)
    (subst (λ (kind : NameKind). is_some (facts_at kind c.in_ok-header.header.ancount c.args.datagram.now c.in_ok-at.at) ≡ true) c.kind.ensures
    (sym c.is_readable.ensures ∙ c.if-not-is_readable.false)))
