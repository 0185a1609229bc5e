use Rattle.std.proofs.Common.{sym, ◌∙◌, ap, arith}
use Rattle.pac_names.specs.declared.answer.Answer.TheVariants as answer
use Rattle.pac_names.specs.declared.kind.NameKind.{NameKind}
use Rattle.dns_name.specs.Writing.{overwritten}
use Rattle.dns_message.specs.Header.{header_octets}
use Rattle.dns_message.specs.Reply.{answer_for}
use Rattle.dns_message.specs.declared.header.Header.{Header}
use Rattle.dns_message.proofs.RoundTrip.{none_length, none_written, reply_length, reply_written, told_in_front}
use Rattle.dns_message.proofs.reply.write_reply.Goals as goal

pub returns-in-Address-clause-written : goal.returns-in-Address-clause-written
returns-in-Address-clause-written c =
    reply_written c.args.buffer.now c.write.new.buffer c.write_question-at.new.buffer c.write_address.new.buffer c.args.id c.write_question-at.result c.args.name.now c.args.answer
    (answer.Address c.in-Address.address) (ap (λ (kind : NameKind). answer_for kind c.args.answer) (sym c.kind.ensures) ∙ sym c.in-Address.ensures)
    (c.write.ensures.written ∙ ap (λ (h : Header). overwritten c.args.buffer.now 0 (header_octets h)) c.response.ensures) c.write_question-at.ensures.written
    c.write_address.ensures.written c.write_question-at.ensures.behind (omega (arith, c.told-buffer, c.write_question-at.ensures.room))

pub returns-in-Address-clause-length : goal.returns-in-Address-clause-length
returns-in-Address-clause-length c =
    reply_length c.args.id c.write_question-at.result c.write_address.result c.args.name.now c.args.answer (answer.Address c.in-Address.address)
    (ap (λ (kind : NameKind). answer_for kind c.args.answer) (sym c.kind.ensures) ∙ sym c.in-Address.ensures) c.write_question-at.ensures.behind c.write_address.ensures.behind

pub returns-in-Address-clause-told : goal.returns-in-Address-clause-told
returns-in-Address-clause-told c =
    told_in_front c.args.buffer.now c.write_address.new.buffer c.args.id c.write_address.result c.args.name.now c.args.answer (answer.Address c.in-Address.address)
    (ap (λ (kind : NameKind). answer_for kind c.args.answer) (sym c.kind.ensures) ∙ sym c.in-Address.ensures) c.write_address.ensures.fits c.ranges.id.fits c.write_question-at.ensures.kept
    (returns-in-Address-clause-written c) (returns-in-Address-clause-length c)

pub returns-in-Address6-clause-written : goal.returns-in-Address6-clause-written
returns-in-Address6-clause-written c =
    reply_written c.args.buffer.now c.write-in-Address6.new.buffer c.write_question-at-in-Address6.new.buffer c.write_address6.new.buffer c.args.id c.write_question-at-in-Address6.result c.args.name.now c.args.answer
    (answer.Address6 c.in-Address6.address) (ap (λ (kind : NameKind). answer_for kind c.args.answer) (sym c.kind.ensures) ∙ sym c.in-Address6.ensures)
    (c.write-in-Address6.ensures.written ∙ ap (λ (h : Header). overwritten c.args.buffer.now 0 (header_octets h)) c.response-in-Address6.ensures) c.write_question-at-in-Address6.ensures.written
    c.write_address6.ensures.written c.write_question-at-in-Address6.ensures.behind (omega (arith, c.told-buffer, c.write_question-at-in-Address6.ensures.room))

pub returns-in-Address6-clause-length : goal.returns-in-Address6-clause-length
returns-in-Address6-clause-length c =
    reply_length c.args.id c.write_question-at-in-Address6.result c.write_address6.result c.args.name.now c.args.answer (answer.Address6 c.in-Address6.address)
    (ap (λ (kind : NameKind). answer_for kind c.args.answer) (sym c.kind.ensures) ∙ sym c.in-Address6.ensures) c.write_question-at-in-Address6.ensures.behind c.write_address6.ensures.behind

pub returns-in-Address6-clause-told : goal.returns-in-Address6-clause-told
returns-in-Address6-clause-told c =
    told_in_front c.args.buffer.now c.write_address6.new.buffer c.args.id c.write_address6.result c.args.name.now c.args.answer (answer.Address6 c.in-Address6.address)
    (ap (λ (kind : NameKind). answer_for kind c.args.answer) (sym c.kind.ensures) ∙ sym c.in-Address6.ensures) c.write_address6.ensures.fits c.ranges.id.fits c.write_question-at-in-Address6.ensures.kept
    (returns-in-Address6-clause-written c) (returns-in-Address6-clause-length c)

pub returns-in-NoAddress-clause-written : goal.returns-in-NoAddress-clause-written
returns-in-NoAddress-clause-written c =
    none_written c.args.buffer.now c.write-in-NoAddress.new.buffer c.write_question.new.buffer c.args.id c.args.name.now c.args.answer
    (ap (λ (kind : NameKind). answer_for kind c.args.answer) (sym c.kind.ensures) ∙ sym c.in-NoAddress.ensures)
    (c.write-in-NoAddress.ensures.written ∙ ap (λ (h : Header). overwritten c.args.buffer.now 0 (header_octets h)) c.response-in-NoAddress.ensures) c.write_question.ensures.written
    (omega (arith, c.told-buffer, c.write_question.ensures.behind, c.write_question.ensures.room))

pub returns-in-NoAddress-clause-length : goal.returns-in-NoAddress-clause-length
returns-in-NoAddress-clause-length c =
    none_length c.args.id c.write_question.result c.args.name.now c.args.answer
    (ap (λ (kind : NameKind). answer_for kind c.args.answer) (sym c.kind.ensures) ∙ sym c.in-NoAddress.ensures) c.write_question.ensures.behind

pub returns-in-NoAddress-clause-told : goal.returns-in-NoAddress-clause-told
returns-in-NoAddress-clause-told c =
    told_in_front c.args.buffer.now c.write_question.new.buffer c.args.id c.write_question.result c.args.name.now c.args.answer answer.NoAddress
    (ap (λ (kind : NameKind). answer_for kind c.args.answer) (sym c.kind.ensures) ∙ sym c.in-NoAddress.ensures) tt c.ranges.id.fits c.write_question.ensures.kept
    (returns-in-NoAddress-clause-written c) (returns-in-NoAddress-clause-length c)
