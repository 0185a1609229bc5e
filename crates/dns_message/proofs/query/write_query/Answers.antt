use Rattle.std.proofs.Common.{refl, ◌∙◌, ap, arith}
use Rattle.dns_message.specs.Header.{header_octets, query_header}
use Rattle.dns_message.specs.Question.{asked_octets, question_octets}
use Rattle.dns_name.specs.Writing.{overwritten}
use Rattle.dns_message.specs.declared.header.Header.{Header}
use Rattle.dns_message.proofs.Writes.{written_message, length_message}
use Rattle.dns_message.proofs.query.write_query.Goals as goal

pub returns-clause-written : goal.returns-clause-written
unfolding question_octets
returns-clause-written c =
    written_message c.args.buffer.now c.write.new.buffer c.write_question.new.buffer (header_octets (query_header c.args.id)) (asked_octets c.args.name.now)
    (c.write.ensures.written ∙ ap (λ (h : Header). overwritten c.args.buffer.now 0 (header_octets h)) c.query.ensures) c.write_question.ensures.written refl
    (omega (arith, c.told-buffer, c.write_question.ensures.behind, c.write_question.ensures.room))

pub returns-clause-length : goal.returns-clause-length
unfolding question_octets
returns-clause-length c = length_message (header_octets (query_header c.args.id)) (asked_octets c.args.name.now) _ refl c.write_question.ensures.behind
