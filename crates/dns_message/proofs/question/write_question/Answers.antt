use Rattle.std.proofs.Common.{ℕ, ◌∙◌, ap, arith}
use Rattle.dns_name.specs.Writing.{overwritten, wire_name}
use Rattle.dns_message.specs.Numbers.{number_octets}
use Rattle.dns_message.specs.Question.{type_of, class_in}
use Rattle.dns_message.proofs.Writes.{written_thrice}
use Rattle.dns_message.proofs.question.write_question.Goals as goal

pub returns-clause-written : goal.returns-clause-written
returns-clause-written c =
    written_thrice c.args.buffer.now c.write_name-at.new.buffer c.write_u16-at.new.buffer c.write_u16.new.buffer (wire_name c.args.name.now.text) (number_octets (type_of c.args.name.now.kind)) (number_octets class_in)
    12 c.write_name-at.result c.write_u16-at.result c.write_name-at.ensures.written
    (c.write_u16-at.ensures.written ∙ ap (λ (n : ℕ). overwritten c.write_name-at.new.buffer c.write_name-at.result (number_octets n)) (c.type_of.ensures ∙ ap type_of c.kind.ensures))
    c.write_u16.ensures.written c.write_name-at.ensures.behind
    c.write_u16-at.ensures.behind (omega (arith, c.told-buffer, c.write_name-at.ensures.behind, c.write_name-at.ensures.room))
