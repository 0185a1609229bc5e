use Rattle.std.proofs.Common.{◌&&◌, Bool, sym, ◌∙◌, ap}
use Rattle.std.specs.Prelude.{is_some}
use Rattle.std.proofs.lemmas.Bool.{and_left}
use Rattle.dns_message.specs.Question.{question_end}
use Rattle.dns_message.proofs.CutResponses.{with_header, without_header}
use Rattle.dns_message.proofs.truncation.truncated.Goals as goal

pub returns-in-None : goal.returns-in-None
returns-in-None c = sym (without_header c.args.datagram.now c.args.name.now c.args.id c.in-None.ensures.none)

pub returns-then-is_truncated_response_to : goal.returns-then-is_truncated_response_to
returns-then-is_truncated_response_to c =
    c.is_some.ensures ∙ ap is_some c.read_question.ensures
    ∙ sym (with_header c.args.datagram.now c.args.name.now c.args.id c.in-Some.header c.in-Some.ensures.some c.in-Some.ensures.whole
    ∙ ap (λ (b : Bool). b && is_some (question_end c.args.datagram.now c.args.name.now)) (sym c.is_truncated_response_to.ensures ∙ c.if-is_truncated_response_to.true))

pub returns-else-is_truncated_response_to : goal.returns-else-is_truncated_response_to
returns-else-is_truncated_response_to c =
    c.if-is_truncated_response_to.false
    ∙ sym (with_header c.args.datagram.now c.args.name.now c.args.id c.in-Some.header c.in-Some.ensures.some c.in-Some.ensures.whole
    ∙ and_left _ _ (sym c.is_truncated_response_to.ensures ∙ c.if-is_truncated_response_to.false))
