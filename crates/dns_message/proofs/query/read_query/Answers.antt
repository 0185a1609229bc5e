use Rattle.std.proofs.Common.{ℕ, Some, ◌∙◌, sym}
use Rattle.std.proofs.lemmas.Bool.{false≢true}
use Rattle.pac_names.specs.Names.{Name}
use Rattle.dns_name.proofs.SameLaws.{bytes_same, same_bytes}
use Rattle.dns_message.specs.Question.{question_octets}
use Rattle.dns_message.proofs.QueryLaws.{both_same, not_both, number_of, question_of, same_inside}
use Rattle.dns_message.proofs.Writes.{told_front}
use Rattle.dns_message.proofs.query.read_query.Goals as goal

pub returns-in_err-name-clause-back : goal.returns-in_err-name-clause-back
returns-in_err-name-clause-back c id name small kept e =
    absurd (not_both c.plain_name.result name c.in_err-name.was (c.plain_name.ensures.named name kept (question_of c.args.datagram.now name id e)))

pub returns-then-eq-clause-found : goal.returns-then-eq-clause-found
returns-then-eq-clause-found c =
    let front = told_front _ c.write_query-length.new.buffer _ c.write_query-length.result c.write_query-length.ensures.written c.write_query-length.ensures.length in
    sym (bytes_same _ _ (sym c.if-eq.ensures)) ∙ front

pub returns-then-eq-clause-back : goal.returns-then-eq-clause-back
returns-then-eq-clause-back c id name small kept e =
    let named = same_inside c.in_ok-name.name name (sym c.in_ok-name.was ∙ c.plain_name.ensures.named name kept (question_of c.args.datagram.now name id e)) in
    both_same (λ (k : ℕ) (x : Name). Some (k, x)) c.read_u16-id.result id c.in_ok-name.name name (c.read_u16-id.ensures ∙ number_of c.args.datagram.now name id small e) named

pub returns-else-eq-clause-back : goal.returns-else-eq-clause-back
returns-else-eq-clause-back c id name small kept e =
    let front = told_front _ c.write_query-length.new.buffer _ c.write_query-length.result c.write_query-length.ensures.written c.write_query-length.ensures.length in
    let named = same_inside c.in_ok-name.name name (sym c.in_ok-name.was ∙ c.plain_name.ensures.named name kept (question_of c.args.datagram.now name id e)) in
    let number = c.read_u16-id.ensures ∙ number_of c.args.datagram.now name id small e in
    let written = both_same question_octets c.read_u16-id.result id c.in_ok-name.name name number named in
    absurd (false≢true (sym c.if-eq.false ∙ c.eq.ensures ∙ same_bytes _ _ (front ∙ written ∙ sym e)))
