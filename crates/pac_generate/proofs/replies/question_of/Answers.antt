use Rattle.std.proofs.Common.{sym, ◌∙◌}
use Rattle.dns_message.proofs.QueryLaws.{not_both}
use Rattle.pac_generate.proofs.Asked.{not_asked}
use Rattle.pac_generate.proofs.replies.question_of.Goals as goal

pub returns-in_err-id : goal.returns-in_err-id
returns-in_err-id c =
    c.from_residual.ensures
    ∙ sym (not_asked c.args.datagram.now (λ id name small named e. not_both c.read_query.result (id, name) c.in_err-id.was (c.read_query.ensures.back id name small named e)))
