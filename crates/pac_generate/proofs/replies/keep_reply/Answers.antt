use Rattle.std.proofs.Common.{List, ℕ, [], ◌∷◌, ◌++◌, sym, ◌∙◌, ap, arith}
use Rattle.pac_generate.proofs.LogLaws.{replies_full, replies_more, replies_same}
use Rattle.pac_generate.proofs.replies.keep_reply.Goals as goal

pub returns-then-len-ge-MOST_QUESTIONS-clause-kept : goal.returns-then-len-ge-MOST_QUESTIONS-clause-kept
returns-then-len-ge-MOST_QUESTIONS-clause-kept c =
    replies_full c.args.known.now c.args.kept.now.items c.args.datagram.now (omega (arith, c.args.kept.now.ok.0, c.requires.within, c.len.ensures, c.if-len-ge-MOST_QUESTIONS.true))

pub returns-in-Some-clause-kept : goal.returns-in-Some-clause-kept
returns-in-Some-clause-kept c =
    c.push_reserved.ensures.items ∙ ap (λ (r : List ℕ). c.args.kept.now.items ++ r ∷ []) c.reply_from.ensures
    ∙ replies_more c.args.known.now c.args.kept.now.items c.args.datagram.now c.in-Some.question (sym c.in-Some.ensures)
    (omega (arith, c.args.kept.now.ok.0, c.len.ensures, c.if-len-ge-MOST_QUESTIONS.false))

pub returns-in_default-clause-kept : goal.returns-in_default-clause-kept
returns-in_default-clause-kept c =
    replies_same c.args.known.now c.args.kept.now.items c.args.datagram.now (sym c.question_of.ensures ∙ c.in_default.is)
    (omega (arith, c.args.kept.now.ok.0, c.len.ensures, c.if-len-ge-MOST_QUESTIONS.false))
