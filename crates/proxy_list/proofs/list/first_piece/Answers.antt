use Rattle.std.proofs.Common.{◌∙◌, ap, take, drop, arith}
use Rattle.proxy_list.proofs.Cuts.{cut-last, cut-first}
use Rattle.proxy_list.proofs.list.first_piece.Goals as goal

pub returns-in-empty-clause-none : goal.returns-in-empty-clause-none
returns-in-empty-clause-none c =
    cut-last _ c.args.text.now _ c.split_at.result.1.now
    (c.split_at.ensures.front ∙ ap (λ n. take n c.args.text.now) c.length_before.ensures.value)
    (c.split_at.ensures.back ∙ ap (λ n. drop n c.args.text.now) c.length_before.ensures.value)
    (omega (arith, c.in-empty.len_below))

pub returns-in-len1-up-clause-some : goal.returns-in-len1-up-clause-some
returns-in-len1-up-clause-some c =
    cut-first _ c.args.text.now _ c.split_at.result.1.now
    (c.split_at.ensures.front ∙ ap (λ n. take n c.args.text.now) c.length_before.ensures.value)
    (c.split_at.ensures.back ∙ ap (λ n. drop n c.args.text.now) c.length_before.ensures.value)
    (omega (arith, c.in-len1-up.len_at_least))
