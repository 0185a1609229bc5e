use Rattle.std.proofs.Common.{◌∙◌, ap, drop, arith}
use Rattle.proxy_list.proofs.Cuts.{no_word, first_word}
use Rattle.proxy_list.proofs.words.first_word.Goals as goal

pub returns-in-empty-clause-none : goal.returns-in-empty-clause-none
returns-in-empty-clause-none c =
    no_word c.args.units.now c.split_at.result.1.now
    (c.split_at.ensures.back ∙ ap (λ n. drop n c.args.units.now) c.blanks_length.ensures.value)
    (omega (arith, c.in-empty.len_below))

pub returns-in-len1-up-clause-some : goal.returns-in-len1-up-clause-some
returns-in-len1-up-clause-some c =
    first_word c.args.units.now c.split_at.result.1.now _ _ c.word_length.result
    (c.split_at.ensures.back ∙ ap (λ n. drop n c.args.units.now) c.blanks_length.ensures.value)
    (omega (arith, c.in-len1-up.len_at_least))
    c.word_length.ensures.value c.split_at-in-len1-up.ensures.front c.split_at-in-len1-up.ensures.back
