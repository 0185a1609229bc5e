use Rattle.std.proofs.Common.{sym, ap, ◌∙◌, eq-eqb}
use Rattle.std.proofs.lemmas.Bool.{ne_eqb}
use Rattle.std.proofs.lemmas.Result.{err_from_is_err_and}
use Rattle.js_grammar.specs.Tokens.{at_place}
use Rattle.js_lexer.proofs.Placed.{at_place-ok, fails_with}
use Rattle.js_lexer.proofs.TextLoop.{put_at_once, goes_on, ends, has_no_end, is_broken, fails}
use Rattle.js_lexer.proofs.texts.text_at.Goals as goal

pub returns-in_default-clause-gives : goal.returns-in_default-clause-gives
returns-in_default-clause-gives c = ap (at_place c.args.place) (has_no_end _ _ _ _ _ (put_at_once _ _ _ _ _ _ _ _ _ c.characters.invariant c.plain_length.ensures.value c.split_at.ensures.front c.split_at.ensures.back c.split_at.ensures.front_len c.in_ok-extend_from_slice.ensures.items) c.in_default.ensures.cases)

pub returns-then-unit-quote-clause-gives : goal.returns-then-unit-quote-clause-gives
returns-then-unit-quote-clause-gives c =
    rw c.in_ok-text.ensures (ap (at_place c.args.place) (ends _ _ _ _ _ (put_at_once _ _ _ _ _ _ _ _ _ c.characters.invariant c.plain_length.ensures.value c.split_at.ensures.front c.split_at.ensures.back c.split_at.ensures.front_len c.in_ok-extend_from_slice.ensures.items) _ _ c.in-Some.ensures.cases.0 (eq-eqb _ _ c.if-unit-quote.true)))

pub returns-then-is_line_terminator-clause-gives : goal.returns-then-is_line_terminator-clause-gives
returns-then-is_line_terminator-clause-gives c =
    ap (at_place c.args.place) (is_broken _ _ _ _ _ (put_at_once _ _ _ _ _ _ _ _ _ c.characters.invariant c.plain_length.ensures.value c.split_at.ensures.front c.split_at.ensures.back c.split_at.ensures.front_len c.in_ok-extend_from_slice.ensures.items) _ _ c.in-Some.ensures.cases.0 (ne_eqb _ _ c.if-unit-quote.false) (sym c.is_line_terminator.ensures ∙ c.if-is_line_terminator.true))

pub returns-in_err-written-clause-gives : goal.returns-in_err-written-clause-gives
returns-in_err-written-clause-gives c =
    let p = err_from_is_err_and c.from_residual-in_err-written.result c.from_residual-in_err-written.ensures.1 in
    rw (p.1, p.2) (fails_with c.in_err-written.field-0.0 c.args.place _ _
    (λ kind h. fails _ _ _ _ _ (put_at_once _ _ _ _ _ _ _ _ _ c.characters.invariant c.plain_length.ensures.value c.split_at.ensures.front c.split_at.ensures.back c.split_at.ensures.front_len c.in_ok-extend_from_slice.ensures.items) _ _ kind c.in-Some.ensures.cases.0 (ne_eqb _ _ c.if-unit-quote.false) (sym c.is_line_terminator.ensures ∙ c.if-is_line_terminator.false) h)
    c.in_err-written.ensures.gives)

pub characters-preserved : goal.characters-preserved
characters-preserved c =
    rw c.behind-rest.ensures (goes_on _ _ _ _ _ (put_at_once _ _ _ _ _ _ _ _ _ c.characters.invariant c.plain_length.ensures.value c.split_at.ensures.front c.split_at.ensures.back c.split_at.ensures.front_len c.in_ok-extend_from_slice.ensures.items) c.in-Some.unit.now c.in_ok-written.count c.in-Some.others.now c.in_ok-written.written _
    c.in-Some.ensures.cases.0 (ne_eqb _ _ c.if-unit-quote.false) (sym c.is_line_terminator.ensures ∙ c.if-is_line_terminator.false)
    (at_place-ok _ _ _ c.in_ok-written.ensures.gives) c.in_ok-written.ensures.within.0 c.in_ok-written.ensures.within.1 c.in_ok-put.ensures.ok)
