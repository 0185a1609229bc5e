use Rattle.std.proofs.Common.{[], ◌∷◌, ◌++◌, ◌/◌, ap, ◌∙◌}
use Rattle.std.specs.Prelude.{reverse}
use Rattle.number_builtins.specs.Numerals.{digits_text}
use Rattle.number_builtins.proofs.Digits.{push-last, push-more}
use Rattle.number_builtins.proofs.numerals.push_digits.Goals as goal

pub returns-then-rest-eq0 : goal.returns-then-rest-eq0
returns-then-rest-eq0 c =
    c.in_ok-push.ensures.items
    ∙ ap (λ d. c.loop-rest.units.items ++ d ∷ []) c.digit_unit.ensures
    ∙ push-last c.loop-rest.units.items c.args.radix c.loop-rest.rest c.requires.at_least c.if-rest-eq0.true
    ∙ c.loop-rest.invariant

pub loop-rest-preserved : goal.loop-rest-preserved
loop-rest-preserved c =
    let pushed = c.in_ok-push.ensures.items ∙ ap (λ d. c.loop-rest.units.items ++ d ∷ []) c.digit_unit.ensures in
    ap (λ us. us ++ reverse (digits_text c.args.radix (c.loop-rest.rest / c.args.radix))) pushed
    ∙ push-more c.loop-rest.units.items c.args.radix c.loop-rest.rest c.requires.at_least c.if-rest-eq0.false
    ∙ c.loop-rest.invariant
