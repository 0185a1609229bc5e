use Rattle.std.proofs.Common.{◌∙◌}
use Rattle.pac_ext.proofs.Digits.{no-first, no-second, no-third, no-fourth, all-four}
use Rattle.pac_ext.proofs.group.four_digits.Goals as goal

pub returns-in_err-first : goal.returns-in_err-first
returns-in_err-first c = c.from_residual.ensures ∙ no-first c.args.a c.args.b c.args.c c.args.d c.in_err-first.ensures.value

pub returns-in_err-second : goal.returns-in_err-second
returns-in_err-second c = c.from_residual-in_err-second.ensures ∙ no-second c.args.a c.args.b c.args.c c.args.d _ c.in_ok-first.ensures.value c.in_err-second.ensures.value

pub returns-in_err-third : goal.returns-in_err-third
returns-in_err-third c = c.from_residual-in_err-third.ensures ∙ no-third c.args.a c.args.b c.args.c c.args.d _ _ c.in_ok-first.ensures.value c.in_ok-second.ensures.value c.in_err-third.ensures.value

pub returns-in_err-fourth : goal.returns-in_err-fourth
returns-in_err-fourth c = c.from_residual-in_err-fourth.ensures ∙ no-fourth c.args.a c.args.b c.args.c c.args.d _ _ _ c.in_ok-first.ensures.value c.in_ok-second.ensures.value c.in_ok-third.ensures.value c.in_err-fourth.ensures.value

pub returns : goal.returns
returns c = all-four c.args.a c.args.b c.args.c c.args.d _ _ _ _ c.in_ok-first.ensures.value c.in_ok-second.ensures.value c.in_ok-third.ensures.value c.in_ok-fourth.ensures.value
