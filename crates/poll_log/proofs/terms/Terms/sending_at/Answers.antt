use Rattle.std.proofs.Common.{◌-◌, ◌∙◌, cond, Some, refl, sym, ap, arith}
use Rattle.std.proofs.lemmas.Bool.{eq-eqb, ne_eqb}
use Rattle.poll_log.specs.Sendings.{sending_among}
use Rattle.poll_log.proofs.Sendings.{among_step}
use Rattle.poll_log.proofs.terms.Terms.sending_at.Goals as goal

pub loop-number-init : goal.loop-number-init
loop-number-init c = (c.requires.tried, refl)

pub returns-then-sending_age-age : goal.returns-then-sending_age-age
returns-then-sending_age-age c =
    let n = c.loop-number.number in
    let here = eq-eqb _ _ (sym c.sending_age.ensures ∙ c.if-sending_age-age.true) in
    sym (
    c.loop-number.invariant.1
    ∙ among_step c.args.self.wait n c.args.age c.loop-number-test.true
    ∙ ap (λ b. cond b (Some (n - 1)) (sending_among c.args.self.wait (n - 1 - 1) c.args.age)) here
    )

pub loop-number-preserved : goal.loop-number-preserved
loop-number-preserved c =
    let n = c.loop-number.number in
    let apart = ne_eqb _ _ (λ same. c.if-sending_age-age.false (c.sending_age.ensures ∙ same)) in (
      omega (arith, c.loop-number-test.true),
      c.loop-number.invariant.1
          ∙ among_step c.args.self.wait n c.args.age c.loop-number-test.true
          ∙ ap (λ b. cond b (Some (n - 1)) (sending_among c.args.self.wait (n - 1 - 1) c.args.age)) apart,
    )
