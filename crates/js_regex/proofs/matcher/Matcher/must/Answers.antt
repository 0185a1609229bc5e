use Rattle.std.proofs.Common.{◌≡◌, false, None, Some, refl, sym, subst, ◌∙◌}
use Rattle.js_pattern.specs.Repeats.{is_none_left, smaller}
use Rattle.js_regex.specs.declared.turns.Turning.{Turning}
use Rattle.js_regex.specs.Singles.{behind_single}
use Rattle.js_regex.specs.Subjects.{subject_in}
use Rattle.js_regex.specs.Turns.{TakesLeast, repeat_from}
use Rattle.js_regex.proofs.Lists.{err_is}
use Rattle.js_regex.proofs.SingleTurns.{later_counts, later_trans, must_miss, must_turn, smaller_plain, taken_less, turns_stop}
use Rattle.js_regex.proofs.matcher.Matcher.must.Goals as goal

pub returns-in_err-spend : goal.returns-in_err-spend
returns-in_err-spend c =
    let s = subject_in c.args.self in
    let some : is_none_left c.loop-now.now.bounds.most ≡ false = sym c.is_spent.ensures ∙ c.if-not-is_spent.true in
    let missed : behind_single s c.args.body.now c.loop-now.now.place ≡ None = sym c.single.ensures ∙ c.in_default.is in
    subst (λ r. TakesLeast s c.args.body.now c.args.begun c.args.fuel.now r c.spend.new.fuel)
    (sym (err_is c.from_residual.result c.in_err-spend.field-0.0 c.from_residual.ensures.1))
    (turns_stop s c.args.body.now c.args.begun c.args.fuel.now c.loop-now.fuel 1
    (λ k gs back. repeat_from s c.args.body.now k gs back c.loop-now.now) (λ k gs back. back)
    c.spend.new.fuel c.in_err-spend.field-0.0 (c.loop-now.invariant.0)
    (λ k gs back. must_miss s c.args.body.now c.loop-now.now (c.loop-now.invariant.1) some k gs back c.loop-now-test.true missed)
    c.in_err-spend.ensures)

pub returns-in_default : goal.returns-in_default
returns-in_default c =
    let s = subject_in c.args.self in
    let some : is_none_left c.loop-now.now.bounds.most ≡ false = sym c.is_spent.ensures ∙ c.if-not-is_spent.true in
    let missed : behind_single s c.args.body.now c.loop-now.now.place ≡ None = sym c.single.ensures ∙ c.in_default.is in (
      (λ k gs back. later_trans _ _ _ _ _ _ (c.loop-now.invariant.0 k gs back)
          (later_counts 1 _ _ _ _ (must_miss s c.args.body.now c.loop-now.now (c.loop-now.invariant.1) some k gs back c.loop-now-test.true missed) c.in_ok-spend.ensures)),
      taken_less s c.args.body.now c.args.begun c.args.fuel.now c.loop-now.now c.loop-now.fuel c.spend.new.fuel (c.loop-now.invariant.0) c.in_ok-spend.ensures,
    )

pub returns-in_err-spend-2 : goal.returns-in_err-spend-2
returns-in_err-spend-2 c =
    let s = subject_in c.args.self in
    let some : is_none_left c.loop-now.now.bounds.most ≡ false = sym c.is_spent.ensures ∙ c.if-not-is_spent.true in
    let next : Turning = record { place = c.in-Some.place; bounds = smaller c.loop-now.now.bounds } in
    let passed : behind_single s c.args.body.now c.loop-now.now.place ≡ Some c.in-Some.place = sym c.single.ensures ∙ c.in-Some.is in
    subst (λ r. TakesLeast s c.args.body.now c.args.begun c.args.fuel.now r c.spend-in-loop-now.new.fuel)
    (sym (err_is c.from_residual-in_err-spend-2.result c.in_err-spend-2.field-0.0 c.from_residual-in_err-spend-2.ensures.1))
    (turns_stop s c.args.body.now c.args.begun c.args.fuel.now c.loop-now.fuel 3
    (λ k gs back. repeat_from s c.args.body.now k gs back c.loop-now.now) (λ k gs back. repeat_from s c.args.body.now k gs back next)
    c.spend-in-loop-now.new.fuel c.in_err-spend-2.field-0.0 (c.loop-now.invariant.0)
    (λ k gs back. must_turn s c.args.body.now c.loop-now.now (c.loop-now.invariant.1) some k gs back next c.loop-now-test.true passed refl)
    c.in_err-spend-2.ensures)

pub loop-now-preserved : goal.loop-now-preserved
loop-now-preserved c =
    let s = subject_in c.args.self in
    let some : is_none_left c.loop-now.now.bounds.most ≡ false = sym c.is_spent.ensures ∙ c.if-not-is_spent.true in
    let next : Turning = record { place = c.in-Some.place; bounds = c.smaller.result } in
    let passed : behind_single s c.args.body.now c.loop-now.now.place ≡ Some c.in-Some.place = sym c.single.ensures ∙ c.in-Some.is in (
      (λ k gs back. later_trans _ _ _ _ _ _ (c.loop-now.invariant.0 k gs back)
          (later_counts 3 _ _ _ _ (must_turn s c.args.body.now c.loop-now.now (c.loop-now.invariant.1) some k gs back next c.loop-now-test.true passed c.smaller.ensures) c.in_ok-spend-2.ensures)),
      rw c.smaller.ensures (smaller_plain c.args.body.now c.loop-now.now.bounds (c.loop-now.invariant.1)),
    )
