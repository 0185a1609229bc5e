use Rattle.std.proofs.Common.{◌≡◌, false, None, Some, arith, refl, sym, ◌∙◌}
use Rattle.js_pattern.specs.Repeats.{is_none_left}
use Rattle.js_regex.specs.Singles.{behind_single}
use Rattle.js_regex.specs.Subjects.{subject_in}
use Rattle.js_regex.proofs.Lists.{err_is}
use Rattle.js_regex.proofs.SingleTurns.{onward_end, onward_miss, onward_turn, single_step, turn_unpaid}
use Rattle.js_regex.proofs.matcher.Matcher.may.Goals as goal

pub returns-in_default : goal.returns-in_default
returns-in_default c =
    let s = subject_in c.args.self in
    let some : is_none_left c.loop-self.now.bounds.most ≡ false = sym c.is_spent.ensures ∙ c.loop-self-test.true in
    let missed : behind_single s c.args.body.now c.loop-self.now.place ≡ None = sym c.single.ensures ∙ c.in_default.is in
    onward_miss s c.args.body.now c.args.begun c.args.fuel.now c.loop-self.now c.loop-self.fuel c.loop-self.invariant some missed c.spend.new.fuel c.in_ok-spend.ensures

pub returns-in_err-spend-2 : goal.returns-in_err-spend-2
returns-in_err-spend-2 c =
    let s = subject_in c.args.self in
    let some : is_none_left c.loop-self.now.bounds.most ≡ false = sym c.is_spent.ensures ∙ c.loop-self-test.true in
    let passed : behind_single s c.args.body.now c.loop-self.now.place ≡ Some c.in-Some.place = sym c.single.ensures ∙ c.in-Some.is in
    rw (err_is c.from_residual-in_err-spend-2.result c.in_err-spend-2.field-0.0 c.from_residual-in_err-spend-2.ensures.1)
    (turn_unpaid s c.args.body.now c.args.begun c.args.fuel.now c.loop-self.now c.loop-self.fuel c.loop-self.invariant some _ passed refl
    c.spend-in-loop-self.new.fuel c.in_err-spend-2.field-0.0 c.in_err-spend-2.ensures)

pub loop-self-smaller : goal.loop-self-smaller
loop-self-smaller c =
    let passed : behind_single (subject_in c.args.self) c.args.body.now c.loop-self.now.place ≡ Some c.in-Some.place = sym c.single.ensures ∙ c.in-Some.is in
    let next = single_step (subject_in c.args.self) c.args.body.now c.loop-self.now.place c.in-Some.place passed in
    let here = next.0 in let less = next.1 in
    omega arith

pub loop-self-preserved : goal.loop-self-preserved
loop-self-preserved c =
    let s = subject_in c.args.self in
    let some : is_none_left c.loop-self.now.bounds.most ≡ false = sym c.is_spent.ensures ∙ c.loop-self-test.true in
    let passed : behind_single s c.args.body.now c.loop-self.now.place ≡ Some c.in-Some.place = sym c.single.ensures ∙ c.in-Some.is in
    onward_turn s c.args.body.now c.args.begun c.args.fuel.now c.loop-self.now c.loop-self.fuel c.loop-self.invariant some
    (record { place = c.in-Some.place; bounds = c.smaller.result }) passed c.smaller.ensures c.spend-in-loop-self.new.fuel c.in_ok-spend-2.ensures

pub returns : goal.returns
returns c =
    onward_end (subject_in c.args.self) c.args.body.now c.args.begun c.args.fuel.now c.loop-self.now c.loop-self.fuel c.loop-self.invariant
    (sym c.is_spent.ensures ∙ c.loop-self-test.false)
