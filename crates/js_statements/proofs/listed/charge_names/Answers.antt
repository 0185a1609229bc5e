use Rattle.std.proofs.Common.{ℕ, List, [], ◌+◌, drop, arith, refl, ap, ◌∙◌}
use Rattle.std.proofs.lemmas.List.{drop_all}
use Rattle.js_evaluation.specs.Statements as rule
use Rattle.js_machine.specs.Moves.{run_state}
use Rattle.js_statements.proofs.Charges.{next_of, acts_from, spent, name_charged, name_refused}
use Rattle.js_statements.proofs.listed.charge_names.Goals as goal

pub loop-name-init : goal.loop-name-init
loop-name-init c = record { same = λ after. refl; less = omega arith }

pub returns-in_err-charge : goal.returns-in_err-charge
returns-in_err-charge c = acts_from _
    (λ after. c.loop-name.invariant.same after ∙ ap (λ (ns : List (List ℕ)). rule.charged_names c.args.place ns after (run_state c.loop-name.state)) (next_of c.args.names.now c.loop-name.name-index c.name-item.result c.name-item.is c.loop-name-test.true))
    c.loop-name.invariant.less (spent c.args.place _ c.loop-name.state _ _ _ c.from_residual.ensures.1 c.in_err-charge.ensures.spent)

pub returns-in_err-spend : goal.returns-in_err-spend
returns-in_err-spend c = acts_from _
    (λ after. c.loop-name.invariant.same after ∙ ap (λ (ns : List (List ℕ)). rule.charged_names c.args.place ns after (run_state c.loop-name.state)) (next_of c.args.names.now c.loop-name.name-index c.name-item.result c.name-item.is c.loop-name-test.true))
    c.loop-name.invariant.less (name_refused c.args.place c.name-item.result _ c.loop-name.state c.spend.new.heap c.charge.new.fuel _ _ c.from_residual-in_err-spend.ensures.1 c.in_ok-charge.ensures.ok c.in_err-spend.ensures)

pub loop-name-preserved : goal.loop-name-preserved
loop-name-preserved c = record {
  same = λ after.
      c.loop-name.invariant.same after ∙ ap (λ (ns : List (List ℕ)). rule.charged_names c.args.place ns after (run_state c.loop-name.state)) (next_of c.args.names.now c.loop-name.name-index c.name-item.result c.name-item.is c.loop-name-test.true)
      ∙ name_charged c.args.place c.name-item.result (rule.charged_names c.args.place (drop (c.loop-name.name-index + 1) c.args.names.now)) c.loop-name.state c.spend.new.heap c.charge.new.fuel c.in_ok-charge.ensures.ok c.in_ok-spend.ensures after;
  less = omega (arith, c.loop-name.invariant.less, c.in_ok-charge.ensures.ok);
}

pub returns : goal.returns
returns c = acts_from {rest = rule.charged_names c.args.place []} {s = c.loop-name.state} _
    (λ after. c.loop-name.invariant.same after ∙ ap (λ (ns : List (List ℕ)). rule.charged_names c.args.place ns after (run_state c.loop-name.state)) (drop_all c.loop-name.name-index c.args.names.now (omega arith)))
    c.loop-name.invariant.less (record { is = λ after. refl; less = omega arith })
