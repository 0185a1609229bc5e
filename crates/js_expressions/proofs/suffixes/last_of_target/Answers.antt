use Rattle.std.proofs.Common.{refl, ap}
use Rattle.js_evaluation.specs.Parts.{to_property}
use Rattle.js_machine.proofs.Steps.{forgets, works_either, either_stops}
use Rattle.js_expressions.proofs.References.{gives_reference}
use Rattle.js_expressions.proofs.suffixes.last_of_target.Goals as goal

pub returns-in_err-test_base-in-Member : goal.returns-in_err-test_base-in-Member
returns-in_err-test_base-in-Member c = rw c.in-Member.is (either_stops _ _ _ _ _ _ c.from_residual.ensures.1 c.in_err-test_base-in-Member.ensures)

pub returns-in_err-name-in-Member : goal.returns-in_err-name-in-Member
returns-in_err-name-in-Member c = forgets _ _ c.from_residual-in_err-name-in-Member.ensures.1 refl

pub returns-in-Member : goal.returns-in-Member
returns-in-Member c = rw c.in-Member.is (works_either _ _ _ _ _ c.in_ok-test_base-in-Member.ensures
    (gives_reference _ _ _ (ap (to_property c.args.suffix.now.place c.args.base) c.in_ok-name-in-Member.ensures)))

pub returns-in-Index : goal.returns-in-Index
returns-in-Index c = rw c.in-Index.is c.evaluate.ensures

pub returns : goal.returns
returns c = rw c.in-Call.is (gives_reference _ _ _ c.none.ensures)
