use Rattle.std.proofs.Common.{refl, ap, ◌∙◌}
use Rattle.js_tree.specs.View.{clauses_of}
use Rattle.js_statements.proofs.Ends.{in_a_switch}
use Rattle.js_statements.proofs.Parts.{moves_by}
use Rattle.js_statements.proofs.Rows.{none_matches, skip_default, first_tested}
use Rattle.js_statements.proofs.switch.from_match.Goals as goal

pub loop-left-init : goal.loop-left-init
loop-left-init c = record { same = refl; unmoved = refl; held = refl }

pub returns-in-Some : goal.returns-in-Some
returns-in-Some c = moves_by (ap (in_a_switch c.args.machine.now) (c.loop-left.invariant.same ∙ first_tested c.args.machine.now c.args.value (clauses_of c.args.all.now) c.loop-left.left.now _ c.clause-item.is c.in-len1-up.len_at_least _ _ c.in-Some.is c.as_slice-body.ensures)) (rw (c.loop-left.invariant.unmoved, c.loop-left.invariant.held) at c.evaluate.ensures)

pub loop-left-preserved : goal.loop-left-preserved
loop-left-preserved c = record { same = c.loop-left.invariant.same ∙ skip_default c.args.machine.now c.args.value (clauses_of c.args.all.now) c.loop-left.left.now _ c.clause-item.is c.in-len1-up.len_at_least c.in_default-test.is; unmoved = c.loop-left.invariant.unmoved; held = c.loop-left.invariant.held }

pub returns : goal.returns
returns c = moves_by (ap (in_a_switch c.args.machine.now) (c.loop-left.invariant.same ∙ none_matches c.args.machine.now c.args.value (clauses_of c.args.all.now) c.loop-left.left.now c.in_default.len_below)) (rw c.loop-left.invariant.unmoved at c.from_default.ensures)
