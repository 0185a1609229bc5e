use Rattle.std.proofs.Common.{Bor, List, ap, ◌∙◌}
use Rattle.js_tree.specs.declared.expression.Function.{Function}
use Rattle.js_tree.specs.Tree.{statements_of}
use Rattle.js_evaluation.specs.Scoping.{by_slots}
use Rattle.js_evaluation.specs.Evaluation.{script_run}
use Rattle.js_machine.specs.Moves.{beside_of, functions_of, run_state}
use Rattle.js_interp.specs.Answers.{entry_of}
use Rattle.js_interp.proofs.Ends.{ends_whole, keeps_whole, run_begins}
use Rattle.js_interp.proofs.one_run.run_over.Goals as goal

pub returns-clause-ends : goal.returns-clause-ends
returns-clause-ends g c =
    let m = c.in_ok-machine.machine in
    let begun = c.in_ok-machine.ensures in
    let entry = entry_of c.args.entry.now in
    let before = g.H.Host.seen c.args.host.now in
    ends_whole _ before (script_run by_slots (functions_of m) entry (statements_of c.as_slice-2.result.now)) m before
    (run_begins c.args.program.now.body c.as_slice-2.result.now c.args.program.now.functions entry m before c.as_slice-2.ensures
    (ap (λ (b : Bor (List Function)). b.now) begun.functions_are ∙ c.as_slice.ensures)
    (ap run_state begun.state_is ∙ c.in_ok-state.ensures))
    c.run_whole-end.new.machine (g.H.Host.seen c.run_whole-end.new.host) c.run_whole-end.result _ c.run_whole-end.ensures.runs c.ended.ensures

pub returns-clause-keeps : goal.returns-clause-keeps
returns-clause-keeps g c = λ same.
    keeps_whole _ c.run_whole-end.result (beside_of c.run_whole-end.new.machine.state) _ _ _ c.ended.ensures (c.run_whole-end.ensures.keeps same)
