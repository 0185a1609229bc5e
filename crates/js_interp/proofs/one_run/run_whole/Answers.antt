use Rattle.js_evaluation.specs.Scoping.{by_slots}
use Rattle.js_evaluation.specs.Parts.{load_part}
use Rattle.js_evaluation.specs.Evaluation.{evaluation, outer_scope}
use Rattle.js_tree.specs.Tree.{statements_of}
use Rattle.js_machine.specs.Moves.{functions_of}
use Rattle.js_machine.specs.declared.now.Part.TheVariants as part
use Rattle.js_interp.specs.Answers.{entry_of}
use Rattle.js_interp.specs.Runs.{called}
use Rattle.js_interp.proofs.Runs.{loop_runs, runs_then, runs_stopped, runs_cut}
use Rattle.js_interp.proofs.one_run.run_whole.Goals as goal
use Rattle.js_evaluation.specs.declared.limits.TheConstants.{MOST_OPEN}

pub returns-in_err-run_on-clause-runs : goal.returns-in_err-run_on-clause-runs
returns-in_err-run_on-clause-runs g c =
    let m = c.args.machine.now in
    runs_cut ((evaluation by_slots (functions_of m) MOST_OPEN).value (load_part outer_scope (statements_of c.args.body.now)))
    (λ v. called (functions_of m) (entry_of c.args.entry.now)) m _ _ _ _ _ c.from_residual.ensures.1
    (loop_runs m (part.Load c.args.body) _ _ _ _ c.requires c.in_err-run_on.ensures.closes)

pub returns-in-Ok-clause-runs : goal.returns-in-Ok-clause-runs
returns-in-Ok-clause-runs g c =
    let m = c.args.machine.now in
    runs_then ((evaluation by_slots (functions_of m) MOST_OPEN).value (load_part outer_scope (statements_of c.args.body.now)))
    (λ v. called (functions_of m) (entry_of c.args.entry.now)) m _ c.run_on.new.machine _ c.in-Ok.field-0 _ _ _
    (loop_runs m (part.Load c.args.body) _ _ c.run_on.new.machine _ c.requires (rw c.in-Ok.is at c.in_ok-run_on.ensures.closes)) c.call_entry.ensures.runs

pub returns-clause-runs : goal.returns-clause-runs
returns-clause-runs g c =
    let m = c.args.machine.now in
    runs_stopped ((evaluation by_slots (functions_of m) MOST_OPEN).value (load_part outer_scope (statements_of c.args.body.now)))
    (λ v. called (functions_of m) (entry_of c.args.entry.now)) m _ c.in-Err.stop c.run_on.new.machine _
    (loop_runs m (part.Load c.args.body) _ _ c.run_on.new.machine _ c.requires (rw c.in-Err.is at c.in_ok-run_on.ensures.closes))
