use Rattle.std.proofs.Common.{Some, sym, ◌∙◌}
use Rattle.js_machine.specs.declared.machine.Machine.{Machine}
use Rattle.js_interp.specs.Answers.{entry_of}
use Rattle.js_interp.proofs.Calls.{found_runs, none_runs, tested_runs, url_stops, host_stops, call_runs}
use Rattle.js_interp.proofs.one_run.call_entry.Goals as goal

pub returns-in_err-test_text-clause-runs : goal.returns-in_err-test_text-clause-runs
returns-in_err-test_text-clause-runs g c =
    let m : Machine = record { alloc = c.args.machine.now.alloc; functions = c.args.functions; context = c.args.machine.now.context; frames = c.args.machine.now.frames; state = c.args.machine.now.state } in
    found_runs _ (entry_of c.args.entry.now) m _ _ _ _ (Some c.in-Some.function) (sym c.in-Some.is ∙ c.in_ok-function.ensures)
    (url_stops _ (entry_of c.args.entry.now) c.in-Some.function m _ _ _ c.from_residual-in_err-test_text.ensures.1 (c.in_err-test_text.ensures.tests _))

pub returns-in_err-test_text-2-clause-runs : goal.returns-in_err-test_text-2-clause-runs
returns-in_err-test_text-2-clause-runs g c =
    let m : Machine = record { alloc = c.args.machine.now.alloc; functions = c.args.functions; context = c.args.machine.now.context; frames = c.args.machine.now.frames; state = c.args.machine.now.state } in
    found_runs _ (entry_of c.args.entry.now) m _ _ _ _ (Some c.in-Some.function) (sym c.in-Some.is ∙ c.in_ok-function.ensures)
    (host_stops _ (entry_of c.args.entry.now) c.in-Some.function m _ _ _ c.from_residual-in_err-test_text-2.ensures.1 (c.in_ok-test_text.ensures.tests _) (c.in_err-test_text-2.ensures.tests _))

pub returns-clause-runs : goal.returns-clause-runs
returns-clause-runs g c =
    let m : Machine = record { alloc = c.args.machine.now.alloc; functions = c.args.functions; context = c.args.machine.now.context; frames = c.args.machine.now.frames; state = c.args.machine.now.state } in
    found_runs _ (entry_of c.args.entry.now) m _ _ _ _ (Some c.in-Some.function) (sym c.in-Some.is ∙ c.in_ok-function.ensures)
    (tested_runs _ (entry_of c.args.entry.now) c.in-Some.function m _ _ _ _ (c.in_ok-test_text.ensures.tests _) (c.in_ok-test_text-2.ensures.tests _)
    (call_runs (entry_of c.args.entry.now) c.in-Some.function c.built_in.result c.in_ok-arguments.arguments m _ _ _ _ c.requires c.built_in.ensures c.in_ok-arguments.ensures c.run_on.ensures.closes))

pub returns-in_default-clause-runs : goal.returns-in_default-clause-runs
returns-in_default-clause-runs g c =
    let m : Machine = record { alloc = c.args.machine.now.alloc; functions = c.args.functions; context = c.args.machine.now.context; frames = c.args.machine.now.frames; state = c.args.machine.now.state } in
    none_runs _ (entry_of c.args.entry.now) m _ c.in_ok-function.field-0 c.in_ok-function.ensures c.in_default.not-Some
