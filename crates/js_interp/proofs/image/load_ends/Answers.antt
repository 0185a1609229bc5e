use Rattle.std.proofs.Common.{◌≡◌, ap, sym, true, ◌∙◌}
use Rattle.js_tree.specs.Tree.{statements_of}
use Rattle.js_evaluation.specs.Scoping.{by_slots}
use Rattle.js_evaluation.specs.Parts.{load_part}
use Rattle.js_evaluation.specs.Evaluation.{evaluation, outer_scope}
use Rattle.js_evaluation.specs.declared.limits.TheConstants.{MOST_OPEN}
use Rattle.js_machine.specs.Moves.{functions_of, run_state}
use Rattle.js_machine.specs.declared.now.Part.TheVariants as part
use Rattle.js_interp.specs.Loads.{beginning_where}
use Rattle.js_interp.proofs.Runs.{loop_runs}
use Rattle.js_interp.proofs.Loads.{Comes_to, cut_tells_none, ends_cut_load, ends_whole_load, said}
use Rattle.js_interp.proofs.image.load_ends.Goals as goal

pub returns-in-Ok-clause-ends : goal.returns-in-Ok-clause-ends
returns-in-Ok-clause-ends g c =
    let m = c.args.machine.now in
    let load = (evaluation by_slots (functions_of m) MOST_OPEN).value (load_part outer_scope (statements_of c.args.body.now)) in
    ends_whole_load load m (g.H.Host.seen c.args.host.now) c.run_on.new.machine (g.H.Host.seen c.run_on.new.host) c.in-Ok.end
    (loop_runs m (part.Load c.args.body) _ _ c.run_on.new.machine _ c.requires (rw c.in-Ok.is at c.run_on.ensures.closes))
    ∙ ap (λ ends. beginning_where ends (run_state c.run_on.new.machine.state) (g.H.Host.seen c.run_on.new.host).alerts) (sym c.is_ok.ensures.value)

pub returns-in-Ok-clause-keeps : goal.returns-in-Ok-clause-keeps
returns-in-Ok-clause-keeps g c = λ same whole. rw c.in-Ok.is at (c.run_on.ensures.keeps same)

pub returns-in-Err-clause-ends : goal.returns-in-Err-clause-ends
returns-in-Err-clause-ends g c =
    let m = c.args.machine.now in
    let load = (evaluation by_slots (functions_of m) MOST_OPEN).value (load_part outer_scope (statements_of c.args.body.now)) in
    let ends = ends_cut_load load m (g.H.Host.seen c.args.host.now) c.run_on.new.machine (g.H.Host.seen c.run_on.new.host) c.in-Err.cut
    (loop_runs m (part.Load c.args.body) _ _ c.run_on.new.machine _ c.requires (rw c.in-Err.is at c.run_on.ensures.closes)) in
    said _ (Comes_to load m (g.H.Host.seen c.args.host.now) c.run_on.new.machine (g.H.Host.seen c.run_on.new.host)) _ c.cut_off.ensures ends

pub returns-in-Err-clause-keeps : goal.returns-in-Err-clause-keeps
returns-in-Err-clause-keeps g c = λ same.
    said _ (λ ends. ends ≡ true → c.run_on.new.alerts ≡ (g.H.Host.seen c.run_on.new.host).alerts) _ c.cut_off.ensures (cut_tells_none c.in-Err.cut _)
