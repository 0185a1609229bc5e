use Rattle.std.proofs.Common.{◌≡◌, List, ap, fold, sym, ◌∙◌}
use Rattle.js_tree.specs.declared.expression.Function.{Function}
use Rattle.js_tree.specs.Tree.{statements_of}
use Rattle.js_scope.specs.Functions as scoped
use Rattle.js_host.specs.Seen.{Seen, alerted, fresh, with_alert}
use Rattle.js_law_evaluation.specs.Laws.{at_moment, heard}
use Rattle.run_trees.specs.RunTree.{walk}
use Rattle.js_evaluation.specs.State.{RunState}
use Rattle.js_machine.specs.Moves.{beside_of, run_state}
use Rattle.js_interp.specs.Answers.{entry_of, run_of}
use Rattle.js_interp.specs.Runs.{called}
use Rattle.js_interp.proofs.Ends.{ends_whole, final, keeps_whole}
use Rattle.js_interp.proofs.Loads.{goes_on, told_again, told_alerts}
use Rattle.js_interp.proofs.loaded_run.go_on.Goals as goal

pub returns-clause-ends : goal.returns-clause-ends
returns-clause-ends g c = λ known same.
    let program = c.args.program.now in
    let image = c.args.image.now in
    let entry = entry_of c.args.entry.now in
    let functions = c.as_slice-functions.result.now in
    let m = c.in_ok-machine.machine in
    let before = g.H.Host.seen c.args.host.now in
    let from = g.H.Host.seen c.tell_again.new.host in
    let tree = run_of (statements_of program.body) (scoped.functions_of program.functions) c.args.entry.now in
    let state : run_state m.state ≡ at_moment entry.now image.beginning.state = ap run_state c.in_ok-machine.ensures.state_is ∙ c.in_ok-state_at.ensures in
    let heard_again : from ≡ heard known image.beginning.alerts =
    c.in_ok-tell_again.ensures.told ∙ ap (λ (s : Seen). fold alerted s c.alerts.result.now) same
    ∙ ap (λ texts. fold alerted (fresh known) texts) c.alerts.ensures ∙ told_again program image c.requires.image entry c.requires.settings c.requires.fuel known in
    ends_whole tree before (called (scoped.functions_of functions) entry) m from
    (ap (walk tree) same ∙ goes_on program image c.requires.image entry c.requires.settings c.requires.fuel known
    ∙ ap (λ (s : RunState). walk (called (scoped.functions_of program.functions) entry final s) (heard known image.beginning.alerts)) (sym state)
    ∙ ap (λ (s : Seen). walk (called (scoped.functions_of program.functions) entry final (run_state m.state)) s) (sym heard_again)
    ∙ ap (λ (fs : List Function). walk (called (scoped.functions_of fs) entry final (run_state m.state)) from) (sym c.as_slice-functions.ensures))
    c.call_entry-end.new.machine (g.H.Host.seen c.call_entry-end.new.host) c.call_entry-end.result _ c.call_entry-end.ensures.runs c.ended.ensures

pub returns-clause-keeps : goal.returns-clause-keeps
returns-clause-keeps g c = λ same.
    let before = g.H.Host.seen c.args.host.now in
    let texts = c.alerts.result.now in
    let kept : c.tell_again.new.alerts ≡ (g.H.Host.seen c.tell_again.new.host).alerts =
    c.in_ok-tell_again.ensures.kept ∙ ap (λ alerts. fold with_alert alerts texts) same
    ∙ sym (ap (λ (s : Seen). s.alerts) c.in_ok-tell_again.ensures.told ∙ told_alerts texts before) in
    keeps_whole _ c.call_entry-end.result (beside_of c.call_entry-end.new.machine.state) _ _ _ c.ended.ensures (c.call_entry-end.ensures.keeps kept)
