use Rattle.std.proofs.Common.{◌≡◌, Bor, List, Some, ap, sym, ◌∙◌}
use Rattle.js_tree.specs.declared.expression.Function.{Function}
use Rattle.js_host.specs.Answers.{partly}
use Rattle.js_host.specs.Seen.{Seen, fresh}
use Rattle.js_machine.specs.Moves.{run_state}
use Rattle.js_interp.specs.Loads.{beginning_where}
use Rattle.js_interp.proofs.Loads.{load_begins}
use Rattle.js_interp.proofs.image.loaded.Goals as goal

pub load_ends-requires : goal.load_ends-requires
load_ends-requires c = c.in_ok-machine.ensures.none_open

pub returns-then-not-branch-clause-beginning : goal.returns-then-not-branch-clause-beginning
returns-then-not-branch-clause-beginning c =
    let begun = c.in_ok-machine.ensures in
    load_begins c.args.program.now c.args.settings c.args.fuel c.as_slice-2.result.now c.in_ok-machine.machine c.new-host.result
    c.as_slice-2.ensures (ap (λ (b : Bor (List Function)). b.now) begun.functions_are ∙ c.as_slice.ensures)
    (ap run_state begun.state_is ∙ c.in_ok-state.ensures) (c.new-host.ensures ∙ ap (λ t. fresh (partly t)) c.new-nothing.ensures)
    ∙ c.in_ok-load_ends.ensures.ends
    ∙ ap (λ ends. beginning_where ends (run_state c.load_ends.new.machine.state) c.load_ends.new.host.alerts) c.if-not-branch.true

pub returns-clause-beginning : goal.returns-clause-beginning
returns-clause-beginning c =
    let begun = c.in_ok-machine.ensures in
    let told : c.load_ends.new.alerts ≡ c.load_ends.new.host.alerts =
    c.in_ok-load_ends.ensures.keeps (c.new-alerts.ensures ∙ sym (ap (λ (s : Seen). s.alerts) c.new-host.ensures)) c.if-not-branch.false in
    load_begins c.args.program.now c.args.settings c.args.fuel c.as_slice-2.result.now c.in_ok-machine.machine c.new-host.result
    c.as_slice-2.ensures (ap (λ (b : Bor (List Function)). b.now) begun.functions_are ∙ c.as_slice.ensures)
    (ap run_state begun.state_is ∙ c.in_ok-state.ensures) (c.new-host.ensures ∙ ap (λ t. fresh (partly t)) c.new-nothing.ensures)
    ∙ c.in_ok-load_ends.ensures.ends
    ∙ ap (λ ends. beginning_where ends (run_state c.load_ends.new.machine.state) c.load_ends.new.host.alerts) c.if-not-branch.false
    ∙ ap (λ alerts. Some (record { state = run_state c.load_ends.new.machine.state; alerts = alerts })) (sym told)
    ∙ ap (λ state. Some (record { state = state; alerts = c.load_ends.new.alerts })) (sym c.in_ok-state-2.ensures)
