use Rattle.std.proofs.Common.{◌≡◌, ◌≤◌, drop}
use Rattle.run_trees.specs.Runs.{After}
use Rattle.js_evaluation.specs.State.{RunState, RunEnd, Stop}
use Rattle.js_evaluation.specs.Statements as rule
use Rattle.js_machine.specs.Moves.{run_state}
use Rattle.js_statements.proofs.listed.charge_names.Given as goal

abbrev pub invariant-loop-name : goal.invariant-loop-name
invariant-loop-name l = record {
  same : (after : After RunState Stop RunEnd (Unit {0}))
      → rule.charged_names l.place l.names after (run_state l.fn.state)
      ≡ rule.charged_names l.place (drop l.name-index l.names) after (run_state l.state);
  less : l.state.fuel ≤ l.fn.state.fuel;
}
