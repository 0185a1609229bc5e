-- What ends in a `switch` or in a `try`.
use Rattle.std.proofs.Common.{◌≡◌, Ok, Err, Result, ap, sym, arith}
use Rattle.js_tree.specs.declared.bound.BoundName.{BoundName}
use Rattle.js_tree.specs.declared.place.Place.{Place}
use Rattle.js_tree.specs.Tree.{CatchTree, no_catch, a_catch, OptionalStatement, StatementTree}
use Rattle.heap_values.specs.declared.ids.ScopeId.{ScopeId}
use Rattle.heap_values.specs.declared.value.Value.{Value}
use Rattle.heap_values.specs.Views.{HeapView}
use Rattle.object_heap.specs.Heap.{slot_written_of}
use Rattle.std.specs.Result.{IsErrAnd}
use Rattle.run_trees.specs.declared.abrupt.Abrupt.TheVariants as ending
use Rattle.run_trees.specs.Runs.{After, onward, ◌>>◌}
use Rattle.js_evaluation.specs.declared.thrown.Thrown.{Thrown}
use Rattle.js_evaluation.specs.State.{RunState, RunEnd, Stop, Does, make_scope, write_slot, AfterValue}
use Rattle.js_evaluation.specs.Parts.{execute}
use Rattle.js_evaluation.specs.Statements as rule
use Rattle.js_evaluation.specs.Scoping.{by_slots}
use Rattle.js_frames.specs.RestOf.{in_switch, rest_of}
use Rattle.heap_steps.specs.declared.halt.Halt.{Halt}
use Rattle.heap_steps.specs.Works.{Works}
use Rattle.js_machine.specs.declared.machine.Machine.{Machine}
use Rattle.js_machine.specs.declared.now.Now.{Now}
use Rattle.js_machine.specs.declared.now.Now.TheVariants as now
use Rattle.js_machine.specs.Moves.{Moves, at, functions_of, inner, run_state}
use Rattle.js_machine.proofs.Steps.{with_heap}
use Rattle.js_statements.specs.Attempts as spec
use Rattle.js_statements.specs.Switches.{switch_end}
use Rattle.js_statements.proofs.Parts.{works_within}
use Rattle.js_statements.proofs.Scopes.{slot_writes, scope_refused}

-- a part within a `switch`
abbrev pub in_a_switch : Machine → Does Value → Does Value
in_a_switch m part = λ after. part (at m in_switch after)

-- a `switch` is left by an abrupt end
pub switch_stops : (m : Machine) (stop : Stop) (r : Result Value Stop) → r ≡ switch_end stop
    → Moves (λ after. at m in_switch after (Err stop)) m (Ok (now.Back r)) m
switch_stops m (ending.Thrown t) r e = record {
  goes = λ last. ap (λ (q : Result Value Stop). (rest_of (functions_of m) last m.frames).given q (run_state m.state)) (sym e);
  light = omega arith;
}
switch_stops m (ending.Returned v) r e = record {
  goes = λ last. ap (λ (q : Result Value Stop). (rest_of (functions_of m) last m.frames).given q (run_state m.state)) (sym e);
  light = omega arith;
}
switch_stops m (ending.Broken t) r e = record {
  goes = λ last. ap (λ (q : Result Value Stop). (rest_of (functions_of m) last m.frames).given q (run_state m.state)) (sym e);
  light = omega arith;
}
switch_stops m (ending.Continued t) r e = record {
  goes = λ last. ap (λ (q : Result Value Stop). (rest_of (functions_of m) last m.frames).given q (run_state m.state)) (sym e);
  light = omega arith;
}

-- a block with a value needs no handler
pub block_gives : (m : Machine) (place : Place) (handler : CatchTree) (last : OptionalStatement) (v : Value) {r : Result Now Halt} {m' : Machine}
    → Moves (at m spec.ended last (Ok v)) m r m'
    → Moves (λ after. at m (rule.after_block by_slots) place handler (at m (rule.after_last by_slots) last after) (Ok v)) m r m'
block_gives m place no_catch last v k = k
block_gives m place (a_catch x block) last v k = k

-- ---- a handler has a scope of its own

module _ (m : Machine) (place : Place) (x : BoundName) (block : StatementTree) (thrown : Thrown) (last : OptionalStatement) where
  -- the block of the handler, and then the last block
  abbrev block_in : ScopeId → Does Value
  block_in scope = execute (inner m) (record { scope = scope; this = m.context.this }) block

  -- what comes behind the scope
  abbrev after_scope : AfterValue → After RunState Stop RunEnd ScopeId
  after_scope after = onward (λ scope. write_slot scope 0 thrown.value >> block_in scope) (at m (rule.after_last by_slots) last after)

  pub handler_stops : (h : HeapView) (r : Result Now Halt) (e : Halt) → IsErrAnd r (λ x. x ≡ e) → Works (make_scope 1 m.context.scope place) m.state.heap (Err e) h
      → Moves (at m spec.handled place x block thrown last) m r (with_heap m h)
  handler_stops h r e i w = scope_refused 1 m.context.scope place after_scope m h r e i w

  pub handler_begins : (scope : ScopeId) (h h' : HeapView) {r : Result Now Halt} {m' : Machine}
      → Works (make_scope 1 m.context.scope place) m.state.heap (Ok scope) h → h' ≡ slot_written_of h scope 0 thrown.value
      → Moves (λ after. block_in scope (at m (rule.after_last by_slots) last after)) (with_heap m h') r m'
      → Moves (at m spec.handled place x block thrown last) m r m'
  handler_begins scope h h' w e k =
      works_within (make_scope 1 m.context.scope place) after_scope m h scope w
      (works_within (write_slot scope 0 thrown.value) (λ after. onward (λ _. block_in scope) (at m (rule.after_last by_slots) last after)) (with_heap m h) h' tt
      (slot_writes scope 0 thrown.value h h' e) k)
