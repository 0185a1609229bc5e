-- How a run over a host ends.
use Rattle.std.proofs.Common.{◌≡◌, ℕ, List, Option, Some, Result, Ok, Err, sym, ap, subst, ◌∙◌}
use Rattle.std.specs.Prelude.{map, unwrap_or}
use Rattle.js_tree.specs.declared.expression.Function.{Function}
use Rattle.js_tree.specs.declared.statement.Statement.{Statement}
use Rattle.js_tree.specs.Tree.{statements_of}
use Rattle.js_tree.specs.View.{function_of}
use Rattle.heap_values.specs.declared.value.Value.{Value}
use Rattle.heap_values.specs.Views.{HeapView}
use Rattle.run_trees.specs.declared.abrupt.Abrupt.TheVariants as ending
use Rattle.js_host.specs.Seen.{Seen}
use Rattle.run_trees.specs.RunTree.{RunTree, Done, Walked, Ended, walk}
use Rattle.js_evaluation.specs.Scoping.{by_slots}
use Rattle.js_evaluation.specs.State.{RunEnd, RunState, Comes, Faults, Stop, Does, AfterValue, nameless}
use Rattle.js_evaluation.specs.Evaluation as def
use Rattle.js_evaluation.specs.Evaluation.{ending_of, first_state, run_tree, script_run}
use Rattle.heap_steps.specs.declared.halt.Halt.{Halt}
use Rattle.heap_steps.specs.declared.halt.Halt.TheVariants as halt
use Rattle.heap_steps.specs.Works.{Beside, state_with, plain_fault, left_out}
use Rattle.js_machine.specs.declared.machine.Machine.{Machine}
use Rattle.js_machine.specs.Moves.{beside_of, functions_of, run_state}
use Rattle.js_runs.specs.declared.running.Cut.{Cut}
use Rattle.js_runs.specs.declared.running.Cut.TheVariants as cut
use Rattle.js_runs.specs.Closes.{KeptAtEnd}
use Rattle.js_interp.specs.declared.outcome.Ending.{Ending}
use Rattle.js_interp.specs.declared.one_run.Unfinished.{Unfinished}
use Rattle.js_interp.specs.declared.one_run.Unfinished.TheVariants as unfinished
use Rattle.js_interp.specs.Endings.{EndsBy, EndsWith, end_of, ending_by, seen_ending}
use Rattle.js_interp.specs.Runs.{EndsAs, EndsOver, KeepsAlerts, Reaches, RunsBy}

-- what comes after the whole run
abbrev pub final : AfterValue
final = λ result state. Done (Comes result (nameless state))

some_same : (a b : def.Ending) → Some a ≡ Some b → a ≡ b
some_same a b e = ap (λ (o : Option def.Ending). unwrap_or o b) e

-- what a machine came to, where no name was missing
abbrev cut_of : Result (Result Value Stop) Halt → Result (Result Value Stop) Cut
cut_of (Ok end) = Ok end
cut_of (Err h) = Err (cut.Halt h)

module _ (walked : Walked RunEnd) (m : Machine) (seen : Seen) (x : def.Ending) where
  reaches_end : (r : Result (Result Value Stop) Halt) → Reaches final walked (cut_of r) m seen → ending_by (end_of r (run_state m.state)) ≡ Some x
      → (end : RunEnd) × (walked ≡ Ended end seen) × (ending_of end ≡ x)
  unfolding walk
  reaches_end (Ok end) k e = (Comes end (run_state m.state), k, some_same _ x e)
  reaches_end (Err (halt.Throw thrown)) k e = (Comes (Err (ending.Thrown thrown)) (run_state m.state), k, some_same _ x e)
  reaches_end (Err (halt.Fault code place)) k e = (Faults (plain_fault code place), k, some_same _ x e)
  reaches_end (Err (halt.LeftOut name place)) k e = (Faults (left_out name place), k, some_same _ x e)
  reaches_end (Err halt.Memory) k e = absurd (cc)

-- the alerts that are kept at an end
kept_ending : (r : Result (Result Value Stop) Halt) (s : RunState) (x : def.Ending) (alerts kept : List (List ℕ))
    → ending_by (end_of r s) ≡ Some x → KeptAtEnd (cut_of r) alerts kept → alerts ≡ kept
kept_ending (Ok end) s x alerts kept e k = k
kept_ending (Err (halt.Throw thrown)) s x alerts kept e k = k
kept_ending (Err (halt.Fault code place)) s x alerts kept e k = k
kept_ending (Err (halt.LeftOut name place)) s x alerts kept e k = k
kept_ending (Err halt.Memory) s x alerts kept e k = absurd (cc)

keeps_ending : (h : HeapView) (r : Result (Result Value Stop) Halt) (beside : Beside) (e : Ending) (alerts kept : List (List ℕ))
    → EndsBy h r (Ok e) → KeptAtEnd (cut_of r) alerts kept → alerts ≡ kept
keeps_ending h r beside e alerts kept ends k = kept_ending r (state_with h 0 beside) (seen_ending e) alerts kept (ends 0 beside) k

-- A run over a host that is, from somewhere on, what the machine does from its state.
module _ (tree : RunTree RunEnd) (before : Seen) (part : Does Value) (m : Machine) (from : Seen)
    (begins : walk tree before ≡ walk (part final (run_state m.state)) from) (m' : Machine) (after : Seen) where
  ends_over : (r : Result (Result Value Stop) Halt) (e : Ending) → RunsBy part m from (cut_of r) m' after
      → EndsBy m'.state.heap r (Ok e) → EndsAs tree before e after
  ends_over r e k ends =
      let reached = reaches_end _ m' after (seen_ending e) r (k final) (ends m'.state.fuel (beside_of m'.state)) in
      record { end = reached.0; is = begins ∙ reached.1; ends = reached.2 }

  forgets : (why : Unfinished) → why ≡ unfinished.Memory → EndsOver tree before (Err why) after
  forgets why is = subst (λ (w : Unfinished). EndsOver tree before (Err w) after) (sym is) tt

  pub ends_whole : (end : Result (Result Value Stop) Cut) (r : Result Ending Unfinished) → RunsBy part m from end m' after
      → EndsWith m'.state.heap end r → EndsOver tree before r after
  ends_whole (Err (cut.Missing name)) r k is =
      subst (λ (x : Result Ending Unfinished). EndsOver tree before x after) (sym is) (begins ∙ k final)
  ends_whole (Ok end) (Ok e) k ends = ends_over (Ok end) e k ends
  ends_whole (Err (cut.Halt h)) (Ok e) k ends = ends_over (Err h) e k ends
  ends_whole (Ok end) (Err why) k is = forgets why is
  ends_whole (Err (cut.Halt h)) (Err why) k is = forgets why is

-- the alerts at the end are those that are kept
pub keeps_whole : (h : HeapView) (end : Result (Result Value Stop) Cut) (beside : Beside) (r : Result Ending Unfinished) (alerts kept : List (List ℕ))
    → EndsWith h end r → KeptAtEnd end alerts kept → KeepsAlerts r alerts kept
keeps_whole h (Err (cut.Missing name)) beside r alerts kept is k = subst (λ (x : Result Ending Unfinished). KeepsAlerts x alerts kept) (sym is) tt
keeps_whole h (Ok end) beside (Ok e) alerts kept ends k = keeps_ending h (Ok end) beside e alerts kept ends k
keeps_whole h (Err (cut.Halt c)) beside (Ok e) alerts kept ends k = keeps_ending h (Err c) beside e alerts kept ends k
keeps_whole h end beside (Err why) alerts kept ends k = tt

-- the run of a script is what the machine does from its beginning
pub run_begins : (body body' : List Statement) (functions : List Function) (entry : def.Entry) (m : Machine) (before : Seen)
    → body' ≡ body → m.functions.now ≡ functions → run_state m.state ≡ first_state by_slots entry
    → walk (run_tree (statements_of body) (map function_of functions) entry) before
    ≡ walk (script_run by_slots (functions_of m) entry (statements_of body') final (run_state m.state)) before
run_begins body body' functions entry m before same_body same_functions state =
    ap (λ (ss : List Statement). walk (script_run by_slots (map function_of functions) entry (statements_of ss) final (first_state by_slots entry)) before) (sym same_body)
    ∙ ap (λ (fs : List Function). walk (script_run by_slots (map function_of fs) entry (statements_of body') final (first_state by_slots entry)) before) (sym same_functions)
    ∙ ap (λ (s : RunState). walk (script_run by_slots (functions_of m) entry (statements_of body') final s) before) (sym state)
