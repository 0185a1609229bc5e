-- Runs of a machine on which no part is open.
use Rattle.std.proofs.Common.{◌≡◌, List, [], Result, Ok, Err, sym, ap, subst, ◌∙◌}
use Rattle.std.specs.Result.{IsErrAnd}
use Rattle.heap_values.specs.declared.value.Value.{Value}
use Rattle.heap_values.specs.Views.{HeapView}
use Rattle.pac_names.specs.Names.{Name}
use Rattle.js_host.specs.Answers.{Knowledge}
use Rattle.js_host.specs.Seen.{Seen, fresh}
use Rattle.run_trees.specs.Laws.{Restarts}
use Rattle.run_trees.proofs.Restarting.{restarts}
use Rattle.run_trees.specs.RunTree.{RunTree, Walked, Ended, Stopped, walk}
use Rattle.run_trees.specs.Runs.{◌>>=◌, onward}
use Rattle.js_evaluation.specs.Scoping.{by_slots}
use Rattle.js_evaluation.specs.State.{RunEnd, Stop, Does, AfterValue}
use Rattle.js_evaluation.specs.Evaluation.{evaluation}
use Rattle.js_evaluation.specs.Objects.{Context}
use Rattle.js_evaluation.specs.Parts.{Within}
use Rattle.js_frames.specs.Rests.{waits_for_value}
use Rattle.js_frames.specs.RestOf.{room, rest_of}
use Rattle.js_frames.specs.Parts.{context_of}
use Rattle.js_frames.specs.declared.frame.Open.{Open}
use Rattle.heap_steps.specs.declared.halt.Halt.{Halt}
use Rattle.heap_steps.specs.declared.halt.Halt.TheVariants as halt
use Rattle.heap_steps.specs.Works.{Works}
use Rattle.js_machine.specs.declared.machine.Machine.{Machine}
use Rattle.js_machine.specs.declared.now.Now.TheVariants as now
use Rattle.js_machine.specs.declared.now.Part.{Part}
use Rattle.js_machine.specs.Moves.{functions_of, begun, run_state, beside_of}
use Rattle.js_machine.proofs.Steps.{with_heap}
use Rattle.js_runs.specs.declared.running.Cut.{Cut}
use Rattle.js_runs.specs.declared.running.Cut.TheVariants as cut
use Rattle.js_runs.specs.Closes.{Closed, Closes}
use Rattle.js_interp.specs.declared.outcome.Outcome.{Outcome}
use Rattle.js_interp.specs.declared.one_run.RunAnswer.TheVariants as answer
use Rattle.js_interp.specs.Answers.{Answers}
use Rattle.js_interp.specs.Runs.{EndsAs, Reaches, RunsBy}
use Rattle.js_evaluation.specs.declared.limits.TheConstants.{MOST_OPEN}

closed_reaches : (last : AfterValue) (walked : Walked RunEnd) (r : Result (Result Value Stop) Cut) (m : Machine) (seen : Seen) → Closed last walked r m seen → Reaches last walked r m seen
closed_reaches last walked (Ok end) m seen k = k
closed_reaches last walked (Err (cut.Halt (halt.Throw thrown))) m seen k = absurd k
closed_reaches last walked (Err (cut.Halt (halt.Fault code place))) m seen k = k
closed_reaches last walked (Err (cut.Halt (halt.LeftOut name place))) m seen k = k
closed_reaches last walked (Err (cut.Halt halt.Memory)) m seen k = tt
closed_reaches last walked (Err (cut.Missing name)) m seen k = k

-- a part, with what comes after the outermost one
abbrev pub begun_whole : Within → Context → Part → Does Value
begun_whole go cx first = λ last. begun go cx first (waits_for_value last)

-- the loop does a part to its end
pub loop_runs : (m : Machine) (first : Part) (before : Seen) (r : Result (Result Value Stop) Cut) (m' : Machine) (after : Seen) → m.frames ≡ [] → Closes m (now.Begin first) before r m' after
    → RunsBy (begun_whole (evaluation by_slots (functions_of m) MOST_OPEN) (context_of m.context) first) m before r m' after
loop_runs m first before r m' after empty k last =
    closed_reaches last _ r m' after (subst (λ (fs : List Open). Closed last (walk (begun (evaluation by_slots (functions_of m) (room fs)) (context_of m.context) first (rest_of (functions_of m) last fs) (run_state m.state)) before) r m' after)
    empty (k.closes last))

-- want of memory promises nothing
pub forgets : (part : Does Value) (m m' : Machine) (before after : Seen) (r : Result (Result Value Stop) Cut) (e : Cut) → IsErrAnd r (λ x. x ≡ e) → e ≡ cut.Halt halt.Memory → RunsBy part m before r m' after
forgets part m m' before after (Ok v) e i k = absurd i
forgets part m m' before after (Err x) e i k = λ last. subst (λ (y : Cut). Reaches last (walk (part last (run_state m.state)) before) (Err y) m' after) (sym (i ∙ k)) tt

-- ---- one part after another

module _ (part : Does Value) (next : Value → Does Value) (m : Machine) (before : Seen) where
  -- what comes after a part that gives a value
  pub runs_then : (begun : Machine) (between : Seen) (v : Value) (r : Result (Result Value Stop) Cut) (m' : Machine) (after : Seen)
      → RunsBy part m before (Ok (Ok v)) begun between → RunsBy (next v) begun between r m' after → RunsBy (part >>= next) m before r m' after
  runs_then begun between v r m' after done rest last =
      subst (λ (walked : Walked RunEnd). Reaches last walked r m' after) (sym (done (onward next last))) (rest last)

  -- an abrupt end passes what comes next
  pub runs_stopped : (stop : Stop) (m' : Machine) (after : Seen)
      → RunsBy part m before (Ok (Err stop)) m' after → RunsBy (part >>= next) m before (Ok (Err stop)) m' after
  runs_stopped stop m' after done last = done (onward next last)

  cuts : (e : Cut) (m' : Machine) (after : Seen) → RunsBy part m before (Err e) m' after → RunsBy (part >>= next) m before (Err e) m' after
  cuts (cut.Halt (halt.Throw thrown)) m' after done last = done (onward next last)
  cuts (cut.Halt (halt.Fault code place)) m' after done last = done (onward next last)
  cuts (cut.Halt (halt.LeftOut name place)) m' after done last = done (onward next last)
  cuts (cut.Halt halt.Memory) m' after done last = tt
  cuts (cut.Missing name) m' after done last = done (onward next last)

  -- where a part is at the end of the run, or stops, so is the whole
  pub runs_cut : (r : Result (Result Value Stop) Cut) (e : Cut) (m' : Machine) (after : Seen)
      → IsErrAnd r (λ x. x ≡ e) → RunsBy part m before (Err e) m' after → RunsBy (part >>= next) m before r m' after
  runs_cut (Ok v) e m' after i done = absurd i
  runs_cut (Err x) e m' after i done = subst (λ (y : Cut). RunsBy (part >>= next) m before (Err y) m' after) (sym i) (cuts e m' after done)

-- ---- a part that does something to the heap, and then the next

module _ {A : Type 0} (part : Does A) (next : A → Does Value) (m : Machine) (before : Seen) (h : HeapView) where
  pub heap_then : (v : A) (r : Result (Result Value Stop) Cut) (m' : Machine) (after : Seen)
      → Works part m.state.heap (Ok v) h → RunsBy (next v) (with_heap m h) before r m' after → RunsBy (part >>= next) m before r m' after
  heap_then v r m' after done rest last =
      subst (λ (tree : RunTree RunEnd). Reaches last (walk tree before) r m' after) (sym (done.is (onward next last) m.state.fuel (beside_of m.state))) (rest last)

  heap_halts : (e : Halt) → Works part m.state.heap (Err e) h → RunsBy (part >>= next) m before (Err (cut.Halt e)) (with_heap m h) before
  unfolding walk
  heap_halts (halt.Throw thrown) w last = ap (λ (tree : RunTree RunEnd). walk tree before) (w.is _ _ _)
  heap_halts (halt.Fault code place) w last = ap (λ (tree : RunTree RunEnd). walk tree before) (w.is _ _ _)
  heap_halts (halt.LeftOut name place) w last = ap (λ (tree : RunTree RunEnd). walk tree before) (w.is _ _ _)
  heap_halts halt.Memory w last = tt

  pub heap_stops : (r : Result (Result Value Stop) Cut) (e : Halt) → IsErrAnd r (λ x. x ≡ cut.Halt e) → Works part m.state.heap (Err e) h
      → RunsBy (part >>= next) m before r (with_heap m h) before
  heap_stops (Ok v) e i w = absurd i
  heap_stops (Err x) e i w = subst (λ (y : Cut). RunsBy (part >>= next) m before (Err y) (with_heap m h) before) (sym i) (heap_halts e w)

-- ---- the answer of a run

module _ (run : RunTree RunEnd) (known : Knowledge) (before : Seen) (same : before ≡ fresh known) (after : Seen) where
  restarts_as : (walked : Walked RunEnd) → walk run before ≡ walked → Restarts run known walked
  restarts_as walked e = subst (Restarts run known) (ap (walk run) (sym same) ∙ e) (restarts run known)

  pub answers_done : (outcome : Outcome) → EndsAs run before outcome.ending after → outcome.alerts ≡ after.alerts → Answers run known (answer.Done outcome) after
  answers_done outcome e kept = record {
    end = e.end;
    is_whole = restarts_as (Ended e.end after) e.is;
    ending_is = e.ends;
    alerts_are = sym kept;
  }

  pub answers_missing : (name : Name) → walk run before ≡ Stopped name after → Answers run known (answer.Missing name) after
  answers_missing name e = restarts_as (Stopped name after) e
