-- The load of a script for many runs, and a run that goes on from it.
use Rattle.std.proofs.Common.{◌≡◌, ℕ, Bool, refl, sym, ap, subst, ◌∙◌, List, [], ◌∷◌, ◌++◌, Option, Some, None, Result, Ok, Err, true, map, fold, take, arith}
use Rattle.std.specs.FinMap as finite
use Rattle.std.proofs.lemmas.List.{append_assoc, append-nil, length-take, take_all, take-map}
use Rattle.std.specs.Prelude.{is_ok, IfOk, IfSome}
use Rattle.utf16_text.specs.declared.memory.Memory.{Memory}
use Rattle.js_tree.specs.declared.expression.Function.{Function}
use Rattle.js_tree.specs.declared.statement.Statement.{Statement}
use Rattle.js_tree.specs.Tree.{FunctionTree, statements_of}
use Rattle.js_tree.specs.View.{function_of}
use Rattle.js_scope.specs.declared.program.Program.{Program}
use Rattle.js_scope.specs.Functions as scoped
use Rattle.heap_values.specs.declared.value.Value.{Value}
use Rattle.pac_functions.specs.declared.call.PacSettings.{PacSettings}
use Rattle.js_host.specs.Answers.{AnswerMap, Knowledge, partly}
use Rattle.js_host.specs.Seen.{Seen, alerted, fresh, kept_alerts, with_alert}
use Rattle.js_host.specs.declared.limits.TheConstants.{MOST_ALERTS, MOST_UNITS}
use Rattle.run_trees.specs.RunTree.{RunTree, Walked, Ended, Stopped, walk}
use Rattle.run_trees.specs.Runs.{onward}
use Rattle.run_trees.specs.WholeRun.{whole_run}
use Rattle.run_trees.specs.Laws.{Restarts}
use Rattle.run_trees.proofs.Kept.{with_alert-kept}
use Rattle.run_trees.proofs.Restarting.{restarts}
use Rattle.js_evaluation.specs.Scoping.{by_slots}
use Rattle.js_evaluation.specs.State.{RunEnd, RunState, Comes, Faults, Stop, Does}
use Rattle.js_evaluation.specs.Evaluation as def
use Rattle.js_evaluation.specs.Evaluation.{first_state, fresh_state, load_tree, loaded, run_tree}
use Rattle.js_law_evaluation.specs.Laws.{at_moment, heard}
use Rattle.js_law_evaluation.proofs.OfLoads.{loads_at_each_moment}
use Rattle.heap_steps.specs.declared.halt.Halt.TheVariants as halt
use Rattle.js_machine.specs.declared.machine.Machine.{Machine}
use Rattle.js_machine.specs.Moves.{functions_of, run_state}
use Rattle.js_runs.specs.declared.running.Cut.{Cut}
use Rattle.js_runs.specs.declared.running.Cut.TheVariants as cut
use Rattle.js_interp.specs.ImageAnswers.{ends_cut}
use Rattle.js_interp.specs.Loads.{Beginning, ImageView, IsImageOf, alone, beginning_in, beginning_where, program_beginning}
use Rattle.js_interp.specs.Runs.{RunsBy, called}
use Rattle.js_interp.proofs.Ends.{final}

-- ---- the load

-- what is done before nothing else, and what a machine comes to by it
module _ (part : Does Value) (m : Machine) (before : Seen) (m' : Machine) (after : Seen) where
  abbrev pub Comes_to : Bool → Type 0
  Comes_to ends = beginning_in (walk (part alone (run_state m.state)) before) ≡ beginning_where ends (run_state m'.state) after.alerts

  pub ends_whole_load : (end : Result Value Stop) → RunsBy part m before (Ok end) m' after → Comes_to (is_ok end)
  unfolding walk
  ends_whole_load (Ok value) k = ap beginning_in (k alone)
  ends_whole_load (Err stop) k = ap beginning_in (k alone)

  pub ends_cut_load : (e : Cut) → RunsBy part m before (Err e) m' after → IfSome (ends_cut e) Comes_to
  unfolding walk
  ends_cut_load (cut.Missing name) k = ap beginning_in (k alone)
  ends_cut_load (cut.Halt (halt.Throw thrown)) k = ap beginning_in (k alone)
  ends_cut_load (cut.Halt (halt.Fault code place)) k = ap beginning_in (k alone)
  ends_cut_load (cut.Halt (halt.LeftOut name place)) k = ap beginning_in (k alone)
  ends_cut_load (cut.Halt halt.Memory) k = tt

-- what holds where a load is cut holds of what is said of it
pub said : (o : Option Bool) (holds : Bool → Type 0) (r : Result Bool Memory) → IfOk r (λ ends. o ≡ Some ends) → IfSome o holds → IfOk r holds
said o holds (Ok ends) e k = subst (λ (x : Option Bool). IfSome x holds) e k
said o holds (Err memory) e k = tt

-- nothing is said of the alerts of a load that comes to no end
pub cut_tells_none : (e : Cut) (X : Type 0) → IfSome (ends_cut e) (λ ends. ends ≡ true → X)
cut_tells_none (cut.Missing name) X = λ e. absurd (cc)
cut_tells_none (cut.Halt (halt.Throw thrown)) X = λ e. absurd (cc)
cut_tells_none (cut.Halt (halt.Fault code place)) X = λ e. absurd (cc)
cut_tells_none (cut.Halt (halt.LeftOut name place)) X = λ e. absurd (cc)
cut_tells_none (cut.Halt halt.Memory) X = tt

-- the load that the definition speaks of is what a machine does from its beginning
pub load_begins : (program : Program) (settings : PacSettings) (fuel : ℕ) (body : List Statement) (m : Machine) (before : Seen)
    → body ≡ program.body → m.functions.now ≡ program.functions → run_state m.state ≡ fresh_state by_slots None settings fuel
    → before ≡ fresh (partly finite.empty)
    → program_beginning program settings fuel
    ≡ beginning_in (walk (loaded by_slots (functions_of m) (statements_of body) alone (run_state m.state)) before)
load_begins program settings fuel body m before same_body same_functions state untold =
    ap beginning_in (
    ap (λ (ss : List Statement). walk (loaded by_slots (map function_of program.functions) (statements_of ss) alone (fresh_state by_slots None settings fuel)) (fresh (partly finite.empty))) (sym same_body)
    ∙ ap (λ (fs : List Function). walk (loaded by_slots (map function_of fs) (statements_of body) alone (fresh_state by_slots None settings fuel)) (fresh (partly finite.empty))) (sym same_functions)
    ∙ ap (λ (s : RunState). walk (loaded by_slots (functions_of m) (statements_of body) alone s) (fresh (partly finite.empty))) (sym state)
    ∙ ap (λ (seen : Seen). walk (loaded by_slots (functions_of m) (statements_of body) alone (run_state m.state)) seen) (sym untold))

-- ---- telling the alerts of a load again

module _ (known : Knowledge) where
  tells : (texts alerts : List (List ℕ)) → fold alerted (heard known alerts) texts ≡ heard known (fold with_alert alerts texts)
  tells [] alerts = refl
  tells (text ∷ texts) alerts = tells texts (with_alert alerts text)

-- what is told is kept as a run keeps it
pub told_alerts : (texts : List (List ℕ)) (seen : Seen) → (fold alerted seen texts).alerts ≡ fold with_alert seen.alerts texts
told_alerts [] seen = refl
told_alerts (text ∷ texts) seen = told_alerts texts (alerted seen text)

kept_from : (texts told : List (List ℕ)) → fold with_alert (kept_alerts told) texts ≡ kept_alerts (told ++ texts)
kept_from [] told = ap kept_alerts (sym (append-nil told))
kept_from (text ∷ texts) told =
    ap (λ alerts. fold with_alert alerts texts) (with_alert-kept told text)
    ∙ kept_from texts (told ++ text ∷ []) ∙ ap kept_alerts (append_assoc told (text ∷ []) texts)

-- what is cut already, or counted already, is the same when it is cut or counted again
take_twice : {A : Type 0} (n : ℕ) (xs : List A) → take n (take n xs) ≡ take n xs
take_twice n xs = take_all n (take n xs) (rw (length-take n xs) (omega arith))

cut_twice : (texts : List (List ℕ)) → map (take MOST_UNITS) (map (take MOST_UNITS) texts) ≡ map (take MOST_UNITS) texts
cut_twice [] = refl
cut_twice (text ∷ texts) =
    ap (λ t. t ∷ map (take MOST_UNITS) (map (take MOST_UNITS) texts)) (take_twice MOST_UNITS text)
    ∙ ap (λ ts. take MOST_UNITS text ∷ ts) (cut_twice texts)

kept_twice : (texts : List (List ℕ)) → kept_alerts (kept_alerts texts) ≡ kept_alerts texts
kept_twice texts =
    ap (map (take MOST_UNITS)) (take-map (take MOST_UNITS) MOST_ALERTS (take MOST_ALERTS texts))
    ∙ cut_twice (take MOST_ALERTS (take MOST_ALERTS texts)) ∙ ap (map (take MOST_UNITS)) (take_twice MOST_ALERTS texts)

-- the alerts of a run are as a host keeps them
are_kept : (run : RunTree RunEnd) (end : RunEnd) (seen : Seen) → walk run (fresh (partly finite.empty)) ≡ Ended end seen
    → fold with_alert [] seen.alerts ≡ seen.alerts
are_kept run end seen e =
    let restarted : Restarts run (partly finite.empty) (Ended end seen) = subst (Restarts run (partly finite.empty)) e (restarts run (partly finite.empty)) in
    let none : AnswerMap = finite.empty in
    let whole = restarted.1 none (record { extends = λ name answer is. is; alone = λ whole. cc }) in
    let kept : kept_alerts (whole_run none run).alerts ≡ seen.alerts = whole.alerts_are in
    subst (λ alerts. fold with_alert [] alerts ≡ alerts) kept
    (kept_from (kept_alerts (whole_run none run).alerts) [] ∙ kept_twice (whole_run none run).alerts)

-- ---- a run from an image

-- what an image says of the load
comes_to : (walked : Walked RunEnd) (b : Beginning) → beginning_in walked ≡ Some b
    → (value : Value) × (seen : Seen) × (walked ≡ Ended (Comes (Ok value) b.state) seen) × (seen.alerts ≡ b.alerts)
comes_to (Ended (Comes (Ok value) state) seen) b e = (value, seen, cc, cc)
comes_to (Ended (Comes (Err stop) state) seen) b e = absurd (cc)
comes_to (Ended (Faults f) seen) b e = absurd (cc)
comes_to (Stopped name seen) b e = absurd (cc)

module _ (program : Program) (image : ImageView) (of : IsImageOf program image) (entry : def.Entry)
    (settings : image.settings ≡ entry.settings) (fuel : image.fuel ≡ entry.fuel) (known : Knowledge) where
  abbrev functions : List FunctionTree
  functions = scoped.functions_of program.functions

  -- the host is told the alerts of the load
  pub told_again : fold alerted (fresh known) image.beginning.alerts ≡ heard known image.beginning.alerts
  told_again =
      let comes = comes_to _ image.beginning of in
      tells known image.beginning.alerts []
      ∙ ap (heard known) (subst (λ alerts. fold with_alert [] alerts ≡ alerts) comes.3 (are_kept _ _ comes.1 comes.2))

  -- and the run goes on behind the load
  pub goes_on : walk (run_tree (statements_of program.body) functions entry) (fresh known)
      ≡ walk (called functions entry final (at_moment entry.now image.beginning.state)) (heard known image.beginning.alerts)
  goes_on =
      let comes = comes_to _ image.beginning of in
      ap (λ (s : PacSettings). walk (def.script_run by_slots functions entry (statements_of program.body) final (fresh_state by_slots (Some entry.now) s entry.fuel)) (fresh known)) (sym settings)
      ∙ ap (λ (n : ℕ). walk (def.script_run by_slots functions entry (statements_of program.body) final (fresh_state by_slots (Some entry.now) image.settings n)) (fresh known)) (sym fuel)
      ∙ loads_at_each_moment (statements_of program.body) functions image.settings image.fuel (Ok comes.0) image.beginning.state comes.1 comes.2 entry.now known (onward (λ _. called functions entry) final)
      ∙ ap (λ alerts. walk (called functions entry final (at_moment entry.now image.beginning.state)) (heard known alerts)) comes.3
