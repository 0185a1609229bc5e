-- What is told of a run over the names that are told.
use Rattle.std.proofs.Common.{◌≡◌, ◌∙◌, ℕ, ℤ, List, [], ◌∷◌, Option, Result, Ok, Err, map, ap, refl, sym, subst}
use Rattle.std.specs.FinMap as finite
use Rattle.js_binding.specs.Resolved.{resolved}
use Rattle.pac_names.specs.Names.{Name}
use Rattle.js_host.specs.Answers.{AnswerMap, Completes, Extends, partly}
use Rattle.js_host.specs.Seen.{Seen, kept_alerts}
use Rattle.run_trees.specs.RunTree.{RunTree, Stopped}
use Rattle.run_trees.specs.WholeRun.{whole_run}
use Rattle.run_trees.specs.Laws.{Restarts}
use Rattle.js_tree.specs.Tree.{StatementTree}
use Rattle.js_evaluation.specs.State.{RunEnd}
use Rattle.js_evaluation.specs.Evaluation as def
use Rattle.js_evaluation.specs.Evaluation.{ending_of}
use Rattle.js_interp.specs.declared.outcome.Outcome.{Outcome}
use Rattle.js_interp.specs.Answers.{IsDone, entry_of, seen_outcome}
use Rattle.js_scope.specs.Gives.{IsProgramOf}
use Rattle.batch_text.specs.Batch.{entry_seen}
use Rattle.batch_text.specs.View.{seen_of}
use Rattle.batch_text.specs.declared.batch.BatchLine.{BatchLine}
use Rattle.batch_text.specs.declared.batch.BatchLine.TheVariants as line
use Rattle.batch_text.specs.declared.seen.View.{View}
use Rattle.report_text.specs.Report.{UrlEnd, done, report_of}
use Rattle.url_runs.specs.Runs.{ScriptRuns, program_runs}
use Rattle.url_runs.proofs.Outcomes.{gives}
use Rattle.library_calls.specs.declared.settings.Settings.{Settings}
use Rattle.pac_command.specs.Scripts.{WasRead}
use Rattle.pac_command.proofs.Stepping.{runs_are}
use Rattle.library_calls.specs.declared.find.Asked as declared
use Rattle.library_calls.specs.declared.told.Told as code
use Rattle.library_calls.specs.declared.early.Early.{Early}
use Rattle.library_calls.specs.Settings.{zone_in}
use Rattle.library_calls.specs.Told.{Told, Comes, Reads, read_as, read_then}
use Rattle.library_calls.proofs.Reading.{goes_on, stops}
use Rattle.library_calls.specs.Inputs.{names_in, script_in, url_in}
use Rattle.library_calls.specs.Finding.{Agrees, Asked, asked_for, asked_in, entry_for, found_proxy, mapped_text, name_wanted, report_told, seen_asked, told_by, told_of_run}

-- a larger map completes what is known
completes : (all known : AnswerMap) → Extends all known → Completes all (partly known)
completes all known extends = record { extends = extends; alone = λ is. absurd cc }

abbrev outcome_with : def.Ending → List (List ℕ) → def.Outcome
outcome_with ending alerts = record { ending = ending; alerts = alerts }

-- the end of one URL
abbrev one_end : def.Outcome → List UrlEnd
one_end outcome = record { end = done outcome; runs = 1 } ∷ []

-- where the run came to its end, its report is told
pub ended : (all known : AnswerMap) (asked : Asked) (outcome : Outcome) (after : Seen) → Extends all known
    → IsDone (asked.script asked.entry) (partly known) outcome after
    → told_of_run all known asked ≡ report_told (report_of asked.batch (one_end (seen_outcome outcome)))
ended all known asked outcome after extends is =
    let run : RunTree RunEnd = asked.script asked.entry in
    let whole = is.is_whole.1 all (completes all known extends) in
    ap (λ (wanted : Option Name). told_by wanted (mapped_text all asked)) whole.none_missing
    ∙ ap (λ (end : RunEnd). report_told (report_of asked.batch (one_end (outcome_with (ending_of end) (kept_alerts (whole_run all run).alerts))))) whole.end_is
    ∙ ap (λ (alerts : List (List ℕ)). report_told (report_of asked.batch (one_end (outcome_with (ending_of is.end) alerts)))) whole.alerts_are
    ∙ ap (λ (o : def.Outcome). report_told (report_of asked.batch (one_end o))) (gives run (partly known) outcome after is)

-- where it stopped, the name is told
pub stopped : (all known : AnswerMap) (asked : Asked) (name : Name) (after : Seen) → Extends all known
    → Restarts (asked.script asked.entry) (partly known) (Stopped name after)
    → told_of_run all known asked ≡ name_wanted name
stopped all known asked name after extends is =
    ap (λ (wanted : Option Name). told_by wanted (mapped_text all asked)) (is.1 all (completes all known extends)).first_is

-- what is run is the script that was read, for the URL that was read
pub asked_is : (settings : Settings) (zone : ℤ) (script : List StatementTree) (url : List ℕ) (view : View) (asked : declared.Asked)
    → WasRead script → url_in url ≡ Ok (seen_of view) → IsProgramOf (resolved script) asked.program
    → asked.batch ≡ line.Get settings.moment view ∷ [] → entry_of asked.entry ≡ entry_for settings zone (seen_of view)
    → asked_in settings zone script url ≡ Ok (seen_asked asked)
asked_is settings zone script url view asked read url_is program_is batch_is entry_is =
    let part : ScriptRuns → List BatchLine → def.Entry → Result Asked Told =
    λ runs lines entry. Ok (record { script = runs; batch = map entry_seen lines; entry = entry }) in
    let lines : List BatchLine = line.Get settings.moment view ∷ [] in
    let entry : def.Entry = entry_for settings zone (seen_of view) in
    ap (λ read. read_as (asked_for settings zone script) read) url_is
    ∙ ap (λ (runs : ScriptRuns). part runs lines entry) (runs_are script asked.program read program_is)
    ∙ ap (λ (ls : List BatchLine). part (program_runs asked.program) ls entry) (sym batch_is)
    ∙ ap (λ (e : def.Entry). part (program_runs asked.program) asked.batch e) (sym entry_is)

abbrev is_read : AnswerMap → Result AnswerMap Told
is_read known = Ok known

abbrev is_refused : Told → Result AnswerMap Told
is_refused why = Err why

-- there is a map that agrees with the names that are told
agreeing : (told : List ℕ) (read : Result AnswerMap Told) → read ≡ names_in told → (all : AnswerMap) × Agrees all told
agreeing told (Ok known) is =
    (known, λ other read. subst (λ (m : AnswerMap). Extends known m) (same_known known other (is ∙ read)) (λ name answer has. has))
  where
    same_known : (a b : AnswerMap) → is_read a ≡ is_read b → a ≡ b
    same_known a b e = cc
agreeing told (Err why) is = (finite.empty, λ other read. absurd (never why other (is ∙ read)))
  where
    never : (w : Told) (m : AnswerMap) → is_refused w ≡ is_read m → ⊥
    never w m e = cc

pub some_agrees : (told : List ℕ) → (all : AnswerMap) × Agrees all told
some_agrees told = agreeing told (names_in told) refl

-- ---- what is told, by what is read

module _ (all : AnswerMap) (script url told : List ℕ) (settings : Settings) where
  abbrev behind_names : ℤ → List StatementTree → AnswerMap → Told
  behind_names zone tree known = read_then (asked_in settings zone tree url) (told_of_run all known)

  abbrev behind_script : ℤ → List StatementTree → Told
  behind_script zone tree = read_then (names_in told) (behind_names zone tree)

  abbrev behind_zone : ℤ → Told
  behind_zone zone = read_then (script_in script) (behind_script zone)

  abbrev Found : Result code.Told Early → Type 0
  Found r = Comes (found_proxy all script url told settings) r

  pub no_script : (zone : ℤ) (why : Early) → zone_in settings ≡ Ok zone → Reads (script_in script) (Err why) → Found (Err why)
  no_script zone why z is = goes_on (zone_in settings) behind_zone zone (Err why) z (stops (script_in script) (behind_script zone) why is)

  pub no_names : (zone : ℤ) (tree : List StatementTree) (why : Early) → zone_in settings ≡ Ok zone → script_in script ≡ Ok tree
      → Reads (names_in told) (Err why) → Found (Err why)
  no_names zone tree why z s is =
      goes_on (zone_in settings) behind_zone zone (Err why) z
      (goes_on (script_in script) (behind_script zone) tree (Err why) s (stops (names_in told) (behind_names zone tree) why is))

  -- all is read but the URL
  pub read_to : (zone : ℤ) (tree : List StatementTree) (known : AnswerMap) (r : Result code.Told Early)
      → zone_in settings ≡ Ok zone → script_in script ≡ Ok tree → names_in told ≡ Ok known → Comes (behind_names zone tree known) r → Found r
  read_to zone tree known r z s n is =
      goes_on (zone_in settings) behind_zone zone r z
      (goes_on (script_in script) (behind_script zone) tree r s (goes_on (names_in told) (behind_names zone tree) known r n is))

  pub no_url : (zone : ℤ) (tree : List StatementTree) (known : AnswerMap) (why : Early) → zone_in settings ≡ Ok zone
      → script_in script ≡ Ok tree → names_in told ≡ Ok known → Reads (asked_in settings zone tree url) (Err why) → Found (Err why)
  no_url zone tree known why z s n is =
      read_to zone tree known (Err why) z s n (stops (asked_in settings zone tree url) (told_of_run all known) why is)

  pub all_read : (zone : ℤ) (tree : List StatementTree) (known : AnswerMap) (asked : Asked) (r : Result code.Told Early)
      → zone_in settings ≡ Ok zone → script_in script ≡ Ok tree → names_in told ≡ Ok known → asked_in settings zone tree url ≡ Ok asked
      → Comes (told_of_run all known asked) r → Found r
  all_read zone tree known asked r z s n a is =
      read_to zone tree known r z s n (goes_on (asked_in settings zone tree url) (told_of_run all known) asked r a is)
