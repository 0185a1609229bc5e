-- One run of a script over the names that are told, by the run against a map of all names.
use Rattle.std.specs.Prelude.{◌≡◌, ℕ, ℤ, List, [], ◌∷◌, Option, Some, None, Result, Ok, map}
use Rattle.pac_names.specs.Names.{Name}
use Rattle.js_host.specs.Answers.{AnswerMap, Extends, first_missing, partly}
use Rattle.js_tree.specs.Tree.{StatementTree}
use Rattle.js_evaluation.specs.Evaluation.{Entry, run_by_names}
use Rattle.js_interp.specs.Answers.{entry_of}
use Rattle.run_trees.specs.WholeRun.{asked_names}
use Rattle.batch_text.specs.Batch.{BatchEntry, Asks, entry_seen}
use Rattle.batch_text.specs.View.{Seen}
use Rattle.url_runs.specs.Mapping.{map_report}
use Rattle.url_runs.specs.Runs.{ScriptRuns, program_runs}
use Rattle.pac_command.specs.Urls.{entry_at}
use Rattle.library_calls.specs.declared.find.Asked as declared
use Rattle.library_calls.specs.declared.settings.Settings.{Settings}
use Rattle.library_calls.specs.declared.told.Status.TheVariants as status
use Rattle.library_calls.specs.Told.{Told, read_as, read_then}
use Rattle.library_calls.specs.Settings.{given_by, zone_in}
use Rattle.library_calls.specs.Inputs.{names_in, script_in, url_in}

-- a map of all names agrees with the names that are told: it has each answer that is read of them, so of a name that is
-- told for one family alone it has no address in the other
abbrev pub Agrees : AnswerMap → List ℕ → Type 0
Agrees all told = (known : AnswerMap) → names_in told ≡ Ok known → Extends all known

-- a script for one URL, with what its run is for
pub record Asked : Type 0 where
  pub script : ScriptRuns
  pub batch : List BatchEntry
  pub entry : Entry

-- what the run is for: what `map` gives it by words that say these settings
abbrev pub entry_for : Settings → ℤ → Seen → Entry
entry_for settings zone seen = entry_at (given_by settings zone) settings.moment seen

-- as `map` has them
abbrev pub asked_for : Settings → ℤ → List StatementTree → Seen → Asked
asked_for settings zone script seen =
    record { script = run_by_names script; batch = Asks settings.moment seen ∷ []; entry = entry_for settings zone seen }

abbrev pub asked_in : Settings → ℤ → List StatementTree → List ℕ → Result Asked Told
asked_in settings zone script url = read_as (asked_for settings zone script) (url_in url)

-- what `map` writes where all names are as this map says
abbrev pub mapped_text : AnswerMap → Asked → List ℕ
mapped_text all asked = (map_report all (record { script = asked.script; batch = asked.batch; entries = asked.entry ∷ [] })).text

-- the first name that the run asks and that isn't known
abbrev pub first_wanted : AnswerMap → AnswerMap → Asked → Option Name
first_wanted all known asked = first_missing (partly known) (asked_names all (asked.script asked.entry))

abbrev pub report_told : List ℕ → Told
report_told text = record { status = status.Done; bytes = text }

abbrev pub name_wanted : Name → Told
name_wanted name = record { status = status.NameWanted; bytes = name.text }

abbrev pub told_by : Option Name → List ℕ → Told
told_by None text = report_told text
told_by (Some name) text = name_wanted name

-- what `map` writes where no name is wanted, and else the first one that is
abbrev pub told_of_run : AnswerMap → AnswerMap → Asked → Told
told_of_run all known asked = told_by (first_wanted all known asked) (mapped_text all asked)

-- What is told of a script, a URL, names and settings, where all names are as this map says. It is the first of these that
-- isn't read, in this order: the settings, the script, the names, the URL.
abbrev pub found_proxy : AnswerMap → List ℕ → List ℕ → List ℕ → Settings → Told
found_proxy all script url told settings =
    read_then (zone_in settings) (λ zone.
    read_then (script_in script) (λ script.
    read_then (names_in told) (λ known.
    read_then (asked_in settings zone script url) (λ asked.
    told_of_run all known asked))))

-- ---- what the code has

abbrev pub seen_asked : declared.Asked → Asked
seen_asked asked =
    record { script = program_runs asked.program; batch = map entry_seen asked.batch; entry = entry_of asked.entry }
