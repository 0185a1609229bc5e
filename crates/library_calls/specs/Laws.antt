-- What is told of a run that wants no name is what `map` says, and a name that is wanted was not told.
use Rattle.std.specs.Prelude.{◌≡◌, ℕ, ℤ, List, Some, None, Ok}
use Rattle.std.specs.FinMap as finite
use Rattle.utf16_text.specs.Decode.{decoded_units}
use Rattle.pac_names.specs.declared.kind.NameKind.{NameKind}
use Rattle.pac_names.specs.Names.{Name}
use Rattle.js_host.specs.Answers.{AnswerMap, answer_in}
use Rattle.js_tree.specs.Tree.{StatementTree}
use Rattle.js_grammar.specs.Statements.{script_of_text}
use Rattle.batch_text.specs.Names.{names_in}
use Rattle.batch_text.specs.Told.{told_in}
use Rattle.batch_text.specs.View.{Seen, view_of}
use Rattle.pac_plan.specs.Plan.{Output, run, say}
use Rattle.pac_words.specs.Commands.{one_url}
use Rattle.url_runs.specs.Mapping.{map_plan}
use Rattle.pac_command.specs.Plans.{CommandPlan}
use Rattle.pac_command.specs.Scripts.{script_then}
use Rattle.pac_command.specs.Names.{names_then}
use Rattle.pac_command.specs.Work.{urls_with}
use Rattle.library_calls.specs.declared.settings.Settings.{Settings}
use Rattle.library_calls.specs.Settings.{given_by}
use Rattle.library_calls.specs.declared.told.Status.TheVariants as status
use Rattle.library_calls.specs.Finding.{asked_for, found_proxy, mapped_text}

-- what `map` does, by words that say these settings, for a URL with the bytes of a script and of a file of names
abbrev pub map_with : Settings → ℤ → List ℕ → List ℕ → List ℕ → CommandPlan
map_with settings zone script names url =
    script_then script (λ script. names_then names (λ answers.
    urls_with (given_by settings zone) (one_url url) script (λ work. map_plan answers work)))

-- two maps give each name one answer, whichever of its addresses is asked
abbrev pub AnswerAlike : AnswerMap → AnswerMap → Type 0
AnswerAlike all other = (name : Name) → answer_in all name ≡ answer_in other name

-- It runs the script once and says the text that is told, where a file of names answers as this map does.
abbrev pub MapSaysTheSame : Type 0
MapSaysTheSame =
    (all answers : AnswerMap) (settings : Settings) (zone : ℤ) (script names url : List ℕ) (tree : List StatementTree) (seen : Seen)
    → script_of_text (decoded_units script) ≡ Ok tree → names_in names ≡ Ok answers → AnswerAlike all answers → view_of url ≡ Some seen
    → (output : Output) × (output.text ≡ mapped_text all (asked_for settings zone tree seen))
    × (map_with settings zone script names url ≡ run (say output))

-- The names of a file that are told whole answer as the file does.
abbrev pub ToldAnswersAlike : Type 0
ToldAnswersAlike = (all answers : AnswerMap) (names : List ℕ) → told_in names ≡ Ok all → names_in names ≡ Ok answers → AnswerAlike all answers

-- No line of the names that are told, for IPv4 or for IPv6, has the name that is wanted. So a caller who answers it by a
-- line is asked for another one.
abbrev pub WantedIsUntold : Type 0
WantedIsUntold =
    (all answers : AnswerMap) (script url told : List ℕ) (settings : Settings) (kind : NameKind)
    → (found_proxy all script url told settings).status ≡ status.NameWanted → names_in told ≡ Ok answers
    → finite.get answers (record { kind = kind; text = (found_proxy all script url told settings).bytes }) ≡ None
