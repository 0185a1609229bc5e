-- How a call reads its script, its names and its URL, and what it tells of one that isn't read.
use Rattle.std.specs.Prelude.{ℕ, List, [], nat_lt, length, codes, Option, Some, None, Result, Ok, Err, if◌then◌else◌}
use Rattle.std.specs.Str.{is_utf8}
use Rattle.utf16_text.specs.Decode.{decoded_units}
use Rattle.utf16_text.specs.declared.limits.TheConstants.{LONGEST_FILE}
use Rattle.js_host.specs.Answers.{AnswerMap}
use Rattle.js_tree.specs.Tree.{StatementTree}
use Rattle.js_grammar.specs.Reading.{Refusal}
use Rattle.js_grammar.specs.Statements.{script_of_text}
use Rattle.batch_text.specs.Told.{told_in}
use Rattle.batch_text.specs.View.{Seen, view_of}
use Rattle.batch_text.specs.declared.names.NamesKind.{NamesKind}
use Rattle.pac_command.specs.Scripts as scripts
use Rattle.pac_command.specs.Names as commands
use Rattle.library_calls.specs.declared.told.Status.TheVariants as status
use Rattle.library_calls.specs.Told.{Told}

abbrev pub too_long : Told
too_long = record { status = status.TooLong; bytes = [] }

-- reads bytes of which there are no more than of a file
abbrev pub if_short : {A : Type 0} → List ℕ → Result A Told → Result A Told
if_short bytes read = if nat_lt LONGEST_FILE (length bytes) then Err too_long else read

-- what is read, or what is told of the refusal
abbrev pub or_told : {A E : Type 0} → Result A E → (E → Told) → Result A Told
or_told (Ok a) refused = Ok a
or_told (Err e) refused = Err (refused e)

-- ---- the script

-- the line of `check` and `map`
abbrev pub refused_script : Refusal → Told
refused_script refusal = record { status = status.BadScript; bytes = (scripts.refused_script refusal).text }

abbrev pub script_in : List ℕ → Result (List StatementTree) Told
script_in bytes = if_short bytes (or_told (script_of_text (decoded_units bytes)) refused_script)

-- ---- the names

-- the line of `map`
abbrev pub refused_names : NamesKind × ℕ → Told
refused_names refusal = record { status = status.BadNames; bytes = (commands.refused_names refusal).text }

-- each name that has a line is told whole, so that none is wanted that was told
abbrev pub names_in : List ℕ → Result AnswerMap Told
names_in bytes = if_short bytes (or_told (told_in bytes) refused_names)

-- ---- the URL

-- the line of `map`
abbrev pub refused_url : Told
refused_url = record { status = status.BadUrl; bytes = (scripts.refused (codes "url BadUrl")).text }

abbrev pub seen_or_told : Option Seen → Result Seen Told
seen_or_told (Some seen) = Ok seen
seen_or_told None = Err refused_url

-- what the script sees of it; the words of a command are UTF-8
abbrev pub url_in : List ℕ → Result Seen Told
url_in bytes = if is_utf8 bytes then seen_or_told (view_of bytes) else Err refused_url
