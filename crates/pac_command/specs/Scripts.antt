-- How a command reads a script, and what it says of one that isn't read.
use Rattle.std.specs.Prelude.{◌≡◌, ℕ, List, Ok, ◌++◌, codes}
use Rattle.std.specs.Fmt.{decimal}
use Rattle.utf16_text.specs.Decode.{decoded_units}
use Rattle.js_tree.specs.Tree.{StatementTree}
use Rattle.js_tree.specs.declared.refusal.ReadKind.{ReadKind}
use Rattle.js_tree.specs.declared.refusal.ReadKind.TheVariants as kind
use Rattle.js_grammar.specs.Reading.{Refusal}
use Rattle.js_grammar.specs.Statements.{script_of_text}
use Rattle.pac_plan.specs.Plan.{Output, say, line, read}
use Rattle.pac_plan.specs.declared.status.Status.TheVariants as status
use Rattle.pac_command.specs.Plans.{CommandPlan, if_read}
use Rattle.report_text.specs.Report.{place_text}

abbrev pub refused : List ℕ → Output
refused what = record { status = status.Refused; text = line (codes "refused " ++ what) }

abbrev pub kind_name : ReadKind → List ℕ
kind_name kind.BadToken = codes "BadToken"
kind_name kind.Unexpected = codes "Unexpected"
kind_name kind.TooDeep = codes "TooDeep"
kind_name kind.FractionLiteral = codes "FractionLiteral"
kind_name kind.Unsupported = codes "Unsupported"

-- an input of this kind is refused at the line of this number, from 1, with the refusal's name behind a blank
abbrev pub refused_line : List ℕ → ℕ → List ℕ → Output
refused_line kind number name = refused (kind ++ codes " " ++ decimal number ++ codes " " ++ name)

-- the place of the first refusal, a blank and its name
abbrev pub refused_script : Refusal → Output
refused_script refusal = refused (codes "script " ++ (place_text refusal.1 ++ codes " " ++ kind_name refusal.0))

-- goes on with the script in a file of these bytes, or says its first refusal
abbrev pub script_then : List ℕ → (List StatementTree → CommandPlan) → CommandPlan
script_then bytes next = if_read (script_of_text (decoded_units bytes)) (λ refusal. say (refused_script refusal)) next

-- the script is one that was read
abbrev pub WasRead : List StatementTree → Type 0
WasRead script = (us : List ℕ) × (script_of_text us ≡ Ok script)

-- reads the script
abbrev pub script_from : List ℕ → (List StatementTree → CommandPlan) → CommandPlan
script_from name next = read (codes "script") name (λ bytes. script_then bytes next)
