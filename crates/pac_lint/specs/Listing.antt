-- What is listed of a script: the lines of all its findings, or the line of its refusal where it isn't read.
use Rattle.std.specs.Prelude.{ℕ, List, [], ◌∷◌, Result, Ok, Err}
use Rattle.js_tree.specs.Tree.{StatementTree}
use Rattle.js_binding.specs.Resolved.{resolved}
use Rattle.js_grammar.specs.Reading.{Refusal}
use Rattle.js_grammar.specs.Statements.{script_of_text}
use Rattle.js_forms.specs.Forms.{refusal_line}
use Rattle.js_lint.specs.Findings.{findings_of}
use Rattle.js_lint.specs.Lines as lint
use Rattle.pac_plan.specs.Plan.{Output}
use Rattle.pac_plan.specs.declared.status.Status.{Status}
use Rattle.pac_plan.specs.declared.status.Status.TheVariants as status

-- the lines of the findings of a script, with its names resolved
abbrev pub lines_of_script : List StatementTree → List ℕ
lines_of_script script = let program = resolved script in lint.lines_of (findings_of program.0 program.1)

abbrev pub lines_of_reading : List ℕ → Result (List StatementTree) Refusal → List ℕ
lines_of_reading us (Ok script) = lines_of_script script
lines_of_reading us (Err refusal) = refusal_line refusal us

-- the lines of a text of these units
abbrev pub lines_of_text : List ℕ → List ℕ
lines_of_text us = lines_of_reading us (script_of_text us)

-- a silent listing is good
abbrev pub status_of : List ℕ → Status
status_of [] = status.Good
status_of (u ∷ us) = status.ScriptFault

abbrev pub listing_of : List ℕ → Output
listing_of text = record { status = status_of text; text = text }

abbrev pub listing : List ℕ → Output
listing us = listing_of (lines_of_text us)
