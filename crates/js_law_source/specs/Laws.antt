-- The laws that a script that was read is its own source, once it is resolved and with its functions by number.
use Rattle.std.specs.Prelude.{◌≡◌, ℕ, List, Ok}
use Rattle.js_tree.specs.Tree.{StatementTree, statements_of}
use Rattle.js_grammar.specs.Statements.{script_of_text}
use Rattle.js_binding.specs.Numbered.{numbered_script}
use Rattle.js_binding.specs.Resolved.{resolved}
use Rattle.js_binding.specs.Source.{source_of}

-- Each function back in place of its number, and bounds and names dropped, it is the script that the text spells.
abbrev pub SourcesOfScriptsRead : Type 0
SourcesOfScriptsRead =
    (us : List ℕ) (script : List StatementTree) → script_of_text us ≡ Ok script → source_of (resolved script) ≡ statements_of script

-- So is the script with its functions by number, which a run by names takes.
abbrev pub SourcesOfNumberedScripts : Type 0
SourcesOfNumberedScripts =
    (us : List ℕ) (script : List StatementTree) → script_of_text us ≡ Ok script → source_of (numbered_script script) ≡ statements_of script
