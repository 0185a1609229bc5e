-- A run by slots is the run by names.
use Rattle.std.specs.Prelude.{◌≡◌, ℕ, List, Ok}
use Rattle.js_tree.specs.Tree.{StatementTree}
use Rattle.js_grammar.specs.Statements.{script_of_text}
use Rattle.js_binding.specs.Resolved.{resolved}
use Rattle.js_evaluation.specs.Evaluation.{Entry, run_by_names, run_tree}
use Rattle.js_law_right.specs.Anonymous.{DeclaredAreAnonymous}

-- The run of a script by its names is the run of the resolved script, in which each name has its slot. They are one
-- tree: they ask and tell the same, in the same order, and with the same replies they end in the same way. Where they
-- come to an end with a state, its heap and fuel are the same; a fault is the same fault, and has no state. The law
-- can't show a mistake that stands in both runs: in the rules themselves, or in the names of a function's scope
-- (`names_of` of js_binding). Those are shown by the worked runs, and by a reader beside the standard.
abbrev pub NamesAreSlots : Type 0
NamesAreSlots = (script : List StatementTree) (entry : Entry) → DeclaredAreAnonymous script
    → run_by_names script entry ≡ run_tree (resolved script).0 (resolved script).1 entry

-- So is the run of each script that is read.
abbrev pub ReadsRunByNames : Type 0
ReadsRunByNames = (us : List ℕ) (script : List StatementTree) (entry : Entry) → script_of_text us ≡ Ok script
    → run_by_names script entry ≡ run_tree (resolved script).0 (resolved script).1 entry
