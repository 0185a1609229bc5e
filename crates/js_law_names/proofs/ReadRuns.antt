-- Each run by names is the run by slots of the resolved script, and so is that of each script that is read.
use Rattle.std.proofs.Common.{◌≡◌, ℕ, List, Ok, sym, ◌∙◌, ap}
use Rattle.js_tree.specs.Tree.{StatementTree}
use Rattle.js_grammar.specs.Statements.{script_of_text}
use Rattle.js_binding.specs.Resolved.{resolved}
use Rattle.js_evaluation.specs.Scoping.{by_names}
use Rattle.js_evaluation.specs.Evaluation.{Entry, tree_by, run_by_names, run_tree}
use Rattle.js_law_right.proofs.RightLaw.{resolved_is_right, resolved_is_numbered}
use Rattle.js_law_read.proofs.Anonymous.{reads_anonymous}
use Rattle.js_law_names.specs.Laws.{NamesAreSlots}
use Rattle.js_law_names.proofs.OfRuns.{runs-agree}

pub names_are_slots : NamesAreSlots
names_are_slots script entry anonymous =
    ap (λ program. tree_by by_names program.0 program.1 entry) (sym (resolved_is_numbered script))
    ∙ runs-agree (resolved script).0 (resolved script).1 (resolved_is_right script anonymous) entry

pub reads_by_names : (us : List ℕ) (script : List StatementTree) (entry : Entry) → script_of_text us ≡ Ok script
    → run_by_names script entry ≡ run_tree (resolved script).0 (resolved script).1 entry
reads_by_names us script entry read = names_are_slots script entry (reads_anonymous us script read)
