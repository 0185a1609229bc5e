-- Each part, at each depth, and each run have one end and ask for lookup names alone, where the words of scopes do.
use Rattle.std.proofs.Common.{refl, ℕ, zero, suc, List, [], ◌∷◌, Option, Some, None}
use Rattle.js_tree.specs.Tree.{FunctionTree, StatementTree, Statements}
use Rattle.heap_values.specs.declared.ids.ObjectId.{ObjectId}
use Rattle.heap_values.specs.declared.value.Value.TheVariants as value
use Rattle.js_evaluation.specs.State.{global_object}
use Rattle.js_evaluation.specs.Scoping.{Scoping, by_slots}
use Rattle.js_evaluation.specs.Parts.{Part, expression_part, statement_part, call_part, construct_part, load_part, Within, expression_place, part_place, outside}
use Rattle.js_evaluation.specs.Evaluation.{node, evaluation, Entry, entry_in, called_for, script_run, outer_scope, run_by_names}
use Rattle.js_law_evaluation.specs.Laws.{AsksLookupNames, RunsAskLookupNames}
use Rattle.js_law_evaluation.proofs.OfState.{Ends, fails, reads, ◌then◌, charges-ends, test_text-ends}
use Rattle.js_law_evaluation.proofs.OfScoping.{WordsEnd, by_names-end, by_slots-end}
use Rattle.js_law_evaluation.proofs.OfParts.{WithinEnds}
use Rattle.js_law_evaluation.proofs.OfExpressions.{target_node-ends, expression_node-ends}
use Rattle.js_law_evaluation.proofs.OfStatements.{statement_node-ends}
use Rattle.js_law_evaluation.proofs.OfEntries.{call_node-ends, construct_node-ends, load_node-ends}
use Rattle.js_evaluation.specs.declared.limits.TheConstants.{MOST_OPEN}

module _ {scoping : Scoping} (words : WordsEnd scoping) (functions : List FunctionTree) where
  node-ends : {go : Within} → WithinEnds go → (part : Part) → Ends (node scoping functions go part)
  node-ends ends (expression_part cx e) = expression_node-ends words functions ends cx e
  node-ends ends (statement_part cx s) = statement_node-ends words functions ends cx s
  node-ends ends (call_part f this vs p) = call_node-ends words functions ends f this vs p
  node-ends ends (construct_part f vs p) = construct_node-ends words functions ends f vs p
  node-ends ends (load_part outer ss) = load_node-ends words functions ends outer ss outside

  pub evaluation-ends : (room : ℕ) → WithinEnds (evaluation scoping functions room)
  unfolding evaluation
  evaluation-ends zero = record {
    value = λ part. charges-ends 1 (part_place part) then fails _ (part_place part);
    reference = λ cx e. charges-ends 1 (expression_place e) then fails _ (expression_place e);
  }
  evaluation-ends (suc room) = record {
    value = λ part. charges-ends 1 (part_place part) then node-ends (evaluation-ends room) part;
    reference = λ cx e. charges-ends 1 (expression_place e) then target_node-ends words functions (evaluation-ends room) cx e;
  }

  -- ---- a run

  called_for-ends : (entry : Entry) (f : Option ObjectId) → Ends (called_for scoping functions entry f)
  called_for-ends entry None = fails _ outside
  called_for-ends entry (Some f) =
      test_text-ends entry.url outside then test_text-ends entry.host outside
      then (evaluation-ends MOST_OPEN).value (call_part f global_object (value.Text entry.url ∷ value.Text entry.host ∷ []) outside)

  pub runs-end : (entry : Entry) (ss : Statements) → Ends (script_run scoping functions entry ss)
  runs-end entry ss =
      (evaluation-ends MOST_OPEN).value (load_part outer_scope ss)
      then reads (λ m s. refl) (λ s. called_for-ends entry (entry_in s.heap))

pub tree_by-asks : {scoping : Scoping} → WordsEnd scoping → RunsAskLookupNames scoping
unfolding AsksLookupNames
tree_by-asks words ss functions entry = (runs-end words functions entry ss).asks _ (λ result state. tt) _

-- the run of a script by its names
pub asks-by-names : (script : List StatementTree) (entry : Entry) → AsksLookupNames (run_by_names script entry)
asks-by-names script entry = tree_by-asks by_names-end _ _ entry

-- the run of a program whose names have their slots
pub runs-ask : RunsAskLookupNames by_slots
runs-ask = tree_by-asks by_slots-end
