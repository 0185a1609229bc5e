-- The measure of each function is the size of its tree; what a loop passed and what is left are the whole row.
use Rattle.std.proofs.Common.{◌≡◌, ◌≤◌, length}
use Rattle.js_tree.specs.Size.{statement_size, optional_statement_size, statements_size, branches_size, clauses_size, catch_size}
use Rattle.js_tree.specs.Tree.{statements_of}
use Rattle.js_tree.specs.View.{branches_of, clauses_of, optional_statement, optional_catch}
use Rattle.js_ends.specs.Ways.{completion, either, followed_by}
use Rattle.js_ends.specs.Ends.{ends_of_statements, ends_of_branches, ends_of_clauses}
use Rattle.js_ends.proofs.statements.+ends_of.Given as goal

abbrev pub decreases-of_statement : goal.decreases-of_statement
decreases-of_statement l = statement_size l.s.now

abbrev pub decreases-of_otherwise : goal.decreases-of_otherwise
decreases-of_otherwise l = optional_statement_size (optional_statement l.o.now)

abbrev pub decreases-of_catch : goal.decreases-of_catch
decreases-of_catch l = catch_size (optional_catch l.o.now)

abbrev pub decreases-ends_of : goal.decreases-ends_of
decreases-ends_of l = statements_size (statements_of l.body.now)

abbrev pub invariant-ends_of-loop-left : goal.invariant-ends_of-loop-left
invariant-ends_of-loop-left l = (statements_size (statements_of l.left) ≤ statements_size (statements_of l.body)) × (followed_by l.ends (ends_of_statements (statements_of l.left)) ≡ ends_of_statements (statements_of l.body))

abbrev pub decreases-ends_of-loop-left : goal.decreases-ends_of-loop-left
decreases-ends_of-loop-left l = length l.left

abbrev pub decreases-of_branches : goal.decreases-of_branches
decreases-of_branches l = branches_size (branches_of l.all.now)

abbrev pub invariant-of_branches-loop-left : goal.invariant-of_branches-loop-left
invariant-of_branches-loop-left l = (branches_size (branches_of l.left) ≤ branches_size (branches_of l.all)) × (either l.ends (ends_of_branches (branches_of l.left)) ≡ ends_of_branches (branches_of l.all))

abbrev pub decreases-of_branches-loop-left : goal.decreases-of_branches-loop-left
decreases-of_branches-loop-left l = length l.left

abbrev pub decreases-of_clauses : goal.decreases-of_clauses
decreases-of_clauses l = clauses_size (clauses_of l.all.now)

abbrev pub invariant-of_clauses-loop-left : goal.invariant-of_clauses-loop-left
invariant-of_clauses-loop-left l = (clauses_size (clauses_of l.left) ≤ clauses_size (clauses_of l.all)) × (ends_of_clauses l.ends (clauses_of l.left) ≡ ends_of_clauses completion (clauses_of l.all))

abbrev pub decreases-of_clauses-loop-left : goal.decreases-of_clauses-loop-left
decreases-of_clauses-loop-left l = length l.left
