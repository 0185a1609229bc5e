-- The measure of each function is the size of its tree; a loop has added the sites of what it passed.
use Rattle.std.proofs.Common.{◌≡◌, ◌≤◌, ◌++◌, length}
use Rattle.std.specs.Option.{option_copied}
use Rattle.js_tree.specs.Size.{statement_size, optional_statement_size, statements_size, branches_size, clauses_size, catch_size}
use Rattle.js_tree.specs.Tree.{statements_of}
use Rattle.js_tree.specs.View.{branches_of, clauses_of, optional_statement, optional_catch}
use Rattle.js_sites.specs.Sites.{statements_sites, branches_sites, clauses_sites}
use Rattle.js_sites.proofs.statements.+statements.Given as goal

abbrev pub decreases-add_statement : goal.decreases-add_statement
decreases-add_statement l = statement_size l.s.now

abbrev pub decreases-add_otherwise : goal.decreases-add_otherwise
decreases-add_otherwise l = optional_statement_size (optional_statement l.o.now)

abbrev pub decreases-add_catch : goal.decreases-add_catch
decreases-add_catch l = catch_size (optional_catch l.o.now)

abbrev pub decreases-add_statements : goal.decreases-add_statements
decreases-add_statements l = statements_size (statements_of l.all.now)

abbrev pub invariant-add_statements-loop-left : goal.invariant-add_statements-loop-left
invariant-add_statements-loop-left l = (statements_size (statements_of l.left) ≤ statements_size (statements_of l.all)) × (l.found ++ statements_sites (statements_of l.left) ≡ l.initial.found ++ statements_sites (statements_of l.all))

abbrev pub decreases-add_statements-loop-left : goal.decreases-add_statements-loop-left
decreases-add_statements-loop-left l = length l.left

abbrev pub decreases-add_branches : goal.decreases-add_branches
decreases-add_branches l = branches_size (branches_of l.all.now)

abbrev pub invariant-add_branches-loop-left : goal.invariant-add_branches-loop-left
invariant-add_branches-loop-left l = (branches_size (branches_of l.left) ≤ branches_size (branches_of l.all)) × (l.found ++ branches_sites (branches_of l.left) ≡ l.initial.found ++ branches_sites (branches_of l.all))

abbrev pub decreases-add_branches-loop-left : goal.decreases-add_branches-loop-left
decreases-add_branches-loop-left l = length l.left

abbrev pub decreases-add_clauses : goal.decreases-add_clauses
decreases-add_clauses l = clauses_size (clauses_of l.all.now)

abbrev pub invariant-add_clauses-loop-left : goal.invariant-add_clauses-loop-left
invariant-add_clauses-loop-left l = (clauses_size (clauses_of l.left) ≤ clauses_size (clauses_of l.all)) × (l.found ++ clauses_sites (option_copied l.leading) (clauses_of l.left) ≡ l.initial.found ++ clauses_sites (option_copied l.leading) (clauses_of l.all))

abbrev pub decreases-add_clauses-loop-left : goal.decreases-add_clauses-loop-left
decreases-add_clauses-loop-left l = length l.left
