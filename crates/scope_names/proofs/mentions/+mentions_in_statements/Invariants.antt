-- The measure of each function is the size of its tree; a loop has passed no tree that mentions the name.
use Rattle.std.proofs.Common.{◌≡◌, ◌≤◌, length}
use Rattle.js_tree.specs.Size.{statement_size, optional_statement_size, statements_size, branches_size, clauses_size, catch_size}
use Rattle.js_tree.specs.Tree.{statements_of}
use Rattle.js_tree.specs.View.{branches_of, clauses_of, optional_statement, optional_catch}
use Rattle.js_binding.specs.Names.{mentions_in_body, mentions_in_branches, mentions_in_clauses}
use Rattle.scope_names.proofs.mentions.+mentions_in_statements.Given as goal

abbrev pub decreases-in_statement : goal.decreases-in_statement
decreases-in_statement l = statement_size l.s.now

abbrev pub decreases-in_otherwise : goal.decreases-in_otherwise
decreases-in_otherwise l = optional_statement_size (optional_statement l.o.now)

abbrev pub decreases-in_catch : goal.decreases-in_catch
decreases-in_catch l = catch_size (optional_catch l.o.now)

abbrev pub decreases-mentions_in_body : goal.decreases-mentions_in_body
decreases-mentions_in_body l = statements_size (statements_of l.all.now)

abbrev pub invariant-mentions_in_body-loop-left : goal.invariant-mentions_in_body-loop-left
invariant-mentions_in_body-loop-left l = (statements_size (statements_of l.left) ≤ statements_size (statements_of l.all)) × (mentions_in_body l.x (statements_of l.left) ≡ mentions_in_body l.x (statements_of l.all))

abbrev pub decreases-mentions_in_body-loop-left : goal.decreases-mentions_in_body-loop-left
decreases-mentions_in_body-loop-left l = length l.left

abbrev pub decreases-in_branches : goal.decreases-in_branches
decreases-in_branches l = branches_size (branches_of l.all.now)

abbrev pub invariant-in_branches-loop-left : goal.invariant-in_branches-loop-left
invariant-in_branches-loop-left l = (branches_size (branches_of l.left) ≤ branches_size (branches_of l.all)) × (mentions_in_branches l.x (branches_of l.left) ≡ mentions_in_branches l.x (branches_of l.all))

abbrev pub decreases-in_branches-loop-left : goal.decreases-in_branches-loop-left
decreases-in_branches-loop-left l = length l.left

abbrev pub decreases-in_clauses : goal.decreases-in_clauses
decreases-in_clauses l = clauses_size (clauses_of l.all.now)

abbrev pub invariant-in_clauses-loop-left : goal.invariant-in_clauses-loop-left
invariant-in_clauses-loop-left l = (clauses_size (clauses_of l.left) ≤ clauses_size (clauses_of l.all)) × (mentions_in_clauses l.x (clauses_of l.left) ≡ mentions_in_clauses l.x (clauses_of l.all))

abbrev pub decreases-in_clauses-loop-left : goal.decreases-in_clauses-loop-left
decreases-in_clauses-loop-left l = length l.left
