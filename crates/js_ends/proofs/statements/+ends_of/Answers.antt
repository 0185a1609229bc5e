use Rattle.std.proofs.Common.{arith}
use Rattle.js_tree.specs.Tree.{statements_of}
use Rattle.js_tree.specs.View.{branches_of}
use Rattle.js_ends.specs.Ends.{ends_of_statements, ends_of_branches}
use Rattle.js_ends.proofs.Rows.{nothing_before, nothing_or, smaller_statements, smaller_branches, statement_passed, branch_passed, statements_done, branches_done}
use Rattle.js_ends.proofs.statements.+ends_of.Goals as goal

pub ends_of-loop-left-init : goal.ends_of-loop-left-init
ends_of-loop-left-init t c = (omega arith, rw c.completion-ends.ensures (nothing_before (ends_of_statements (statements_of c.args.body.now))))

pub ends_of-loop-left-preserved : goal.ends_of-loop-left-preserved
ends_of-loop-left-preserved t c = (
  smaller_statements c.loop-left.left.now _ c.in-len1-up.len_at_least c.loop-left.invariant.0,
  statement_passed c.loop-left.ends c.of_statement.result c.followed_by-ends.result _ c.one-item.result c.loop-left.left.now c.one-item.is c.in-len1-up.len_at_least c.of_statement.ensures c.followed_by-ends.ensures c.loop-left.invariant.1,
)

pub ends_of-returns : goal.ends_of-returns
ends_of-returns t c = statements_done c.loop-left.ends _ c.loop-left.left.now c.in_default.len_below c.loop-left.invariant.1

pub of_branches-loop-left-init : goal.of_branches-loop-left-init
of_branches-loop-left-init t c = (omega arith, rw c.none-ends.ensures (nothing_or (ends_of_branches (branches_of c.args.all.now))))

pub of_branches-loop-left-preserved : goal.of_branches-loop-left-preserved
of_branches-loop-left-preserved t c = (
  smaller_branches c.loop-left.left.now _ c.in-len1-up.len_at_least c.loop-left.invariant.0,
  branch_passed c.loop-left.ends c.of_statement.result c.either-ends.result _ c.one-item.result c.loop-left.left.now c.one-item.is c.in-len1-up.len_at_least c.of_statement.ensures c.either-ends.ensures c.loop-left.invariant.1,
)

pub of_branches-returns : goal.of_branches-returns
of_branches-returns t c = branches_done c.loop-left.ends _ c.loop-left.left.now c.in_default.len_below c.loop-left.invariant.1
