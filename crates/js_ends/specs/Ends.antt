-- The ways in which statements may end (ECMA-262 5.1, section 12), by their form alone: a way is listed unless the form
-- rules it out. Of conditions, literals that are always true count; of `try`, each part counts as reached.
use Rattle.std.specs.Prelude.{pos, Bool, true, false, ◌&&◌, ◌||◌, not, if◌then◌else◌}
use Rattle.std.specs.Ordering.{int_eq}
use Rattle.js_ends.specs.declared.ends.Ends.{Ends}
use Rattle.js_ends.specs.Ways.{no_end, completion, breaking, continuing, returning, either, followed_by, into, loop_of, switch_of}
use Rattle.js_tree.specs.Tree.{ExpressionTree, Number, True, OptionalExpression, absent, present, StatementTree, Block, Empty, Evaluate, Debugger, Var, If, DoWhile, While, For, ForIn, Continue, Break, Return, Throw, Switch, Try, Declare, DeclareNumbered, OptionalStatement, omitted, given, Statements, no_statement, a_statement, Branches, no_branch, a_branch, Clauses, no_clause, a_clause, CatchTree, no_catch, a_catch}

-- whether a condition holds by its form: `true`, or a number that isn't 0 (9.2)
abbrev pub always_holds : ExpressionTree → Bool
always_holds (True p) = true
always_holds (Number p n) = not (int_eq n (pos 0))
always_holds e = false

-- whether that of a `for` does, which may be missing (12.6.3)
abbrev pub always_goes_on : OptionalExpression → Bool
always_goes_on absent = true
always_goes_on (present e) = always_holds e

-- `return` without a value, or with one (12.9)
abbrev pub ends_of_return : OptionalExpression → Ends
ends_of_return absent = returning false
ends_of_return (present e) = returning true

-- `do`-`while` tests its condition where the body completes or continues (12.6.1)
abbrev pub ends_of_do : Ends → Bool → Ends
ends_of_do body always = loop_of (not always && (body.completes || body.continues)) body

-- whether one of the clauses is `default` (12.11)
abbrev pub has_default : Clauses → Bool
has_default no_clause = false
has_default (a_clause absent ss cs) = true
has_default (a_clause (present e) ss cs) = has_default cs

-- a `switch` in which no test holds goes to its `default`, or is done
abbrev pub ends_of_no_match : Clauses → Ends
ends_of_no_match cs = if has_default cs then no_end else completion

abbrev mutual
  pub ends_of_statement : StatementTree → Ends
  ends_of_statement (Block p ss) = ends_of_statements ss
  ends_of_statement (Empty p) = completion
  ends_of_statement (Evaluate p e) = completion
  ends_of_statement (Debugger p) = completion
  ends_of_statement (Var p ds) = completion
  ends_of_statement (If p bs o) = either (ends_of_branches bs) (ends_of_otherwise o)
  ends_of_statement (DoWhile p s e) = ends_of_do (ends_of_statement s) (always_holds e)
  ends_of_statement (While p e s) = loop_of (not (always_holds e)) (ends_of_statement s)
  ends_of_statement (For p a e d s) = loop_of (not (always_goes_on e)) (ends_of_statement s)
  ends_of_statement (ForIn p t e s) = loop_of true (ends_of_statement s)
  ends_of_statement (Continue p) = continuing
  ends_of_statement (Break p) = breaking
  ends_of_statement (Return p o) = ends_of_return o
  ends_of_statement (Throw p e) = no_end
  ends_of_statement (Switch p e cs) = switch_of (either (ends_of_clauses completion cs) (ends_of_no_match cs))
  ends_of_statement (Try p s c o) = followed_by (ends_of_otherwise o) (either (ends_of_statement s) (ends_of_handler c))
  ends_of_statement (Declare p x f) = completion
  ends_of_statement (DeclareNumbered p x n) = completion

  pub ends_of_statements : Statements → Ends
  ends_of_statements no_statement = completion
  ends_of_statements (a_statement s ss) = followed_by (ends_of_statement s) (ends_of_statements ss)

  -- where nothing stands, nothing is done: behind `else`, and behind `finally`, whose ends come before all others (12.14)
  pub ends_of_otherwise : OptionalStatement → Ends
  ends_of_otherwise omitted = completion
  ends_of_otherwise (given s) = ends_of_statement s

  pub ends_of_branches : Branches → Ends
  ends_of_branches no_branch = no_end
  ends_of_branches (a_branch e s bs) = either (ends_of_statement s) (ends_of_branches bs)

  -- the clauses behind a part that ends so: each is entered from the one before it, or by its own test
  pub ends_of_clauses : Ends → Clauses → Ends
  ends_of_clauses before no_clause = before
  ends_of_clauses before (a_clause o ss cs) = ends_of_clauses (into before (ends_of_statements ss)) cs

  pub ends_of_handler : CatchTree → Ends
  ends_of_handler no_catch = no_end
  ends_of_handler (a_catch x s) = ends_of_statement s
