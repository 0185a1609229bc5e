-- Statements have one end and ask for lookup names alone, where the words of scopes and the parts within do.
use Rattle.std.proofs.Common.{refl, ℕ, zero, suc, List, [], ◌∷◌, true}
use Rattle.std.specs.Prelude.{length, map}
use Rattle.std.specs.Fmt.{decimal}
use Rattle.std.specs.List.{range_with_len}
use Rattle.js_tree.specs.declared.place.Place.{Place}
use Rattle.js_tree.specs.declared.bound.BoundName.{BoundName}
use Rattle.js_tree.specs.Tree.{ExpressionTree, OptionalExpression, absent, present, StatementTree, Block, Empty, Evaluate, Debugger, Var, If, DoWhile, While, For, ForIn, Continue, Break, Return, Throw, Switch, Try, Declare, DeclareNumbered, OptionalStatement, omitted, given, Statements, no_statement, a_statement, Declarations, no_declared, a_declared, Branches, no_branch, a_branch, StartTree, no_start, start_var, start_value, TargetTree, target_value, target_declared, Clauses, no_clause, a_clause, CatchTree, no_catch, a_catch, FunctionTree}
use Rattle.js_binding.specs.Scopes.{named}
use Rattle.heap_values.specs.declared.value.Value.{Value}
use Rattle.heap_values.specs.declared.value.Value.TheVariants as value
use Rattle.object_heap.specs.Heap.{found_of, keys_of}
use Rattle.js_convert.specs.Numeric.{truth_of}
use Rattle.js_convert.specs.Operators.{strictly_equal}
use Rattle.run_trees.specs.Runs.{turning}
use Rattle.js_evaluation.specs.declared.thrown.Thrown.{Thrown}
use Rattle.js_evaluation.specs.State.{Does}
use Rattle.js_evaluation.specs.Objects.{Context}
use Rattle.js_evaluation.specs.Scoping.{Scoping}
use Rattle.js_evaluation.specs.Parts.{expression_part, statement_part, Within, visit, execute}
use Rattle.js_evaluation.specs.Statements as def
use Rattle.js_evaluation.specs.Statements.{nothing, is_here}
use Rattle.js_law_evaluation.proofs.OfState.{Ends, gives, stops, fails, reads, ◌onto◌, ◌then◌, either, ends_with_last, catches, breaks, turns, charges-ends, write_slot-ends, spend-ends, throw-ends}
use Rattle.js_law_evaluation.proofs.OfScoping.{WordsEnd}
use Rattle.js_law_evaluation.proofs.OfParts.{WithinEnds}
use Rattle.js_law_evaluation.proofs.OfExpressions.{write-ends}

nothing-ends : Ends nothing
nothing-ends = gives value.Undefined

turns-ends : {body next : Does Value} → Ends body → Ends next → Ends (turning value.Undefined is_here body next)
turns-ends {body} {next} has has_next = turns value.Undefined is_here body next has has_next

-- ---- what visits no part

is_listed-ends : (v : Value) (name : List ℕ) → Ends (def.is_listed v name)
is_listed-ends (value.Object id) name = reads (λ m s. refl) (λ s. gives (def.is_found (found_of s.heap id name)))
is_listed-ends v name = gives true

listed_names-ends : (v : Value) → Ends (def.listed_names v)
listed_names-ends (value.Object id) = reads (λ m s. refl) (λ s. gives (keys_of s.heap id))
listed_names-ends (value.Text t) = gives (map decimal (range_with_len 0 (length t)))
listed_names-ends v = gives []

charged_names-ends : (p : Place) (names : List (List ℕ)) → Ends (def.charged_names p names)
charged_names-ends p [] = gives tt
charged_names-ends p (name ∷ names) = charges-ends 1 p then spend-ends name p then charged_names-ends p names

module _ {scoping : Scoping} (words : WordsEnd scoping) (functions : List FunctionTree)
    {go : Within} (ends : WithinEnds go) where
  -- ---- the parts within

  visit-ends : (cx : Context) (e : ExpressionTree) → Ends (visit go cx e)
  visit-ends cx e = ends.value (expression_part cx e)

  execute-ends : (cx : Context) (s : StatementTree) → Ends (execute go cx s)
  execute-ends cx s = ends.value (statement_part cx s)

  -- ---- blocks and variables

  pub statements_from-ends : (cx : Context) (ss : Statements) → Ends (def.statements_from scoping functions go cx ss)
  statements_from-ends cx no_statement = nothing-ends
  statements_from-ends cx (a_statement s ss) = execute-ends cx s then statements_from-ends cx ss

  declared-ends : (cx : Context) (p : Place) (x : BoundName) (o : OptionalExpression)
      → Ends (def.declared scoping functions go cx p x o)
  declared-ends cx p x absent = gives tt
  declared-ends cx p x (present e) = visit-ends cx e onto (λ v. words.write_name cx x v p)

  variables_from-ends : (cx : Context) (p : Place) (ds : Declarations)
      → Ends (def.variables_from scoping functions go cx p ds)
  variables_from-ends cx p no_declared = nothing-ends
  variables_from-ends cx p (a_declared x o ds) = declared-ends cx p x o then variables_from-ends cx p ds

  -- ---- `if`

  otherwise-ends : (cx : Context) (o : OptionalStatement) → Ends (def.otherwise scoping functions go cx o)
  otherwise-ends cx omitted = nothing-ends
  otherwise-ends cx (given s) = execute-ends cx s

  branches_from-ends : (cx : Context) (bs : Branches) (last : OptionalStatement)
      → Ends (def.branches_from scoping functions go cx bs last)
  branches_from-ends cx no_branch last = otherwise-ends cx last
  branches_from-ends cx (a_branch c s bs) last =
      visit-ends cx c onto (λ v. either (truth_of v) (execute-ends cx s) (branches_from-ends cx bs last))

  -- ---- loops

  while_turns-ends : (cx : Context) (n : ℕ) (p : Place) (c : ExpressionTree) (body : StatementTree)
      → Ends (def.while_turns scoping functions go cx n p c body)
  while_turns-ends cx zero p c body = fails _ p
  while_turns-ends cx (suc n) p c body =
      visit-ends cx c onto (λ v. either (truth_of v) (turns-ends (execute-ends cx body) (while_turns-ends cx n p c body)) nothing-ends)

  do_turns-ends : (cx : Context) (n : ℕ) (p : Place) (body : StatementTree) (c : ExpressionTree)
      → Ends (def.do_turns scoping functions go cx n p body c)
  do_turns-ends cx zero p body c = fails _ p
  do_turns-ends cx (suc n) p body c =
      turns-ends (execute-ends cx body) (visit-ends cx c onto (λ v. either (truth_of v) (do_turns-ends cx n p body c) nothing-ends))

  started-ends : (cx : Context) (start : StartTree) → Ends (def.started scoping functions go cx start)
  started-ends cx no_start = nothing-ends
  started-ends cx (start_var p ds) = execute-ends cx (Var p ds)
  started-ends cx (start_value e) = visit-ends cx e

  holds-ends : (cx : Context) (c : OptionalExpression) → Ends (def.holds scoping functions go cx c)
  holds-ends cx absent = gives (value.Bool true)
  holds-ends cx (present e) = visit-ends cx e

  evaluated_if-ends : (cx : Context) (step : OptionalExpression) → Ends (def.evaluated_if scoping functions go cx step)
  evaluated_if-ends cx absent = nothing-ends
  evaluated_if-ends cx (present e) = visit-ends cx e

  for_turns-ends : (cx : Context) (n : ℕ) (p : Place) (c step : OptionalExpression) (body : StatementTree)
      → Ends (def.for_turns scoping functions go cx n p c step body)
  for_turns-ends cx zero p c step body = fails _ p
  for_turns-ends cx (suc n) p c step body =
      holds-ends cx c onto (λ v. either (truth_of v)
      (turns-ends (execute-ends cx body) (evaluated_if-ends cx step then for_turns-ends cx n p c step body)) nothing-ends)

  for_loop-ends : (cx : Context) (p : Place) (start : StartTree) (c step : OptionalExpression) (body : StatementTree)
      → Ends (def.for_loop scoping functions go cx p start c step body)
  for_loop-ends cx p start c step body = started-ends cx start then reads (λ m s. refl) (λ s. for_turns-ends cx (suc s.fuel) p c step body)

  -- ---- `for`-`in`

  named_by-ends : (cx : Context) (p : Place) (target : TargetTree) (name : List ℕ)
      → Ends (def.named_by scoping functions go cx p target name)
  named_by-ends cx p (target_value e) name = ends.reference cx e onto (λ r. write-ends words cx r (value.Text name) p)
  named_by-ends cx p (target_declared x o) name = words.write_name cx x (value.Text name) p

  names_from-ends : (cx : Context) (p : Place) (target : TargetTree) (body : StatementTree) (object : Value) (names : List (List ℕ))
      → Ends (def.names_from scoping functions go cx p target body object names)
  names_from-ends cx p target body object [] = nothing-ends
  names_from-ends cx p target body object (name ∷ names) =
      is_listed-ends object name onto (λ there. either there
      (named_by-ends cx p target name then turns-ends (execute-ends cx body) (names_from-ends cx p target body object names))
      (names_from-ends cx p target body object names))

  first_of-ends : (cx : Context) (p : Place) (target : TargetTree) → Ends (def.first_of scoping functions go cx p target)
  first_of-ends cx p (target_value e) = gives tt
  first_of-ends cx p (target_declared x o) = declared-ends cx p x o

  for_in_loop-ends : (cx : Context) (p : Place) (target : TargetTree) (e : ExpressionTree) (body : StatementTree)
      → Ends (def.for_in_loop scoping functions go cx p target e body)
  for_in_loop-ends cx p target e body =
      first_of-ends cx p target then visit-ends cx e onto (λ object. listed_names-ends object onto (λ names.
      charged_names-ends p names then names_from-ends cx p target body object names))

  -- ---- `return` and `switch`

  returned-ends : (cx : Context) (o : OptionalExpression) → Ends (def.returned scoping functions go cx o)
  returned-ends cx absent = stops _
  returned-ends cx (present e) = visit-ends cx e onto (λ v. stops _)

  clauses_from-ends : (cx : Context) (cs : Clauses) → Ends (def.clauses_from scoping functions go cx cs)
  clauses_from-ends cx no_clause = nothing-ends
  clauses_from-ends cx (a_clause test ss rest) = statements_from-ends cx ss then clauses_from-ends cx rest

  from_default-ends : (cx : Context) (cs : Clauses) → Ends (def.from_default scoping functions go cx cs)
  from_default-ends cx no_clause = nothing-ends
  from_default-ends cx (a_clause absent ss rest) = clauses_from-ends cx (a_clause absent ss rest)
  from_default-ends cx (a_clause (present e) ss rest) = from_default-ends cx rest

  from_match-ends : (cx : Context) (v : Value) (all cs : Clauses) → Ends (def.from_match scoping functions go cx v all cs)
  from_match-ends cx v all no_clause = from_default-ends cx all
  from_match-ends cx v all (a_clause absent ss rest) = from_match-ends cx v all rest
  from_match-ends cx v all (a_clause (present e) ss rest) =
      visit-ends cx e onto (λ w. either (strictly_equal v w)
      (statements_from-ends cx ss then clauses_from-ends cx rest) (from_match-ends cx v all rest))

  switched-ends : (cx : Context) (e : ExpressionTree) (cs : Clauses) → Ends (def.switched scoping functions go cx e cs)
  switched-ends cx e cs = visit-ends cx e onto (λ v. breaks value.Undefined is_here _ (from_match-ends cx v cs cs))

  -- ---- `try`

  handled-ends : (cx : Context) (p : Place) (x : BoundName) (block : StatementTree) (thrown : Thrown)
      → Ends (def.handled scoping functions go cx p x block thrown)
  handled-ends cx p x block thrown =
      words.make_scope (named (x.name ∷ [])) cx.scope p onto (λ scope. write_slot-ends scope 0 thrown.value
      then execute-ends (record { scope = scope; this = cx.this }) block)

  -- the block with its handler, and with the last block
  guarded-ends : (cx : Context) (p : Place) (block : StatementTree) (handler : CatchTree)
      → Ends (λ after. execute go cx block (def.after_block scoping functions go cx p handler after))
  guarded-ends cx p block no_catch = execute-ends cx block
  guarded-ends cx p block (a_catch x inner) =
      catches (execute go cx block) (def.handled scoping functions go cx p x inner) (execute-ends cx block) (handled-ends cx p x inner)

  tried-ends : (cx : Context) (p : Place) (block : StatementTree) (handler : CatchTree) (last : OptionalStatement)
      → Ends (def.tried scoping functions go cx p block handler last)
  tried-ends cx p block handler omitted = guarded-ends cx p block handler
  tried-ends cx p block handler (given last) =
      ends_with_last (λ after. execute go cx block (def.after_block scoping functions go cx p handler after)) (execute go cx last)
      (guarded-ends cx p block handler) (execute-ends cx last)

  -- ---- all of them

  pub statement_node-ends : (cx : Context) (s : StatementTree) → Ends (def.statement_node scoping functions go cx s)
  unfolding def.statement_node
  statement_node-ends cx (Block p ss) = statements_from-ends cx ss
  statement_node-ends cx (Empty p) = nothing-ends
  statement_node-ends cx (Evaluate p e) = visit-ends cx e then nothing-ends
  statement_node-ends cx (Debugger p) = nothing-ends
  statement_node-ends cx (Var p ds) = variables_from-ends cx p ds
  statement_node-ends cx (If p bs last) = branches_from-ends cx bs last
  statement_node-ends cx (DoWhile p s c) = reads (λ m t. refl) (λ t. do_turns-ends cx (suc t.fuel) p s c)
  statement_node-ends cx (While p c s) = reads (λ m t. refl) (λ t. while_turns-ends cx (suc t.fuel) p c s)
  statement_node-ends cx (For p start c step s) = for_loop-ends cx p start c step s
  statement_node-ends cx (ForIn p target e s) = for_in_loop-ends cx p target e s
  statement_node-ends cx (Continue p) = stops _
  statement_node-ends cx (Break p) = stops _
  statement_node-ends cx (Return p o) = returned-ends cx o
  statement_node-ends cx (Throw p e) = visit-ends cx e onto (λ v. throw-ends v p)
  statement_node-ends cx (Switch p e cs) = switched-ends cx e cs
  statement_node-ends cx (Try p block handler last) = tried-ends cx p block handler last
  statement_node-ends cx (Declare p x f) = nothing-ends
  statement_node-ends cx (DeclareNumbered p x n) = nothing-ends
