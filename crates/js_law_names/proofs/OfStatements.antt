-- Statements, where the parts that they visit and execute agree.
use Rattle.std.proofs.Common.{refl, ℕ, zero, suc, List, [], ◌∷◌, true}
use Rattle.std.specs.Prelude.{length, map}
use Rattle.std.specs.Fmt.{decimal}
use Rattle.std.specs.List.{range_with_len}
use Rattle.js_tree.specs.declared.place.Place.{Place}
use Rattle.js_tree.specs.declared.bound.BoundName.{BoundName}
use Rattle.js_tree.specs.Tree.{ExpressionTree, OptionalExpression, absent, present, FunctionTree, StatementTree, Block, Empty, Evaluate, Debugger, Var, If, DoWhile, While, For, ForIn, Continue, Break, Return, Throw, Switch, Try, Declare, DeclareNumbered, OptionalStatement, omitted, given, Statements, no_statement, a_statement, Declarations, no_declared, a_declared, Branches, no_branch, a_branch, StartTree, no_start, start_var, start_value, TargetTree, target_value, target_declared, Clauses, no_clause, a_clause, CatchTree, no_catch, a_catch}
use Rattle.js_binding.specs.Scopes.{Scope, named}
use Rattle.js_binding.specs.Source.{unbound}
use Rattle.heap_values.specs.declared.value.Value.{Value}
use Rattle.heap_values.specs.declared.value.Value.TheVariants as value
use Rattle.object_heap.specs.Heap.{found_of, keys_of}
use Rattle.js_convert.specs.Numeric.{truth_of}
use Rattle.js_convert.specs.Operators.{strictly_equal}
use Rattle.js_evaluation.specs.declared.thrown.Thrown.{Thrown}
use Rattle.js_evaluation.specs.State.{RunState}
use Rattle.js_evaluation.specs.Objects.{Context}
use Rattle.js_evaluation.specs.Scoping.{by_names, by_slots}
use Rattle.js_evaluation.specs.Parts.{expression_part, statement_part, Within, visit, execute}
use Rattle.js_evaluation.specs.Statements as def
use Rattle.js_evaluation.specs.Statements.{is_here, is_found}
use Rattle.js_law_right.specs.EachIn.{EachInExpression, EachInOptional, EachInStatement, EachInOtherwise, EachInStatements, EachInDeclarations, EachInBranches, EachInStart, EachInTarget, EachInClauses, EachInHandler}
use Rattle.js_law_right.specs.Right.{Setting, NameRight, right}
use Rattle.js_law_right.specs.Unbound.{expression_unbound, optional_unbound, statement_unbound, otherwise_unbound, statements_unbound, declarations_unbound, branches_unbound, start_unbound, target_unbound, clauses_unbound, handler_unbound}
use Rattle.js_law_names.proofs.Worlds.{Shape}
use Rattle.js_law_names.proofs.Agreeing.{Agrees, gives, stops, fails, sees, later, ◌onto◌, ◌then◌, either, lasts, catches, breaks, turns_on}
use Rattle.js_law_names.proofs.OfState.{charges-agrees, write_slot-agrees, spend-agrees, throw-agrees}
use Rattle.js_law_names.proofs.OfNames.{writes_name, in_new_scope}
use Rattle.js_law_names.proofs.OfReferences.{write-agrees, ◌onto_reference◌}
use Rattle.js_law_names.proofs.OfParts.{bare, WithinAgrees}

module _ {setting : ℕ → Setting} (functions : List FunctionTree) (go go' : Within) (agrees : WithinAgrees setting go go')
    (z : RunState) (cx : Context) (xs : List Scope) (shape : Shape z.names z.heap.scopes cx.scope xs) where
  visits : (e : ExpressionTree) → EachInExpression (right setting) xs e
      → Agrees setting z (visit go cx (expression_unbound e)) (visit go' cx e)
  visits e r = agrees.value z (expression_part cx e) (xs, shape, r)

  executes : (s : StatementTree) → EachInStatement (right setting) xs s
      → Agrees setting z (execute go cx (statement_unbound s)) (execute go' cx s)
  executes s r = agrees.value z (statement_part cx s) (xs, shape, r)

  nothing_comes : Agrees setting z def.nothing def.nothing
  nothing_comes = gives value.Undefined

  -- ---- blocks and variables

  pub statements_from-agrees : (ss : Statements) → EachInStatements (right setting) xs ss
      → Agrees setting z (def.statements_from by_names (bare functions) go cx (statements_unbound ss))
      (def.statements_from by_slots functions go' cx ss)
  statements_from-agrees no_statement r = nothing_comes
  statements_from-agrees (a_statement s ss) r = executes s r.0 then statements_from-agrees ss r.1

  declared-agrees : (p : Place) (x : BoundName) (o : OptionalExpression) → NameRight xs x
      → EachInOptional (right setting) xs o
      → Agrees setting z (def.declared by_names (bare functions) go cx p (unbound x) (optional_unbound o))
      (def.declared by_slots functions go' cx p x o)
  declared-agrees p x absent q r = gives tt
  declared-agrees p x (present e) q r = visits e r onto (λ v. writes_name cx xs x p shape q v)

  variables_from-agrees : (p : Place) (ds : Declarations) → EachInDeclarations (right setting) xs ds
      → Agrees setting z (def.variables_from by_names (bare functions) go cx p (declarations_unbound ds))
      (def.variables_from by_slots functions go' cx p ds)
  variables_from-agrees p no_declared r = nothing_comes
  variables_from-agrees p (a_declared x o ds) r = declared-agrees p x o r.0 r.1 then variables_from-agrees p ds r.2

  -- ---- `if`

  otherwise-agrees : (o : OptionalStatement) → EachInOtherwise (right setting) xs o
      → Agrees setting z (def.otherwise by_names (bare functions) go cx (otherwise_unbound o))
      (def.otherwise by_slots functions go' cx o)
  otherwise-agrees omitted r = nothing_comes
  otherwise-agrees (given s) r = executes s r

  branches_from-agrees : (bs : Branches) (last : OptionalStatement) → EachInBranches (right setting) xs bs
      → EachInOtherwise (right setting) xs last
      → Agrees setting z (def.branches_from by_names (bare functions) go cx (branches_unbound bs) (otherwise_unbound last))
      (def.branches_from by_slots functions go' cx bs last)
  branches_from-agrees no_branch last r q = otherwise-agrees last q
  branches_from-agrees (a_branch c s bs) last r q =
      visits c r.0 onto (λ v. either (truth_of v) (executes s r.1) (branches_from-agrees bs last r.2 q))

  -- ---- loops

  while_turns-agrees : (n : ℕ) (p : Place) (c : ExpressionTree) (body : StatementTree)
      → EachInExpression (right setting) xs c → EachInStatement (right setting) xs body
      → Agrees setting z (def.while_turns by_names (bare functions) go cx n p (expression_unbound c) (statement_unbound body))
      (def.while_turns by_slots functions go' cx n p c body)
  while_turns-agrees zero p c body r q = fails _ p
  while_turns-agrees (suc n) p c body r q =
      visits c r onto (λ v. either (truth_of v) (turns_on value.Undefined is_here (executes body q) (while_turns-agrees n p c body r q)) nothing_comes)

  do_turns-agrees : (n : ℕ) (p : Place) (body : StatementTree) (c : ExpressionTree) → EachInStatement (right setting) xs body
      → EachInExpression (right setting) xs c
      → Agrees setting z (def.do_turns by_names (bare functions) go cx n p (statement_unbound body) (expression_unbound c))
      (def.do_turns by_slots functions go' cx n p body c)
  do_turns-agrees zero p body c r q = fails _ p
  do_turns-agrees (suc n) p body c r q =
      turns_on value.Undefined is_here (executes body r) (visits c q onto (λ v. either (truth_of v) (do_turns-agrees n p body c r q) nothing_comes))

  started-agrees : (start : StartTree) → EachInStart (right setting) xs start
      → Agrees setting z (def.started by_names (bare functions) go cx (start_unbound start))
      (def.started by_slots functions go' cx start)
  started-agrees no_start r = nothing_comes
  started-agrees (start_var p ds) r = executes (Var p ds) r
  started-agrees (start_value e) r = visits e r

  holds-agrees : (c : OptionalExpression) → EachInOptional (right setting) xs c
      → Agrees setting z (def.holds by_names (bare functions) go cx (optional_unbound c))
      (def.holds by_slots functions go' cx c)
  holds-agrees absent r = gives (value.Bool true)
  holds-agrees (present e) r = visits e r

  evaluated_if-agrees : (step : OptionalExpression) → EachInOptional (right setting) xs step
      → Agrees setting z (def.evaluated_if by_names (bare functions) go cx (optional_unbound step))
      (def.evaluated_if by_slots functions go' cx step)
  evaluated_if-agrees absent r = nothing_comes
  evaluated_if-agrees (present e) r = visits e r

  for_turns-agrees : (n : ℕ) (p : Place) (c step : OptionalExpression) (body : StatementTree)
      → EachInOptional (right setting) xs c → EachInOptional (right setting) xs step
      → EachInStatement (right setting) xs body
      → Agrees setting z (def.for_turns by_names (bare functions) go cx n p (optional_unbound c) (optional_unbound step) (statement_unbound body))
      (def.for_turns by_slots functions go' cx n p c step body)
  for_turns-agrees zero p c step body r q s = fails _ p
  for_turns-agrees (suc n) p c step body r q s = holds-agrees c r onto (λ v. either (truth_of v)
      (turns_on value.Undefined is_here (executes body s) (evaluated_if-agrees step q then for_turns-agrees n p c step body r q s)) nothing_comes)

  for_loop-agrees : (p : Place) (start : StartTree) (c step : OptionalExpression) (body : StatementTree)
      → EachInStart (right setting) xs start
      → EachInOptional (right setting) xs c → EachInOptional (right setting) xs step
      → EachInStatement (right setting) xs body
      → Agrees setting z (def.for_loop by_names (bare functions) go cx p (start_unbound start) (optional_unbound c) (optional_unbound step) (statement_unbound body))
      (def.for_loop by_slots functions go' cx p start c step body)
  for_loop-agrees p start c step body a r q s =
      started-agrees start a then sees (λ u l _f. later z u l (for_turns-agrees (suc u.fuel) p c step body r q s)) (λ u. refl)

  -- ---- `for`-`in`

  named_by-agrees : (p : Place) (target : TargetTree) (name : List ℕ) → EachInTarget (right setting) xs target
      → Agrees setting z (def.named_by by_names (bare functions) go cx p (target_unbound target) name)
      (def.named_by by_slots functions go' cx p target name)
  named_by-agrees p (target_value e) name r =
      agrees.reference z cx xs shape e r onto_reference (λ x y same. write-agrees z cx xs shape same (value.Text name) p)
  named_by-agrees p (target_declared x o) name r = writes_name cx xs x p shape r.0 (value.Text name)

  is_listed-agrees : (v : Value) (name : List ℕ) → Agrees setting z (def.is_listed v name) (def.is_listed v name)
  is_listed-agrees (value.Object id) name = sees (λ u l _f. gives (is_found (found_of u.heap id name))) (λ u. refl)
  is_listed-agrees v name = gives true

  names_from-agrees : (p : Place) (target : TargetTree) (body : StatementTree) (object : Value) (names : List (List ℕ))
      → EachInTarget (right setting) xs target → EachInStatement (right setting) xs body
      → Agrees setting z (def.names_from by_names (bare functions) go cx p (target_unbound target) (statement_unbound body) object names)
      (def.names_from by_slots functions go' cx p target body object names)
  names_from-agrees p target body object [] r q = nothing_comes
  names_from-agrees p target body object (name ∷ names) r q = is_listed-agrees object name onto (λ there. either there
      (named_by-agrees p target name r then turns_on value.Undefined is_here (executes body q) (names_from-agrees p target body object names r q))
      (names_from-agrees p target body object names r q))

  listed_names-agrees : (v : Value) → Agrees setting z (def.listed_names v) (def.listed_names v)
  listed_names-agrees (value.Object id) = sees (λ u l _f. gives (keys_of u.heap id)) (λ u. refl)
  listed_names-agrees (value.Text t) = gives (map decimal (range_with_len 0 (length t)))
  listed_names-agrees v = gives []

  charged_names-agrees : (p : Place) (names : List (List ℕ))
      → Agrees setting z (def.charged_names p names) (def.charged_names p names)
  charged_names-agrees p [] = gives tt
  charged_names-agrees p (name ∷ names) = charges-agrees 1 p then spend-agrees name p then charged_names-agrees p names

  first_of-agrees : (p : Place) (target : TargetTree) → EachInTarget (right setting) xs target
      → Agrees setting z (def.first_of by_names (bare functions) go cx p (target_unbound target))
      (def.first_of by_slots functions go' cx p target)
  first_of-agrees p (target_value e) r = gives tt
  first_of-agrees p (target_declared x o) r = declared-agrees p x o r.0 r.1

  for_in_loop-agrees : (p : Place) (target : TargetTree) (e : ExpressionTree) (body : StatementTree)
      → EachInTarget (right setting) xs target → EachInExpression (right setting) xs e
      → EachInStatement (right setting) xs body
      → Agrees setting z (def.for_in_loop by_names (bare functions) go cx p (target_unbound target) (expression_unbound e) (statement_unbound body))
      (def.for_in_loop by_slots functions go' cx p target e body)
  for_in_loop-agrees p target e body a r q = first_of-agrees p target a then visits e r onto (λ object. listed_names-agrees object onto (λ names.
      charged_names-agrees p names then names_from-agrees p target body object names a q))

  -- ---- `return` and `switch`

  returned-agrees : (o : OptionalExpression) → EachInOptional (right setting) xs o
      → Agrees setting z (def.returned by_names (bare functions) go cx (optional_unbound o))
      (def.returned by_slots functions go' cx o)
  returned-agrees absent r = stops _
  returned-agrees (present e) r = visits e r onto (λ v. stops _)

  clauses_from-agrees : (cs : Clauses) → EachInClauses (right setting) xs cs
      → Agrees setting z (def.clauses_from by_names (bare functions) go cx (clauses_unbound cs))
      (def.clauses_from by_slots functions go' cx cs)
  clauses_from-agrees no_clause r = nothing_comes
  clauses_from-agrees (a_clause test ss rest) r = statements_from-agrees ss r.1 then clauses_from-agrees rest r.2

  from_default-agrees : (cs : Clauses) → EachInClauses (right setting) xs cs
      → Agrees setting z (def.from_default by_names (bare functions) go cx (clauses_unbound cs))
      (def.from_default by_slots functions go' cx cs)
  from_default-agrees no_clause r = nothing_comes
  from_default-agrees (a_clause absent ss rest) r = clauses_from-agrees (a_clause absent ss rest) r
  from_default-agrees (a_clause (present e) ss rest) r = from_default-agrees rest r.2

  from_match-agrees : (v : Value) (all cs : Clauses) → EachInClauses (right setting) xs all
      → EachInClauses (right setting) xs cs
      → Agrees setting z (def.from_match by_names (bare functions) go cx v (clauses_unbound all) (clauses_unbound cs))
      (def.from_match by_slots functions go' cx v all cs)
  from_match-agrees v all no_clause q r = from_default-agrees all q
  from_match-agrees v all (a_clause absent ss rest) q r = from_match-agrees v all rest q r.2
  from_match-agrees v all (a_clause (present e) ss rest) q r = visits e r.0 onto (λ w. either (strictly_equal v w)
      (statements_from-agrees ss r.1 then clauses_from-agrees rest r.2) (from_match-agrees v all rest q r.2))

  switched-agrees : (e : ExpressionTree) (cs : Clauses) → EachInExpression (right setting) xs e
      → EachInClauses (right setting) xs cs
      → Agrees setting z (def.switched by_names (bare functions) go cx (expression_unbound e) (clauses_unbound cs))
      (def.switched by_slots functions go' cx e cs)
  switched-agrees e cs r q = visits e r onto (λ v. breaks value.Undefined is_here (from_match-agrees v cs cs q q))

  -- ---- `try`

  handled-agrees : (p : Place) (x : BoundName) (block : StatementTree) (thrown : Thrown)
      → EachInStatement (right setting) (named (x.name ∷ []) ∷ xs) block
      → Agrees setting z (def.handled by_names (bare functions) go cx p (unbound x) (statement_unbound block) thrown)
      (def.handled by_slots functions go' cx p x block thrown)
  handled-agrees p x block thrown r = in_new_scope (named (x.name ∷ [])) cx.scope xs p shape (λ u i l inner.
      write_slot-agrees i 0 thrown.value
      then agrees.value u (statement_part (record { scope = i; this = cx.this }) block) (named (x.name ∷ []) ∷ xs, inner, r))

  -- the block with its handler
  guarded-agrees : (p : Place) (block : StatementTree) (handler : CatchTree) → EachInStatement (right setting) xs block
      → EachInHandler (right setting) xs handler
      → Agrees setting z (λ after. execute go cx (statement_unbound block) (def.after_block by_names (bare functions) go cx p (handler_unbound handler) after))
      (λ after. execute go' cx block (def.after_block by_slots functions go' cx p handler after))
  guarded-agrees p block no_catch r q = executes block r
  guarded-agrees p block (a_catch x inner) r q = catches (executes block r) (λ thrown. handled-agrees p x inner thrown q.1)

  tried-agrees : (p : Place) (block : StatementTree) (handler : CatchTree) (last : OptionalStatement)
      → EachInStatement (right setting) xs block → EachInHandler (right setting) xs handler
      → EachInOtherwise (right setting) xs last
      → Agrees setting z (def.tried by_names (bare functions) go cx p (statement_unbound block) (handler_unbound handler) (otherwise_unbound last))
      (def.tried by_slots functions go' cx p block handler last)
  tried-agrees p block handler omitted r q s = guarded-agrees p block handler r q
  tried-agrees p block handler (given last) r q s = lasts (guarded-agrees p block handler r q) (executes last s)

  -- ---- all of them

  pub statement_node-agrees : (s : StatementTree) → EachInStatement (right setting) xs s
      → Agrees setting z (def.statement_node by_names (bare functions) go cx (statement_unbound s))
      (def.statement_node by_slots functions go' cx s)
  unfolding def.statement_node
  statement_node-agrees (Block p ss) r = statements_from-agrees ss r
  statement_node-agrees (Empty p) r = nothing_comes
  statement_node-agrees (Evaluate p e) r = visits e r then nothing_comes
  statement_node-agrees (Debugger p) r = nothing_comes
  statement_node-agrees (Var p ds) r = variables_from-agrees p ds r
  statement_node-agrees (If p bs last) r = branches_from-agrees bs last r.0 r.1
  statement_node-agrees (DoWhile p s c) r = sees (λ u l _f. later z u l (do_turns-agrees (suc u.fuel) p s c r.0 r.1)) (λ u. refl)
  statement_node-agrees (While p c s) r = sees (λ u l _f. later z u l (while_turns-agrees (suc u.fuel) p c s r.0 r.1)) (λ u. refl)
  statement_node-agrees (For p start c step s) r = for_loop-agrees p start c step s r.0 r.1 r.2 r.3
  statement_node-agrees (ForIn p target e s) r = for_in_loop-agrees p target e s r.0 r.1 r.2
  statement_node-agrees (Continue p) r = stops _
  statement_node-agrees (Break p) r = stops _
  statement_node-agrees (Return p o) r = returned-agrees o r
  statement_node-agrees (Throw p e) r = visits e r onto (λ v. throw-agrees v p)
  statement_node-agrees (Switch p e cs) r = switched-agrees e cs r.0 r.1
  statement_node-agrees (Try p block handler last) r = tried-agrees p block handler last r.0 r.1 r.2
  statement_node-agrees (Declare p x f) r = nothing_comes
  statement_node-agrees (DeclareNumbered p x n) r = nothing_comes
