-- A tree is resolved as the parts that the code holds of it.
use Rattle.std.proofs.Common.{◌≡◌, List, [], ◌∷◌, Option, Some, None, Result, Ok, Err, refl, ◌∙◌, ap}
use Rattle.std.specs.Prelude.{OnOk, Box}
use Rattle.std.specs.declared.alloc.Global.{Global}
use Rattle.utf16_text.specs.declared.memory.Memory.{Memory}
use Rattle.js_tree.specs.declared.place.Place.{Place}
use Rattle.js_tree.specs.declared.expression.Function.{Function}
use Rattle.js_tree.specs.declared.expression.FunctionPart.TheVariants.{Whole, Numbered}
use Rattle.js_tree.specs.declared.expression.ExpressionNode.{ExpressionNode}
use Rattle.js_tree.specs.declared.expression.ExpressionNode.TheVariants as expression
use Rattle.js_tree.specs.declared.expression.Property.{Property}
use Rattle.js_tree.specs.declared.expression.Suffix.{Suffix}
use Rattle.js_tree.specs.declared.expression.SuffixNode.{SuffixNode}
use Rattle.js_tree.specs.declared.expression.SuffixNode.TheVariants as suffix
use Rattle.js_tree.specs.declared.expression.Operand.{Operand}
use Rattle.js_tree.specs.declared.statement.StatementNode.{StatementNode}
use Rattle.js_tree.specs.declared.statement.StatementNode.TheVariants as statement
use Rattle.js_tree.specs.declared.statement.Declared.{Declared}
use Rattle.js_tree.specs.declared.statement.Branch.{Branch}
use Rattle.js_tree.specs.declared.statement.ForStart.{ForStart}
use Rattle.js_tree.specs.declared.statement.ForStart.TheVariants as start
use Rattle.js_tree.specs.declared.statement.ForTarget.{ForTarget}
use Rattle.js_tree.specs.declared.statement.ForTarget.TheVariants as target
use Rattle.js_tree.specs.declared.statement.Clause.{Clause}
use Rattle.js_tree.specs.declared.statement.Catch.{Catch}
use Rattle.js_tree.specs.Tree.{ExpressionTree, StatementTree, FunctionTree, optional_of, expressions_of, items_of, statements_of}
use Rattle.js_tree.specs.Tree as tree
use Rattle.js_tree.specs.View.{expression_of, statement_of, suffix_of, start_of, target_of, properties_of, suffixes_of, operands_of, declarations_of, branches_of, clauses_of, optional_box, optional_statement, optional_start, optional_catch}
use Rattle.js_binding.specs.Scopes.{Scope, bound_in}
use Rattle.js_binding.specs.Resolved.{Placing, expression_in, optional_in, expressions_in, items_in, properties_in, suffix_in, suffixes_in, operands_in, statement_in, otherwise_in, statements_in, declarations_in, branches_in, start_in, target_in, clauses_in, handler_in}
use Rattle.js_scope.specs.Functions.{functions_of}
use Rattle.js_scope.specs.Gives.{Gives}
use Rattle.js_scope.specs.Parts.{both, each, maybe, boxed, property_in, suffix_node_in, suffix_part_in, operand_in, expression_node_in, declared_in, branch_in, start_part_in, target_part_in, clause_in, catch_in, statement_node_in}

-- what is made, and the functions behind it
abbrev Made : Type 0 → Type 0
Made A = A × List FunctionTree

-- The tree that n makes is the view of what m makes.
abbrev pub SeenBy : {A B : Type 0} → (A → B) → Placing A → Placing B → Type 0
SeenBy view m n = (fs : List FunctionTree) → n fs ≡ (view (m fs).0, (m fs).1)

module _ {A B : Type 0} (view : A → B) (m : Placing A) (n : Placing B) where
  pub made_tree : (r : Result (Unit {0}) Memory) (before after : List Function) (made : A) → SeenBy view m n → OnOk r (Gives m before made after) → OnOk r (Gives n before (view made) after)
  made_tree (Ok _) before after made same h = same (functions_of before) ∙ ap (λ (x : Made A). (view x.0, x.1)) h
  made_tree (Err _) before after made same h = h

module _ (scopes : List Scope) where
  optional_item : (o : Option ExpressionTree) → SeenBy optional_of (maybe (expression_in scopes) o) (optional_in scopes (optional_of o))
  unfolding optional_in maybe
  optional_item None fs = refl
  optional_item (Some e) fs = refl

  expressions_row : (all : List ExpressionTree) → SeenBy expressions_of (each (expression_in scopes) all) (expressions_in scopes (expressions_of all))
  unfolding expressions_in each
  expressions_row [] fs = refl
  expressions_row (x ∷ xs) fs = ap (λ (r : Made tree.Expressions). (tree.an_expression (expression_in scopes x fs).0 r.0, r.1)) (expressions_row xs (expression_in scopes x fs).1)

  pub statements_row : (all : List StatementTree) → SeenBy statements_of (each (statement_in scopes) all) (statements_in scopes (statements_of all))
  unfolding statements_in each
  statements_row [] fs = refl
  statements_row (x ∷ xs) fs = ap (λ (r : Made tree.Statements). (tree.a_statement (statement_in scopes x fs).0 r.0, r.1)) (statements_row xs (statement_in scopes x fs).1)

  items_row : (all : List (Option ExpressionTree)) → SeenBy items_of (each (maybe (expression_in scopes)) all) (items_in scopes (items_of all))
  unfolding items_in each
  items_row [] fs = refl
  items_row (x ∷ xs) fs =
      let item = maybe (expression_in scopes) x fs in
      ap (λ (m : Made tree.OptionalExpression). (tree.an_item m.0 (items_in scopes (items_of xs) m.1).0, (items_in scopes (items_of xs) m.1).1)) (optional_item x fs)
      ∙ ap (λ (r : Made tree.Items). (tree.an_item (optional_of item.0) r.0, r.1)) (items_row xs item.1)

  properties_row : (all : List Property) → SeenBy properties_of (each (property_in scopes) all) (properties_in scopes (properties_of all))
  unfolding properties_in each
  properties_row [] fs = refl
  properties_row (x ∷ xs) fs = ap (λ (r : Made tree.Properties). (tree.a_property x.name (expression_in scopes x.value fs).0 r.0, r.1)) (properties_row xs (expression_in scopes x.value fs).1)

  operands_row : (all : List Operand) → SeenBy operands_of (each (operand_in scopes) all) (operands_in scopes (operands_of all))
  unfolding operands_in each
  operands_row [] fs = refl
  operands_row (x ∷ xs) fs = ap (λ (r : Made tree.Operands). (tree.an_operand x.place x.op (expression_in scopes x.value fs).0 r.0, r.1)) (operands_row xs (expression_in scopes x.value fs).1)

  suffix_made : (p : Place) (node : SuffixNode) → SeenBy (suffix_of p) (suffix_node_in scopes node) (suffix_in scopes (suffix_of p node))
  unfolding suffix_in
  suffix_made p (suffix.Member x) fs = refl
  suffix_made p (suffix.Index e) fs = refl
  suffix_made p (suffix.Call es) fs = ap (λ (r : Made tree.Expressions). (tree.a_call p r.0, r.1)) (expressions_row es fs)

  suffixes_row : (all : List Suffix) → SeenBy suffixes_of (each (suffix_part_in scopes) all) (suffixes_in scopes (suffixes_of all))
  unfolding suffixes_in each
  suffixes_row [] fs = refl
  suffixes_row (x ∷ xs) fs =
      let node = suffix_node_in scopes x.node fs in
      ap (λ (m : Made tree.SuffixTree). (tree.a_suffix m.0 (suffixes_in scopes (suffixes_of xs) m.1).0, (suffixes_in scopes (suffixes_of xs) m.1).1)) (suffix_made x.place x.node fs)
      ∙ ap (λ (r : Made tree.Suffixes). (tree.a_suffix (suffix_of x.place node.0) r.0, r.1)) (suffixes_row xs node.1)

  declarations_row : (all : List Declared) → SeenBy declarations_of (each (declared_in scopes) all) (declarations_in scopes (declarations_of all))
  unfolding declarations_in each
  declarations_row [] fs = refl
  declarations_row (x ∷ xs) fs =
      let value = maybe (expression_in scopes) x.value fs in
      ap (λ (m : Made tree.OptionalExpression). (tree.a_declared (bound_in scopes x.name) m.0 (declarations_in scopes (declarations_of xs) m.1).0, (declarations_in scopes (declarations_of xs) m.1).1)) (optional_item x.value fs)
      ∙ ap (λ (r : Made tree.Declarations). (tree.a_declared (bound_in scopes x.name) (optional_of value.0) r.0, r.1)) (declarations_row xs value.1)

  branches_row : (all : List Branch) → SeenBy branches_of (each (branch_in scopes) all) (branches_in scopes (branches_of all))
  unfolding branches_in each
  branches_row [] fs = refl
  branches_row (x ∷ xs) fs =
      let condition = expression_in scopes x.condition fs in
      let body = statement_in scopes x.body condition.1 in
      ap (λ (r : Made tree.Branches). (tree.a_branch condition.0 body.0 r.0, r.1)) (branches_row xs body.1)

  clauses_row : (all : List Clause) → SeenBy clauses_of (each (clause_in scopes) all) (clauses_in scopes (clauses_of all))
  unfolding clauses_in each
  clauses_row [] fs = refl
  clauses_row (x ∷ xs) fs =
      let test = maybe (expression_in scopes) x.test fs in
      let body = each (statement_in scopes) x.body test.1 in
      ap (λ (m : Made tree.OptionalExpression). let b = statements_in scopes (statements_of x.body) m.1 in (tree.a_clause m.0 b.0 (clauses_in scopes (clauses_of xs) b.1).0, (clauses_in scopes (clauses_of xs) b.1).1)) (optional_item x.test fs)
      ∙ ap (λ (b : Made tree.Statements). (tree.a_clause (optional_of test.0) b.0 (clauses_in scopes (clauses_of xs) b.1).0, (clauses_in scopes (clauses_of xs) b.1).1)) (statements_row x.body test.1)
      ∙ ap (λ (r : Made tree.Clauses). (tree.a_clause (optional_of test.0) (statements_of body.0) r.0, r.1)) (clauses_row xs body.1)

  optional_boxed : (o : Option (Box ExpressionTree Global)) → SeenBy optional_box (maybe (boxed (expression_in scopes)) o) (optional_in scopes (optional_box o))
  unfolding optional_in maybe boxed
  optional_boxed None fs = refl
  optional_boxed (Some e) fs = refl

  otherwise_boxed : (o : Option (Box StatementTree Global)) → SeenBy optional_statement (maybe (boxed (statement_in scopes)) o) (otherwise_in scopes (optional_statement o))
  unfolding otherwise_in maybe boxed
  otherwise_boxed None fs = refl
  otherwise_boxed (Some s) fs = refl

  start_made : (a : ForStart) → SeenBy start_of (start_part_in scopes a) (start_in scopes (start_of a))
  unfolding start_in
  start_made (start.Var p ds) fs = ap (λ (r : Made tree.Declarations). (tree.start_var p r.0, r.1)) (declarations_row ds fs)
  start_made (start.Expression e) fs = refl

  start_boxed : (o : Option (Box ForStart Global)) → SeenBy optional_start (maybe (boxed (start_part_in scopes)) o) (start_in scopes (optional_start o))
  unfolding start_in maybe boxed
  start_boxed None fs = refl
  start_boxed (Some a) fs = start_made a.value fs

  target_made : (t : ForTarget) → SeenBy target_of (target_part_in scopes t) (target_in scopes (target_of t))
  unfolding target_in
  target_made (target.Expression e) fs = refl
  target_made (target.Declared d) fs = ap (λ (m : Made tree.OptionalExpression). (tree.target_declared (bound_in scopes d.name) m.0, m.1)) (optional_item d.value fs)

  handler_boxed : (o : Option (Box Catch Global)) → SeenBy optional_catch (maybe (boxed (catch_in scopes)) o) (handler_in scopes (optional_catch o))
  unfolding handler_in maybe boxed
  handler_boxed None fs = refl
  handler_boxed (Some c) fs = refl

  pub expression_made : (p : Place) (node : ExpressionNode) → SeenBy (expression_of p) (expression_node_in scopes node) (expression_in scopes (expression_of p node))
  unfolding expression_in both boxed
  expression_made p (expression.Number n) fs = refl
  expression_made p (expression.Text x) fs = refl
  expression_made p (expression.Pattern l) fs = refl
  expression_made p expression.True fs = refl
  expression_made p expression.False fs = refl
  expression_made p expression.Null fs = refl
  expression_made p expression.This fs = refl
  expression_made p (expression.Name x) fs = refl
  expression_made p (expression.Array all) fs = ap (λ (r : Made tree.Items). (tree.Array p r.0, r.1)) (items_row all fs)
  expression_made p (expression.Object all) fs = ap (λ (r : Made tree.Properties). (tree.Object p r.0, r.1)) (properties_row all fs)
  expression_made p (expression.Function (Whole f)) fs = refl
  expression_made p (expression.Function (Numbered n)) fs = refl
  expression_made p (expression.Suffixed e all) fs =
      let first = expression_in scopes e.value fs in
      ap (λ (r : Made tree.Suffixes). (tree.Suffixed p first.0 r.0, r.1)) (suffixes_row all first.1)
  expression_made p (expression.New e all) fs =
      let first = expression_in scopes e.value fs in
      ap (λ (r : Made tree.Expressions). (tree.New p first.0 r.0, r.1)) (expressions_row all first.1)
  expression_made p (expression.Update form op e) fs = refl
  expression_made p (expression.Unary op e) fs = refl
  expression_made p (expression.Chain e all) fs =
      let first = expression_in scopes e.value fs in
      ap (λ (r : Made tree.Operands). (tree.Chain p first.0 r.0, r.1)) (operands_row all first.1)
  expression_made p (expression.Conditional e a b) fs = refl
  expression_made p (expression.Assign e op v) fs = refl
  expression_made p (expression.Comma all) fs = ap (λ (r : Made tree.Expressions). (tree.Comma p r.0, r.1)) (expressions_row all fs)

  pub statement_made : (p : Place) (node : StatementNode) → SeenBy (statement_of p) (statement_node_in scopes node) (statement_in scopes (statement_of p node))
  unfolding statement_in both boxed
  statement_made p (statement.Block all) fs = ap (λ (r : Made tree.Statements). (tree.Block p r.0, r.1)) (statements_row all fs)
  statement_made p statement.Empty fs = refl
  statement_made p (statement.Expression e) fs = refl
  statement_made p statement.Debugger fs = refl
  statement_made p (statement.Var all) fs = ap (λ (r : Made tree.Declarations). (tree.Var p r.0, r.1)) (declarations_row all fs)
  statement_made p (statement.If all o) fs =
      let branches = each (branch_in scopes) all fs in
      ap (λ (m : Made tree.Branches). let k = otherwise_in scopes (optional_statement o) m.1 in (tree.If p m.0 k.0, k.1)) (branches_row all fs)
      ∙ ap (λ (k : Made tree.OptionalStatement). (tree.If p (branches_of branches.0) k.0, k.1)) (otherwise_boxed o branches.1)
  statement_made p (statement.DoWhile s e) fs = refl
  statement_made p (statement.While e s) fs = refl
  statement_made p (statement.For a e d s) fs =
      let begun = maybe (boxed (start_part_in scopes)) a fs in
      let test = maybe (boxed (expression_in scopes)) e begun.1 in
      ap (λ (m : Made tree.StartTree). let k = optional_in scopes (optional_box e) m.1 in let l = optional_in scopes (optional_box d) k.1 in let r = statement_in scopes s.value l.1 in (tree.For p m.0 k.0 l.0 r.0, r.1)) (start_boxed a fs)
      ∙ ap (λ (k : Made tree.OptionalExpression). let l = optional_in scopes (optional_box d) k.1 in let r = statement_in scopes s.value l.1 in (tree.For p (optional_start begun.0) k.0 l.0 r.0, r.1)) (optional_boxed e begun.1)
      ∙ ap (λ (l : Made tree.OptionalExpression). let r = statement_in scopes s.value l.1 in (tree.For p (optional_start begun.0) (optional_box test.0) l.0 r.0, r.1)) (optional_boxed d test.1)
  statement_made p (statement.ForIn t e s) fs =
      ap (λ (m : Made tree.TargetTree). let k = expression_in scopes e.value m.1 in let r = statement_in scopes s.value k.1 in (tree.ForIn p m.0 k.0 r.0, r.1)) (target_made t.value fs)
  statement_made p statement.Continue fs = refl
  statement_made p statement.Break fs = refl
  statement_made p (statement.Return o) fs = ap (λ (r : Made tree.OptionalExpression). (tree.Return p r.0, r.1)) (optional_boxed o fs)
  statement_made p (statement.Throw e) fs = refl
  statement_made p (statement.Switch e all) fs =
      let first = expression_in scopes e.value fs in
      ap (λ (r : Made tree.Clauses). (tree.Switch p first.0 r.0, r.1)) (clauses_row all first.1)
  statement_made p (statement.Try s c o) fs =
      let block = statement_in scopes s.value fs in
      let handler = maybe (boxed (catch_in scopes)) c block.1 in
      ap (λ (m : Made tree.CatchTree). let k = otherwise_in scopes (optional_statement o) m.1 in (tree.Try p block.0 m.0 k.0, k.1)) (handler_boxed c block.1)
      ∙ ap (λ (k : Made tree.OptionalStatement). (tree.Try p block.0 (optional_catch handler.0) k.0, k.1)) (otherwise_boxed o handler.1)
  statement_made p (statement.Function x (Whole f)) fs = refl
  statement_made p (statement.Function x (Numbered n)) fs = refl
