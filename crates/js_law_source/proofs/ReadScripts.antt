-- A script that was read is its own source: it has no bounds and no names, and no function stands by number.
use Rattle.std.proofs.Common.{◌≡◌, ℕ, Bool, true, false, List, [], ◌∷◌, map, Option, Some, None, refl, sym, ◌∙◌, ap}
use Rattle.std.specs.Prelude.{option_map}
use Rattle.js_tree.specs.declared.bound.BoundName.{BoundName}
use Rattle.js_tree.specs.Tree.{ExpressionTree, Number, Characters, Pattern, True, False, Null, This, Name, Array, Object, Function, Numbered, Suffixed, New, Update, Unary, Chain, Conditional, Assign, Comma, OptionalExpression, absent, present, Expressions, no_expression, an_expression, Items, no_item, an_item, Properties, no_property, a_property, SuffixTree, a_member, an_index, a_call, Suffixes, no_suffix, a_suffix, Operands, no_operand, an_operand, FunctionTree, a_function, StatementTree, Block, Empty, Evaluate, Debugger, Var, If, DoWhile, While, For, ForIn, Continue, Break, Return, Throw, Switch, Try, Declare, DeclareNumbered, OptionalStatement, omitted, given, Statements, no_statement, a_statement, Declarations, no_declared, a_declared, Branches, no_branch, a_branch, StartTree, no_start, start_var, start_value, TargetTree, target_value, target_declared, Clauses, no_clause, a_clause, CatchTree, no_catch, a_catch}
use Rattle.js_grammar.specs.declared.around.Around.{Around}
use Rattle.js_grammar.specs.Expressions.{in_function}
use Rattle.js_grammar.specs.Statements.{inside, in_loop, in_switch}
use Rattle.js_law_readable.specs.Readable.{AreNames, IsOwnName, is_given, IsExpression, IsOptional, AreExpressions, AreItems, AreProperties, IsSuffix, AreSuffixes, AreOperands, IsFunction, IsStatement, IsOtherwise, IsFinally, AreStatements, AreDeclared, AreBranches, IsStart, IsTarget, AreClauses, IsCatch}
use Rattle.js_binding.specs.Resolved.{hollow}
use Rattle.js_binding.specs.Source.{unbound, expression_source, optional_source, expressions_source, items_source, properties_source, suffix_source, suffixes_source, operands_source, function_source, statement_source, otherwise_source, statements_source, declarations_source, branches_source, start_source, target_source, clauses_source, handler_source}

-- No function stands by number.
abbrev pub none : ℕ → FunctionTree
none n = hollow

own_same : (own : Option BoundName) → IsOwnName own → option_map unbound own ≡ own
own_same None h = refl
own_same (Some x) h = ap (λ y. Some y) (sym h.1)

names_same : (xs : List BoundName) → AreNames xs → map unbound xs ≡ xs
names_same [] h = refl
names_same (x ∷ xs) h = ap (λ y. y ∷ map unbound xs) (sym h.0.1) ∙ ap (λ ys. x ∷ ys) (names_same xs h.1)

mutual
  unfolding expression_source optional_source expressions_source items_source properties_source suffix_source suffixes_source operands_source function_source statement_source otherwise_source statements_source declarations_source branches_source start_source target_source clauses_source handler_source

  pub expression_same : (e : ExpressionTree) → IsExpression e → expression_source none e ≡ e
  expression_same (Number p n) h = refl
  expression_same (Characters p x) h = refl
  expression_same (Pattern p l) h = refl
  expression_same (True p) h = refl
  expression_same (False p) h = refl
  expression_same (Null p) h = refl
  expression_same (This p) h = refl
  expression_same (Name p x) h = ap (λ z. Name p z) (sym h.1)
  expression_same (Array p all) h = ap (λ z. Array p z) (items_same all h)
  expression_same (Object p all) h = ap (λ z. Object p z) (properties_same all h)
  expression_same (Function p f) h = ap (λ z. Function p z) (function_same f h)
  expression_same (Numbered p n) h = absurd h
  expression_same (Suffixed p e all) h = ap (λ z. Suffixed p z (suffixes_source none all)) (expression_same e h.0) ∙ ap (λ z. Suffixed p e z) (suffixes_same all h.2)
  expression_same (New p e all) h = ap (λ z. New p z (expressions_source none all)) (expression_same e h.0) ∙ ap (λ z. New p e z) (expressions_same all h.1)
  expression_same (Update p form op e) h = ap (λ z. Update p form op z) (expression_same e h.1)
  expression_same (Unary p op e) h = ap (λ z. Unary p op z) (expression_same e h)
  expression_same (Chain p e all) h = ap (λ z. Chain p z (operands_source none all)) (expression_same e h.0) ∙ ap (λ z. Chain p e z) (operands_same h.2.0 all h.2.2)
  expression_same (Conditional p e a b) h = ap (λ z. Conditional p z (expression_source none a) (expression_source none b)) (expression_same e h.0) ∙ ap (λ z. Conditional p e z (expression_source none b)) (expression_same a h.1) ∙ ap (λ z. Conditional p e a z) (expression_same b h.2)
  expression_same (Assign p e op v) h = ap (λ z. Assign p z op (expression_source none v)) (expression_same e h.1) ∙ ap (λ z. Assign p e op z) (expression_same v h.2)
  expression_same (Comma p all) h = ap (λ z. Comma p z) (expressions_same all h.1)

  pub optional_same : (e : OptionalExpression) → IsOptional e → optional_source none e ≡ e
  optional_same absent h = refl
  optional_same (present e) h = ap (λ z. present z) (expression_same e h)

  pub expressions_same : (e : Expressions) → AreExpressions e → expressions_source none e ≡ e
  expressions_same no_expression h = refl
  expressions_same (an_expression e es) h = ap (λ z. an_expression z (expressions_source none es)) (expression_same e h.0) ∙ ap (λ z. an_expression e z) (expressions_same es h.1)

  pub items_same : (e : Items) → AreItems e → items_source none e ≡ e
  items_same no_item h = refl
  items_same (an_item o os) h = ap (λ z. an_item z (items_source none os)) (optional_same o h.0) ∙ ap (λ z. an_item o z) (items_same os h.1)

  pub properties_same : (e : Properties) → AreProperties e → properties_source none e ≡ e
  properties_same no_property h = refl
  properties_same (a_property x e ps) h = ap (λ z. a_property x z (properties_source none ps)) (expression_same e h.0) ∙ ap (λ z. a_property x e z) (properties_same ps h.1)

  pub suffix_same : (e : SuffixTree) → IsSuffix e → suffix_source none e ≡ e
  suffix_same (a_member p x) h = refl
  suffix_same (an_index p e) h = ap (λ z. an_index p z) (expression_same e h)
  suffix_same (a_call p es) h = ap (λ z. a_call p z) (expressions_same es h)

  pub suffixes_same : (e : Suffixes) → AreSuffixes e → suffixes_source none e ≡ e
  suffixes_same no_suffix h = refl
  suffixes_same (a_suffix s ss) h = ap (λ z. a_suffix z (suffixes_source none ss)) (suffix_same s h.0) ∙ ap (λ z. a_suffix s z) (suffixes_same ss h.1)

  pub operands_same : (k : ℕ) (e : Operands) → AreOperands k e → operands_source none e ≡ e
  operands_same k no_operand h = refl
  operands_same k (an_operand p op e os) h = ap (λ z. an_operand p op z (operands_source none os)) (expression_same e h.1) ∙ ap (λ z. an_operand p op e z) (operands_same k os h.2)

  pub function_same : (e : FunctionTree) → IsFunction e → function_source none e ≡ e
  function_same (a_function own parameters names body) h =
      ap (λ z. a_function z (map unbound parameters) [] (statements_source none body)) (own_same own h.0)
      ∙ ap (λ z. a_function own z [] (statements_source none body)) (names_same parameters h.1)
      ∙ ap (λ z. a_function own parameters z (statements_source none body)) (sym h.2)
      ∙ ap (λ z. a_function own parameters names z) (statements_same in_function body h.3)

  pub statement_same : (a : Around) (e : StatementTree) → IsStatement a e → statement_source none e ≡ e
  statement_same a (Block p ss) h = ap (λ z. Block p z) (statements_same (inside a) ss h)
  statement_same a (Empty p) h = refl
  statement_same a (Evaluate p e) h = ap (λ z. Evaluate p z) (expression_same e h)
  statement_same a (Debugger p) h = refl
  statement_same a (Var p ds) h = ap (λ z. Var p z) (declarations_same ds h.1)
  statement_same a (If p bs o) h = ap (λ z. If p z (otherwise_source none o)) (branches_same a (is_given o) bs h.1) ∙ ap (λ z. If p bs z) (otherwise_same a o h.2)
  statement_same a (DoWhile p s e) h = ap (λ z. DoWhile p z (expression_source none e)) (statement_same (in_loop a) s h.0) ∙ ap (λ z. DoWhile p s z) (expression_same e h.1)
  statement_same a (While p e s) h = ap (λ z. While p z (statement_source none s)) (expression_same e h.0) ∙ ap (λ z. While p e z) (statement_same (in_loop a) s h.1)
  statement_same a (For p b e d s) h = ap (λ z. For p z (optional_source none e) (optional_source none d) (statement_source none s)) (start_same b h.0) ∙ ap (λ z. For p b z (optional_source none d) (statement_source none s)) (optional_same e h.1) ∙ ap (λ z. For p b e z (statement_source none s)) (optional_same d h.2) ∙ ap (λ z. For p b e d z) (statement_same (in_loop a) s h.3)
  statement_same a (ForIn p t e s) h = ap (λ z. ForIn p z (expression_source none e) (statement_source none s)) (target_same t h.0) ∙ ap (λ z. ForIn p t z (statement_source none s)) (expression_same e h.1) ∙ ap (λ z. ForIn p t e z) (statement_same (in_loop a) s h.2)
  statement_same a (Continue p) h = refl
  statement_same a (Break p) h = refl
  statement_same a (Return p o) h = ap (λ z. Return p z) (optional_same o h.1)
  statement_same a (Throw p e) h = ap (λ z. Throw p z) (expression_same e h)
  statement_same a (Switch p e cs) h = ap (λ z. Switch p z (clauses_source none cs)) (expression_same e h.0) ∙ ap (λ z. Switch p e z) (clauses_same (in_switch a) true cs h.1)
  statement_same a (Try p s c o) h = ap (λ z. Try p z (handler_source none c) (otherwise_source none o)) (statement_same (inside a) s h.2) ∙ ap (λ z. Try p s z (otherwise_source none o)) (handler_same a c h.3) ∙ ap (λ z. Try p s c z) (finally_same a o h.4)
  statement_same a (Declare p x f) h = ap (λ z. Declare p z (function_source none f)) (sym h.1.1) ∙ ap (λ z. Declare p x z) (function_same f h.3)
  statement_same a (DeclareNumbered p x n) h = absurd h

  pub otherwise_same : (a : Around) (e : OptionalStatement) → IsOtherwise a e → otherwise_source none e ≡ e
  otherwise_same a omitted h = refl
  otherwise_same a (given s) h = ap (λ z. given z) (statement_same (inside a) s h.1)

  pub finally_same : (a : Around) (e : OptionalStatement) → IsFinally a e → otherwise_source none e ≡ e
  finally_same a omitted h = refl
  finally_same a (given s) h = ap (λ z. given z) (statement_same (inside a) s h.1)

  pub statements_same : (a : Around) (e : Statements) → AreStatements a e → statements_source none e ≡ e
  statements_same a no_statement h = refl
  statements_same a (a_statement s ss) h = ap (λ z. a_statement z (statements_source none ss)) (statement_same a s h.0) ∙ ap (λ z. a_statement s z) (statements_same a ss h.1)

  pub declarations_same : (e : Declarations) → AreDeclared e → declarations_source none e ≡ e
  declarations_same no_declared h = refl
  declarations_same (a_declared x o ds) h = ap (λ z. a_declared z (optional_source none o) (declarations_source none ds)) (sym h.0.1) ∙ ap (λ z. a_declared x z (declarations_source none ds)) (optional_same o h.1) ∙ ap (λ z. a_declared x o z) (declarations_same ds h.2)

  pub branches_same : (a : Around) (last : Bool) (e : Branches) → AreBranches a last e → branches_source none e ≡ e
  branches_same a last no_branch h = refl
  branches_same a last (a_branch e s bs) h = ap (λ z. a_branch z (statement_source none s) (branches_source none bs)) (expression_same e h.0) ∙ ap (λ z. a_branch e z (branches_source none bs)) (statement_same (inside a) s h.1) ∙ ap (λ z. a_branch e s z) (branches_same a last bs h.3)

  pub start_same : (e : StartTree) → IsStart e → start_source none e ≡ e
  start_same no_start h = refl
  start_same (start_var p ds) h = ap (λ z. start_var p z) (declarations_same ds h.1)
  start_same (start_value e) h = ap (λ z. start_value z) (expression_same e h)

  pub target_same : (e : TargetTree) → IsTarget e → target_source none e ≡ e
  target_same (target_value e) h = ap (λ z. target_value z) (expression_same e h.1)
  target_same (target_declared x o) h = ap (λ z. target_declared z (optional_source none o)) (sym h.0.1) ∙ ap (λ z. target_declared x z) (optional_same o h.1)

  pub clauses_same : (a : Around) (before : Bool) (e : Clauses) → AreClauses a before e → clauses_source none e ≡ e
  clauses_same a before no_clause h = refl
  clauses_same a before (a_clause absent ss cs) h =
      ap (λ z. a_clause absent z (clauses_source none cs)) (statements_same a ss h.1) ∙ ap (λ z. a_clause absent ss z) (clauses_same a false cs h.2)
  clauses_same a before (a_clause (present e) ss cs) h =
      ap (λ z. a_clause (present z) (statements_source none ss) (clauses_source none cs)) (expression_same e h.0)
      ∙ ap (λ z. a_clause (present e) z (clauses_source none cs)) (statements_same a ss h.1)
      ∙ ap (λ z. a_clause (present e) ss z) (clauses_same a before cs h.2)

  pub handler_same : (a : Around) (e : CatchTree) → IsCatch a e → handler_source none e ≡ e
  handler_same a no_catch h = refl
  handler_same a (a_catch x s) h = ap (λ z. a_catch z (statement_source none s)) (sym h.1.1) ∙ ap (λ z. a_catch x z) (statement_same (inside a) s h.2)
