-- Written by tools/write_tree.py from Tree.antt: change that file, and run the script.
-- Each tree, without the places of its names once it is resolved, is the tree with its functions by number.
use Rattle.std.proofs.Common.{List, refl}
use Rattle.js_tree.specs.Tree.{ExpressionTree, Number, Characters, Pattern, True, False, Null, This, Name, Array, Object, Function, Numbered, Suffixed, New, Update, Unary, Chain, Conditional, Assign, Comma, OptionalExpression, absent, present, Expressions, no_expression, an_expression, Items, no_item, an_item, Properties, no_property, a_property, SuffixTree, a_member, an_index, a_call, Suffixes, no_suffix, a_suffix, Operands, no_operand, an_operand, FunctionTree, a_function, StatementTree, Block, Empty, Evaluate, Debugger, Var, If, DoWhile, While, For, ForIn, Continue, Break, Return, Throw, Switch, Try, Declare, DeclareNumbered, OptionalStatement, omitted, given, Statements, no_statement, a_statement, Declarations, no_declared, a_declared, Branches, no_branch, a_branch, StartTree, no_start, start_var, start_value, TargetTree, target_value, target_declared, Clauses, no_clause, a_clause, CatchTree, no_catch, a_catch}
use Rattle.js_binding.specs.Scopes.{Scope, bound_in}
use Rattle.js_binding.specs.Source.{unbound}
use Rattle.js_binding.specs.Resolved.{around_function, in_body, in_handler, expression_in, optional_in, expressions_in, items_in, properties_in, suffix_in, suffixes_in, operands_in, statement_in, otherwise_in, statements_in, declarations_in, branches_in, start_in, target_in, clauses_in, handler_in, function_in}
use Rattle.js_binding.specs.Numbered.{expression_numbered, optional_numbered, expressions_numbered, items_numbered, properties_numbered, suffix_numbered, suffixes_numbered, operands_numbered, statement_numbered, otherwise_numbered, statements_numbered, declarations_numbered, branches_numbered, start_numbered, target_numbered, clauses_numbered, handler_numbered, function_numbered}
use Rattle.js_law_right.specs.Unbound.{expression_unbound, optional_unbound, expressions_unbound, items_unbound, properties_unbound, suffix_unbound, suffixes_unbound, operands_unbound, statement_unbound, otherwise_unbound, statements_unbound, declarations_unbound, branches_unbound, start_unbound, target_unbound, clauses_unbound, handler_unbound}
use Rattle.js_law_right.proofs.Same.{Same, same_pure, same_then, same_number, same_placed, same_function}

mutual
  unfolding expression_in optional_in expressions_in items_in properties_in suffix_in suffixes_in operands_in statement_in otherwise_in statements_in declarations_in branches_in start_in target_in clauses_in handler_in function_in expression_numbered optional_numbered expressions_numbered items_numbered properties_numbered suffix_numbered suffixes_numbered operands_numbered statement_numbered otherwise_numbered statements_numbered declarations_numbered branches_numbered start_numbered target_numbered clauses_numbered handler_numbered function_numbered

  pub expression_same : (scopes : List Scope) (e : ExpressionTree) → Same expression_unbound (expression_in scopes e) (expression_numbered e)
  expression_same scopes (Number p n) = same_pure (Number p n) (Number p n) refl
  expression_same scopes (Characters p text) = same_pure (Characters p text) (Characters p text) refl
  expression_same scopes (Pattern p literal) = same_pure (Pattern p literal) (Pattern p literal) refl
  expression_same scopes (True p) = same_pure (True p) (True p) refl
  expression_same scopes (False p) = same_pure (False p) (False p) refl
  expression_same scopes (Null p) = same_pure (Null p) (Null p) refl
  expression_same scopes (This p) = same_pure (This p) (This p) refl
  expression_same scopes (Name p x) = same_pure (Name p (bound_in scopes x)) (Name p (unbound x)) refl
  expression_same scopes (Array p items) = same_then (items_same scopes items) (λ items' items° hitems. same_pure (Array p items') (Array p items°) cc)
  expression_same scopes (Object p ps) = same_then (properties_same scopes ps) (λ ps' ps° hps. same_pure (Object p ps') (Object p ps°) cc)
  expression_same scopes (Function p f) = same_then (function_same scopes f) (λ n' n° hn. same_pure (Numbered p n') (Numbered p n°) cc)
  expression_same scopes (Numbered p n) = same_then (same_placed) (λ n' n° hn. same_pure (Numbered p n') (Numbered p n°) cc)
  expression_same scopes (Suffixed p e ss) = same_then (expression_same scopes e) (λ e' e° he. same_then (suffixes_same scopes ss) (λ ss' ss° hss. same_pure (Suffixed p e' ss') (Suffixed p e° ss°) cc))
  expression_same scopes (New p e es) = same_then (expression_same scopes e) (λ e' e° he. same_then (expressions_same scopes es) (λ es' es° hes. same_pure (New p e' es') (New p e° es°) cc))
  expression_same scopes (Update p form op e) = same_then (expression_same scopes e) (λ e' e° he. same_pure (Update p form op e') (Update p form op e°) cc)
  expression_same scopes (Unary p op e) = same_then (expression_same scopes e) (λ e' e° he. same_pure (Unary p op e') (Unary p op e°) cc)
  expression_same scopes (Chain p e os) = same_then (expression_same scopes e) (λ e' e° he. same_then (operands_same scopes os) (λ os' os° hos. same_pure (Chain p e' os') (Chain p e° os°) cc))
  expression_same scopes (Conditional p e1 e2 e3) = same_then (expression_same scopes e1) (λ e1' e1° he1. same_then (expression_same scopes e2) (λ e2' e2° he2. same_then (expression_same scopes e3) (λ e3' e3° he3. same_pure (Conditional p e1' e2' e3') (Conditional p e1° e2° e3°) cc)))
  expression_same scopes (Assign p e1 op e2) = same_then (expression_same scopes e1) (λ e1' e1° he1. same_then (expression_same scopes e2) (λ e2' e2° he2. same_pure (Assign p e1' op e2') (Assign p e1° op e2°) cc))
  expression_same scopes (Comma p es) = same_then (expressions_same scopes es) (λ es' es° hes. same_pure (Comma p es') (Comma p es°) cc)

  pub optional_same : (scopes : List Scope) (o : OptionalExpression) → Same optional_unbound (optional_in scopes o) (optional_numbered o)
  optional_same scopes absent = same_pure absent absent refl
  optional_same scopes (present e) = same_then (expression_same scopes e) (λ e' e° he. same_pure (present e') (present e°) cc)

  pub expressions_same : (scopes : List Scope) (es : Expressions) → Same expressions_unbound (expressions_in scopes es) (expressions_numbered es)
  expressions_same scopes no_expression = same_pure no_expression no_expression refl
  expressions_same scopes (an_expression e es) = same_then (expression_same scopes e) (λ e' e° he. same_then (expressions_same scopes es) (λ es' es° hes. same_pure (an_expression e' es') (an_expression e° es°) cc))

  pub items_same : (scopes : List Scope) (items : Items) → Same items_unbound (items_in scopes items) (items_numbered items)
  items_same scopes no_item = same_pure no_item no_item refl
  items_same scopes (an_item o items) = same_then (optional_same scopes o) (λ o' o° ho. same_then (items_same scopes items) (λ items' items° hitems. same_pure (an_item o' items') (an_item o° items°) cc))

  pub properties_same : (scopes : List Scope) (ps : Properties) → Same properties_unbound (properties_in scopes ps) (properties_numbered ps)
  properties_same scopes no_property = same_pure no_property no_property refl
  properties_same scopes (a_property text e ps) = same_then (expression_same scopes e) (λ e' e° he. same_then (properties_same scopes ps) (λ ps' ps° hps. same_pure (a_property text e' ps') (a_property text e° ps°) cc))

  pub suffix_same : (scopes : List Scope) (s : SuffixTree) → Same suffix_unbound (suffix_in scopes s) (suffix_numbered s)
  suffix_same scopes (a_member p text) = same_pure (a_member p text) (a_member p text) refl
  suffix_same scopes (an_index p e) = same_then (expression_same scopes e) (λ e' e° he. same_pure (an_index p e') (an_index p e°) cc)
  suffix_same scopes (a_call p es) = same_then (expressions_same scopes es) (λ es' es° hes. same_pure (a_call p es') (a_call p es°) cc)

  pub suffixes_same : (scopes : List Scope) (ss : Suffixes) → Same suffixes_unbound (suffixes_in scopes ss) (suffixes_numbered ss)
  suffixes_same scopes no_suffix = same_pure no_suffix no_suffix refl
  suffixes_same scopes (a_suffix s ss) = same_then (suffix_same scopes s) (λ s' s° hs. same_then (suffixes_same scopes ss) (λ ss' ss° hss. same_pure (a_suffix s' ss') (a_suffix s° ss°) cc))

  pub operands_same : (scopes : List Scope) (os : Operands) → Same operands_unbound (operands_in scopes os) (operands_numbered os)
  operands_same scopes no_operand = same_pure no_operand no_operand refl
  operands_same scopes (an_operand p op e os) = same_then (expression_same scopes e) (λ e' e° he. same_then (operands_same scopes os) (λ os' os° hos. same_pure (an_operand p op e' os') (an_operand p op e° os°) cc))

  pub function_same : (scopes : List Scope) (f : FunctionTree) → Same same_number (function_in scopes f) (function_numbered f)
  function_same scopes (a_function own parameters names body) =
      same_function scopes own parameters names body
      (statements_same (in_body (around_function scopes own) parameters body) body)

  pub statement_same : (scopes : List Scope) (s : StatementTree) → Same statement_unbound (statement_in scopes s) (statement_numbered s)
  statement_same scopes (Block p ss) = same_then (statements_same scopes ss) (λ ss' ss° hss. same_pure (Block p ss') (Block p ss°) cc)
  statement_same scopes (Empty p) = same_pure (Empty p) (Empty p) refl
  statement_same scopes (Evaluate p e) = same_then (expression_same scopes e) (λ e' e° he. same_pure (Evaluate p e') (Evaluate p e°) cc)
  statement_same scopes (Debugger p) = same_pure (Debugger p) (Debugger p) refl
  statement_same scopes (Var p ds) = same_then (declarations_same scopes ds) (λ ds' ds° hds. same_pure (Var p ds') (Var p ds°) cc)
  statement_same scopes (If p bs o) = same_then (branches_same scopes bs) (λ bs' bs° hbs. same_then (otherwise_same scopes o) (λ o' o° ho. same_pure (If p bs' o') (If p bs° o°) cc))
  statement_same scopes (DoWhile p s e) = same_then (statement_same scopes s) (λ s' s° hs. same_then (expression_same scopes e) (λ e' e° he. same_pure (DoWhile p s' e') (DoWhile p s° e°) cc))
  statement_same scopes (While p e s) = same_then (expression_same scopes e) (λ e' e° he. same_then (statement_same scopes s) (λ s' s° hs. same_pure (While p e' s') (While p e° s°) cc))
  statement_same scopes (For p a o1 o2 s) = same_then (start_same scopes a) (λ a' a° ha. same_then (optional_same scopes o1) (λ o1' o1° ho1. same_then (optional_same scopes o2) (λ o2' o2° ho2. same_then (statement_same scopes s) (λ s' s° hs. same_pure (For p a' o1' o2' s') (For p a° o1° o2° s°) cc))))
  statement_same scopes (ForIn p t e s) = same_then (target_same scopes t) (λ t' t° ht. same_then (expression_same scopes e) (λ e' e° he. same_then (statement_same scopes s) (λ s' s° hs. same_pure (ForIn p t' e' s') (ForIn p t° e° s°) cc)))
  statement_same scopes (Continue p) = same_pure (Continue p) (Continue p) refl
  statement_same scopes (Break p) = same_pure (Break p) (Break p) refl
  statement_same scopes (Return p o) = same_then (optional_same scopes o) (λ o' o° ho. same_pure (Return p o') (Return p o°) cc)
  statement_same scopes (Throw p e) = same_then (expression_same scopes e) (λ e' e° he. same_pure (Throw p e') (Throw p e°) cc)
  statement_same scopes (Switch p e cs) = same_then (expression_same scopes e) (λ e' e° he. same_then (clauses_same scopes cs) (λ cs' cs° hcs. same_pure (Switch p e' cs') (Switch p e° cs°) cc))
  statement_same scopes (Try p s c o) = same_then (statement_same scopes s) (λ s' s° hs. same_then (handler_same scopes c) (λ c' c° hc. same_then (otherwise_same scopes o) (λ o' o° ho. same_pure (Try p s' c' o') (Try p s° c° o°) cc)))
  statement_same scopes (Declare p x f) = same_then (function_same scopes f) (λ n' n° hn. same_pure (DeclareNumbered p (bound_in scopes x) n') (DeclareNumbered p (unbound x) n°) cc)
  statement_same scopes (DeclareNumbered p x n) = same_then (same_placed) (λ n' n° hn. same_pure (DeclareNumbered p (bound_in scopes x) n') (DeclareNumbered p (unbound x) n°) cc)

  pub otherwise_same : (scopes : List Scope) (o : OptionalStatement) → Same otherwise_unbound (otherwise_in scopes o) (otherwise_numbered o)
  otherwise_same scopes omitted = same_pure omitted omitted refl
  otherwise_same scopes (given s) = same_then (statement_same scopes s) (λ s' s° hs. same_pure (given s') (given s°) cc)

  pub statements_same : (scopes : List Scope) (ss : Statements) → Same statements_unbound (statements_in scopes ss) (statements_numbered ss)
  statements_same scopes no_statement = same_pure no_statement no_statement refl
  statements_same scopes (a_statement s ss) = same_then (statement_same scopes s) (λ s' s° hs. same_then (statements_same scopes ss) (λ ss' ss° hss. same_pure (a_statement s' ss') (a_statement s° ss°) cc))

  pub declarations_same : (scopes : List Scope) (ds : Declarations) → Same declarations_unbound (declarations_in scopes ds) (declarations_numbered ds)
  declarations_same scopes no_declared = same_pure no_declared no_declared refl
  declarations_same scopes (a_declared x o ds) = same_then (optional_same scopes o) (λ o' o° ho. same_then (declarations_same scopes ds) (λ ds' ds° hds. same_pure (a_declared (bound_in scopes x) o' ds') (a_declared (unbound x) o° ds°) cc))

  pub branches_same : (scopes : List Scope) (bs : Branches) → Same branches_unbound (branches_in scopes bs) (branches_numbered bs)
  branches_same scopes no_branch = same_pure no_branch no_branch refl
  branches_same scopes (a_branch e s bs) = same_then (expression_same scopes e) (λ e' e° he. same_then (statement_same scopes s) (λ s' s° hs. same_then (branches_same scopes bs) (λ bs' bs° hbs. same_pure (a_branch e' s' bs') (a_branch e° s° bs°) cc)))

  pub start_same : (scopes : List Scope) (a : StartTree) → Same start_unbound (start_in scopes a) (start_numbered a)
  start_same scopes no_start = same_pure no_start no_start refl
  start_same scopes (start_var p ds) = same_then (declarations_same scopes ds) (λ ds' ds° hds. same_pure (start_var p ds') (start_var p ds°) cc)
  start_same scopes (start_value e) = same_then (expression_same scopes e) (λ e' e° he. same_pure (start_value e') (start_value e°) cc)

  pub target_same : (scopes : List Scope) (t : TargetTree) → Same target_unbound (target_in scopes t) (target_numbered t)
  target_same scopes (target_value e) = same_then (expression_same scopes e) (λ e' e° he. same_pure (target_value e') (target_value e°) cc)
  target_same scopes (target_declared x o) = same_then (optional_same scopes o) (λ o' o° ho. same_pure (target_declared (bound_in scopes x) o') (target_declared (unbound x) o°) cc)

  pub clauses_same : (scopes : List Scope) (cs : Clauses) → Same clauses_unbound (clauses_in scopes cs) (clauses_numbered cs)
  clauses_same scopes no_clause = same_pure no_clause no_clause refl
  clauses_same scopes (a_clause o ss cs) = same_then (optional_same scopes o) (λ o' o° ho. same_then (statements_same scopes ss) (λ ss' ss° hss. same_then (clauses_same scopes cs) (λ cs' cs° hcs. same_pure (a_clause o' ss' cs') (a_clause o° ss° cs°) cc)))

  pub handler_same : (scopes : List Scope) (c : CatchTree) → Same handler_unbound (handler_in scopes c) (handler_numbered c)
  handler_same scopes no_catch = same_pure no_catch no_catch refl
  handler_same scopes (a_catch x s) = same_then (statement_same (in_handler scopes x) s) (λ s' s° hs. same_pure (a_catch (bound_in (in_handler scopes x) x) s') (a_catch (unbound x) s°) cc)
