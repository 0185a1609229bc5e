-- Written by tools/write_tree.py from Tree.antt: change that file, and run the script.
-- Each tree of a script in which no declared function has a name of its own: once it is resolved it is right, and it
-- mentions and declares the names that it did. y: the name that is mentioned or not.
use Rattle.std.proofs.Common.{◌≡◌, ℕ, List, refl}
use Rattle.js_tree.specs.Tree.{ExpressionTree, Number, Characters, Pattern, True, False, Null, This, Name, Array, Object, Function, Numbered, Suffixed, New, Update, Unary, Chain, Conditional, Assign, Comma, OptionalExpression, absent, present, Expressions, no_expression, an_expression, Items, no_item, an_item, Properties, no_property, a_property, SuffixTree, a_member, an_index, a_call, Suffixes, no_suffix, a_suffix, Operands, no_operand, an_operand, FunctionTree, a_function, StatementTree, Block, Empty, Evaluate, Debugger, Var, If, DoWhile, While, For, ForIn, Continue, Break, Return, Throw, Switch, Try, Declare, DeclareNumbered, OptionalStatement, omitted, given, Statements, no_statement, a_statement, Declarations, no_declared, a_declared, Branches, no_branch, a_branch, StartTree, no_start, start_var, start_value, TargetTree, target_value, target_declared, Clauses, no_clause, a_clause, CatchTree, no_catch, a_catch}
use Rattle.js_binding.specs.Names.{arguments_name, declared_function, functions_of, mentions, mentions_in, mentions_in_body, mentions_in_branches, mentions_in_clauses, mentions_in_declarations, mentions_in_expressions, mentions_in_handler, mentions_in_items, mentions_in_operands, mentions_in_optional, mentions_in_otherwise, mentions_in_properties, mentions_in_start, mentions_in_suffix, mentions_in_suffixes, mentions_in_target, variables_of, variables_of_all, variables_of_branches, variables_of_clauses, variables_of_declarations, variables_of_handler, variables_of_otherwise, variables_of_start, variables_of_target}
use Rattle.js_binding.specs.Scopes.{Scope, bound_in}
use Rattle.js_binding.specs.Resolved.{around_function, in_body, in_handler, expression_in, optional_in, expressions_in, items_in, properties_in, suffix_in, suffixes_in, operands_in, statement_in, otherwise_in, statements_in, declarations_in, branches_in, start_in, target_in, clauses_in, handler_in, function_in}
use Rattle.js_law_right.specs.EachIn.{EachInExpression, EachInOptional, EachInExpressions, EachInItems, EachInProperties, EachInSuffix, EachInSuffixes, EachInOperands, EachInFunction, EachInStatement, EachInOtherwise, EachInStatements, EachInDeclarations, EachInBranches, EachInStart, EachInTarget, EachInClauses, EachInHandler}
use Rattle.js_law_right.specs.Anonymous.{anonymous}
use Rattle.js_law_right.specs.Right.{right}
use Rattle.js_law_right.specs.Unbound.{expression_unbound, optional_unbound, expressions_unbound, items_unbound, properties_unbound, suffix_unbound, suffixes_unbound, operands_unbound, statement_unbound, otherwise_unbound, statements_unbound, declarations_unbound, branches_unbound, start_unbound, target_unbound, clauses_unbound, handler_unbound}
use Rattle.js_law_right.proofs.Keeps.{Keeps, keeps_pure, keeps_then}
use Rattle.js_law_right.proofs.Functions.{setting_of, numbered_kept, declared_kept, expression_right, declaration_right, function_kept}

mutual
  unfolding expression_in optional_in expressions_in items_in properties_in suffix_in suffixes_in operands_in statement_in otherwise_in statements_in declarations_in branches_in start_in target_in clauses_in handler_in function_in

  pub expression_keeps : (y : List ℕ) (scopes : List Scope) (e : ExpressionTree) → EachInExpression anonymous scopes e
      → Keeps (λ setting r. EachInExpression (right setting) scopes r × (mentions y (expression_unbound r) ≡ mentions y e)) (expression_in scopes e)
  expression_keeps y scopes (Number p n) h = keeps_pure (Number p n) (λ setting. (tt, refl))
  expression_keeps y scopes (Characters p text) h = keeps_pure (Characters p text) (λ setting. (tt, refl))
  expression_keeps y scopes (Pattern p literal) h = keeps_pure (Pattern p literal) (λ setting. (tt, refl))
  expression_keeps y scopes (True p) h = keeps_pure (True p) (λ setting. (tt, refl))
  expression_keeps y scopes (False p) h = keeps_pure (False p) (λ setting. (tt, refl))
  expression_keeps y scopes (Null p) h = keeps_pure (Null p) (λ setting. (tt, refl))
  expression_keeps y scopes (This p) h = keeps_pure (This p) (λ setting. (tt, refl))
  expression_keeps y scopes (Name p x) h = keeps_pure (Name p (bound_in scopes x)) (λ setting. (refl, refl))
  expression_keeps y scopes (Array p items) h = keeps_then (items_keeps y scopes items h) (λ items'. keeps_pure (Array p items') (λ setting hitems. (hitems.0, cc (hitems.1))))
  expression_keeps y scopes (Object p ps) h = keeps_then (properties_keeps y scopes ps h) (λ ps'. keeps_pure (Object p ps') (λ setting hps. (hps.0, cc (hps.1))))
  expression_keeps y scopes (Function p f) h = keeps_then (function_keeps scopes f h.1) (λ n'. keeps_pure (Numbered p n') (λ setting hn. (expression_right setting scopes f n' h.0 hn, refl)))
  expression_keeps y scopes (Numbered p n) h = keeps_then (numbered_kept scopes) (λ n'. keeps_pure (Numbered p n') (λ setting hn. (hn, refl)))
  expression_keeps y scopes (Suffixed p e ss) h = keeps_then (expression_keeps y scopes e h.0) (λ e'. keeps_then (suffixes_keeps y scopes ss h.1) (λ ss'. keeps_pure (Suffixed p e' ss') (λ setting hss he. ((he.0, hss.0), cc (he.1, hss.1)))))
  expression_keeps y scopes (New p e es) h = keeps_then (expression_keeps y scopes e h.0) (λ e'. keeps_then (expressions_keeps y scopes es h.1) (λ es'. keeps_pure (New p e' es') (λ setting hes he. ((he.0, hes.0), cc (he.1, hes.1)))))
  expression_keeps y scopes (Update p form op e) h = keeps_then (expression_keeps y scopes e h) (λ e'. keeps_pure (Update p form op e') (λ setting he. (he.0, cc (he.1))))
  expression_keeps y scopes (Unary p op e) h = keeps_then (expression_keeps y scopes e h) (λ e'. keeps_pure (Unary p op e') (λ setting he. (he.0, cc (he.1))))
  expression_keeps y scopes (Chain p e os) h = keeps_then (expression_keeps y scopes e h.0) (λ e'. keeps_then (operands_keeps y scopes os h.1) (λ os'. keeps_pure (Chain p e' os') (λ setting hos he. ((he.0, hos.0), cc (he.1, hos.1)))))
  expression_keeps y scopes (Conditional p e1 e2 e3) h = keeps_then (expression_keeps y scopes e1 h.0) (λ e1'. keeps_then (expression_keeps y scopes e2 h.1) (λ e2'. keeps_then (expression_keeps y scopes e3 h.2) (λ e3'. keeps_pure (Conditional p e1' e2' e3') (λ setting he3 he2 he1. ((he1.0, he2.0, he3.0), cc (he1.1, he2.1, he3.1))))))
  expression_keeps y scopes (Assign p e1 op e2) h = keeps_then (expression_keeps y scopes e1 h.0) (λ e1'. keeps_then (expression_keeps y scopes e2 h.1) (λ e2'. keeps_pure (Assign p e1' op e2') (λ setting he2 he1. ((he1.0, he2.0), cc (he1.1, he2.1)))))
  expression_keeps y scopes (Comma p es) h = keeps_then (expressions_keeps y scopes es h) (λ es'. keeps_pure (Comma p es') (λ setting hes. (hes.0, cc (hes.1))))

  pub optional_keeps : (y : List ℕ) (scopes : List Scope) (o : OptionalExpression) → EachInOptional anonymous scopes o
      → Keeps (λ setting r. EachInOptional (right setting) scopes r × (mentions_in_optional y (optional_unbound r) ≡ mentions_in_optional y o)) (optional_in scopes o)
  optional_keeps y scopes absent h = keeps_pure absent (λ setting. (tt, refl))
  optional_keeps y scopes (present e) h = keeps_then (expression_keeps y scopes e h) (λ e'. keeps_pure (present e') (λ setting he. (he.0, cc (he.1))))

  pub expressions_keeps : (y : List ℕ) (scopes : List Scope) (es : Expressions) → EachInExpressions anonymous scopes es
      → Keeps (λ setting r. EachInExpressions (right setting) scopes r × (mentions_in_expressions y (expressions_unbound r) ≡ mentions_in_expressions y es)) (expressions_in scopes es)
  expressions_keeps y scopes no_expression h = keeps_pure no_expression (λ setting. (tt, refl))
  expressions_keeps y scopes (an_expression e es) h = keeps_then (expression_keeps y scopes e h.0) (λ e'. keeps_then (expressions_keeps y scopes es h.1) (λ es'. keeps_pure (an_expression e' es') (λ setting hes he. ((he.0, hes.0), cc (he.1, hes.1)))))

  pub items_keeps : (y : List ℕ) (scopes : List Scope) (items : Items) → EachInItems anonymous scopes items
      → Keeps (λ setting r. EachInItems (right setting) scopes r × (mentions_in_items y (items_unbound r) ≡ mentions_in_items y items)) (items_in scopes items)
  items_keeps y scopes no_item h = keeps_pure no_item (λ setting. (tt, refl))
  items_keeps y scopes (an_item o items) h = keeps_then (optional_keeps y scopes o h.0) (λ o'. keeps_then (items_keeps y scopes items h.1) (λ items'. keeps_pure (an_item o' items') (λ setting hitems ho. ((ho.0, hitems.0), cc (ho.1, hitems.1)))))

  pub properties_keeps : (y : List ℕ) (scopes : List Scope) (ps : Properties) → EachInProperties anonymous scopes ps
      → Keeps (λ setting r. EachInProperties (right setting) scopes r × (mentions_in_properties y (properties_unbound r) ≡ mentions_in_properties y ps)) (properties_in scopes ps)
  properties_keeps y scopes no_property h = keeps_pure no_property (λ setting. (tt, refl))
  properties_keeps y scopes (a_property text e ps) h = keeps_then (expression_keeps y scopes e h.0) (λ e'. keeps_then (properties_keeps y scopes ps h.1) (λ ps'. keeps_pure (a_property text e' ps') (λ setting hps he. ((he.0, hps.0), cc (he.1, hps.1)))))

  pub suffix_keeps : (y : List ℕ) (scopes : List Scope) (s : SuffixTree) → EachInSuffix anonymous scopes s
      → Keeps (λ setting r. EachInSuffix (right setting) scopes r × (mentions_in_suffix y (suffix_unbound r) ≡ mentions_in_suffix y s)) (suffix_in scopes s)
  suffix_keeps y scopes (a_member p text) h = keeps_pure (a_member p text) (λ setting. (tt, refl))
  suffix_keeps y scopes (an_index p e) h = keeps_then (expression_keeps y scopes e h) (λ e'. keeps_pure (an_index p e') (λ setting he. (he.0, cc (he.1))))
  suffix_keeps y scopes (a_call p es) h = keeps_then (expressions_keeps y scopes es h) (λ es'. keeps_pure (a_call p es') (λ setting hes. (hes.0, cc (hes.1))))

  pub suffixes_keeps : (y : List ℕ) (scopes : List Scope) (ss : Suffixes) → EachInSuffixes anonymous scopes ss
      → Keeps (λ setting r. EachInSuffixes (right setting) scopes r × (mentions_in_suffixes y (suffixes_unbound r) ≡ mentions_in_suffixes y ss)) (suffixes_in scopes ss)
  suffixes_keeps y scopes no_suffix h = keeps_pure no_suffix (λ setting. (tt, refl))
  suffixes_keeps y scopes (a_suffix s ss) h = keeps_then (suffix_keeps y scopes s h.0) (λ s'. keeps_then (suffixes_keeps y scopes ss h.1) (λ ss'. keeps_pure (a_suffix s' ss') (λ setting hss hs. ((hs.0, hss.0), cc (hs.1, hss.1)))))

  pub operands_keeps : (y : List ℕ) (scopes : List Scope) (os : Operands) → EachInOperands anonymous scopes os
      → Keeps (λ setting r. EachInOperands (right setting) scopes r × (mentions_in_operands y (operands_unbound r) ≡ mentions_in_operands y os)) (operands_in scopes os)
  operands_keeps y scopes no_operand h = keeps_pure no_operand (λ setting. (tt, refl))
  operands_keeps y scopes (an_operand p op e os) h = keeps_then (expression_keeps y scopes e h.0) (λ e'. keeps_then (operands_keeps y scopes os h.1) (λ os'. keeps_pure (an_operand p op e' os') (λ setting hos he. ((he.0, hos.0), cc (he.1, hos.1)))))

  pub function_keeps : (scopes : List Scope) (f : FunctionTree) → EachInFunction anonymous scopes f
      → Keeps (λ setting n. setting n ≡ setting_of scopes f) (function_in scopes f)
  function_keeps scopes (a_function own parameters names body) h =
      function_kept scopes own parameters names body
      (statements_keeps arguments_name (in_body (around_function scopes own) parameters body) body h)

  pub statement_keeps : (y : List ℕ) (scopes : List Scope) (s : StatementTree) → EachInStatement anonymous scopes s
      → Keeps (λ setting r. EachInStatement (right setting) scopes r × (mentions_in y (statement_unbound r) ≡ mentions_in y s) × (variables_of (statement_unbound r) ≡ variables_of s) × (declared_function (statement_unbound r) ≡ declared_function s)) (statement_in scopes s)
  statement_keeps y scopes (Block p ss) h = keeps_then (statements_keeps y scopes ss h) (λ ss'. keeps_pure (Block p ss') (λ setting hss. (hss.0, cc (hss.1), cc (hss.2), refl)))
  statement_keeps y scopes (Empty p) h = keeps_pure (Empty p) (λ setting. (tt, refl, refl, refl))
  statement_keeps y scopes (Evaluate p e) h = keeps_then (expression_keeps y scopes e h) (λ e'. keeps_pure (Evaluate p e') (λ setting he. (he.0, cc (he.1), refl, refl)))
  statement_keeps y scopes (Debugger p) h = keeps_pure (Debugger p) (λ setting. (tt, refl, refl, refl))
  statement_keeps y scopes (Var p ds) h = keeps_then (declarations_keeps y scopes ds h) (λ ds'. keeps_pure (Var p ds') (λ setting hds. (hds.0, cc (hds.1), cc (hds.2), refl)))
  statement_keeps y scopes (If p bs o) h = keeps_then (branches_keeps y scopes bs h.0) (λ bs'. keeps_then (otherwise_keeps y scopes o h.1) (λ o'. keeps_pure (If p bs' o') (λ setting ho hbs. ((hbs.0, ho.0), cc (hbs.1, ho.1), cc (hbs.2, ho.2), refl))))
  statement_keeps y scopes (DoWhile p s e) h = keeps_then (statement_keeps y scopes s h.0) (λ s'. keeps_then (expression_keeps y scopes e h.1) (λ e'. keeps_pure (DoWhile p s' e') (λ setting he hs. ((hs.0, he.0), cc (hs.1, he.1), cc (hs.2), refl))))
  statement_keeps y scopes (While p e s) h = keeps_then (expression_keeps y scopes e h.0) (λ e'. keeps_then (statement_keeps y scopes s h.1) (λ s'. keeps_pure (While p e' s') (λ setting hs he. ((he.0, hs.0), cc (he.1, hs.1), cc (hs.2), refl))))
  statement_keeps y scopes (For p a o1 o2 s) h = keeps_then (start_keeps y scopes a h.0) (λ a'. keeps_then (optional_keeps y scopes o1 h.1) (λ o1'. keeps_then (optional_keeps y scopes o2 h.2) (λ o2'. keeps_then (statement_keeps y scopes s h.3) (λ s'. keeps_pure (For p a' o1' o2' s') (λ setting hs ho2 ho1 ha. ((ha.0, ho1.0, ho2.0, hs.0), cc (ha.1, ho1.1, ho2.1, hs.1), cc (ha.2, hs.2), refl))))))
  statement_keeps y scopes (ForIn p t e s) h = keeps_then (target_keeps y scopes t h.0) (λ t'. keeps_then (expression_keeps y scopes e h.1) (λ e'. keeps_then (statement_keeps y scopes s h.2) (λ s'. keeps_pure (ForIn p t' e' s') (λ setting hs he ht. ((ht.0, he.0, hs.0), cc (ht.1, he.1, hs.1), cc (ht.2, hs.2), refl)))))
  statement_keeps y scopes (Continue p) h = keeps_pure (Continue p) (λ setting. (tt, refl, refl, refl))
  statement_keeps y scopes (Break p) h = keeps_pure (Break p) (λ setting. (tt, refl, refl, refl))
  statement_keeps y scopes (Return p o) h = keeps_then (optional_keeps y scopes o h) (λ o'. keeps_pure (Return p o') (λ setting ho. (ho.0, cc (ho.1), refl, refl)))
  statement_keeps y scopes (Throw p e) h = keeps_then (expression_keeps y scopes e h) (λ e'. keeps_pure (Throw p e') (λ setting he. (he.0, cc (he.1), refl, refl)))
  statement_keeps y scopes (Switch p e cs) h = keeps_then (expression_keeps y scopes e h.0) (λ e'. keeps_then (clauses_keeps y scopes cs h.1) (λ cs'. keeps_pure (Switch p e' cs') (λ setting hcs he. ((he.0, hcs.0), cc (he.1, hcs.1), cc (hcs.2), refl))))
  statement_keeps y scopes (Try p s c o) h = keeps_then (statement_keeps y scopes s h.0) (λ s'. keeps_then (handler_keeps y scopes c h.1) (λ c'. keeps_then (otherwise_keeps y scopes o h.2) (λ o'. keeps_pure (Try p s' c' o') (λ setting ho hc hs. ((hs.0, hc.0, ho.0), cc (hs.1, hc.1, ho.1), cc (hs.2, hc.2, ho.2), refl)))))
  statement_keeps y scopes (Declare p x f) h = keeps_then (function_keeps scopes f h.2) (λ n'. keeps_pure (DeclareNumbered p (bound_in scopes x) n') (λ setting hn. ((refl, declaration_right setting scopes f n' h.1 hn), refl, refl, refl)))
  statement_keeps y scopes (DeclareNumbered p x n) h = keeps_then (declared_kept scopes) (λ n'. keeps_pure (DeclareNumbered p (bound_in scopes x) n') (λ setting hn. ((refl, hn), refl, refl, refl)))

  pub otherwise_keeps : (y : List ℕ) (scopes : List Scope) (o : OptionalStatement) → EachInOtherwise anonymous scopes o
      → Keeps (λ setting r. EachInOtherwise (right setting) scopes r × (mentions_in_otherwise y (otherwise_unbound r) ≡ mentions_in_otherwise y o) × (variables_of_otherwise (otherwise_unbound r) ≡ variables_of_otherwise o)) (otherwise_in scopes o)
  otherwise_keeps y scopes omitted h = keeps_pure omitted (λ setting. (tt, refl, refl))
  otherwise_keeps y scopes (given s) h = keeps_then (statement_keeps y scopes s h) (λ s'. keeps_pure (given s') (λ setting hs. (hs.0, cc (hs.1), cc (hs.2))))

  pub statements_keeps : (y : List ℕ) (scopes : List Scope) (ss : Statements) → EachInStatements anonymous scopes ss
      → Keeps (λ setting r. EachInStatements (right setting) scopes r × (mentions_in_body y (statements_unbound r) ≡ mentions_in_body y ss) × (variables_of_all (statements_unbound r) ≡ variables_of_all ss) × (functions_of (statements_unbound r) ≡ functions_of ss)) (statements_in scopes ss)
  statements_keeps y scopes no_statement h = keeps_pure no_statement (λ setting. (tt, refl, refl, refl))
  statements_keeps y scopes (a_statement s ss) h = keeps_then (statement_keeps y scopes s h.0) (λ s'. keeps_then (statements_keeps y scopes ss h.1) (λ ss'. keeps_pure (a_statement s' ss') (λ setting hss hs. ((hs.0, hss.0), cc (hs.1, hss.1), cc (hs.2, hss.2), cc (hs.3, hss.3)))))

  pub declarations_keeps : (y : List ℕ) (scopes : List Scope) (ds : Declarations) → EachInDeclarations anonymous scopes ds
      → Keeps (λ setting r. EachInDeclarations (right setting) scopes r × (mentions_in_declarations y (declarations_unbound r) ≡ mentions_in_declarations y ds) × (variables_of_declarations (declarations_unbound r) ≡ variables_of_declarations ds)) (declarations_in scopes ds)
  declarations_keeps y scopes no_declared h = keeps_pure no_declared (λ setting. (tt, refl, refl))
  declarations_keeps y scopes (a_declared x o ds) h = keeps_then (optional_keeps y scopes o h.1) (λ o'. keeps_then (declarations_keeps y scopes ds h.2) (λ ds'. keeps_pure (a_declared (bound_in scopes x) o' ds') (λ setting hds ho. ((refl, ho.0, hds.0), cc (ho.1, hds.1), cc (hds.2)))))

  pub branches_keeps : (y : List ℕ) (scopes : List Scope) (bs : Branches) → EachInBranches anonymous scopes bs
      → Keeps (λ setting r. EachInBranches (right setting) scopes r × (mentions_in_branches y (branches_unbound r) ≡ mentions_in_branches y bs) × (variables_of_branches (branches_unbound r) ≡ variables_of_branches bs)) (branches_in scopes bs)
  branches_keeps y scopes no_branch h = keeps_pure no_branch (λ setting. (tt, refl, refl))
  branches_keeps y scopes (a_branch e s bs) h = keeps_then (expression_keeps y scopes e h.0) (λ e'. keeps_then (statement_keeps y scopes s h.1) (λ s'. keeps_then (branches_keeps y scopes bs h.2) (λ bs'. keeps_pure (a_branch e' s' bs') (λ setting hbs hs he. ((he.0, hs.0, hbs.0), cc (he.1, hs.1, hbs.1), cc (hs.2, hbs.2))))))

  pub start_keeps : (y : List ℕ) (scopes : List Scope) (a : StartTree) → EachInStart anonymous scopes a
      → Keeps (λ setting r. EachInStart (right setting) scopes r × (mentions_in_start y (start_unbound r) ≡ mentions_in_start y a) × (variables_of_start (start_unbound r) ≡ variables_of_start a)) (start_in scopes a)
  start_keeps y scopes no_start h = keeps_pure no_start (λ setting. (tt, refl, refl))
  start_keeps y scopes (start_var p ds) h = keeps_then (declarations_keeps y scopes ds h) (λ ds'. keeps_pure (start_var p ds') (λ setting hds. (hds.0, cc (hds.1), cc (hds.2))))
  start_keeps y scopes (start_value e) h = keeps_then (expression_keeps y scopes e h) (λ e'. keeps_pure (start_value e') (λ setting he. (he.0, cc (he.1), refl)))

  pub target_keeps : (y : List ℕ) (scopes : List Scope) (t : TargetTree) → EachInTarget anonymous scopes t
      → Keeps (λ setting r. EachInTarget (right setting) scopes r × (mentions_in_target y (target_unbound r) ≡ mentions_in_target y t) × (variables_of_target (target_unbound r) ≡ variables_of_target t)) (target_in scopes t)
  target_keeps y scopes (target_value e) h = keeps_then (expression_keeps y scopes e h) (λ e'. keeps_pure (target_value e') (λ setting he. (he.0, cc (he.1), refl)))
  target_keeps y scopes (target_declared x o) h = keeps_then (optional_keeps y scopes o h.1) (λ o'. keeps_pure (target_declared (bound_in scopes x) o') (λ setting ho. ((refl, ho.0), cc (ho.1), refl)))

  pub clauses_keeps : (y : List ℕ) (scopes : List Scope) (cs : Clauses) → EachInClauses anonymous scopes cs
      → Keeps (λ setting r. EachInClauses (right setting) scopes r × (mentions_in_clauses y (clauses_unbound r) ≡ mentions_in_clauses y cs) × (variables_of_clauses (clauses_unbound r) ≡ variables_of_clauses cs)) (clauses_in scopes cs)
  clauses_keeps y scopes no_clause h = keeps_pure no_clause (λ setting. (tt, refl, refl))
  clauses_keeps y scopes (a_clause o ss cs) h = keeps_then (optional_keeps y scopes o h.0) (λ o'. keeps_then (statements_keeps y scopes ss h.1) (λ ss'. keeps_then (clauses_keeps y scopes cs h.2) (λ cs'. keeps_pure (a_clause o' ss' cs') (λ setting hcs hss ho. ((ho.0, hss.0, hcs.0), cc (ho.1, hss.1, hcs.1), cc (hss.2, hcs.2))))))

  pub handler_keeps : (y : List ℕ) (scopes : List Scope) (c : CatchTree) → EachInHandler anonymous scopes c
      → Keeps (λ setting r. EachInHandler (right setting) scopes r × (mentions_in_handler y (handler_unbound r) ≡ mentions_in_handler y c) × (variables_of_handler (handler_unbound r) ≡ variables_of_handler c)) (handler_in scopes c)
  handler_keeps y scopes no_catch h = keeps_pure no_catch (λ setting. (tt, refl, refl))
  handler_keeps y scopes (a_catch x s) h = keeps_then (statement_keeps y (in_handler scopes x) s h.1) (λ s'. keeps_pure (a_catch (bound_in (in_handler scopes x) x) s') (λ setting hs. ((refl, hs.0), cc (hs.1), cc (hs.2))))
