-- A resolved script fits together.
use Rattle.std.proofs.Common.{◌≡◌, ℕ, Bool, true, List, [], ◌∷◌, map, Option, Some, None, refl, ◌∙◌, ap, arith}
use Rattle.std.specs.Prelude.{option_map, ◌&&◌}
use Rattle.js_tree.specs.declared.bound.BoundName.{BoundName}
use Rattle.js_tree.specs.Tree.{ExpressionTree, Number, Characters, Pattern, True, False, Null, This, Name, Array, Object, Function, Numbered, Suffixed, New, Update, Unary, Chain, Conditional, Assign, Comma, OptionalExpression, absent, present, Expressions, no_expression, an_expression, Items, no_item, an_item, Properties, no_property, a_property, SuffixTree, a_member, an_index, a_call, Suffixes, no_suffix, a_suffix, Operands, no_operand, an_operand, FunctionTree, a_function, StatementTree, Block, Empty, Evaluate, Debugger, Var, If, DoWhile, While, For, ForIn, Continue, Break, Return, Throw, Switch, Try, Declare, DeclareNumbered, OptionalStatement, omitted, given, Statements, no_statement, a_statement, Declarations, no_declared, a_declared, Branches, no_branch, a_branch, StartTree, no_start, start_var, start_value, TargetTree, target_value, target_declared, Clauses, no_clause, a_clause, CatchTree, no_catch, a_catch}
use Rattle.js_tree.specs.Tree.{statements_of}
use Rattle.js_binding.specs.Names.{names_of}
use Rattle.js_binding.specs.Scopes.{Scope, named, bound_in}
use Rattle.js_binding.specs.Resolved.{placed, hollow, around_function, in_body, in_handler, resolved, expression_in, optional_in, expressions_in, items_in, properties_in, suffix_in, suffixes_in, operands_in, function_in, statement_in, otherwise_in, statements_in, declarations_in, branches_in, start_in, target_in, clauses_in, handler_in}
use Rattle.js_law_binding.proofs.Keeps.{Has, Keeps, keeps_pure, keeps_then, keeps_placed, keeps_numbered}
use Rattle.js_binding.specs.Fits.{no_function, own_fits, parameters_fit, program_fits, expression_fits, optional_fits, expressions_fits, items_fits, properties_fits, suffix_fits, suffixes_fits, operands_fits, function_fits, statement_fits, otherwise_fits, statements_fits, declarations_fits, branches_fits, start_fits, target_fits, clauses_fits, handler_fits}
use Rattle.js_law_binding.proofs.Bounds.{binding_fits, around_bound}

-- whether a function fits among scopes
abbrev pub function_test : (ℕ → List Scope → Bool) → FunctionTree → List Scope → Bool
function_test at f scopes = function_fits at scopes f

both : (a b : Bool) → a ≡ true → b ≡ true → (a && b) ≡ true
both a b h k = ap (λ z. z && b) h ∙ k

own_name_fits : (scopes : List Scope) (own : Option BoundName) → own_fits scopes (option_map (bound_in scopes) own) ≡ true
own_name_fits scopes None = refl
own_name_fits scopes (Some x) = binding_fits x.name scopes

names_fit : (scopes : List Scope) (xs : List BoundName) → parameters_fit scopes (map (bound_in scopes) xs) ≡ true
names_fit scopes [] = refl
names_fit scopes (x ∷ xs) = both _ _ (binding_fits x.name scopes) (names_fit scopes xs)

placed_fit : (scopes : List Scope) → Keeps no_function function_test (λ at n. at n scopes ≡ true) (placed hollow)
unfolding function_fits statements_fits
placed_fit scopes = keeps_placed (λ f. f scopes ≡ true) hollow (λ at. refl)

mutual
  unfolding expression_in optional_in expressions_in items_in properties_in suffix_in suffixes_in operands_in function_in statement_in otherwise_in statements_in declarations_in branches_in start_in target_in clauses_in handler_in expression_fits optional_fits expressions_fits items_fits properties_fits suffix_fits suffixes_fits operands_fits function_fits statement_fits otherwise_fits statements_fits declarations_fits branches_fits start_fits target_fits clauses_fits handler_fits

  pub expression_fit : (scopes : List Scope) (e : ExpressionTree) → Keeps no_function function_test (λ at r. expression_fits at scopes r ≡ true) (expression_in scopes e)
  expression_fit scopes (Number p n) = keeps_pure (Number p n) (λ at. refl)
  expression_fit scopes (Characters p x) = keeps_pure (Characters p x) (λ at. refl)
  expression_fit scopes (Pattern p l) = keeps_pure (Pattern p l) (λ at. refl)
  expression_fit scopes (True p) = keeps_pure (True p) (λ at. refl)
  expression_fit scopes (False p) = keeps_pure (False p) (λ at. refl)
  expression_fit scopes (Null p) = keeps_pure (Null p) (λ at. refl)
  expression_fit scopes (This p) = keeps_pure (This p) (λ at. refl)
  expression_fit scopes (Name p x) = keeps_pure (Name p (bound_in scopes x)) (λ at. binding_fits x.name scopes)
  expression_fit scopes (Array p all) = keeps_then (items_fit scopes all) (λ all'. keeps_pure (Array p all') (λ at hall. hall))
  expression_fit scopes (Object p all) = keeps_then (properties_fit scopes all) (λ all'. keeps_pure (Object p all') (λ at hall. hall))
  expression_fit scopes (Function p f) = keeps_then (function_fit scopes f) (λ f'. keeps_pure (Numbered p f') (λ at hf. hf))
  expression_fit scopes (Numbered p n) = keeps_then (placed_fit scopes) (λ n'. keeps_pure (Numbered p n') (λ at hn. hn))
  expression_fit scopes (Suffixed p e all) = keeps_then (expression_fit scopes e) (λ e'. keeps_then (suffixes_fit scopes all) (λ all'. keeps_pure (Suffixed p e' all') (λ at hall he. both _ _ he hall)))
  expression_fit scopes (New p e all) = keeps_then (expression_fit scopes e) (λ e'. keeps_then (expressions_fit scopes all) (λ all'. keeps_pure (New p e' all') (λ at hall he. both _ _ he hall)))
  expression_fit scopes (Update p form op e) = keeps_then (expression_fit scopes e) (λ e'. keeps_pure (Update p form op e') (λ at he. he))
  expression_fit scopes (Unary p op e) = keeps_then (expression_fit scopes e) (λ e'. keeps_pure (Unary p op e') (λ at he. he))
  expression_fit scopes (Chain p e all) = keeps_then (expression_fit scopes e) (λ e'. keeps_then (operands_fit scopes all) (λ all'. keeps_pure (Chain p e' all') (λ at hall he. both _ _ he hall)))
  expression_fit scopes (Conditional p e a b) = keeps_then (expression_fit scopes e) (λ e'. keeps_then (expression_fit scopes a) (λ a'. keeps_then (expression_fit scopes b) (λ b'. keeps_pure (Conditional p e' a' b') (λ at hb ha he. both _ _ he (both _ _ ha hb)))))
  expression_fit scopes (Assign p e op v) = keeps_then (expression_fit scopes e) (λ e'. keeps_then (expression_fit scopes v) (λ v'. keeps_pure (Assign p e' op v') (λ at hv he. both _ _ he hv)))
  expression_fit scopes (Comma p all) = keeps_then (expressions_fit scopes all) (λ all'. keeps_pure (Comma p all') (λ at hall. hall))

  pub optional_fit : (scopes : List Scope) (e : OptionalExpression) → Keeps no_function function_test (λ at r. optional_fits at scopes r ≡ true) (optional_in scopes e)
  optional_fit scopes absent = keeps_pure absent (λ at. refl)
  optional_fit scopes (present e) = keeps_then (expression_fit scopes e) (λ e'. keeps_pure (present e') (λ at he. he))

  pub expressions_fit : (scopes : List Scope) (e : Expressions) → Keeps no_function function_test (λ at r. expressions_fits at scopes r ≡ true) (expressions_in scopes e)
  expressions_fit scopes no_expression = keeps_pure no_expression (λ at. refl)
  expressions_fit scopes (an_expression e es) = keeps_then (expression_fit scopes e) (λ e'. keeps_then (expressions_fit scopes es) (λ es'. keeps_pure (an_expression e' es') (λ at hes he. both _ _ he hes)))

  pub items_fit : (scopes : List Scope) (e : Items) → Keeps no_function function_test (λ at r. items_fits at scopes r ≡ true) (items_in scopes e)
  items_fit scopes no_item = keeps_pure no_item (λ at. refl)
  items_fit scopes (an_item o os) = keeps_then (optional_fit scopes o) (λ o'. keeps_then (items_fit scopes os) (λ os'. keeps_pure (an_item o' os') (λ at hos ho. both _ _ ho hos)))

  pub properties_fit : (scopes : List Scope) (e : Properties) → Keeps no_function function_test (λ at r. properties_fits at scopes r ≡ true) (properties_in scopes e)
  properties_fit scopes no_property = keeps_pure no_property (λ at. refl)
  properties_fit scopes (a_property x e ps) = keeps_then (expression_fit scopes e) (λ e'. keeps_then (properties_fit scopes ps) (λ ps'. keeps_pure (a_property x e' ps') (λ at hps he. both _ _ he hps)))

  pub suffix_fit : (scopes : List Scope) (e : SuffixTree) → Keeps no_function function_test (λ at r. suffix_fits at scopes r ≡ true) (suffix_in scopes e)
  suffix_fit scopes (a_member p x) = keeps_pure (a_member p x) (λ at. refl)
  suffix_fit scopes (an_index p e) = keeps_then (expression_fit scopes e) (λ e'. keeps_pure (an_index p e') (λ at he. he))
  suffix_fit scopes (a_call p es) = keeps_then (expressions_fit scopes es) (λ es'. keeps_pure (a_call p es') (λ at hes. hes))

  pub suffixes_fit : (scopes : List Scope) (e : Suffixes) → Keeps no_function function_test (λ at r. suffixes_fits at scopes r ≡ true) (suffixes_in scopes e)
  suffixes_fit scopes no_suffix = keeps_pure no_suffix (λ at. refl)
  suffixes_fit scopes (a_suffix s ss) = keeps_then (suffix_fit scopes s) (λ s'. keeps_then (suffixes_fit scopes ss) (λ ss'. keeps_pure (a_suffix s' ss') (λ at hss hs. both _ _ hs hss)))

  pub operands_fit : (scopes : List Scope) (e : Operands) → Keeps no_function function_test (λ at r. operands_fits at scopes r ≡ true) (operands_in scopes e)
  operands_fit scopes no_operand = keeps_pure no_operand (λ at. refl)
  operands_fit scopes (an_operand p op e os) = keeps_then (expression_fit scopes e) (λ e'. keeps_then (operands_fit scopes os) (λ os'. keeps_pure (an_operand p op e' os') (λ at hos he. both _ _ he hos)))

  pub function_fit : (scopes : List Scope) (e : FunctionTree) → Keeps no_function function_test (λ at r. at r scopes ≡ true) (function_in scopes e)
  function_fit scopes (a_function own parameters names body) =
      let around = around_function scopes own in
      let inside = in_body around parameters body in
      let own' = option_map (bound_in around) own in
      let parameters' = map (bound_in inside) parameters in
      keeps_numbered (λ at made. statements_fits at inside made ≡ true) (λ f. f scopes ≡ true)
      (λ made. a_function own' parameters' (names_of parameters body) made)
      (statements_in inside body) (statements_fit inside body)
      (λ at made h.
      ap (λ a. own_fits a own' && (parameters_fit (named (names_of parameters body) ∷ a) parameters' && statements_fits at (named (names_of parameters body) ∷ a) made)) (around_bound scopes around own)
      ∙ both (own_fits around own') _ (own_name_fits around own) (both (parameters_fit inside parameters') _ (names_fit inside parameters) h))

  pub statement_fit : (scopes : List Scope) (e : StatementTree) → Keeps no_function function_test (λ at r. statement_fits at scopes r ≡ true) (statement_in scopes e)
  statement_fit scopes (Block p ss) = keeps_then (statements_fit scopes ss) (λ ss'. keeps_pure (Block p ss') (λ at hss. hss))
  statement_fit scopes (Empty p) = keeps_pure (Empty p) (λ at. refl)
  statement_fit scopes (Evaluate p e) = keeps_then (expression_fit scopes e) (λ e'. keeps_pure (Evaluate p e') (λ at he. he))
  statement_fit scopes (Debugger p) = keeps_pure (Debugger p) (λ at. refl)
  statement_fit scopes (Var p ds) = keeps_then (declarations_fit scopes ds) (λ ds'. keeps_pure (Var p ds') (λ at hds. hds))
  statement_fit scopes (If p bs o) = keeps_then (branches_fit scopes bs) (λ bs'. keeps_then (otherwise_fit scopes o) (λ o'. keeps_pure (If p bs' o') (λ at ho hbs. both _ _ hbs ho)))
  statement_fit scopes (DoWhile p s e) = keeps_then (statement_fit scopes s) (λ s'. keeps_then (expression_fit scopes e) (λ e'. keeps_pure (DoWhile p s' e') (λ at he hs. both _ _ hs he)))
  statement_fit scopes (While p e s) = keeps_then (expression_fit scopes e) (λ e'. keeps_then (statement_fit scopes s) (λ s'. keeps_pure (While p e' s') (λ at hs he. both _ _ he hs)))
  statement_fit scopes (For p a e d s) = keeps_then (start_fit scopes a) (λ a'. keeps_then (optional_fit scopes e) (λ e'. keeps_then (optional_fit scopes d) (λ d'. keeps_then (statement_fit scopes s) (λ s'. keeps_pure (For p a' e' d' s') (λ at hs hd he ha. both _ _ ha (both _ _ he (both _ _ hd hs)))))))
  statement_fit scopes (ForIn p t e s) = keeps_then (target_fit scopes t) (λ t'. keeps_then (expression_fit scopes e) (λ e'. keeps_then (statement_fit scopes s) (λ s'. keeps_pure (ForIn p t' e' s') (λ at hs he ht. both _ _ ht (both _ _ he hs)))))
  statement_fit scopes (Continue p) = keeps_pure (Continue p) (λ at. refl)
  statement_fit scopes (Break p) = keeps_pure (Break p) (λ at. refl)
  statement_fit scopes (Return p o) = keeps_then (optional_fit scopes o) (λ o'. keeps_pure (Return p o') (λ at ho. ho))
  statement_fit scopes (Throw p e) = keeps_then (expression_fit scopes e) (λ e'. keeps_pure (Throw p e') (λ at he. he))
  statement_fit scopes (Switch p e cs) = keeps_then (expression_fit scopes e) (λ e'. keeps_then (clauses_fit scopes cs) (λ cs'. keeps_pure (Switch p e' cs') (λ at hcs he. both _ _ he hcs)))
  statement_fit scopes (Try p s c o) = keeps_then (statement_fit scopes s) (λ s'. keeps_then (handler_fit scopes c) (λ c'. keeps_then (otherwise_fit scopes o) (λ o'. keeps_pure (Try p s' c' o') (λ at ho hc hs. both _ _ hs (both _ _ hc ho)))))
  statement_fit scopes (Declare p x f) = keeps_then (function_fit scopes f) (λ f'. keeps_pure (DeclareNumbered p (bound_in scopes x) f') (λ at hf. both _ _ (binding_fits x.name scopes) hf))
  statement_fit scopes (DeclareNumbered p x n) = keeps_then (placed_fit scopes) (λ n'. keeps_pure (DeclareNumbered p (bound_in scopes x) n') (λ at hn. both _ _ (binding_fits x.name scopes) hn))

  pub otherwise_fit : (scopes : List Scope) (e : OptionalStatement) → Keeps no_function function_test (λ at r. otherwise_fits at scopes r ≡ true) (otherwise_in scopes e)
  otherwise_fit scopes omitted = keeps_pure omitted (λ at. refl)
  otherwise_fit scopes (given s) = keeps_then (statement_fit scopes s) (λ s'. keeps_pure (given s') (λ at hs. hs))

  pub statements_fit : (scopes : List Scope) (e : Statements) → Keeps no_function function_test (λ at r. statements_fits at scopes r ≡ true) (statements_in scopes e)
  statements_fit scopes no_statement = keeps_pure no_statement (λ at. refl)
  statements_fit scopes (a_statement s ss) = keeps_then (statement_fit scopes s) (λ s'. keeps_then (statements_fit scopes ss) (λ ss'. keeps_pure (a_statement s' ss') (λ at hss hs. both _ _ hs hss)))

  pub declarations_fit : (scopes : List Scope) (e : Declarations) → Keeps no_function function_test (λ at r. declarations_fits at scopes r ≡ true) (declarations_in scopes e)
  declarations_fit scopes no_declared = keeps_pure no_declared (λ at. refl)
  declarations_fit scopes (a_declared x o ds) = keeps_then (optional_fit scopes o) (λ o'. keeps_then (declarations_fit scopes ds) (λ ds'. keeps_pure (a_declared (bound_in scopes x) o' ds') (λ at hds ho. both _ _ (binding_fits x.name scopes) (both _ _ ho hds))))

  pub branches_fit : (scopes : List Scope) (e : Branches) → Keeps no_function function_test (λ at r. branches_fits at scopes r ≡ true) (branches_in scopes e)
  branches_fit scopes no_branch = keeps_pure no_branch (λ at. refl)
  branches_fit scopes (a_branch e s bs) = keeps_then (expression_fit scopes e) (λ e'. keeps_then (statement_fit scopes s) (λ s'. keeps_then (branches_fit scopes bs) (λ bs'. keeps_pure (a_branch e' s' bs') (λ at hbs hs he. both _ _ he (both _ _ hs hbs)))))

  pub start_fit : (scopes : List Scope) (e : StartTree) → Keeps no_function function_test (λ at r. start_fits at scopes r ≡ true) (start_in scopes e)
  start_fit scopes no_start = keeps_pure no_start (λ at. refl)
  start_fit scopes (start_var p ds) = keeps_then (declarations_fit scopes ds) (λ ds'. keeps_pure (start_var p ds') (λ at hds. hds))
  start_fit scopes (start_value e) = keeps_then (expression_fit scopes e) (λ e'. keeps_pure (start_value e') (λ at he. he))

  pub target_fit : (scopes : List Scope) (e : TargetTree) → Keeps no_function function_test (λ at r. target_fits at scopes r ≡ true) (target_in scopes e)
  target_fit scopes (target_value e) = keeps_then (expression_fit scopes e) (λ e'. keeps_pure (target_value e') (λ at he. he))
  target_fit scopes (target_declared x o) = keeps_then (optional_fit scopes o) (λ o'. keeps_pure (target_declared (bound_in scopes x) o') (λ at ho. both _ _ (binding_fits x.name scopes) ho))

  pub clauses_fit : (scopes : List Scope) (e : Clauses) → Keeps no_function function_test (λ at r. clauses_fits at scopes r ≡ true) (clauses_in scopes e)
  clauses_fit scopes no_clause = keeps_pure no_clause (λ at. refl)
  clauses_fit scopes (a_clause o ss cs) = keeps_then (optional_fit scopes o) (λ o'. keeps_then (statements_fit scopes ss) (λ ss'. keeps_then (clauses_fit scopes cs) (λ cs'. keeps_pure (a_clause o' ss' cs') (λ at hcs hss ho. both _ _ ho (both _ _ hss hcs)))))

  pub handler_fit : (scopes : List Scope) (e : CatchTree) → Keeps no_function function_test (λ at r. handler_fits at scopes r ≡ true) (handler_in scopes e)
  handler_fit scopes no_catch = keeps_pure no_catch (λ at. refl)
  handler_fit scopes (a_catch x s) = keeps_then (statement_fit (in_handler scopes x) s) (λ s'. keeps_pure (a_catch (bound_in (in_handler scopes x) x) s') (λ at hs. both _ _ (binding_fits x.name (in_handler scopes x)) hs))

-- Each function of a list has itself at its number.
has_itself : (from : ℕ) (functions : List FunctionTree) → Has from functions functions
has_itself from functions = record { longer = omega arith; kept = λ n past below. refl }

pub resolved_fits : (script : List StatementTree) → program_fits (resolved script).0 (resolved script).1 ≡ true
resolved_fits script =
    (statements_fit [] (statements_of script)).keeps [] (resolved script).1 _ (has_itself 0 (resolved script).1) (λ n past. refl)
