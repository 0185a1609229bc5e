-- Reading by slots is looking names up along environment records.
use Rattle.std.proofs.Common.{◌≡◌, ℕ, List, [], ◌∷◌, ◌++◌, map, Option, Some, None, refl, ◌∙◌, ap, arith}
use Rattle.std.specs.Prelude.{option_map}
use Rattle.js_tree.specs.declared.bound.BoundName.{BoundName}
use Rattle.js_tree.specs.Tree.{ExpressionTree, Number, Characters, Pattern, True, False, Null, This, Name, Array, Object, Function, Numbered, Suffixed, New, Update, Unary, Chain, Conditional, Assign, Comma, OptionalExpression, absent, present, Expressions, no_expression, an_expression, Items, no_item, an_item, Properties, no_property, a_property, SuffixTree, a_member, an_index, a_call, Suffixes, no_suffix, a_suffix, Operands, no_operand, an_operand, FunctionTree, a_function, StatementTree, Block, Empty, Evaluate, Debugger, Var, If, DoWhile, While, For, ForIn, Continue, Break, Return, Throw, Switch, Try, Declare, DeclareNumbered, OptionalStatement, omitted, given, Statements, no_statement, a_statement, Declarations, no_declared, a_declared, Branches, no_branch, a_branch, StartTree, no_start, start_var, start_value, TargetTree, target_value, target_declared, Clauses, no_clause, a_clause, CatchTree, no_catch, a_catch}
use Rattle.js_tree.specs.Tree.{statements_of}
use Rattle.js_binding.specs.Names.{names_of}
use Rattle.js_binding.specs.Scopes.{Scope, bound_in}
use Rattle.js_binding.specs.Resolved.{placed, hollow, around_function, in_body, in_handler, resolved, expression_in, optional_in, expressions_in, items_in, properties_in, suffix_in, suffixes_in, operands_in, function_in, statement_in, otherwise_in, statements_in, declarations_in, branches_in, start_in, target_in, clauses_in, handler_in}
use Rattle.js_law_binding.proofs.Keeps.{Has, Keeps, keeps_pure, keeps_then, keeps_placed, keeps_numbered}
use Rattle.js_law_binding.specs.Environments.{looked_up, with_record, with_own, own_read, names_read, with_values, with_own_value, value_of, own_value, parameter_values, nothing_read, values_in_function, read_by_name, read_by_slot, expression_read, optional_read, expressions_read, items_read, properties_read, suffix_read, suffixes_read, operands_read, function_read, statement_read, otherwise_read, statements_read, declarations_read, branches_read, start_read, target_read, clauses_read, handler_read, expression_values, optional_values, expressions_values, items_values, properties_values, suffix_values, suffixes_values, operands_values, function_values, statement_values, otherwise_values, statements_values, declarations_values, branches_values, start_values, target_values, clauses_values, handler_values}
use Rattle.js_law_binding.proofs.LookUps.{records_of, values_of, binding_reads}

both : {A : Type 0} (a a' b b' : List A) → a ≡ a' → b ≡ b' → a ++ b ≡ a' ++ b'
both a a' b b' h k = ap (λ z. z ++ b) h ∙ ap (λ z. a' ++ z) k

one : (value : ℕ → ℕ → ℕ) (scopes : List Scope) (x : BoundName) → (value_of (bound_in scopes x).bound (values_of value scopes) ∷ []) ≡ (looked_up x.name (records_of value scopes) ∷ [])
one value scopes x = ap (λ v. v ∷ []) (binding_reads value x.name scopes)

own_one : (value : ℕ → ℕ → ℕ) (scopes : List Scope) (own : Option BoundName) → own_value (values_of value scopes) (option_map (bound_in scopes) own) ≡ own_read (records_of value scopes) own
own_one value scopes None = refl
own_one value scopes (Some x) = one value scopes x

all_read : (value : ℕ → ℕ → ℕ) (scopes : List Scope) (xs : List BoundName) → parameter_values (values_of value scopes) (map (bound_in scopes) xs) ≡ names_read (records_of value scopes) xs
all_read value scopes [] = refl
all_read value scopes (x ∷ xs) =
    ap (λ v. v ∷ parameter_values (values_of value scopes) (map (bound_in scopes) xs)) (binding_reads value x.name scopes)
    ∙ ap (λ vs. looked_up x.name (records_of value scopes) ∷ vs) (all_read value scopes xs)

around_records : (value : ℕ → ℕ → ℕ) (scopes : List Scope) (own : Option BoundName) → records_of value (around_function scopes own) ≡ with_own value own (records_of value scopes)
around_records value scopes None = refl
around_records value scopes (Some x) = refl

around_values : (value : ℕ → ℕ → ℕ) (scopes inner : List Scope) (own : Option BoundName) → with_own_value value (option_map (bound_in inner) own) (values_of value scopes) ≡ values_of value (around_function scopes own)
around_values value scopes inner None = refl
around_values value scopes inner (Some x) = refl

placed_read : (value : ℕ → ℕ → ℕ) (scopes : List Scope) → Keeps nothing_read (values_in_function value) (λ at n. at n (values_of value scopes) ≡ []) (placed hollow)
unfolding function_values statements_values
placed_read value scopes = keeps_placed (λ f. f (values_of value scopes) ≡ []) hollow (λ at. refl)

mutual
  unfolding expression_in optional_in expressions_in items_in properties_in suffix_in suffixes_in operands_in function_in statement_in otherwise_in statements_in declarations_in branches_in start_in target_in clauses_in handler_in expression_read optional_read expressions_read items_read properties_read suffix_read suffixes_read operands_read function_read statement_read otherwise_read statements_read declarations_read branches_read start_read target_read clauses_read handler_read expression_values optional_values expressions_values items_values properties_values suffix_values suffixes_values operands_values function_values statement_values otherwise_values statements_values declarations_values branches_values start_values target_values clauses_values handler_values

  pub expression_reads : (value : ℕ → ℕ → ℕ) (scopes : List Scope) (e : ExpressionTree) → Keeps nothing_read (values_in_function value) (λ at r. expression_values value at (values_of value scopes) r ≡ expression_read value (records_of value scopes) e) (expression_in scopes e)
  expression_reads value scopes (Number p n) = keeps_pure (Number p n) (λ at. refl)
  expression_reads value scopes (Characters p x) = keeps_pure (Characters p x) (λ at. refl)
  expression_reads value scopes (Pattern p l) = keeps_pure (Pattern p l) (λ at. refl)
  expression_reads value scopes (True p) = keeps_pure (True p) (λ at. refl)
  expression_reads value scopes (False p) = keeps_pure (False p) (λ at. refl)
  expression_reads value scopes (Null p) = keeps_pure (Null p) (λ at. refl)
  expression_reads value scopes (This p) = keeps_pure (This p) (λ at. refl)
  expression_reads value scopes (Name p x) = keeps_pure (Name p (bound_in scopes x)) (λ at. one value scopes x)
  expression_reads value scopes (Array p all) = keeps_then (items_reads value scopes all) (λ all'. keeps_pure (Array p all') (λ at hall. hall))
  expression_reads value scopes (Object p all) = keeps_then (properties_reads value scopes all) (λ all'. keeps_pure (Object p all') (λ at hall. hall))
  expression_reads value scopes (Function p f) = keeps_then (function_reads value scopes f) (λ f'. keeps_pure (Numbered p f') (λ at hf. hf))
  expression_reads value scopes (Numbered p n) = keeps_then (placed_read value scopes) (λ n'. keeps_pure (Numbered p n') (λ at hn. hn))
  expression_reads value scopes (Suffixed p e all) = keeps_then (expression_reads value scopes e) (λ e'. keeps_then (suffixes_reads value scopes all) (λ all'. keeps_pure (Suffixed p e' all') (λ at hall he. both _ _ _ _ he hall)))
  expression_reads value scopes (New p e all) = keeps_then (expression_reads value scopes e) (λ e'. keeps_then (expressions_reads value scopes all) (λ all'. keeps_pure (New p e' all') (λ at hall he. both _ _ _ _ he hall)))
  expression_reads value scopes (Update p form op e) = keeps_then (expression_reads value scopes e) (λ e'. keeps_pure (Update p form op e') (λ at he. he))
  expression_reads value scopes (Unary p op e) = keeps_then (expression_reads value scopes e) (λ e'. keeps_pure (Unary p op e') (λ at he. he))
  expression_reads value scopes (Chain p e all) = keeps_then (expression_reads value scopes e) (λ e'. keeps_then (operands_reads value scopes all) (λ all'. keeps_pure (Chain p e' all') (λ at hall he. both _ _ _ _ he hall)))
  expression_reads value scopes (Conditional p e a b) = keeps_then (expression_reads value scopes e) (λ e'. keeps_then (expression_reads value scopes a) (λ a'. keeps_then (expression_reads value scopes b) (λ b'. keeps_pure (Conditional p e' a' b') (λ at hb ha he. both _ _ _ _ he (both _ _ _ _ ha hb)))))
  expression_reads value scopes (Assign p e op v) = keeps_then (expression_reads value scopes e) (λ e'. keeps_then (expression_reads value scopes v) (λ v'. keeps_pure (Assign p e' op v') (λ at hv he. both _ _ _ _ he hv)))
  expression_reads value scopes (Comma p all) = keeps_then (expressions_reads value scopes all) (λ all'. keeps_pure (Comma p all') (λ at hall. hall))

  pub optional_reads : (value : ℕ → ℕ → ℕ) (scopes : List Scope) (e : OptionalExpression) → Keeps nothing_read (values_in_function value) (λ at r. optional_values value at (values_of value scopes) r ≡ optional_read value (records_of value scopes) e) (optional_in scopes e)
  optional_reads value scopes absent = keeps_pure absent (λ at. refl)
  optional_reads value scopes (present e) = keeps_then (expression_reads value scopes e) (λ e'. keeps_pure (present e') (λ at he. he))

  pub expressions_reads : (value : ℕ → ℕ → ℕ) (scopes : List Scope) (e : Expressions) → Keeps nothing_read (values_in_function value) (λ at r. expressions_values value at (values_of value scopes) r ≡ expressions_read value (records_of value scopes) e) (expressions_in scopes e)
  expressions_reads value scopes no_expression = keeps_pure no_expression (λ at. refl)
  expressions_reads value scopes (an_expression e es) = keeps_then (expression_reads value scopes e) (λ e'. keeps_then (expressions_reads value scopes es) (λ es'. keeps_pure (an_expression e' es') (λ at hes he. both _ _ _ _ he hes)))

  pub items_reads : (value : ℕ → ℕ → ℕ) (scopes : List Scope) (e : Items) → Keeps nothing_read (values_in_function value) (λ at r. items_values value at (values_of value scopes) r ≡ items_read value (records_of value scopes) e) (items_in scopes e)
  items_reads value scopes no_item = keeps_pure no_item (λ at. refl)
  items_reads value scopes (an_item o os) = keeps_then (optional_reads value scopes o) (λ o'. keeps_then (items_reads value scopes os) (λ os'. keeps_pure (an_item o' os') (λ at hos ho. both _ _ _ _ ho hos)))

  pub properties_reads : (value : ℕ → ℕ → ℕ) (scopes : List Scope) (e : Properties) → Keeps nothing_read (values_in_function value) (λ at r. properties_values value at (values_of value scopes) r ≡ properties_read value (records_of value scopes) e) (properties_in scopes e)
  properties_reads value scopes no_property = keeps_pure no_property (λ at. refl)
  properties_reads value scopes (a_property x e ps) = keeps_then (expression_reads value scopes e) (λ e'. keeps_then (properties_reads value scopes ps) (λ ps'. keeps_pure (a_property x e' ps') (λ at hps he. both _ _ _ _ he hps)))

  pub suffix_reads : (value : ℕ → ℕ → ℕ) (scopes : List Scope) (e : SuffixTree) → Keeps nothing_read (values_in_function value) (λ at r. suffix_values value at (values_of value scopes) r ≡ suffix_read value (records_of value scopes) e) (suffix_in scopes e)
  suffix_reads value scopes (a_member p x) = keeps_pure (a_member p x) (λ at. refl)
  suffix_reads value scopes (an_index p e) = keeps_then (expression_reads value scopes e) (λ e'. keeps_pure (an_index p e') (λ at he. he))
  suffix_reads value scopes (a_call p es) = keeps_then (expressions_reads value scopes es) (λ es'. keeps_pure (a_call p es') (λ at hes. hes))

  pub suffixes_reads : (value : ℕ → ℕ → ℕ) (scopes : List Scope) (e : Suffixes) → Keeps nothing_read (values_in_function value) (λ at r. suffixes_values value at (values_of value scopes) r ≡ suffixes_read value (records_of value scopes) e) (suffixes_in scopes e)
  suffixes_reads value scopes no_suffix = keeps_pure no_suffix (λ at. refl)
  suffixes_reads value scopes (a_suffix s ss) = keeps_then (suffix_reads value scopes s) (λ s'. keeps_then (suffixes_reads value scopes ss) (λ ss'. keeps_pure (a_suffix s' ss') (λ at hss hs. both _ _ _ _ hs hss)))

  pub operands_reads : (value : ℕ → ℕ → ℕ) (scopes : List Scope) (e : Operands) → Keeps nothing_read (values_in_function value) (λ at r. operands_values value at (values_of value scopes) r ≡ operands_read value (records_of value scopes) e) (operands_in scopes e)
  operands_reads value scopes no_operand = keeps_pure no_operand (λ at. refl)
  operands_reads value scopes (an_operand p op e os) = keeps_then (expression_reads value scopes e) (λ e'. keeps_then (operands_reads value scopes os) (λ os'. keeps_pure (an_operand p op e' os') (λ at hos he. both _ _ _ _ he hos)))

  pub function_reads : (value : ℕ → ℕ → ℕ) (scopes : List Scope) (e : FunctionTree) → Keeps nothing_read (values_in_function value) (λ at r. at r (values_of value scopes) ≡ function_read value (records_of value scopes) e) (function_in scopes e)
  function_reads value scopes (a_function own parameters names' body) =
      let around = around_function scopes own in
      let inside = in_body around parameters body in
      let own' = option_map (bound_in around) own in
      let parameters' = map (bound_in inside) parameters in
      let names = names_of parameters body in
      keeps_numbered
      (λ at made. statements_values value at (values_of value inside) made ≡ statements_read value (records_of value inside) body)
      (λ f. f (values_of value scopes) ≡ function_read value (records_of value scopes) (a_function own parameters names' body))
      (λ made. a_function own' parameters' names made)
      (statements_in inside body) (statements_reads value inside body)
      (λ at made h.
      ap (λ a. own_value a own' ++ (parameter_values (with_values value names a) parameters' ++ statements_values value at (with_values value names a) made)) (around_values value scopes around own)
      ∙ both (own_value (values_of value around) own') (own_read (records_of value around) own) _ _ (own_one value around own)
      (both (parameter_values (values_of value inside) parameters') (names_read (records_of value inside) parameters) _ _ (all_read value inside parameters) h)
      ∙ ap (λ a. own_read a own ++ (names_read (with_record value names a) parameters ++ statements_read value (with_record value names a) body)) (around_records value scopes own))

  pub statement_reads : (value : ℕ → ℕ → ℕ) (scopes : List Scope) (e : StatementTree) → Keeps nothing_read (values_in_function value) (λ at r. statement_values value at (values_of value scopes) r ≡ statement_read value (records_of value scopes) e) (statement_in scopes e)
  statement_reads value scopes (Block p ss) = keeps_then (statements_reads value scopes ss) (λ ss'. keeps_pure (Block p ss') (λ at hss. hss))
  statement_reads value scopes (Empty p) = keeps_pure (Empty p) (λ at. refl)
  statement_reads value scopes (Evaluate p e) = keeps_then (expression_reads value scopes e) (λ e'. keeps_pure (Evaluate p e') (λ at he. he))
  statement_reads value scopes (Debugger p) = keeps_pure (Debugger p) (λ at. refl)
  statement_reads value scopes (Var p ds) = keeps_then (declarations_reads value scopes ds) (λ ds'. keeps_pure (Var p ds') (λ at hds. hds))
  statement_reads value scopes (If p bs o) = keeps_then (branches_reads value scopes bs) (λ bs'. keeps_then (otherwise_reads value scopes o) (λ o'. keeps_pure (If p bs' o') (λ at ho hbs. both _ _ _ _ hbs ho)))
  statement_reads value scopes (DoWhile p s e) = keeps_then (statement_reads value scopes s) (λ s'. keeps_then (expression_reads value scopes e) (λ e'. keeps_pure (DoWhile p s' e') (λ at he hs. both _ _ _ _ hs he)))
  statement_reads value scopes (While p e s) = keeps_then (expression_reads value scopes e) (λ e'. keeps_then (statement_reads value scopes s) (λ s'. keeps_pure (While p e' s') (λ at hs he. both _ _ _ _ he hs)))
  statement_reads value scopes (For p a e d s) = keeps_then (start_reads value scopes a) (λ a'. keeps_then (optional_reads value scopes e) (λ e'. keeps_then (optional_reads value scopes d) (λ d'. keeps_then (statement_reads value scopes s) (λ s'. keeps_pure (For p a' e' d' s') (λ at hs hd he ha. both _ _ _ _ ha (both _ _ _ _ he (both _ _ _ _ hd hs)))))))
  statement_reads value scopes (ForIn p t e s) = keeps_then (target_reads value scopes t) (λ t'. keeps_then (expression_reads value scopes e) (λ e'. keeps_then (statement_reads value scopes s) (λ s'. keeps_pure (ForIn p t' e' s') (λ at hs he ht. both _ _ _ _ ht (both _ _ _ _ he hs)))))
  statement_reads value scopes (Continue p) = keeps_pure (Continue p) (λ at. refl)
  statement_reads value scopes (Break p) = keeps_pure (Break p) (λ at. refl)
  statement_reads value scopes (Return p o) = keeps_then (optional_reads value scopes o) (λ o'. keeps_pure (Return p o') (λ at ho. ho))
  statement_reads value scopes (Throw p e) = keeps_then (expression_reads value scopes e) (λ e'. keeps_pure (Throw p e') (λ at he. he))
  statement_reads value scopes (Switch p e cs) = keeps_then (expression_reads value scopes e) (λ e'. keeps_then (clauses_reads value scopes cs) (λ cs'. keeps_pure (Switch p e' cs') (λ at hcs he. both _ _ _ _ he hcs)))
  statement_reads value scopes (Try p s c o) = keeps_then (statement_reads value scopes s) (λ s'. keeps_then (handler_reads value scopes c) (λ c'. keeps_then (otherwise_reads value scopes o) (λ o'. keeps_pure (Try p s' c' o') (λ at ho hc hs. both _ _ _ _ hs (both _ _ _ _ hc ho)))))
  statement_reads value scopes (Declare p x f) = keeps_then (function_reads value scopes f) (λ f'. keeps_pure (DeclareNumbered p (bound_in scopes x) f') (λ at hf. both _ _ _ _ (one value scopes x) hf))
  statement_reads value scopes (DeclareNumbered p x n) = keeps_then (placed_read value scopes) (λ n'. keeps_pure (DeclareNumbered p (bound_in scopes x) n') (λ at hn. both _ _ _ _ (one value scopes x) hn))

  pub otherwise_reads : (value : ℕ → ℕ → ℕ) (scopes : List Scope) (e : OptionalStatement) → Keeps nothing_read (values_in_function value) (λ at r. otherwise_values value at (values_of value scopes) r ≡ otherwise_read value (records_of value scopes) e) (otherwise_in scopes e)
  otherwise_reads value scopes omitted = keeps_pure omitted (λ at. refl)
  otherwise_reads value scopes (given s) = keeps_then (statement_reads value scopes s) (λ s'. keeps_pure (given s') (λ at hs. hs))

  pub statements_reads : (value : ℕ → ℕ → ℕ) (scopes : List Scope) (e : Statements) → Keeps nothing_read (values_in_function value) (λ at r. statements_values value at (values_of value scopes) r ≡ statements_read value (records_of value scopes) e) (statements_in scopes e)
  statements_reads value scopes no_statement = keeps_pure no_statement (λ at. refl)
  statements_reads value scopes (a_statement s ss) = keeps_then (statement_reads value scopes s) (λ s'. keeps_then (statements_reads value scopes ss) (λ ss'. keeps_pure (a_statement s' ss') (λ at hss hs. both _ _ _ _ hs hss)))

  pub declarations_reads : (value : ℕ → ℕ → ℕ) (scopes : List Scope) (e : Declarations) → Keeps nothing_read (values_in_function value) (λ at r. declarations_values value at (values_of value scopes) r ≡ declarations_read value (records_of value scopes) e) (declarations_in scopes e)
  declarations_reads value scopes no_declared = keeps_pure no_declared (λ at. refl)
  declarations_reads value scopes (a_declared x o ds) = keeps_then (optional_reads value scopes o) (λ o'. keeps_then (declarations_reads value scopes ds) (λ ds'. keeps_pure (a_declared (bound_in scopes x) o' ds') (λ at hds ho. both _ _ _ _ (one value scopes x) (both _ _ _ _ ho hds))))

  pub branches_reads : (value : ℕ → ℕ → ℕ) (scopes : List Scope) (e : Branches) → Keeps nothing_read (values_in_function value) (λ at r. branches_values value at (values_of value scopes) r ≡ branches_read value (records_of value scopes) e) (branches_in scopes e)
  branches_reads value scopes no_branch = keeps_pure no_branch (λ at. refl)
  branches_reads value scopes (a_branch e s bs) = keeps_then (expression_reads value scopes e) (λ e'. keeps_then (statement_reads value scopes s) (λ s'. keeps_then (branches_reads value scopes bs) (λ bs'. keeps_pure (a_branch e' s' bs') (λ at hbs hs he. both _ _ _ _ he (both _ _ _ _ hs hbs)))))

  pub start_reads : (value : ℕ → ℕ → ℕ) (scopes : List Scope) (e : StartTree) → Keeps nothing_read (values_in_function value) (λ at r. start_values value at (values_of value scopes) r ≡ start_read value (records_of value scopes) e) (start_in scopes e)
  start_reads value scopes no_start = keeps_pure no_start (λ at. refl)
  start_reads value scopes (start_var p ds) = keeps_then (declarations_reads value scopes ds) (λ ds'. keeps_pure (start_var p ds') (λ at hds. hds))
  start_reads value scopes (start_value e) = keeps_then (expression_reads value scopes e) (λ e'. keeps_pure (start_value e') (λ at he. he))

  pub target_reads : (value : ℕ → ℕ → ℕ) (scopes : List Scope) (e : TargetTree) → Keeps nothing_read (values_in_function value) (λ at r. target_values value at (values_of value scopes) r ≡ target_read value (records_of value scopes) e) (target_in scopes e)
  target_reads value scopes (target_value e) = keeps_then (expression_reads value scopes e) (λ e'. keeps_pure (target_value e') (λ at he. he))
  target_reads value scopes (target_declared x o) = keeps_then (optional_reads value scopes o) (λ o'. keeps_pure (target_declared (bound_in scopes x) o') (λ at ho. both _ _ _ _ (one value scopes x) ho))

  pub clauses_reads : (value : ℕ → ℕ → ℕ) (scopes : List Scope) (e : Clauses) → Keeps nothing_read (values_in_function value) (λ at r. clauses_values value at (values_of value scopes) r ≡ clauses_read value (records_of value scopes) e) (clauses_in scopes e)
  clauses_reads value scopes no_clause = keeps_pure no_clause (λ at. refl)
  clauses_reads value scopes (a_clause o ss cs) = keeps_then (optional_reads value scopes o) (λ o'. keeps_then (statements_reads value scopes ss) (λ ss'. keeps_then (clauses_reads value scopes cs) (λ cs'. keeps_pure (a_clause o' ss' cs') (λ at hcs hss ho. both _ _ _ _ ho (both _ _ _ _ hss hcs)))))

  pub handler_reads : (value : ℕ → ℕ → ℕ) (scopes : List Scope) (e : CatchTree) → Keeps nothing_read (values_in_function value) (λ at r. handler_values value at (values_of value scopes) r ≡ handler_read value (records_of value scopes) e) (handler_in scopes e)
  handler_reads value scopes no_catch = keeps_pure no_catch (λ at. refl)
  handler_reads value scopes (a_catch x s) = keeps_then (statement_reads value (in_handler scopes x) s) (λ s'. keeps_pure (a_catch (bound_in (in_handler scopes x) x) s') (λ at hs. both _ _ _ _ (one value (in_handler scopes x) x) hs))

has_itself : (from : ℕ) (functions : List FunctionTree) → Has from functions functions
has_itself from functions = record { longer = omega arith; kept = λ n past below. refl }

pub slots_read : (value : ℕ → ℕ → ℕ) (script : List StatementTree) → read_by_slot value (resolved script) ≡ read_by_name value script
slots_read value script =
    (statements_reads value [] (statements_of script)).keeps [] (resolved script).1 _ (has_itself 0 (resolved script).1) (λ n past. refl)
