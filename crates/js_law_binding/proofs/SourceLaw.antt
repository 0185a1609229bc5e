-- The source of a resolved script is the script, with its bounds and names dropped.
use Rattle.std.proofs.Common.{◌≡◌, ℕ, List, [], ◌∷◌, map, Option, Some, None, refl, ◌∙◌, ap, arith}
use Rattle.std.specs.Prelude.{option_map}
use Rattle.js_tree.specs.declared.bound.BoundName.{BoundName}
use Rattle.js_tree.specs.Tree.{ExpressionTree, Number, Characters, Pattern, True, False, Null, This, Name, Array, Object, Function, Numbered, Suffixed, New, Update, Unary, Chain, Conditional, Assign, Comma, OptionalExpression, absent, present, Expressions, no_expression, an_expression, Items, no_item, an_item, Properties, no_property, a_property, SuffixTree, a_member, an_index, a_call, Suffixes, no_suffix, a_suffix, Operands, no_operand, an_operand, FunctionTree, a_function, StatementTree, Block, Empty, Evaluate, Debugger, Var, If, DoWhile, While, For, ForIn, Continue, Break, Return, Throw, Switch, Try, Declare, DeclareNumbered, OptionalStatement, omitted, given, Statements, no_statement, a_statement, Declarations, no_declared, a_declared, Branches, no_branch, a_branch, StartTree, no_start, start_var, start_value, TargetTree, target_value, target_declared, Clauses, no_clause, a_clause, CatchTree, no_catch, a_catch}
use Rattle.js_tree.specs.Tree.{statements_of}
use Rattle.js_binding.specs.Names.{names_of}
use Rattle.js_binding.specs.Scopes.{Scope, bound_in}
use Rattle.js_binding.specs.Resolved.{placed, hollow, around_function, in_body, in_handler, resolved, expression_in, optional_in, expressions_in, items_in, properties_in, suffix_in, suffixes_in, operands_in, function_in, statement_in, otherwise_in, statements_in, declarations_in, branches_in, start_in, target_in, clauses_in, handler_in}
use Rattle.js_law_binding.proofs.Keeps.{Has, Keeps, keeps_pure, keeps_then, keeps_placed, keeps_numbered}
use Rattle.js_binding.specs.Source.{unbound, source_of, expression_source, optional_source, expressions_source, items_source, properties_source, suffix_source, suffixes_source, operands_source, function_source, statement_source, otherwise_source, statements_source, declarations_source, branches_source, start_source, target_source, clauses_source, handler_source}

-- No function stands by number.
abbrev pub none : ℕ → FunctionTree
none n = hollow

own_back : (scopes : List Scope) (own : Option BoundName) → option_map unbound (option_map (bound_in scopes) own) ≡ option_map unbound own
own_back scopes None = refl
own_back scopes (Some x) = refl

names_back : (scopes : List Scope) (xs : List BoundName) → map unbound (map (bound_in scopes) xs) ≡ map unbound xs
names_back scopes [] = refl
names_back scopes (x ∷ xs) = ap (λ ys. unbound x ∷ ys) (names_back scopes xs)

placed_back : (scopes : List Scope) → Keeps hollow function_source (λ at n. at n ≡ hollow) (placed hollow)
unfolding function_source statements_source
placed_back scopes = keeps_placed (λ f. f ≡ hollow) hollow (λ at. refl)

mutual
  unfolding expression_in optional_in expressions_in items_in properties_in suffix_in suffixes_in operands_in function_in statement_in otherwise_in statements_in declarations_in branches_in start_in target_in clauses_in handler_in expression_source optional_source expressions_source items_source properties_source suffix_source suffixes_source operands_source function_source statement_source otherwise_source statements_source declarations_source branches_source start_source target_source clauses_source handler_source

  pub expression_back : (scopes : List Scope) (e : ExpressionTree) → Keeps hollow function_source (λ at r. expression_source at r ≡ expression_source none e) (expression_in scopes e)
  expression_back scopes (Number p n) = keeps_pure (Number p n) (λ at. refl)
  expression_back scopes (Characters p x) = keeps_pure (Characters p x) (λ at. refl)
  expression_back scopes (Pattern p l) = keeps_pure (Pattern p l) (λ at. refl)
  expression_back scopes (True p) = keeps_pure (True p) (λ at. refl)
  expression_back scopes (False p) = keeps_pure (False p) (λ at. refl)
  expression_back scopes (Null p) = keeps_pure (Null p) (λ at. refl)
  expression_back scopes (This p) = keeps_pure (This p) (λ at. refl)
  expression_back scopes (Name p x) = keeps_pure (Name p (bound_in scopes x)) (λ at. refl)
  expression_back scopes (Array p all) = keeps_then (items_back scopes all) (λ all'. keeps_pure (Array p all') (λ at hall. ap (λ z. Array p z) hall))
  expression_back scopes (Object p all) = keeps_then (properties_back scopes all) (λ all'. keeps_pure (Object p all') (λ at hall. ap (λ z. Object p z) hall))
  expression_back scopes (Function p f) = keeps_then (function_back scopes f) (λ f'. keeps_pure (Numbered p f') (λ at hf. ap (λ z. Function p z) hf))
  expression_back scopes (Numbered p n) = keeps_then (placed_back scopes) (λ n'. keeps_pure (Numbered p n') (λ at hn. ap (λ z. Function p z) hn))
  expression_back scopes (Suffixed p e all) = keeps_then (expression_back scopes e) (λ e'. keeps_then (suffixes_back scopes all) (λ all'. keeps_pure (Suffixed p e' all') (λ at hall he. ap (λ z. Suffixed p z (suffixes_source at all')) he ∙ ap (λ z. Suffixed p (expression_source none e) z) hall)))
  expression_back scopes (New p e all) = keeps_then (expression_back scopes e) (λ e'. keeps_then (expressions_back scopes all) (λ all'. keeps_pure (New p e' all') (λ at hall he. ap (λ z. New p z (expressions_source at all')) he ∙ ap (λ z. New p (expression_source none e) z) hall)))
  expression_back scopes (Update p form op e) = keeps_then (expression_back scopes e) (λ e'. keeps_pure (Update p form op e') (λ at he. ap (λ z. Update p form op z) he))
  expression_back scopes (Unary p op e) = keeps_then (expression_back scopes e) (λ e'. keeps_pure (Unary p op e') (λ at he. ap (λ z. Unary p op z) he))
  expression_back scopes (Chain p e all) = keeps_then (expression_back scopes e) (λ e'. keeps_then (operands_back scopes all) (λ all'. keeps_pure (Chain p e' all') (λ at hall he. ap (λ z. Chain p z (operands_source at all')) he ∙ ap (λ z. Chain p (expression_source none e) z) hall)))
  expression_back scopes (Conditional p e a b) = keeps_then (expression_back scopes e) (λ e'. keeps_then (expression_back scopes a) (λ a'. keeps_then (expression_back scopes b) (λ b'. keeps_pure (Conditional p e' a' b') (λ at hb ha he. ap (λ z. Conditional p z (expression_source at a') (expression_source at b')) he ∙ ap (λ z. Conditional p (expression_source none e) z (expression_source at b')) ha ∙ ap (λ z. Conditional p (expression_source none e) (expression_source none a) z) hb))))
  expression_back scopes (Assign p e op v) = keeps_then (expression_back scopes e) (λ e'. keeps_then (expression_back scopes v) (λ v'. keeps_pure (Assign p e' op v') (λ at hv he. ap (λ z. Assign p z op (expression_source at v')) he ∙ ap (λ z. Assign p (expression_source none e) op z) hv)))
  expression_back scopes (Comma p all) = keeps_then (expressions_back scopes all) (λ all'. keeps_pure (Comma p all') (λ at hall. ap (λ z. Comma p z) hall))

  pub optional_back : (scopes : List Scope) (e : OptionalExpression) → Keeps hollow function_source (λ at r. optional_source at r ≡ optional_source none e) (optional_in scopes e)
  optional_back scopes absent = keeps_pure absent (λ at. refl)
  optional_back scopes (present e) = keeps_then (expression_back scopes e) (λ e'. keeps_pure (present e') (λ at he. ap (λ z. present z) he))

  pub expressions_back : (scopes : List Scope) (e : Expressions) → Keeps hollow function_source (λ at r. expressions_source at r ≡ expressions_source none e) (expressions_in scopes e)
  expressions_back scopes no_expression = keeps_pure no_expression (λ at. refl)
  expressions_back scopes (an_expression e es) = keeps_then (expression_back scopes e) (λ e'. keeps_then (expressions_back scopes es) (λ es'. keeps_pure (an_expression e' es') (λ at hes he. ap (λ z. an_expression z (expressions_source at es')) he ∙ ap (λ z. an_expression (expression_source none e) z) hes)))

  pub items_back : (scopes : List Scope) (e : Items) → Keeps hollow function_source (λ at r. items_source at r ≡ items_source none e) (items_in scopes e)
  items_back scopes no_item = keeps_pure no_item (λ at. refl)
  items_back scopes (an_item o os) = keeps_then (optional_back scopes o) (λ o'. keeps_then (items_back scopes os) (λ os'. keeps_pure (an_item o' os') (λ at hos ho. ap (λ z. an_item z (items_source at os')) ho ∙ ap (λ z. an_item (optional_source none o) z) hos)))

  pub properties_back : (scopes : List Scope) (e : Properties) → Keeps hollow function_source (λ at r. properties_source at r ≡ properties_source none e) (properties_in scopes e)
  properties_back scopes no_property = keeps_pure no_property (λ at. refl)
  properties_back scopes (a_property x e ps) = keeps_then (expression_back scopes e) (λ e'. keeps_then (properties_back scopes ps) (λ ps'. keeps_pure (a_property x e' ps') (λ at hps he. ap (λ z. a_property x z (properties_source at ps')) he ∙ ap (λ z. a_property x (expression_source none e) z) hps)))

  pub suffix_back : (scopes : List Scope) (e : SuffixTree) → Keeps hollow function_source (λ at r. suffix_source at r ≡ suffix_source none e) (suffix_in scopes e)
  suffix_back scopes (a_member p x) = keeps_pure (a_member p x) (λ at. refl)
  suffix_back scopes (an_index p e) = keeps_then (expression_back scopes e) (λ e'. keeps_pure (an_index p e') (λ at he. ap (λ z. an_index p z) he))
  suffix_back scopes (a_call p es) = keeps_then (expressions_back scopes es) (λ es'. keeps_pure (a_call p es') (λ at hes. ap (λ z. a_call p z) hes))

  pub suffixes_back : (scopes : List Scope) (e : Suffixes) → Keeps hollow function_source (λ at r. suffixes_source at r ≡ suffixes_source none e) (suffixes_in scopes e)
  suffixes_back scopes no_suffix = keeps_pure no_suffix (λ at. refl)
  suffixes_back scopes (a_suffix s ss) = keeps_then (suffix_back scopes s) (λ s'. keeps_then (suffixes_back scopes ss) (λ ss'. keeps_pure (a_suffix s' ss') (λ at hss hs. ap (λ z. a_suffix z (suffixes_source at ss')) hs ∙ ap (λ z. a_suffix (suffix_source none s) z) hss)))

  pub operands_back : (scopes : List Scope) (e : Operands) → Keeps hollow function_source (λ at r. operands_source at r ≡ operands_source none e) (operands_in scopes e)
  operands_back scopes no_operand = keeps_pure no_operand (λ at. refl)
  operands_back scopes (an_operand p op e os) = keeps_then (expression_back scopes e) (λ e'. keeps_then (operands_back scopes os) (λ os'. keeps_pure (an_operand p op e' os') (λ at hos he. ap (λ z. an_operand p op z (operands_source at os')) he ∙ ap (λ z. an_operand p op (expression_source none e) z) hos)))

  pub function_back : (scopes : List Scope) (e : FunctionTree) → Keeps hollow function_source (λ at r. at r ≡ function_source none e) (function_in scopes e)
  function_back scopes (a_function own parameters names body) =
      let around = around_function scopes own in
      let inside = in_body around parameters body in
      keeps_numbered (λ at made. statements_source at made ≡ statements_source none body) (λ f. f ≡ function_source none (a_function own parameters names body))
      (λ made. a_function (option_map (bound_in around) own) (map (bound_in inside) parameters) (names_of parameters body) made)
      (statements_in inside body) (statements_back inside body)
      (λ at made h.
      ap (λ z. a_function z (map unbound (map (bound_in inside) parameters)) [] (statements_source at made)) (own_back around own)
      ∙ ap (λ z. a_function (option_map unbound own) z [] (statements_source at made)) (names_back inside parameters)
      ∙ ap (λ z. a_function (option_map unbound own) (map unbound parameters) [] z) h)

  pub statement_back : (scopes : List Scope) (e : StatementTree) → Keeps hollow function_source (λ at r. statement_source at r ≡ statement_source none e) (statement_in scopes e)
  statement_back scopes (Block p ss) = keeps_then (statements_back scopes ss) (λ ss'. keeps_pure (Block p ss') (λ at hss. ap (λ z. Block p z) hss))
  statement_back scopes (Empty p) = keeps_pure (Empty p) (λ at. refl)
  statement_back scopes (Evaluate p e) = keeps_then (expression_back scopes e) (λ e'. keeps_pure (Evaluate p e') (λ at he. ap (λ z. Evaluate p z) he))
  statement_back scopes (Debugger p) = keeps_pure (Debugger p) (λ at. refl)
  statement_back scopes (Var p ds) = keeps_then (declarations_back scopes ds) (λ ds'. keeps_pure (Var p ds') (λ at hds. ap (λ z. Var p z) hds))
  statement_back scopes (If p bs o) = keeps_then (branches_back scopes bs) (λ bs'. keeps_then (otherwise_back scopes o) (λ o'. keeps_pure (If p bs' o') (λ at ho hbs. ap (λ z. If p z (otherwise_source at o')) hbs ∙ ap (λ z. If p (branches_source none bs) z) ho)))
  statement_back scopes (DoWhile p s e) = keeps_then (statement_back scopes s) (λ s'. keeps_then (expression_back scopes e) (λ e'. keeps_pure (DoWhile p s' e') (λ at he hs. ap (λ z. DoWhile p z (expression_source at e')) hs ∙ ap (λ z. DoWhile p (statement_source none s) z) he)))
  statement_back scopes (While p e s) = keeps_then (expression_back scopes e) (λ e'. keeps_then (statement_back scopes s) (λ s'. keeps_pure (While p e' s') (λ at hs he. ap (λ z. While p z (statement_source at s')) he ∙ ap (λ z. While p (expression_source none e) z) hs)))
  statement_back scopes (For p a e d s) = keeps_then (start_back scopes a) (λ a'. keeps_then (optional_back scopes e) (λ e'. keeps_then (optional_back scopes d) (λ d'. keeps_then (statement_back scopes s) (λ s'. keeps_pure (For p a' e' d' s') (λ at hs hd he ha. ap (λ z. For p z (optional_source at e') (optional_source at d') (statement_source at s')) ha ∙ ap (λ z. For p (start_source none a) z (optional_source at d') (statement_source at s')) he ∙ ap (λ z. For p (start_source none a) (optional_source none e) z (statement_source at s')) hd ∙ ap (λ z. For p (start_source none a) (optional_source none e) (optional_source none d) z) hs)))))
  statement_back scopes (ForIn p t e s) = keeps_then (target_back scopes t) (λ t'. keeps_then (expression_back scopes e) (λ e'. keeps_then (statement_back scopes s) (λ s'. keeps_pure (ForIn p t' e' s') (λ at hs he ht. ap (λ z. ForIn p z (expression_source at e') (statement_source at s')) ht ∙ ap (λ z. ForIn p (target_source none t) z (statement_source at s')) he ∙ ap (λ z. ForIn p (target_source none t) (expression_source none e) z) hs))))
  statement_back scopes (Continue p) = keeps_pure (Continue p) (λ at. refl)
  statement_back scopes (Break p) = keeps_pure (Break p) (λ at. refl)
  statement_back scopes (Return p o) = keeps_then (optional_back scopes o) (λ o'. keeps_pure (Return p o') (λ at ho. ap (λ z. Return p z) ho))
  statement_back scopes (Throw p e) = keeps_then (expression_back scopes e) (λ e'. keeps_pure (Throw p e') (λ at he. ap (λ z. Throw p z) he))
  statement_back scopes (Switch p e cs) = keeps_then (expression_back scopes e) (λ e'. keeps_then (clauses_back scopes cs) (λ cs'. keeps_pure (Switch p e' cs') (λ at hcs he. ap (λ z. Switch p z (clauses_source at cs')) he ∙ ap (λ z. Switch p (expression_source none e) z) hcs)))
  statement_back scopes (Try p s c o) = keeps_then (statement_back scopes s) (λ s'. keeps_then (handler_back scopes c) (λ c'. keeps_then (otherwise_back scopes o) (λ o'. keeps_pure (Try p s' c' o') (λ at ho hc hs. ap (λ z. Try p z (handler_source at c') (otherwise_source at o')) hs ∙ ap (λ z. Try p (statement_source none s) z (otherwise_source at o')) hc ∙ ap (λ z. Try p (statement_source none s) (handler_source none c) z) ho))))
  statement_back scopes (Declare p x f) = keeps_then (function_back scopes f) (λ f'. keeps_pure (DeclareNumbered p (bound_in scopes x) f') (λ at hf. ap (λ z. Declare p (unbound x) z) hf))
  statement_back scopes (DeclareNumbered p x n) = keeps_then (placed_back scopes) (λ n'. keeps_pure (DeclareNumbered p (bound_in scopes x) n') (λ at hn. ap (λ z. Declare p (unbound x) z) hn))

  pub otherwise_back : (scopes : List Scope) (e : OptionalStatement) → Keeps hollow function_source (λ at r. otherwise_source at r ≡ otherwise_source none e) (otherwise_in scopes e)
  otherwise_back scopes omitted = keeps_pure omitted (λ at. refl)
  otherwise_back scopes (given s) = keeps_then (statement_back scopes s) (λ s'. keeps_pure (given s') (λ at hs. ap (λ z. given z) hs))

  pub statements_back : (scopes : List Scope) (e : Statements) → Keeps hollow function_source (λ at r. statements_source at r ≡ statements_source none e) (statements_in scopes e)
  statements_back scopes no_statement = keeps_pure no_statement (λ at. refl)
  statements_back scopes (a_statement s ss) = keeps_then (statement_back scopes s) (λ s'. keeps_then (statements_back scopes ss) (λ ss'. keeps_pure (a_statement s' ss') (λ at hss hs. ap (λ z. a_statement z (statements_source at ss')) hs ∙ ap (λ z. a_statement (statement_source none s) z) hss)))

  pub declarations_back : (scopes : List Scope) (e : Declarations) → Keeps hollow function_source (λ at r. declarations_source at r ≡ declarations_source none e) (declarations_in scopes e)
  declarations_back scopes no_declared = keeps_pure no_declared (λ at. refl)
  declarations_back scopes (a_declared x o ds) = keeps_then (optional_back scopes o) (λ o'. keeps_then (declarations_back scopes ds) (λ ds'. keeps_pure (a_declared (bound_in scopes x) o' ds') (λ at hds ho. ap (λ z. a_declared (unbound x) z (declarations_source at ds')) ho ∙ ap (λ z. a_declared (unbound x) (optional_source none o) z) hds)))

  pub branches_back : (scopes : List Scope) (e : Branches) → Keeps hollow function_source (λ at r. branches_source at r ≡ branches_source none e) (branches_in scopes e)
  branches_back scopes no_branch = keeps_pure no_branch (λ at. refl)
  branches_back scopes (a_branch e s bs) = keeps_then (expression_back scopes e) (λ e'. keeps_then (statement_back scopes s) (λ s'. keeps_then (branches_back scopes bs) (λ bs'. keeps_pure (a_branch e' s' bs') (λ at hbs hs he. ap (λ z. a_branch z (statement_source at s') (branches_source at bs')) he ∙ ap (λ z. a_branch (expression_source none e) z (branches_source at bs')) hs ∙ ap (λ z. a_branch (expression_source none e) (statement_source none s) z) hbs))))

  pub start_back : (scopes : List Scope) (e : StartTree) → Keeps hollow function_source (λ at r. start_source at r ≡ start_source none e) (start_in scopes e)
  start_back scopes no_start = keeps_pure no_start (λ at. refl)
  start_back scopes (start_var p ds) = keeps_then (declarations_back scopes ds) (λ ds'. keeps_pure (start_var p ds') (λ at hds. ap (λ z. start_var p z) hds))
  start_back scopes (start_value e) = keeps_then (expression_back scopes e) (λ e'. keeps_pure (start_value e') (λ at he. ap (λ z. start_value z) he))

  pub target_back : (scopes : List Scope) (e : TargetTree) → Keeps hollow function_source (λ at r. target_source at r ≡ target_source none e) (target_in scopes e)
  target_back scopes (target_value e) = keeps_then (expression_back scopes e) (λ e'. keeps_pure (target_value e') (λ at he. ap (λ z. target_value z) he))
  target_back scopes (target_declared x o) = keeps_then (optional_back scopes o) (λ o'. keeps_pure (target_declared (bound_in scopes x) o') (λ at ho. ap (λ z. target_declared (unbound x) z) ho))

  pub clauses_back : (scopes : List Scope) (e : Clauses) → Keeps hollow function_source (λ at r. clauses_source at r ≡ clauses_source none e) (clauses_in scopes e)
  clauses_back scopes no_clause = keeps_pure no_clause (λ at. refl)
  clauses_back scopes (a_clause o ss cs) = keeps_then (optional_back scopes o) (λ o'. keeps_then (statements_back scopes ss) (λ ss'. keeps_then (clauses_back scopes cs) (λ cs'. keeps_pure (a_clause o' ss' cs') (λ at hcs hss ho. ap (λ z. a_clause z (statements_source at ss') (clauses_source at cs')) ho ∙ ap (λ z. a_clause (optional_source none o) z (clauses_source at cs')) hss ∙ ap (λ z. a_clause (optional_source none o) (statements_source none ss) z) hcs))))

  pub handler_back : (scopes : List Scope) (e : CatchTree) → Keeps hollow function_source (λ at r. handler_source at r ≡ handler_source none e) (handler_in scopes e)
  handler_back scopes no_catch = keeps_pure no_catch (λ at. refl)
  handler_back scopes (a_catch x s) = keeps_then (statement_back (in_handler scopes x) s) (λ s'. keeps_pure (a_catch (bound_in (in_handler scopes x) x) s') (λ at hs. ap (λ z. a_catch (unbound x) z) hs))

has_itself : (from : ℕ) (functions : List FunctionTree) → Has from functions functions
has_itself from functions = record { longer = omega arith; kept = λ n past below. refl }

pub source_of_resolved : (script : List StatementTree) → source_of (resolved script) ≡ statements_source none (statements_of script)
source_of_resolved script =
    (statements_back [] (statements_of script)).keeps [] (resolved script).1 _ (has_itself 0 (resolved script).1) (λ n past. refl)
