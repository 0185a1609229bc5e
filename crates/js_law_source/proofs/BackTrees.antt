-- Written by tools/write_tree.py from Tree.antt: change that file, and run the script.
-- Each tree with its functions by number has the source of the tree, once these are back in their places.
use Rattle.std.proofs.Common.{refl}
use Rattle.js_tree.specs.Tree.{ExpressionTree, Number, Characters, Pattern, True, False, Null, This, Name, Array, Object, Function, Numbered, Suffixed, New, Update, Unary, Chain, Conditional, Assign, Comma, OptionalExpression, absent, present, Expressions, no_expression, an_expression, Items, no_item, an_item, Properties, no_property, a_property, SuffixTree, a_member, an_index, a_call, Suffixes, no_suffix, a_suffix, Operands, no_operand, an_operand, FunctionTree, a_function, StatementTree, Block, Empty, Evaluate, Debugger, Var, If, DoWhile, While, For, ForIn, Continue, Break, Return, Throw, Switch, Try, Declare, DeclareNumbered, OptionalStatement, omitted, given, Statements, no_statement, a_statement, Declarations, no_declared, a_declared, Branches, no_branch, a_branch, StartTree, no_start, start_var, start_value, TargetTree, target_value, target_declared, Clauses, no_clause, a_clause, CatchTree, no_catch, a_catch}
use Rattle.js_binding.specs.Source.{unbound, expression_source, optional_source, expressions_source, items_source, properties_source, suffix_source, suffixes_source, operands_source, statement_source, otherwise_source, statements_source, declarations_source, branches_source, start_source, target_source, clauses_source, handler_source, function_source}
use Rattle.js_binding.specs.Numbered.{expression_numbered, optional_numbered, expressions_numbered, items_numbered, properties_numbered, suffix_numbered, suffixes_numbered, operands_numbered, statement_numbered, otherwise_numbered, statements_numbered, declarations_numbered, branches_numbered, start_numbered, target_numbered, clauses_numbered, handler_numbered, function_numbered}
use Rattle.js_law_binding.proofs.Keeps.{keeps_pure, keeps_then}
use Rattle.js_law_source.proofs.Back.{Back, number_source, back_placed, back_function}
use Rattle.js_law_source.proofs.ReadScripts.{none}

mutual
  unfolding expression_source optional_source expressions_source items_source properties_source suffix_source suffixes_source operands_source statement_source otherwise_source statements_source declarations_source branches_source start_source target_source clauses_source handler_source function_source expression_numbered optional_numbered expressions_numbered items_numbered properties_numbered suffix_numbered suffixes_numbered operands_numbered statement_numbered otherwise_numbered statements_numbered declarations_numbered branches_numbered start_numbered target_numbered clauses_numbered handler_numbered function_numbered

  pub expression_back : (e : ExpressionTree) → Back expression_source (expression_source none e) (expression_numbered e)
  expression_back (Number p n) = keeps_pure (Number p n) (λ at. refl)
  expression_back (Characters p text) = keeps_pure (Characters p text) (λ at. refl)
  expression_back (Pattern p literal) = keeps_pure (Pattern p literal) (λ at. refl)
  expression_back (True p) = keeps_pure (True p) (λ at. refl)
  expression_back (False p) = keeps_pure (False p) (λ at. refl)
  expression_back (Null p) = keeps_pure (Null p) (λ at. refl)
  expression_back (This p) = keeps_pure (This p) (λ at. refl)
  expression_back (Name p x) = keeps_pure (Name p (unbound x)) (λ at. refl)
  expression_back (Array p items) = keeps_then (items_back items) (λ items'. keeps_pure (Array p items') (λ at hitems. λ i. Array p (hitems i)))
  expression_back (Object p ps) = keeps_then (properties_back ps) (λ ps'. keeps_pure (Object p ps') (λ at hps. λ i. Object p (hps i)))
  expression_back (Function p f) = keeps_then (function_back f) (λ n'. keeps_pure (Numbered p n') (λ at hn. λ i. Function p (hn i)))
  expression_back (Numbered p n) = keeps_then (back_placed) (λ n'. keeps_pure (Numbered p n') (λ at hn. λ i. Function p (hn i)))
  expression_back (Suffixed p e ss) = keeps_then (expression_back e) (λ e'. keeps_then (suffixes_back ss) (λ ss'. keeps_pure (Suffixed p e' ss') (λ at hss he. λ i. Suffixed p (he i) (hss i))))
  expression_back (New p e es) = keeps_then (expression_back e) (λ e'. keeps_then (expressions_back es) (λ es'. keeps_pure (New p e' es') (λ at hes he. λ i. New p (he i) (hes i))))
  expression_back (Update p form op e) = keeps_then (expression_back e) (λ e'. keeps_pure (Update p form op e') (λ at he. λ i. Update p form op (he i)))
  expression_back (Unary p op e) = keeps_then (expression_back e) (λ e'. keeps_pure (Unary p op e') (λ at he. λ i. Unary p op (he i)))
  expression_back (Chain p e os) = keeps_then (expression_back e) (λ e'. keeps_then (operands_back os) (λ os'. keeps_pure (Chain p e' os') (λ at hos he. λ i. Chain p (he i) (hos i))))
  expression_back (Conditional p e1 e2 e3) = keeps_then (expression_back e1) (λ e1'. keeps_then (expression_back e2) (λ e2'. keeps_then (expression_back e3) (λ e3'. keeps_pure (Conditional p e1' e2' e3') (λ at he3 he2 he1. λ i. Conditional p (he1 i) (he2 i) (he3 i)))))
  expression_back (Assign p e1 op e2) = keeps_then (expression_back e1) (λ e1'. keeps_then (expression_back e2) (λ e2'. keeps_pure (Assign p e1' op e2') (λ at he2 he1. λ i. Assign p (he1 i) op (he2 i))))
  expression_back (Comma p es) = keeps_then (expressions_back es) (λ es'. keeps_pure (Comma p es') (λ at hes. λ i. Comma p (hes i)))

  pub optional_back : (o : OptionalExpression) → Back optional_source (optional_source none o) (optional_numbered o)
  optional_back absent = keeps_pure absent (λ at. refl)
  optional_back (present e) = keeps_then (expression_back e) (λ e'. keeps_pure (present e') (λ at he. λ i. present (he i)))

  pub expressions_back : (es : Expressions) → Back expressions_source (expressions_source none es) (expressions_numbered es)
  expressions_back no_expression = keeps_pure no_expression (λ at. refl)
  expressions_back (an_expression e es) = keeps_then (expression_back e) (λ e'. keeps_then (expressions_back es) (λ es'. keeps_pure (an_expression e' es') (λ at hes he. λ i. an_expression (he i) (hes i))))

  pub items_back : (items : Items) → Back items_source (items_source none items) (items_numbered items)
  items_back no_item = keeps_pure no_item (λ at. refl)
  items_back (an_item o items) = keeps_then (optional_back o) (λ o'. keeps_then (items_back items) (λ items'. keeps_pure (an_item o' items') (λ at hitems ho. λ i. an_item (ho i) (hitems i))))

  pub properties_back : (ps : Properties) → Back properties_source (properties_source none ps) (properties_numbered ps)
  properties_back no_property = keeps_pure no_property (λ at. refl)
  properties_back (a_property text e ps) = keeps_then (expression_back e) (λ e'. keeps_then (properties_back ps) (λ ps'. keeps_pure (a_property text e' ps') (λ at hps he. λ i. a_property text (he i) (hps i))))

  pub suffix_back : (s : SuffixTree) → Back suffix_source (suffix_source none s) (suffix_numbered s)
  suffix_back (a_member p text) = keeps_pure (a_member p text) (λ at. refl)
  suffix_back (an_index p e) = keeps_then (expression_back e) (λ e'. keeps_pure (an_index p e') (λ at he. λ i. an_index p (he i)))
  suffix_back (a_call p es) = keeps_then (expressions_back es) (λ es'. keeps_pure (a_call p es') (λ at hes. λ i. a_call p (hes i)))

  pub suffixes_back : (ss : Suffixes) → Back suffixes_source (suffixes_source none ss) (suffixes_numbered ss)
  suffixes_back no_suffix = keeps_pure no_suffix (λ at. refl)
  suffixes_back (a_suffix s ss) = keeps_then (suffix_back s) (λ s'. keeps_then (suffixes_back ss) (λ ss'. keeps_pure (a_suffix s' ss') (λ at hss hs. λ i. a_suffix (hs i) (hss i))))

  pub operands_back : (os : Operands) → Back operands_source (operands_source none os) (operands_numbered os)
  operands_back no_operand = keeps_pure no_operand (λ at. refl)
  operands_back (an_operand p op e os) = keeps_then (expression_back e) (λ e'. keeps_then (operands_back os) (λ os'. keeps_pure (an_operand p op e' os') (λ at hos he. λ i. an_operand p op (he i) (hos i))))

  pub function_back : (f : FunctionTree) → Back number_source (function_source none f) (function_numbered f)
  function_back (a_function own parameters names body) = back_function own parameters names body (statements_back body)

  pub statement_back : (s : StatementTree) → Back statement_source (statement_source none s) (statement_numbered s)
  statement_back (Block p ss) = keeps_then (statements_back ss) (λ ss'. keeps_pure (Block p ss') (λ at hss. λ i. Block p (hss i)))
  statement_back (Empty p) = keeps_pure (Empty p) (λ at. refl)
  statement_back (Evaluate p e) = keeps_then (expression_back e) (λ e'. keeps_pure (Evaluate p e') (λ at he. λ i. Evaluate p (he i)))
  statement_back (Debugger p) = keeps_pure (Debugger p) (λ at. refl)
  statement_back (Var p ds) = keeps_then (declarations_back ds) (λ ds'. keeps_pure (Var p ds') (λ at hds. λ i. Var p (hds i)))
  statement_back (If p bs o) = keeps_then (branches_back bs) (λ bs'. keeps_then (otherwise_back o) (λ o'. keeps_pure (If p bs' o') (λ at ho hbs. λ i. If p (hbs i) (ho i))))
  statement_back (DoWhile p s e) = keeps_then (statement_back s) (λ s'. keeps_then (expression_back e) (λ e'. keeps_pure (DoWhile p s' e') (λ at he hs. λ i. DoWhile p (hs i) (he i))))
  statement_back (While p e s) = keeps_then (expression_back e) (λ e'. keeps_then (statement_back s) (λ s'. keeps_pure (While p e' s') (λ at hs he. λ i. While p (he i) (hs i))))
  statement_back (For p a o1 o2 s) = keeps_then (start_back a) (λ a'. keeps_then (optional_back o1) (λ o1'. keeps_then (optional_back o2) (λ o2'. keeps_then (statement_back s) (λ s'. keeps_pure (For p a' o1' o2' s') (λ at hs ho2 ho1 ha. λ i. For p (ha i) (ho1 i) (ho2 i) (hs i))))))
  statement_back (ForIn p t e s) = keeps_then (target_back t) (λ t'. keeps_then (expression_back e) (λ e'. keeps_then (statement_back s) (λ s'. keeps_pure (ForIn p t' e' s') (λ at hs he ht. λ i. ForIn p (ht i) (he i) (hs i)))))
  statement_back (Continue p) = keeps_pure (Continue p) (λ at. refl)
  statement_back (Break p) = keeps_pure (Break p) (λ at. refl)
  statement_back (Return p o) = keeps_then (optional_back o) (λ o'. keeps_pure (Return p o') (λ at ho. λ i. Return p (ho i)))
  statement_back (Throw p e) = keeps_then (expression_back e) (λ e'. keeps_pure (Throw p e') (λ at he. λ i. Throw p (he i)))
  statement_back (Switch p e cs) = keeps_then (expression_back e) (λ e'. keeps_then (clauses_back cs) (λ cs'. keeps_pure (Switch p e' cs') (λ at hcs he. λ i. Switch p (he i) (hcs i))))
  statement_back (Try p s c o) = keeps_then (statement_back s) (λ s'. keeps_then (handler_back c) (λ c'. keeps_then (otherwise_back o) (λ o'. keeps_pure (Try p s' c' o') (λ at ho hc hs. λ i. Try p (hs i) (hc i) (ho i)))))
  statement_back (Declare p x f) = keeps_then (function_back f) (λ n'. keeps_pure (DeclareNumbered p (unbound x) n') (λ at hn. λ i. Declare p (unbound x) (hn i)))
  statement_back (DeclareNumbered p x n) = keeps_then (back_placed) (λ n'. keeps_pure (DeclareNumbered p (unbound x) n') (λ at hn. λ i. Declare p (unbound x) (hn i)))

  pub otherwise_back : (o : OptionalStatement) → Back otherwise_source (otherwise_source none o) (otherwise_numbered o)
  otherwise_back omitted = keeps_pure omitted (λ at. refl)
  otherwise_back (given s) = keeps_then (statement_back s) (λ s'. keeps_pure (given s') (λ at hs. λ i. given (hs i)))

  pub statements_back : (ss : Statements) → Back statements_source (statements_source none ss) (statements_numbered ss)
  statements_back no_statement = keeps_pure no_statement (λ at. refl)
  statements_back (a_statement s ss) = keeps_then (statement_back s) (λ s'. keeps_then (statements_back ss) (λ ss'. keeps_pure (a_statement s' ss') (λ at hss hs. λ i. a_statement (hs i) (hss i))))

  pub declarations_back : (ds : Declarations) → Back declarations_source (declarations_source none ds) (declarations_numbered ds)
  declarations_back no_declared = keeps_pure no_declared (λ at. refl)
  declarations_back (a_declared x o ds) = keeps_then (optional_back o) (λ o'. keeps_then (declarations_back ds) (λ ds'. keeps_pure (a_declared (unbound x) o' ds') (λ at hds ho. λ i. a_declared (unbound x) (ho i) (hds i))))

  pub branches_back : (bs : Branches) → Back branches_source (branches_source none bs) (branches_numbered bs)
  branches_back no_branch = keeps_pure no_branch (λ at. refl)
  branches_back (a_branch e s bs) = keeps_then (expression_back e) (λ e'. keeps_then (statement_back s) (λ s'. keeps_then (branches_back bs) (λ bs'. keeps_pure (a_branch e' s' bs') (λ at hbs hs he. λ i. a_branch (he i) (hs i) (hbs i)))))

  pub start_back : (a : StartTree) → Back start_source (start_source none a) (start_numbered a)
  start_back no_start = keeps_pure no_start (λ at. refl)
  start_back (start_var p ds) = keeps_then (declarations_back ds) (λ ds'. keeps_pure (start_var p ds') (λ at hds. λ i. start_var p (hds i)))
  start_back (start_value e) = keeps_then (expression_back e) (λ e'. keeps_pure (start_value e') (λ at he. λ i. start_value (he i)))

  pub target_back : (t : TargetTree) → Back target_source (target_source none t) (target_numbered t)
  target_back (target_value e) = keeps_then (expression_back e) (λ e'. keeps_pure (target_value e') (λ at he. λ i. target_value (he i)))
  target_back (target_declared x o) = keeps_then (optional_back o) (λ o'. keeps_pure (target_declared (unbound x) o') (λ at ho. λ i. target_declared (unbound x) (ho i)))

  pub clauses_back : (cs : Clauses) → Back clauses_source (clauses_source none cs) (clauses_numbered cs)
  clauses_back no_clause = keeps_pure no_clause (λ at. refl)
  clauses_back (a_clause o ss cs) = keeps_then (optional_back o) (λ o'. keeps_then (statements_back ss) (λ ss'. keeps_then (clauses_back cs) (λ cs'. keeps_pure (a_clause o' ss' cs') (λ at hcs hss ho. λ i. a_clause (ho i) (hss i) (hcs i)))))

  pub handler_back : (c : CatchTree) → Back handler_source (handler_source none c) (handler_numbered c)
  handler_back no_catch = keeps_pure no_catch (λ at. refl)
  handler_back (a_catch x s) = keeps_then (statement_back s) (λ s'. keeps_pure (a_catch (unbound x) s') (λ at hs. λ i. a_catch (unbound x) (hs i)))
