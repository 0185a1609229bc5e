-- What is placed later leaves each function where it stands.
use Rattle.std.proofs.Common.{◌≡◌, ℕ, zero, suc, ◌+◌, ◌≤◌, ◌<◌, List, [], ◌∷◌, ◌++◌, length, map, Option, Some, None, refl, ◌∙◌, ap, arith, length-append}
use Rattle.std.specs.Prelude.{slice_get, slice_set, option_map}
use Rattle.js_tree.specs.declared.bound.BoundName.{BoundName}
use Rattle.js_tree.specs.Tree.{ExpressionTree, Number, Characters, Pattern, True, False, Null, This, Name, Array, Object, Function, Numbered, Suffixed, New, Update, Unary, Chain, Conditional, Assign, Comma, OptionalExpression, absent, present, Expressions, no_expression, an_expression, Items, no_item, an_item, Properties, no_property, a_property, SuffixTree, a_member, an_index, a_call, Suffixes, no_suffix, a_suffix, Operands, no_operand, an_operand, FunctionTree, a_function, StatementTree, Block, Empty, Evaluate, Debugger, Var, If, DoWhile, While, For, ForIn, Continue, Break, Return, Throw, Switch, Try, Declare, DeclareNumbered, OptionalStatement, omitted, given, Statements, no_statement, a_statement, Declarations, no_declared, a_declared, Branches, no_branch, a_branch, StartTree, no_start, start_var, start_value, TargetTree, target_value, target_declared, Clauses, no_clause, a_clause, CatchTree, no_catch, a_catch}
use Rattle.js_binding.specs.Names.{names_of}
use Rattle.js_binding.specs.Scopes.{Scope, bound_in}
use Rattle.js_binding.specs.Resolved.{Placing, pure, ◌>>=◌, hollow, placed, numbered, around_function, in_body, in_handler, expression_in, optional_in, expressions_in, items_in, properties_in, suffix_in, suffixes_in, operands_in, function_in, statement_in, otherwise_in, statements_in, declarations_in, branches_in, start_in, target_in, clauses_in, handler_in}

-- `after` has all functions of `before` at their numbers
pub record Extends (before after : List FunctionTree) : Type 0 where
  pub longer : length before ≤ length after
  pub kept : (n : ℕ) → n < length before → slice_get after n ≡ slice_get before n

pub record Grows {A : Type 0} (m : Placing A) : Type 0 where
  pub grows : (functions : List FunctionTree) → Extends functions (m functions).1

pub extends_itself : (fs : List FunctionTree) → Extends fs fs
extends_itself fs = record { longer = omega arith; kept = λ n h. refl }

pub extends_then : (fs gs hs : List FunctionTree) → Extends fs gs → Extends gs hs → Extends fs hs
extends_then fs gs hs a b =
    record { longer = omega (arith, a.longer, b.longer); kept = λ n h. b.kept n (omega (arith, a.longer, h)) ∙ a.kept n h }

pub grows_pure : {A : Type 0} (a : A) → Grows (pure a)
grows_pure a = record { grows = extends_itself }

pub grows_then : {A B : Type 0} (m : Placing A) (f : A → Placing B) → Grows m → ((a : A) → Grows (f a)) → Grows (m >>= f)
grows_then m f h k =
    record { grows = λ fs. extends_then fs (m fs).1 (f (m fs).0 (m fs).1).1 (h.grows fs) ((k (m fs).0).grows (m fs).1) }

pub get_front : (xs ys : List FunctionTree) (n : ℕ) → n < length xs → slice_get (xs ++ ys) n ≡ slice_get xs n
get_front [] ys n h = absurd (omega (arith, h))
get_front (x ∷ xs) ys zero h = refl
get_front (x ∷ xs) ys (suc n) h = get_front xs ys n (omega (arith, h))

get_set_before : (xs : List FunctionTree) (m n : ℕ) (x : FunctionTree) → n < m → slice_get (slice_set xs m x) n ≡ slice_get xs n
get_set_before [] m n x h = refl
get_set_before (y ∷ ys) zero n x h = absurd (omega (arith, h))
get_set_before (y ∷ ys) (suc m) zero x h = refl
get_set_before (y ∷ ys) (suc m) (suc n) x h = get_set_before ys m n x (omega (arith, h))

pub get_set_other : (xs : List FunctionTree) (m n : ℕ) (x : FunctionTree) → m < n → slice_get (slice_set xs m x) n ≡ slice_get xs n
get_set_other [] m n x h = refl
get_set_other (y ∷ ys) zero zero x h = absurd (omega (arith, h))
get_set_other (y ∷ ys) zero (suc n) x h = refl
get_set_other (y ∷ ys) (suc m) zero x h = absurd (omega (arith, h))
get_set_other (y ∷ ys) (suc m) (suc n) x h = get_set_other ys m n x (omega (arith, h))

pub get_set_here : (xs : List FunctionTree) (n : ℕ) (x : FunctionTree) → n < length xs → slice_get (slice_set xs n x) n ≡ Some x
get_set_here [] n x h = absurd (omega (arith, h))
get_set_here (y ∷ ys) zero x h = refl
get_set_here (y ∷ ys) (suc n) x h = get_set_here ys n x (omega (arith, h))

pub length_set : (xs : List FunctionTree) (n : ℕ) (x : FunctionTree) → length (slice_set xs n x) ≡ length xs
length_set [] n x = refl
length_set (y ∷ ys) zero x = refl
length_set (y ∷ ys) (suc n) x = ap suc (length_set ys n x)

extends_append : (fs gs : List FunctionTree) → Extends fs (fs ++ gs)
extends_append fs gs = record { longer = omega (arith, length-append fs gs); kept = λ n h. get_front fs gs n h }

extends_set : (fs gs : List FunctionTree) (x : FunctionTree) → Extends fs gs → Extends fs (slice_set gs (length fs) x)
extends_set fs gs x a = record {
  longer = omega (arith, a.longer, length_set gs (length fs) x);
  kept = λ n h. get_set_before gs (length fs) n x h ∙ a.kept n h;
}

pub grows_placed : (f : FunctionTree) → Grows (placed f)
grows_placed f = record { grows = λ fs. extends_append fs (f ∷ []) }

pub grows_numbered : (with_body : Statements → FunctionTree) (body : Placing Statements) → Grows body → Grows (numbered with_body body)
grows_numbered with_body body h = record {
  grows = λ fs.
      let made = body (fs ++ hollow ∷ []) in
      extends_set fs made.1 (with_body made.0)
      (extends_then fs (fs ++ hollow ∷ []) made.1 (extends_append fs (hollow ∷ [])) (h.grows (fs ++ hollow ∷ [])));
}

-- A function's place is there once its body is resolved.
pub numbered_place : (body : Placing Statements) (functions : List FunctionTree) → Grows body → length functions < length (body (functions ++ hollow ∷ [])).1
numbered_place body functions h = omega (arith, length-append functions (hollow ∷ []), (h.grows (functions ++ hollow ∷ [])).longer)

mutual
  unfolding expression_in optional_in expressions_in items_in properties_in suffix_in suffixes_in operands_in function_in statement_in otherwise_in statements_in declarations_in branches_in start_in target_in clauses_in handler_in

  pub expression_grows : (scopes : List Scope) (e : ExpressionTree) → Grows (expression_in scopes e)
  expression_grows scopes (Number p n) = grows_pure (Number p n)
  expression_grows scopes (Characters p x) = grows_pure (Characters p x)
  expression_grows scopes (Pattern p l) = grows_pure (Pattern p l)
  expression_grows scopes (True p) = grows_pure (True p)
  expression_grows scopes (False p) = grows_pure (False p)
  expression_grows scopes (Null p) = grows_pure (Null p)
  expression_grows scopes (This p) = grows_pure (This p)
  expression_grows scopes (Name p x) = grows_pure (Name p (bound_in scopes x))
  expression_grows scopes (Array p all) = grows_then _ _ (items_grows scopes all) (λ all'. grows_pure (Array p all'))
  expression_grows scopes (Object p all) = grows_then _ _ (properties_grows scopes all) (λ all'. grows_pure (Object p all'))
  expression_grows scopes (Function p f) = grows_then _ _ (function_grows scopes f) (λ n. grows_pure (Numbered p n))
  expression_grows scopes (Numbered p n) = grows_then _ _ (grows_placed hollow) (λ n'. grows_pure (Numbered p n'))
  expression_grows scopes (Suffixed p e all) = grows_then _ _ (expression_grows scopes e) (λ e'. grows_then _ _ (suffixes_grows scopes all) (λ all'. grows_pure (Suffixed p e' all')))
  expression_grows scopes (New p e all) = grows_then _ _ (expression_grows scopes e) (λ e'. grows_then _ _ (expressions_grows scopes all) (λ all'. grows_pure (New p e' all')))
  expression_grows scopes (Update p form op e) = grows_then _ _ (expression_grows scopes e) (λ e'. grows_pure (Update p form op e'))
  expression_grows scopes (Unary p op e) = grows_then _ _ (expression_grows scopes e) (λ e'. grows_pure (Unary p op e'))
  expression_grows scopes (Chain p e all) = grows_then _ _ (expression_grows scopes e) (λ e'. grows_then _ _ (operands_grows scopes all) (λ all'. grows_pure (Chain p e' all')))
  expression_grows scopes (Conditional p e a b) = grows_then _ _ (expression_grows scopes e) (λ e'. grows_then _ _ (expression_grows scopes a) (λ a'. grows_then _ _ (expression_grows scopes b) (λ b'. grows_pure (Conditional p e' a' b'))))
  expression_grows scopes (Assign p e op v) = grows_then _ _ (expression_grows scopes e) (λ e'. grows_then _ _ (expression_grows scopes v) (λ v'. grows_pure (Assign p e' op v')))
  expression_grows scopes (Comma p all) = grows_then _ _ (expressions_grows scopes all) (λ all'. grows_pure (Comma p all'))

  pub optional_grows : (scopes : List Scope) (e : OptionalExpression) → Grows (optional_in scopes e)
  optional_grows scopes absent = grows_pure absent
  optional_grows scopes (present e) = grows_then _ _ (expression_grows scopes e) (λ e'. grows_pure (present e'))

  pub expressions_grows : (scopes : List Scope) (e : Expressions) → Grows (expressions_in scopes e)
  expressions_grows scopes no_expression = grows_pure no_expression
  expressions_grows scopes (an_expression e es) = grows_then _ _ (expression_grows scopes e) (λ e'. grows_then _ _ (expressions_grows scopes es) (λ es'. grows_pure (an_expression e' es')))

  pub items_grows : (scopes : List Scope) (e : Items) → Grows (items_in scopes e)
  items_grows scopes no_item = grows_pure no_item
  items_grows scopes (an_item o os) = grows_then _ _ (optional_grows scopes o) (λ o'. grows_then _ _ (items_grows scopes os) (λ os'. grows_pure (an_item o' os')))

  pub properties_grows : (scopes : List Scope) (e : Properties) → Grows (properties_in scopes e)
  properties_grows scopes no_property = grows_pure no_property
  properties_grows scopes (a_property x e ps) = grows_then _ _ (expression_grows scopes e) (λ e'. grows_then _ _ (properties_grows scopes ps) (λ ps'. grows_pure (a_property x e' ps')))

  pub suffix_grows : (scopes : List Scope) (e : SuffixTree) → Grows (suffix_in scopes e)
  suffix_grows scopes (a_member p x) = grows_pure (a_member p x)
  suffix_grows scopes (an_index p e) = grows_then _ _ (expression_grows scopes e) (λ e'. grows_pure (an_index p e'))
  suffix_grows scopes (a_call p es) = grows_then _ _ (expressions_grows scopes es) (λ es'. grows_pure (a_call p es'))

  pub suffixes_grows : (scopes : List Scope) (e : Suffixes) → Grows (suffixes_in scopes e)
  suffixes_grows scopes no_suffix = grows_pure no_suffix
  suffixes_grows scopes (a_suffix s ss) = grows_then _ _ (suffix_grows scopes s) (λ s'. grows_then _ _ (suffixes_grows scopes ss) (λ ss'. grows_pure (a_suffix s' ss')))

  pub operands_grows : (scopes : List Scope) (e : Operands) → Grows (operands_in scopes e)
  operands_grows scopes no_operand = grows_pure no_operand
  operands_grows scopes (an_operand p op e os) = grows_then _ _ (expression_grows scopes e) (λ e'. grows_then _ _ (operands_grows scopes os) (λ os'. grows_pure (an_operand p op e' os')))

  pub function_grows : (scopes : List Scope) (e : FunctionTree) → Grows (function_in scopes e)
  function_grows scopes (a_function own parameters names body) =
      let around = around_function scopes own in
      let inside = in_body around parameters body in
      grows_numbered
      (λ made. a_function (option_map (bound_in around) own) (map (bound_in inside) parameters) (names_of parameters body) made)
      (statements_in inside body) (statements_grows inside body)

  pub statement_grows : (scopes : List Scope) (e : StatementTree) → Grows (statement_in scopes e)
  statement_grows scopes (Block p ss) = grows_then _ _ (statements_grows scopes ss) (λ ss'. grows_pure (Block p ss'))
  statement_grows scopes (Empty p) = grows_pure (Empty p)
  statement_grows scopes (Evaluate p e) = grows_then _ _ (expression_grows scopes e) (λ e'. grows_pure (Evaluate p e'))
  statement_grows scopes (Debugger p) = grows_pure (Debugger p)
  statement_grows scopes (Var p ds) = grows_then _ _ (declarations_grows scopes ds) (λ ds'. grows_pure (Var p ds'))
  statement_grows scopes (If p bs o) = grows_then _ _ (branches_grows scopes bs) (λ bs'. grows_then _ _ (otherwise_grows scopes o) (λ o'. grows_pure (If p bs' o')))
  statement_grows scopes (DoWhile p s e) = grows_then _ _ (statement_grows scopes s) (λ s'. grows_then _ _ (expression_grows scopes e) (λ e'. grows_pure (DoWhile p s' e')))
  statement_grows scopes (While p e s) = grows_then _ _ (expression_grows scopes e) (λ e'. grows_then _ _ (statement_grows scopes s) (λ s'. grows_pure (While p e' s')))
  statement_grows scopes (For p a e d s) = grows_then _ _ (start_grows scopes a) (λ a'. grows_then _ _ (optional_grows scopes e) (λ e'. grows_then _ _ (optional_grows scopes d) (λ d'. grows_then _ _ (statement_grows scopes s) (λ s'. grows_pure (For p a' e' d' s')))))
  statement_grows scopes (ForIn p t e s) = grows_then _ _ (target_grows scopes t) (λ t'. grows_then _ _ (expression_grows scopes e) (λ e'. grows_then _ _ (statement_grows scopes s) (λ s'. grows_pure (ForIn p t' e' s'))))
  statement_grows scopes (Continue p) = grows_pure (Continue p)
  statement_grows scopes (Break p) = grows_pure (Break p)
  statement_grows scopes (Return p o) = grows_then _ _ (optional_grows scopes o) (λ o'. grows_pure (Return p o'))
  statement_grows scopes (Throw p e) = grows_then _ _ (expression_grows scopes e) (λ e'. grows_pure (Throw p e'))
  statement_grows scopes (Switch p e cs) = grows_then _ _ (expression_grows scopes e) (λ e'. grows_then _ _ (clauses_grows scopes cs) (λ cs'. grows_pure (Switch p e' cs')))
  statement_grows scopes (Try p s c o) = grows_then _ _ (statement_grows scopes s) (λ s'. grows_then _ _ (handler_grows scopes c) (λ c'. grows_then _ _ (otherwise_grows scopes o) (λ o'. grows_pure (Try p s' c' o'))))
  statement_grows scopes (Declare p x f) = grows_then _ _ (function_grows scopes f) (λ n. grows_pure (DeclareNumbered p (bound_in scopes x) n))
  statement_grows scopes (DeclareNumbered p x n) = grows_then _ _ (grows_placed hollow) (λ n'. grows_pure (DeclareNumbered p (bound_in scopes x) n'))

  pub otherwise_grows : (scopes : List Scope) (e : OptionalStatement) → Grows (otherwise_in scopes e)
  otherwise_grows scopes omitted = grows_pure omitted
  otherwise_grows scopes (given s) = grows_then _ _ (statement_grows scopes s) (λ s'. grows_pure (given s'))

  pub statements_grows : (scopes : List Scope) (e : Statements) → Grows (statements_in scopes e)
  statements_grows scopes no_statement = grows_pure no_statement
  statements_grows scopes (a_statement s ss) = grows_then _ _ (statement_grows scopes s) (λ s'. grows_then _ _ (statements_grows scopes ss) (λ ss'. grows_pure (a_statement s' ss')))

  pub declarations_grows : (scopes : List Scope) (e : Declarations) → Grows (declarations_in scopes e)
  declarations_grows scopes no_declared = grows_pure no_declared
  declarations_grows scopes (a_declared x o ds) = grows_then _ _ (optional_grows scopes o) (λ o'. grows_then _ _ (declarations_grows scopes ds) (λ ds'. grows_pure (a_declared (bound_in scopes x) o' ds')))

  pub branches_grows : (scopes : List Scope) (e : Branches) → Grows (branches_in scopes e)
  branches_grows scopes no_branch = grows_pure no_branch
  branches_grows scopes (a_branch e s bs) = grows_then _ _ (expression_grows scopes e) (λ e'. grows_then _ _ (statement_grows scopes s) (λ s'. grows_then _ _ (branches_grows scopes bs) (λ bs'. grows_pure (a_branch e' s' bs'))))

  pub start_grows : (scopes : List Scope) (e : StartTree) → Grows (start_in scopes e)
  start_grows scopes no_start = grows_pure no_start
  start_grows scopes (start_var p ds) = grows_then _ _ (declarations_grows scopes ds) (λ ds'. grows_pure (start_var p ds'))
  start_grows scopes (start_value e) = grows_then _ _ (expression_grows scopes e) (λ e'. grows_pure (start_value e'))

  pub target_grows : (scopes : List Scope) (e : TargetTree) → Grows (target_in scopes e)
  target_grows scopes (target_value e) = grows_then _ _ (expression_grows scopes e) (λ e'. grows_pure (target_value e'))
  target_grows scopes (target_declared x o) = grows_then _ _ (optional_grows scopes o) (λ o'. grows_pure (target_declared (bound_in scopes x) o'))

  pub clauses_grows : (scopes : List Scope) (e : Clauses) → Grows (clauses_in scopes e)
  clauses_grows scopes no_clause = grows_pure no_clause
  clauses_grows scopes (a_clause o ss cs) = grows_then _ _ (optional_grows scopes o) (λ o'. grows_then _ _ (statements_grows scopes ss) (λ ss'. grows_then _ _ (clauses_grows scopes cs) (λ cs'. grows_pure (a_clause o' ss' cs'))))

  pub handler_grows : (scopes : List Scope) (e : CatchTree) → Grows (handler_in scopes e)
  handler_grows scopes no_catch = grows_pure no_catch
  handler_grows scopes (a_catch x s) = grows_then _ _ (statement_grows (in_handler scopes x) s) (λ s'. grows_pure (a_catch (bound_in (in_handler scopes x) x) s'))
