-- What each kind of node that touches names comes to, among the scopes around it.
use Rattle.std.specs.Prelude.{◌≡◌, ℕ, List, [], ◌∷◌, map, Some, None}
use Rattle.js_tree.specs.declared.place.Place.{Place}
use Rattle.js_tree.specs.declared.bound.BoundName.{BoundName}
use Rattle.js_tree.specs.declared.operators.UnaryOp.{UnaryOp}
use Rattle.js_tree.specs.declared.operators.UpdateForm.{UpdateForm}
use Rattle.js_tree.specs.declared.operators.UpdateOp.{UpdateOp}
use Rattle.js_tree.specs.declared.operators.AssignOp.{AssignOp}
use Rattle.js_tree.specs.Tree.{ExpressionTree, Name, Function, Numbered, Suffixed, Update, Unary, Assign, OptionalExpression, Expressions, a_call, Suffixes, a_suffix, FunctionTree, a_function, StatementTree, ForIn, Declare, DeclareNumbered, Statements, Declarations, a_declared, target_declared, a_catch}
use Rattle.js_binding.specs.Names.{names_of}
use Rattle.js_binding.specs.Scopes.{Scope, named, itself, bound_in}
use Rattle.js_binding.specs.Resolved.{Placing, pure, ◌>>=◌, numbered, expression_in, optional_in, expressions_in, suffixes_in, statement_in, statements_in, declarations_in, handler_in}

-- the same, whatever functions have numbers already
abbrev pub Comes : {A : Type 0} → Placing A → Placing A → Type 0
Comes m n = (functions : List FunctionTree) → m functions ≡ n functions

pub record BindsNames (scopes : List Scope) : Type 0 where
  -- a name is read where it stands (11.1.2)
  pub name : (p : Place) (x : BoundName) → Comes (expression_in scopes (Name p x)) (pure (Name p (bound_in scopes x)))
  -- and written there, also before its value is found (11.13)
  pub assignment : (p q : Place) (x : BoundName) (op : AssignOp) (e : ExpressionTree)
      → Comes (expression_in scopes (Assign p (Name q x) op e)) (expression_in scopes e >>= (λ e'. pure (Assign p (Name q (bound_in scopes x)) op e')))
  pub update : (p q : Place) (form : UpdateForm) (op : UpdateOp) (x : BoundName)
      → Comes (expression_in scopes (Update p form op (Name q x))) (pure (Update p form op (Name q (bound_in scopes x))))
  -- `delete`, `typeof` and the other prefix operators (11.4)
  pub unary : (p q : Place) (op : UnaryOp) (x : BoundName)
      → Comes (expression_in scopes (Unary p op (Name q x))) (pure (Unary p op (Name q (bound_in scopes x))))
  -- a call: the called name, then the arguments (11.2.3)
  pub call : (p q r : Place) (x : BoundName) (es : Expressions) (ss : Suffixes)
      → Comes (expression_in scopes (Suffixed p (Name q x) (a_suffix (a_call r es) ss)))
      (expressions_in scopes es >>= (λ es'. suffixes_in scopes ss >>= (λ ss'. pure (Suffixed p (Name q (bound_in scopes x)) (a_suffix (a_call r es') ss')))))
  -- a variable, with its first value or none (12.2)
  pub variable : (x : BoundName) (o : OptionalExpression) (ds : Declarations)
      → Comes (declarations_in scopes (a_declared x o ds))
      (optional_in scopes o >>= (λ o'. declarations_in scopes ds >>= (λ ds'. pure (a_declared (bound_in scopes x) o' ds'))))
  -- the variable of a `for`-`in` loop (12.6.4)
  pub for_in : (p : Place) (x : BoundName) (o : OptionalExpression) (e : ExpressionTree) (s : StatementTree)
      → Comes (statement_in scopes (ForIn p (target_declared x o) e s))
      (optional_in scopes o >>= (λ o'. expression_in scopes e >>= (λ e'. statement_in scopes s >>= (λ s'. pure (ForIn p (target_declared (bound_in scopes x) o') e' s')))))
  -- a declared function: its name stands around it, its body in a scope of its own names (13)
  pub declaration : (p : Place) (x : BoundName) (parameters : List BoundName) (names : List (List ℕ)) (body : Statements)
      → let inside = named (names_of parameters body) ∷ scopes in
      Comes (statement_in scopes (Declare p x (a_function None parameters names body)))
      (numbered (λ body'. a_function None (map (bound_in inside) parameters) (names_of parameters body) body') (statements_in inside body)
      >>= (λ n. pure (DeclareNumbered p (bound_in scopes x) n)))
  -- a function expression with a name: a scope with that name alone stands around the body's
  pub own_name : (p : Place) (x : BoundName) (parameters : List BoundName) (names : List (List ℕ)) (body : Statements)
      → let around = itself x.name ∷ scopes in
      let inside = named (names_of parameters body) ∷ around in
      Comes (expression_in scopes (Function p (a_function (Some x) parameters names body)))
      (numbered (λ body'. a_function (Some (bound_in around x)) (map (bound_in inside) parameters) (names_of parameters body) body') (statements_in inside body)
      >>= (λ n. pure (Numbered p n)))
  -- a handler: its block stands in a scope with the one name (12.14)
  pub handler : (x : BoundName) (s : StatementTree)
      → let inside = named (x.name ∷ []) ∷ scopes in
      Comes (handler_in scopes (a_catch x s)) (statement_in inside s >>= (λ s'. pure (a_catch (bound_in inside x) s')))
