-- What a body declares it declares without its bounds.
use Rattle.std.proofs.Common.{◌≡◌, ◌∷◌, ◌++◌, refl, ap, ap₂}
use Rattle.js_tree.specs.Tree.{StatementTree, Block, Empty, Evaluate, Debugger, Var, If, DoWhile, While, For, ForIn, Continue, Break, Return, Throw, Switch, Try, Declare, DeclareNumbered, OptionalStatement, omitted, given, Statements, no_statement, a_statement, Declarations, no_declared, a_declared, Branches, no_branch, a_branch, StartTree, no_start, start_var, start_value, TargetTree, target_value, target_declared, Clauses, no_clause, a_clause, CatchTree, no_catch, a_catch}
use Rattle.js_binding.specs.Names.{variables_of, variables_of_otherwise, variables_of_all, variables_of_declarations, variables_of_branches, variables_of_start, variables_of_target, variables_of_clauses, variables_of_handler}
use Rattle.js_law_right.specs.Unbound.{statement_unbound, otherwise_unbound, statements_unbound, declarations_unbound, branches_unbound, start_unbound, target_unbound, clauses_unbound, handler_unbound}

mutual
  variables_of-bare : (e : StatementTree) → variables_of (statement_unbound e) ≡ variables_of e
  variables_of-bare (Block p ss) = variables_of_all-bare ss
  variables_of-bare (Empty p) = refl
  variables_of-bare (Evaluate p e) = refl
  variables_of-bare (Debugger p) = refl
  variables_of-bare (Var p ds) = variables_of_declarations-bare ds
  variables_of-bare (If p bs o) = ap₂ ◌++◌ (variables_of_branches-bare bs) (variables_of_otherwise-bare o)
  variables_of-bare (DoWhile p s e) = variables_of-bare s
  variables_of-bare (While p e s) = variables_of-bare s
  variables_of-bare (For p a e d s) = ap₂ ◌++◌ (variables_of_start-bare a) (variables_of-bare s)
  variables_of-bare (ForIn p t e s) = ap₂ ◌++◌ (variables_of_target-bare t) (variables_of-bare s)
  variables_of-bare (Continue p) = refl
  variables_of-bare (Break p) = refl
  variables_of-bare (Return p o) = refl
  variables_of-bare (Throw p e) = refl
  variables_of-bare (Switch p e cs) = variables_of_clauses-bare cs
  variables_of-bare (Try p s c o) = ap₂ ◌++◌ (variables_of-bare s) (ap₂ ◌++◌ (variables_of_handler-bare c) (variables_of_otherwise-bare o))
  variables_of-bare (Declare p x f) = refl
  variables_of-bare (DeclareNumbered p x n) = refl

  variables_of_otherwise-bare : (e : OptionalStatement)
      → variables_of_otherwise (otherwise_unbound e) ≡ variables_of_otherwise e
  variables_of_otherwise-bare omitted = refl
  variables_of_otherwise-bare (given s) = variables_of-bare s

  pub variables_of_all-bare : (e : Statements) → variables_of_all (statements_unbound e) ≡ variables_of_all e
  variables_of_all-bare no_statement = refl
  variables_of_all-bare (a_statement s ss) = ap₂ ◌++◌ (variables_of-bare s) (variables_of_all-bare ss)

  variables_of_declarations-bare : (e : Declarations)
      → variables_of_declarations (declarations_unbound e) ≡ variables_of_declarations e
  variables_of_declarations-bare no_declared = refl
  variables_of_declarations-bare (a_declared x o ds) = ap (λ r. x.name ∷ r) (variables_of_declarations-bare ds)

  variables_of_branches-bare : (e : Branches) → variables_of_branches (branches_unbound e) ≡ variables_of_branches e
  variables_of_branches-bare no_branch = refl
  variables_of_branches-bare (a_branch e s bs) = ap₂ ◌++◌ (variables_of-bare s) (variables_of_branches-bare bs)

  variables_of_start-bare : (e : StartTree) → variables_of_start (start_unbound e) ≡ variables_of_start e
  variables_of_start-bare no_start = refl
  variables_of_start-bare (start_var p ds) = variables_of_declarations-bare ds
  variables_of_start-bare (start_value e) = refl

  variables_of_target-bare : (e : TargetTree) → variables_of_target (target_unbound e) ≡ variables_of_target e
  variables_of_target-bare (target_value e) = refl
  variables_of_target-bare (target_declared x o) = refl

  variables_of_clauses-bare : (e : Clauses) → variables_of_clauses (clauses_unbound e) ≡ variables_of_clauses e
  variables_of_clauses-bare no_clause = refl
  variables_of_clauses-bare (a_clause o ss cs) = ap₂ ◌++◌ (variables_of_all-bare ss) (variables_of_clauses-bare cs)

  variables_of_handler-bare : (e : CatchTree) → variables_of_handler (handler_unbound e) ≡ variables_of_handler e
  variables_of_handler-bare no_catch = refl
  variables_of_handler-bare (a_catch x s) = variables_of-bare s
