-- Worked examples, each by computation alone: of a script what stands by number, and the scopes around the calls of each
-- of its functions, among which each name of the program has its place.
use Rattle.std.specs.Prelude.{◌≡◌, ℕ, List, [], ◌∷◌, codes, Option, Some, None, refl}
use Rattle.js_tree.specs.declared.place.Place.{Place}
use Rattle.js_tree.specs.declared.bound.Bound.TheVariants.{Unbound, Slot, Own}
use Rattle.js_tree.specs.declared.bound.BoundName.{BoundName}
use Rattle.js_tree.specs.declared.operators.AssignOp.TheVariants as assign
use Rattle.js_tree.specs.Tree.{ExpressionTree, Name, Function, Numbered, Assign, absent, FunctionTree, a_function, StatementTree, Block, Evaluate, Var, Try, Declare, DeclareNumbered, omitted, Statements, no_statement, a_statement, no_declared, a_declared, a_catch}
use Rattle.js_binding.specs.Scopes.{named, itself, binding_of}
use Rattle.js_binding.specs.Resolved.{resolved, expression_in, statement_in}
use Rattle.js_law_right.specs.EachIn.{EachInStatements}
use Rattle.js_binding.specs.Numbered.{numbered_script, expression_numbered, statement_numbered}
use Rattle.js_law_right.specs.Right.{Setting, setting_at, right, FunctionRight}

abbrev here : Place
here = record { line = 1; column = 1 }

-- a name as it is read, and one that is mentioned
abbrev read : List ℕ → BoundName
read x = record { name = x; bound = Unbound }

abbrev mention : List ℕ → ExpressionTree
mention x = Name here (read x)

abbrev function : Option BoundName → List BoundName → Statements → FunctionTree
function own parameters body = a_function own parameters [] body

abbrev one : ExpressionTree → Statements
one e = a_statement (Evaluate here e) no_statement

-- the body of a program and its functions, with their settings in the order of their numbers
abbrev FunctionsRight : (ℕ → Setting) → List Setting → List FunctionTree → Type 0
FunctionsRight setting (s ∷ ss) (f ∷ fs) = FunctionRight setting s.around f × FunctionsRight setting ss fs
FunctionsRight setting ss fs = Unit {0}

abbrev RightWith : List Setting → Statements × List FunctionTree → Type 0
RightWith settings program =
    EachInStatements (right (setting_at settings)) [] program.0 × FunctionsRight (setting_at settings) settings program.1

-- `function f(a) { var a; (function () { a; }); }`
abbrev a_parameter_and_a_variable : List StatementTree
a_parameter_and_a_variable =
    Declare here (read (codes "f")) (function None (read (codes "a") ∷ []) (a_statement (Var here (a_declared (read (codes "a")) absent no_declared)) (one (Function here (function None [] (one (mention (codes "a")))))))) ∷ []

pub a_parameter_and_a_variable-numbered : numbered_script a_parameter_and_a_variable
    ≡ (
      a_statement (DeclareNumbered here (read (codes "f")) 0) no_statement,
      function None (read (codes "a") ∷ []) (a_statement (Var here (a_declared (read (codes "a")) absent no_declared)) (one (Numbered here 1)))
          ∷ function None [] (one (mention (codes "a"))) ∷ [],
    )
unfolding expression_numbered statement_numbered
a_parameter_and_a_variable-numbered = refl

-- they are one name of one scope, which stands around the function within
pub a_parameter_and_a_variable-right : RightWith (record { around = []; own = None } ∷ record { around = named (codes "a" ∷ []) ∷ []; own = None } ∷ []) (resolved a_parameter_and_a_variable)
unfolding expression_in statement_in
a_parameter_and_a_variable-right = (
  ((refl, refl), tt),
  (
    record { names_are = refl; parameters_are = (refl, tt); body_is = ((refl, tt, tt), (refl, tt)) },
    (record { names_are = refl; parameters_are = tt; body_is = (refl, tt) }, tt),
  ),
)

-- `(function f() { f = f; });`
abbrev an_own_name : List StatementTree
an_own_name = Evaluate here (Function here (function (Some (read (codes "f"))) [] (one (Assign here (mention (codes "f")) assign.Set (mention (codes "f")))))) ∷ []

pub an_own_name-numbered : numbered_script an_own_name
    ≡ (one (Numbered here 0), function (Some (read (codes "f"))) [] (one (Assign here (mention (codes "f")) assign.Set (mention (codes "f")))) ∷ [])
unfolding expression_numbered statement_numbered
an_own_name-numbered = refl

-- the own name, as bound in its scope
abbrev own_f : Option BoundName
own_f = Some (record { name = codes "f"; bound = Own 0 })

-- It has a scope around that of the call, in which it is read and written.
pub an_own_name-right : RightWith (record { around = itself (codes "f") ∷ []; own = own_f } ∷ []) (resolved an_own_name)
unfolding expression_in statement_in
an_own_name-right = ((refl, tt), (record { names_are = refl; parameters_are = tt; body_is = ((refl, refl), tt) }, tt))

-- `(function f(f) { f; });`
abbrev a_shadowed_own_name : List StatementTree
a_shadowed_own_name = Evaluate here (Function here (function (Some (read (codes "f"))) (read (codes "f") ∷ []) (one (mention (codes "f"))))) ∷ []

pub a_shadowed_own_name-numbered : numbered_script a_shadowed_own_name
    ≡ (one (Numbered here 0), function (Some (read (codes "f"))) (read (codes "f") ∷ []) (one (mention (codes "f"))) ∷ [])
unfolding expression_numbered statement_numbered
a_shadowed_own_name-numbered = refl

pub a_shadowed_own_name-right : RightWith (record { around = itself (codes "f") ∷ []; own = own_f } ∷ []) (resolved a_shadowed_own_name)
unfolding expression_in statement_in
a_shadowed_own_name-right = ((refl, tt), (record { names_are = refl; parameters_are = (refl, tt); body_is = (refl, tt) }, tt))

-- the parameter is found first
pub shadowed : binding_of (codes "f") (named (codes "f" ∷ []) ∷ itself (codes "f") ∷ []) ≡ Slot 0 0
shadowed = refl

-- `try {} catch (e) { (function () { e; }); }`
abbrev a_handler : List StatementTree
a_handler = Try here (Block here no_statement) (a_catch (read (codes "e")) (Block here (one (Function here (function None [] (one (mention (codes "e")))))))) omitted ∷ []

pub a_handler-numbered : numbered_script a_handler
    ≡ (
      a_statement (Try here (Block here no_statement) (a_catch (read (codes "e")) (Block here (one (Numbered here 0)))) omitted) no_statement,
      function None [] (one (mention (codes "e"))) ∷ [],
    )
unfolding expression_numbered statement_numbered
a_handler-numbered = refl

-- a function in a handler stands in the handler's scope
pub a_handler-right : RightWith (record { around = named (codes "e" ∷ []) ∷ []; own = None } ∷ []) (resolved a_handler)
unfolding expression_in statement_in
a_handler-right = (((tt, (refl, (refl, tt)), tt), tt), (record { names_are = refl; parameters_are = tt; body_is = (refl, tt) }, tt))
