-- Worked examples of the definitions, each by computation alone.
use Rattle.std.specs.Prelude.{◌≡◌, ℕ, pos, List, [], ◌∷◌, codes, Option, Some, None, refl}
use Rattle.js_tree.specs.declared.place.Place.{Place}
use Rattle.js_tree.specs.declared.bound.Bound.{Bound}
use Rattle.js_tree.specs.declared.bound.Bound.TheVariants.{Unbound, Slot, Own, Global}
use Rattle.js_tree.specs.declared.bound.BoundName.{BoundName}
use Rattle.js_tree.specs.Tree.{ExpressionTree, Name, Function, Numbered, absent, present, FunctionTree, a_function, StatementTree, Block, Evaluate, Var, Return, Try, Declare, DeclareNumbered, omitted, Statements, no_statement, a_statement, no_declared, a_declared, a_catch}
use Rattle.js_binding.specs.Names.{names_of}
use Rattle.js_binding.specs.Scopes.{named, itself, binding_of}
use Rattle.js_binding.specs.Resolved.{resolved, expression_in, statement_in}

abbrev here : Place
here = record { line = 1; column = 1 }

-- a name as it is read, and as it is bound
abbrev bound : List ℕ → Bound → BoundName
bound x b = record { name = x; bound = b }

abbrev read : List ℕ → BoundName
read x = bound x Unbound

abbrev mention : List ℕ → StatementTree
mention x = Evaluate here (Name here (read x))

abbrev declare : List ℕ → StatementTree
declare x = Var here (a_declared (read x) absent no_declared)

abbrev function : Option BoundName → List BoundName → Statements → FunctionTree
function own parameters body = a_function own parameters [] body

abbrev one : StatementTree → Statements
one s = a_statement s no_statement

abbrev two : StatementTree → StatementTree → Statements
two s t = a_statement s (one t)

-- `function (b, a, b) { { var a, c; } arguments; function d() { var e; } }`
pub names_in_order : names_of (read (codes "b") ∷ read (codes "a") ∷ read (codes "b") ∷ [])
    (a_statement (Block here (one (Var here (a_declared (read (codes "a")) absent (a_declared (read (codes "c")) absent no_declared)))))
    (two (mention (codes "arguments")) (Declare here (read (codes "d")) (function None [] (one (declare (codes "e")))))))
    ≡ codes "b" ∷ codes "a" ∷ codes "d" ∷ codes "c" ∷ codes "arguments" ∷ []
names_in_order = refl

-- an inner function has `arguments` of its own
pub arguments_of_an_inner_function : names_of [] (one (Evaluate here (Function here (function None [] (one (mention (codes "arguments"))))))) ≡ []
arguments_of_an_inner_function = refl

pub innermost_first : binding_of (codes "x") (named (codes "y" ∷ []) ∷ named (codes "z" ∷ codes "x" ∷ []) ∷ named (codes "x" ∷ []) ∷ []) ≡ Slot 1 1
innermost_first = refl

pub an_own_name : binding_of (codes "f") (named (codes "x" ∷ []) ∷ itself (codes "f") ∷ []) ≡ Own 1
an_own_name = refl

-- `(function f(n) { f; n; g; });`
pub function_expression : resolved (Evaluate here (Function here (function (Some (read (codes "f"))) (read (codes "n") ∷ []) (a_statement (mention (codes "f")) (two (mention (codes "n")) (mention (codes "g")))))) ∷ [])
    ≡ (
      one (Evaluate here (Numbered here 0)),
      a_function (Some (bound (codes "f") (Own 0))) (bound (codes "n") (Slot 0 0) ∷ []) (codes "n" ∷ [])
          (a_statement (Evaluate here (Name here (bound (codes "f") (Own 1)))) (two (Evaluate here (Name here (bound (codes "n") (Slot 0 0)))) (Evaluate here (Name here (bound (codes "g") Global))))) ∷ [],
    )
unfolding expression_in statement_in
function_expression = refl

-- `function f() { function g() {} } function h() {}`: numbers in the order of first tokens
pub numbers_in_order : resolved (Declare here (read (codes "f")) (function None [] (one (Declare here (read (codes "g")) (function None [] no_statement)))) ∷ Declare here (read (codes "h")) (function None [] no_statement) ∷ [])
    ≡ (
      two (DeclareNumbered here (bound (codes "f") Global) 0) (DeclareNumbered here (bound (codes "h") Global) 2),
      a_function None [] (codes "g" ∷ []) (one (DeclareNumbered here (bound (codes "g") (Slot 0 0)) 1))
          ∷ a_function None [] [] no_statement ∷ a_function None [] [] no_statement ∷ [],
    )
unfolding expression_in statement_in
numbers_in_order = refl

-- `(function (a) { try {} catch (e) { e; a; var e; } });`: the variable `e` is hoisted, and the `catch` has its own
pub a_handler : resolved (Evaluate here (Function here (function None (read (codes "a") ∷ []) (one (Try here (Block here no_statement) (a_catch (read (codes "e")) (Block here (a_statement (mention (codes "e")) (two (mention (codes "a")) (declare (codes "e")))))) omitted)))) ∷ [])
    ≡ (
      one (Evaluate here (Numbered here 0)),
      a_function None (bound (codes "a") (Slot 0 0) ∷ []) (codes "a" ∷ codes "e" ∷ [])
          (one (Try here (Block here no_statement) (a_catch (bound (codes "e") (Slot 0 0)) (Block here (a_statement (Evaluate here (Name here (bound (codes "e") (Slot 0 0)))) (two (Evaluate here (Name here (bound (codes "a") (Slot 1 0)))) (Var here (a_declared (bound (codes "e") (Slot 0 0)) absent no_declared)))))) omitted)) ∷ [],
    )
unfolding expression_in statement_in
a_handler = refl
