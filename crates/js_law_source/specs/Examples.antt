-- A worked example, by computation alone: a script with a function in a function and one behind both, with its
-- functions by number, and with these back in their places.
use Rattle.std.specs.Prelude.{◌≡◌, ℕ, List, [], ◌∷◌, codes, None, refl}
use Rattle.js_tree.specs.declared.place.Place.{Place}
use Rattle.js_tree.specs.declared.bound.Bound.TheVariants.{Unbound}
use Rattle.js_tree.specs.declared.bound.BoundName.{BoundName}
use Rattle.js_tree.specs.Tree.{ExpressionTree, Name, Function, Numbered, FunctionTree, a_function, StatementTree, Evaluate, Declare, DeclareNumbered, Statements, no_statement, a_statement, statements_of}
use Rattle.js_binding.specs.Numbered.{numbered_script, statements_numbered}
use Rattle.js_binding.specs.Source.{source_of, statements_source}

abbrev here : Place
here = record { line = 1; column = 1 }

abbrev read : List ℕ → BoundName
read x = record { name = x; bound = Unbound }

abbrev one : ExpressionTree → Statements
one e = a_statement (Evaluate here e) no_statement

abbrev function : ExpressionTree → FunctionTree
function e = a_function None [] [] (one e)

-- `function f() { (function () { a; }); } function g() { b; }`
abbrev a_function_in_a_function : List StatementTree
a_function_in_a_function =
    Declare here (read (codes "f")) (function (Function here (function (Name here (read (codes "a"))))))
    ∷ Declare here (read (codes "g")) (function (Name here (read (codes "b")))) ∷ []

-- the numbers are in the order in which the functions begin
pub by_number : numbered_script a_function_in_a_function
    ≡ (
      a_statement (DeclareNumbered here (read (codes "f")) 0) (a_statement (DeclareNumbered here (read (codes "g")) 2) no_statement),
      function (Numbered here 1) ∷ function (Name here (read (codes "a"))) ∷ function (Name here (read (codes "b"))) ∷ [],
    )
unfolding statements_numbered
by_number = refl

pub in_their_places : source_of (numbered_script a_function_in_a_function) ≡ statements_of a_function_in_a_function
unfolding statements_numbered statements_source
in_their_places = refl
