-- What a resolver has done, by the definition of resolving.
use Rattle.std.specs.Prelude.{◌≡◌, ℕ, List, map, Option}
use Rattle.js_tree.specs.declared.bound.BoundName.{BoundName}
use Rattle.js_tree.specs.declared.expression.Function.{Function}
use Rattle.js_tree.specs.Tree.{FunctionTree, a_function, Statements, statements_of}
use Rattle.js_binding.specs.Names.{names_of}
use Rattle.js_binding.specs.Scopes.{Scope, bound_in}
use Rattle.js_binding.specs.Resolved.{Placing, numbered, in_body, statements_in}
use Rattle.js_scope.specs.declared.program.Program.{Program}
use Rattle.js_scope.specs.Functions.{functions_of}

-- what a part comes to among the scopes around it
abbrev pub Resolving : Type 0 → Type 0
Resolving T = List Scope → T → Placing T

-- m makes this where the functions before are there, and leaves those after
abbrev pub Gives : {A : Type 0} → Placing A → List Function → A → List Function → Type 0
Gives m before made after = m (functions_of before) ≡ (made, functions_of after)

-- a function whose own name is bound already
abbrev pub numbered_in : List Scope → Option BoundName → List BoundName → Statements → Placing ℕ
numbered_in around own parameters body =
    let inside = in_body around parameters body in
    numbered (λ made. a_function own (map (bound_in inside) parameters) (names_of parameters body) made) (statements_in inside body)

-- the program that a script comes to
abbrev pub IsProgramOf : Statements × List FunctionTree → Program → Type 0
IsProgramOf script program = script ≡ (statements_of program.body, functions_of program.functions)
