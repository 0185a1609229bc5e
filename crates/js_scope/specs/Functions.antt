-- The functions of a program, as trees.
use Rattle.std.specs.Prelude.{List, map}
use Rattle.js_tree.specs.declared.expression.Function.{Function}
use Rattle.js_tree.specs.Tree.{FunctionTree}
use Rattle.js_tree.specs.View.{function_of}

abbrev pub functions_of : List Function → List FunctionTree
functions_of functions = map function_of functions
