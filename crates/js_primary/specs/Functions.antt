-- Functions by their numbers (ECMA-262 5.1, section 13).
use Rattle.std.specs.Prelude.{ℕ, List, Bool, false, is_some, Option, Some, None, length}
use Rattle.std.specs.Borrow.{Bor}
use Rattle.js_tree.specs.declared.place.Place.{Place}
use Rattle.js_tree.specs.declared.expression.Function.{Function}
use Rattle.js_tree.specs.Tree.{FunctionTree}
use Rattle.js_tree.specs.View.{function_of}
use Rattle.heap_values.specs.declared.value.Value.{Value}
use Rattle.run_trees.specs.Runs.{pure, ◌>>=◌}
use Rattle.js_evaluation.specs.State.{Does, make_scope, write_slot}
use Rattle.js_evaluation.specs.Objects.{Context, closure}
use Rattle.js_evaluation.specs.Parts.{Within}

-- how many parameters a function has
abbrev pub arity_in : Option (Bor Function) → ℕ
arity_in None = 0
arity_in (Some f) = length f.now.parameters

-- whether it has a name of its own
abbrev pub has_name : Option (Bor Function) → Bool
has_name None = false
has_name (Some f) = is_some f.now.name

abbrev pub tree_in : Option (Bor Function) → Option FunctionTree
tree_in None = None
tree_in (Some f) = Some (function_of f.now)

module _ (functions : List FunctionTree) (go : Within) (cx : Context) where
  -- a function with a name of its own, in a scope for it
  abbrev pub named_function : ℕ → ℕ → Place → Does Value
  named_function number arity place = do
    scope ← make_scope 1 cx.scope place
    f ← closure number arity scope place
    _named ← write_slot scope 0 f
    pure f
