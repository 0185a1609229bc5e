-- What a script declares, as properties of the global object (ECMA-262 5.1, section 10.5).
use Rattle.std.specs.Prelude.{ℕ, List, Bool, true, false, Option, Some, None}
use Rattle.js_tree.specs.declared.bound.BoundName.{BoundName}
use Rattle.js_tree.specs.Tree.{FunctionTree, Statements}
use Rattle.heap_values.specs.declared.property.Property.{Property}
use Rattle.heap_values.specs.declared.value.Value.{Value}
use Rattle.object_heap.specs.Heap.{found_of}
use Rattle.run_trees.specs.Runs.{pure, reading, ◌>>=◌}
use Rattle.js_evaluation.specs.Parts.{outside}
use Rattle.js_evaluation.specs.State.{Does, global_object}
use Rattle.js_evaluation.specs.Entries as entry
use Rattle.js_evaluation.specs.Evaluation.{outer_scope}
use Rattle.js_evaluation.specs.Objects.{Context, global_id}

-- where the code of a script runs that stands in no function
abbrev pub outermost : Context
outermost = record { scope = outer_scope; this = global_object }

-- whether a function may stand in the place of a property, where there is one
abbrev pub gives_way_in : Option Property → Bool
gives_way_in None = true
gives_way_in (Some old) = entry.gives_way old

abbrev pub is_left_out_in : Option Property → Bool
is_left_out_in None = false
is_left_out_in (Some old) = entry.is_left_out old.content

-- a function of this name
abbrev pub declare_function : List ℕ → Value → Does (Unit {0})
declare_function name f = entry.declare_function name f outside

-- the function of a statement that declares one
abbrev pub function_declared : List FunctionTree → Option (BoundName × ℕ) → Does (Unit {0})
function_declared functions None = pure tt
function_declared functions (Some x) =
    entry.function_object functions x.1 outer_scope outside >>= (λ f. declare_function x.0.name f)

abbrev pub functions_declared : List FunctionTree → Statements → Does (Unit {0})
functions_declared functions ss = entry.global_functions functions outermost outside ss

-- a variable of this name
abbrev pub declare_variable : List ℕ → Does (Unit {0})
declare_variable name = reading (λ s. entry.declared_unless (found_of s.heap global_id name) name outside)

abbrev pub variables_declared : List (List ℕ) → Does (Unit {0})
variables_declared names = entry.global_variables outside names
