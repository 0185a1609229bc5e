-- The names of a function's scope, as the code gives them their first values (ECMA-262 5.1, sections 10.5 and 10.6).
use Rattle.std.specs.Prelude.{ℕ, ◌+◌, List, Option, Some, None, slice_get}
use Rattle.std.specs.Borrow.{Bor}
use Rattle.js_tree.specs.declared.bound.BoundName.{BoundName}
use Rattle.js_tree.specs.declared.expression.Function.{Function}
use Rattle.js_tree.specs.declared.place.Place.{Place}
use Rattle.js_tree.specs.Tree.{FunctionTree, StatementTree, DeclareNumbered, statements_of}
use Rattle.js_tree.specs.View.{function_of}
use Rattle.heap_values.specs.declared.ids.ScopeId.{ScopeId}
use Rattle.heap_values.specs.declared.value.Value.{Value}
use Rattle.run_trees.specs.Runs.{pure, ◌>>=◌, ◌>>◌}
use Rattle.js_evaluation.specs.BySlots.{write_name}
use Rattle.js_evaluation.specs.Scoping.{by_slots}
use Rattle.js_evaluation.specs.State.{Does, write_slot}
use Rattle.js_evaluation.specs.Objects.{Context, arity_of}
use Rattle.js_evaluation.specs.Entries.{parameters_from, functions_from, function_object, arguments_if, has_own_arguments, arguments_object}

-- the parameters, the functions, and the object of the arguments
abbrev pub bound : List FunctionTree → Function → ScopeId → Value → List Value → Place → Does (Unit {0})
bound functions f scope this vs p =
    let cx : Context = record { scope = scope; this = this } in
    parameters_from by_slots cx p f.parameters vs >> functions_from by_slots functions cx p (statements_of f.body)
    >> arguments_if (has_own_arguments f.parameters (statements_of f.body)) scope p f.names vs

-- the function that a statement declares, by its name and number
abbrev pub declared_in : StatementTree → Option (BoundName × ℕ)
declared_in (DeclareNumbered p x n) = Some (x, n)
declared_in s = None

-- the same as the code has it
abbrev pub named : Option (Bor BoundName × ℕ) → Option (BoundName × ℕ)
named None = None
named (Some x) = Some (x.0.now, x.1)

-- a function of the code as the definition has it
abbrev pub function_in : Option (Bor Function) → Option FunctionTree
function_in None = None
function_in (Some f) = Some (function_of f.now)

abbrev pub arity_in : List FunctionTree → ℕ → ℕ
arity_in functions n = arity_of (slice_get functions n)

-- a place among names, counted on from so many
abbrev pub place_from : ℕ → Option ℕ → Option ℕ
place_from passed None = None
place_from passed (Some place) = Some (passed + place)

-- the object of the arguments in a slot
abbrev pub arguments_in : ScopeId → ℕ → List Value → Place → Does (Unit {0})
arguments_in scope slot vs p = arguments_object p vs >>= (λ object. write_slot scope slot object)

-- the function of a statement that declares one has its value
abbrev pub function_bound : List FunctionTree → Context → Place → Option (BoundName × ℕ) → Does (Unit {0})
function_bound functions cx p None = pure tt
function_bound functions cx p (Some x) = function_object functions x.1 cx.scope p >>= (λ f. write_name cx x.0 f p)
