-- Calls and constructions by functions, with what comes behind them (ECMA-262 5.1, sections 13.2.1 and 13.2.2).
use Rattle.std.specs.Prelude.{ℕ, List, Option, Some, None, Result, Ok, Err, if◌then◌else◌, slice_get}
use Rattle.js_tree.specs.declared.place.Place.{Place}
use Rattle.js_tree.specs.Tree.{FunctionTree, Statements}
use Rattle.heap_values.specs.declared.built_in.BuiltIn.TheVariants as built_in
use Rattle.heap_values.specs.declared.ids.Kind.{Kind}
use Rattle.heap_values.specs.declared.ids.Kind.TheVariants as kind
use Rattle.heap_values.specs.declared.ids.ObjectId.{ObjectId}
use Rattle.heap_values.specs.declared.ids.ScopeId.{ScopeId}
use Rattle.heap_values.specs.declared.value.Value.{Value}
use Rattle.heap_values.specs.declared.value.Value.TheVariants as value
use Rattle.js_convert.specs.Operators.{is_object}
use Rattle.run_trees.specs.declared.abrupt.Abrupt.TheVariants as ending
use Rattle.run_trees.specs.Runs.{pure, onward, returned_to}
use Rattle.js_evaluation.specs.State.{Does, Stop, built_in_object, AfterValue}
use Rattle.js_evaluation.specs.Objects.{Context}
use Rattle.js_evaluation.specs.Entries as entry
use Rattle.js_evaluation.specs.Statements as statement
use Rattle.js_evaluation.specs.Parts.{Within}
use Rattle.js_evaluation.specs.Scoping.{by_slots}

-- an object that a function returns stands in the place of the one that it constructs
abbrev pub object_or : ObjectId → Value → Value
object_or made v = if is_object v then v else value.Object made

-- what a function gives that comes to its end; made: the object that it constructs
abbrev pub nothing : Option ObjectId → Value
nothing None = value.Undefined
nothing (Some made) = value.Object made

-- what is made of the end of a function that is called or constructs
abbrev pub given_to : Option ObjectId → AfterValue → AfterValue
given_to None after = after
given_to (Some made) after = onward (λ v. pure (object_or made v)) after

-- how a call ends whose body ends abruptly
abbrev pub called_end : Stop → Result Value Stop
called_end (ending.Returned v) = Ok v
called_end (ending.Thrown t) = Err (ending.Thrown t)
called_end (ending.Broken target) = Err (ending.Broken target)
called_end (ending.Continued target) = Err (ending.Continued target)

-- the same of a construction
abbrev pub constructing_end : ObjectId → Stop → Result Value Stop
constructing_end made (ending.Returned v) = Ok (object_or made v)
constructing_end made (ending.Thrown t) = Err (ending.Thrown t)
constructing_end made (ending.Broken target) = Err (ending.Broken target)
constructing_end made (ending.Continued target) = Err (ending.Continued target)

-- the prototype of what is constructed
abbrev pub made_from : Value → ObjectId
made_from (value.Object id) = id
made_from v = built_in_object built_in.ObjectPrototype

module _ (functions : List FunctionTree) (go : Within) (cx : Context) where
  -- the statements of a body
  abbrev pub body : Option ObjectId → Statements → Does Value
  body made ss = λ after. statement.statements_from by_slots functions go cx ss (returned_to value.Undefined (given_to made after))

  -- a function is entered
  abbrev pub entered : Option ObjectId → Option FunctionTree → ScopeId → Value → List Value → Place → Does Value
  entered made f around this vs p = λ after. entry.entered by_slots functions go around this vs p f (given_to made after)

  -- the function of a number
  abbrev pub entered_by : Option ObjectId → ℕ → ScopeId → Value → List Value → Place → Does Value
  entered_by made n around this vs p = entered made (slice_get functions n) around this vs p

  abbrev pub called_by : Kind → Value → List Value → Place → Does Value
  called_by = entry.called_by by_slots functions go

  abbrev pub constructed_by : Kind → ObjectId → List Value → Place → Does Value
  constructed_by = entry.constructed_by by_slots functions go

  abbrev pub constructed : ObjectId → ℕ → ScopeId → List Value → Place → Does Value
  constructed f n around vs p = constructed_by (kind.Function n around) f vs p
