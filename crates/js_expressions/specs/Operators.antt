-- Binary operators with what comes behind them (ECMA-262 5.1, sections 11.5 to 11.10).
use Rattle.std.specs.Prelude.{List, Bool, not, ◌&&◌, ◌||◌, Option, Some, None, if◌then◌else◌}
use Rattle.js_tree.specs.declared.place.Place.{Place}
use Rattle.js_tree.specs.declared.operators.BinaryOp.{BinaryOp}
use Rattle.js_tree.specs.Tree.{FunctionTree}
use Rattle.heap_values.specs.declared.ids.ObjectId.{ObjectId}
use Rattle.heap_values.specs.declared.value.Value.{Value}
use Rattle.heap_values.specs.declared.value.Value.TheVariants as value
use Rattle.js_convert.specs.Operators.{is_object, is_nothing}
use Rattle.run_trees.specs.Runs.{◌>>=◌}
use Rattle.js_evaluation.specs.State.{Does}
use Rattle.js_evaluation.specs.Objects.{Context}
use Rattle.js_evaluation.specs.Conversions as convert
use Rattle.js_evaluation.specs.Conversions.{Call}
use Rattle.js_frames.specs.declared.wanted.Operated.{Operated}
use Rattle.js_frames.specs.RestOf as rest
use Rattle.js_frames.specs.RestOf.{after_operator}
use Rattle.js_evaluation.specs.Parts.{Within, calls}

-- an object beside a primitive value that isn't undefined or null
abbrev pub is_beside : Value → Value → Bool
is_beside object other = is_object object && not (is_object other || is_nothing other)

-- the object on the right side, where it becomes a primitive value first
abbrev pub converted_object : Call → BinaryOp → Value → Value → Option ObjectId
converted_object call o a (value.Object id) = if convert.takes_primitives call o a (value.Object id) then Some id else None
converted_object call o a b = None

module _ (functions : List FunctionTree) (go : Within) (cx : Context) where
  abbrev pub binary : BinaryOp → Value → Value → Place → Operated → Does Value
  binary op a b place next = convert.binary (calls go) op a b place >>= after_operator functions go cx next

  abbrev pub operate : BinaryOp → Value → Value → Place → Operated → Does Value
  operate op a b place next = convert.operate (calls go) op a b place >>= after_operator functions go cx next

  abbrev pub right_operand : BinaryOp → Value → Value → Place → Operated → Does Value
  right_operand op left right place next =
      convert.to_primitive (calls go) convert.number_methods right place >>= (λ b. rest.operate functions go cx op left b place next)

  abbrev pub both_operands : BinaryOp → Value → Value → Place → Operated → Does Value
  both_operands op a b place next = convert.to_primitive (calls go) convert.number_methods a place >>= (λ x. right_operand op x b place next)

  abbrev pub is_in : Value → Value → Place → Operated → Does Value
  is_in name object place next = convert.is_in (calls go) name object place >>= after_operator functions go cx next

  abbrev pub instance_of : Value → Value → Place → Operated → Does Value
  instance_of value function place next = convert.instance_of (calls go) value function place >>= after_operator functions go cx next

  -- the same, where the right side can be called
  abbrev pub instance_by : Value → Value → Place → Operated → Does Value
  instance_by value function place next = convert.instance_of_by (calls go) value function place >>= after_operator functions go cx next
