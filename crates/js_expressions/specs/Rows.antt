-- Rows of operators (ECMA-262 5.1, section 11.11).
use Rattle.std.specs.Prelude.{List, Bool, false, not}
use Rattle.std.specs.Borrow.{Bor}
use Rattle.js_tree.specs.declared.operators.BinaryOp.{BinaryOp}
use Rattle.js_tree.specs.declared.operators.BinaryOp.TheVariants as op
use Rattle.js_tree.specs.declared.expression.Operand.{Operand}
use Rattle.js_tree.specs.Tree.{FunctionTree}
use Rattle.js_tree.specs.View.{operands_of}
use Rattle.heap_values.specs.declared.value.Value.{Value}
use Rattle.js_convert.specs.Numeric.{truth_of}
use Rattle.js_convert.specs.Operators.{is_object}
use Rattle.run_trees.specs.Runs.{◌>>=◌}
use Rattle.js_evaluation.specs.State.{Does}
use Rattle.js_evaluation.specs.Objects.{Context}
use Rattle.js_evaluation.specs.Conversions as convert
use Rattle.js_evaluation.specs.Expressions as rule
use Rattle.js_evaluation.specs.Parts.{Within, calls, visit}
use Rattle.js_evaluation.specs.Scoping.{by_slots}

-- whether the value before `||` or `&&` decides
abbrev pub decides : BinaryOp → Value → Bool
decides op.Or v = truth_of v
decides op.And v = not (truth_of v)
decides o v = false

-- whether an operator works at once on this value and a primitive one behind it
abbrev pub is_at_once : BinaryOp → Value → Bool
is_at_once op.Or v = false
is_at_once op.And v = false
is_at_once op.In v = false
is_at_once op.InstanceOf v = false
is_at_once o v = not (is_object v)

module _ (functions : List FunctionTree) (go : Within) (cx : Context) where
  -- an operand that is evaluated, by its operator
  abbrev pub operand_by : BinaryOp → Value → Operand → Does Value
  operand_by op.Or v x = visit go cx x.value
  operand_by op.And v x = visit go cx x.value
  operand_by o v x = visit go cx x.value >>= (λ w. convert.binary (calls go) o v w x.place)

  abbrev pub operand_of : Value → Operand → Bor (List Operand) → Does Value
  operand_of v x rest = operand_by x.op v x >>= (λ w. rule.operands_from by_slots functions go cx w (operands_of rest.now))
