-- Binary operators by their kinds.
use Rattle.std.proofs.Common.{◌≡◌, List, ◌∷◌, Bool, true, false, not, Result, ap, refl, sym, subst, if◌then◌else◌}
use Rattle.js_tree.specs.declared.place.Place.{Place}
use Rattle.js_tree.specs.declared.expression.Operand.{Operand}
use Rattle.js_tree.specs.declared.operators.BinaryOp.{BinaryOp}
use Rattle.js_tree.specs.declared.operators.BinaryOp.TheVariants as op
use Rattle.js_tree.specs.Tree.{ExpressionTree, FunctionTree, Operands, an_operand}
use Rattle.js_tree.specs.View.{operands_of}
use Rattle.heap_values.specs.declared.value.Value.{Value}
use Rattle.js_convert.specs.Numeric.{truth_of}
use Rattle.run_trees.specs.Runs.{pure, ◌>>=◌}
use Rattle.js_evaluation.specs.State.{Does}
use Rattle.js_evaluation.specs.Objects.{Context}
use Rattle.js_evaluation.specs.Conversions as convert
use Rattle.js_evaluation.specs.Conversions.{Call}
use Rattle.js_frames.specs.Parts.{context_of}
use Rattle.js_evaluation.specs.Expressions as rule
use Rattle.js_evaluation.specs.Parts.{Within, calls, visit}
use Rattle.js_evaluation.specs.Scoping.{by_slots}
use Rattle.heap_steps.specs.declared.halt.Halt.{Halt}
use Rattle.js_machine.specs.declared.machine.Machine.{Machine}
use Rattle.js_machine.specs.declared.now.Now.{Now}
use Rattle.js_machine.specs.Moves.{Moves, at, functions_of, inner}
use Rattle.js_expressions.specs.Rows.{decides, operand_by}

-- all but `in` and `instanceof` make their operands primitive
pub binary_else : (call : Call) (o : BinaryOp) (a b : Value) (place : Place) → (o ≡ op.In → ⊥) → (o ≡ op.InstanceOf → ⊥)
    → convert.binary call o a b place ≡ convert.operate call o a b place
binary_else call op.Or a b place m n = refl
binary_else call op.And a b place m n = refl
binary_else call op.BitOr a b place m n = refl
binary_else call op.BitXor a b place m n = refl
binary_else call op.BitAnd a b place m n = refl
binary_else call op.Equal a b place m n = refl
binary_else call op.NotEqual a b place m n = refl
binary_else call op.StrictEqual a b place m n = refl
binary_else call op.StrictNotEqual a b place m n = refl
binary_else call op.Less a b place m n = refl
binary_else call op.Greater a b place m n = refl
binary_else call op.LessEqual a b place m n = refl
binary_else call op.GreaterEqual a b place m n = refl
binary_else call op.InstanceOf a b place m n = absurd (n refl)
binary_else call op.In a b place m n = absurd (m refl)
binary_else call op.ShiftLeft a b place m n = refl
binary_else call op.ShiftRight a b place m n = refl
binary_else call op.UnsignedShiftRight a b place m n = refl
binary_else call op.Add a b place m n = refl
binary_else call op.Subtract a b place m n = refl
binary_else call op.Multiply a b place m n = refl
binary_else call op.Divide a b place m n = refl
binary_else call op.Remainder a b place m n = refl

pub takes_else : (call : Call) (o : BinaryOp) (a b : Value) → (o ≡ op.StrictEqual → ⊥) → (o ≡ op.StrictNotEqual → ⊥) → (o ≡ op.Equal → ⊥) → (o ≡ op.NotEqual → ⊥)
    → convert.takes_primitives call o a b ≡ true
takes_else call op.Or a b k l m n = refl
takes_else call op.And a b k l m n = refl
takes_else call op.BitOr a b k l m n = refl
takes_else call op.BitXor a b k l m n = refl
takes_else call op.BitAnd a b k l m n = refl
takes_else call op.Equal a b k l m n = absurd (m refl)
takes_else call op.NotEqual a b k l m n = absurd (n refl)
takes_else call op.StrictEqual a b k l m n = absurd (k refl)
takes_else call op.StrictNotEqual a b k l m n = absurd (l refl)
takes_else call op.Less a b k l m n = refl
takes_else call op.Greater a b k l m n = refl
takes_else call op.LessEqual a b k l m n = refl
takes_else call op.GreaterEqual a b k l m n = refl
takes_else call op.InstanceOf a b k l m n = refl
takes_else call op.In a b k l m n = refl
takes_else call op.ShiftLeft a b k l m n = refl
takes_else call op.ShiftRight a b k l m n = refl
takes_else call op.UnsignedShiftRight a b k l m n = refl
takes_else call op.Add a b k l m n = refl
takes_else call op.Subtract a b k l m n = refl
takes_else call op.Multiply a b k l m n = refl
takes_else call op.Divide a b k l m n = refl
takes_else call op.Remainder a b k l m n = refl

-- only `||` and `&&` decide
pub undecided : (o : BinaryOp) (v : Value) → (o ≡ op.Or → ⊥) → (o ≡ op.And → ⊥) → decides o v ≡ false
undecided op.Or v m n = absurd (m refl)
undecided op.And v m n = absurd (n refl)
undecided op.BitOr v m n = refl
undecided op.BitXor v m n = refl
undecided op.BitAnd v m n = refl
undecided op.Equal v m n = refl
undecided op.NotEqual v m n = refl
undecided op.StrictEqual v m n = refl
undecided op.StrictNotEqual v m n = refl
undecided op.Less v m n = refl
undecided op.Greater v m n = refl
undecided op.LessEqual v m n = refl
undecided op.GreaterEqual v m n = refl
undecided op.InstanceOf v m n = refl
undecided op.In v m n = refl
undecided op.ShiftLeft v m n = refl
undecided op.ShiftRight v m n = refl
undecided op.UnsignedShiftRight v m n = refl
undecided op.Add v m n = refl
undecided op.Subtract v m n = refl
undecided op.Multiply v m n = refl
undecided op.Divide v m n = refl
undecided op.Remainder v m n = refl

not_true : (b : Bool) → not b ≡ true → b ≡ false
not_true true h = cc
not_true false h = refl

not_false : (b : Bool) → not b ≡ false → b ≡ true
not_false true h = refl
not_false false h = cc

module _ (functions : List FunctionTree) (go : Within) (cx : Context) where
  pub operand_else : (o : BinaryOp) (v : Value) (x : Operand) → (o ≡ op.Or → ⊥) → (o ≡ op.And → ⊥)
      → operand_by functions go cx o v x ≡ (visit go cx x.value >>= (λ w. convert.binary (calls go) o v w x.place))
  operand_else op.Or v x m n = absurd (m refl)
  operand_else op.And v x m n = absurd (n refl)
  operand_else op.BitOr v x m n = refl
  operand_else op.BitXor v x m n = refl
  operand_else op.BitAnd v x m n = refl
  operand_else op.Equal v x m n = refl
  operand_else op.NotEqual v x m n = refl
  operand_else op.StrictEqual v x m n = refl
  operand_else op.StrictNotEqual v x m n = refl
  operand_else op.Less v x m n = refl
  operand_else op.Greater v x m n = refl
  operand_else op.LessEqual v x m n = refl
  operand_else op.GreaterEqual v x m n = refl
  operand_else op.InstanceOf v x m n = refl
  operand_else op.In v x m n = refl
  operand_else op.ShiftLeft v x m n = refl
  operand_else op.ShiftRight v x m n = refl
  operand_else op.UnsignedShiftRight v x m n = refl
  operand_else op.Add v x m n = refl
  operand_else op.Subtract v x m n = refl
  operand_else op.Multiply v x m n = refl
  operand_else op.Divide v x m n = refl
  operand_else op.Remainder v x m n = refl

  -- a value that decides stays
  by_decided : (p : Place) (o : BinaryOp) (v : Value) (e : ExpressionTree) → decides o v ≡ true → rule.operand_by by_slots functions go cx p o v e ≡ pure v
  by_decided p op.Or v e h = ap (λ b. if b then pure v else visit go cx e) h
  by_decided p op.And v e h = ap (λ b. if b then visit go cx e else pure v) (not_true (truth_of v) h)
  by_decided p op.BitOr v e h = cc
  by_decided p op.BitXor v e h = cc
  by_decided p op.BitAnd v e h = cc
  by_decided p op.Equal v e h = cc
  by_decided p op.NotEqual v e h = cc
  by_decided p op.StrictEqual v e h = cc
  by_decided p op.StrictNotEqual v e h = cc
  by_decided p op.Less v e h = cc
  by_decided p op.Greater v e h = cc
  by_decided p op.LessEqual v e h = cc
  by_decided p op.GreaterEqual v e h = cc
  by_decided p op.InstanceOf v e h = cc
  by_decided p op.In v e h = cc
  by_decided p op.ShiftLeft v e h = cc
  by_decided p op.ShiftRight v e h = cc
  by_decided p op.UnsignedShiftRight v e h = cc
  by_decided p op.Add v e h = cc
  by_decided p op.Subtract v e h = cc
  by_decided p op.Multiply v e h = cc
  by_decided p op.Divide v e h = cc
  by_decided p op.Remainder v e h = cc

  pub decided : (p : Place) (o : BinaryOp) (v : Value) (e : ExpressionTree) (rest : Operands) → decides o v ≡ true
      → rule.operands_from by_slots functions go cx v (an_operand p o e rest) ≡ rule.operands_from by_slots functions go cx v rest
  decided p o v e rest h = ap (λ (q : Does Value). q >>= (λ w. rule.operands_from by_slots functions go cx w rest)) (by_decided p o v e h)

  -- an operand behind a value that doesn't decide is evaluated
  pub evaluated_operand : (o : BinaryOp) (v : Value) (x : Operand) → decides o v ≡ false → rule.operand_by by_slots functions go cx x.place o v x.value ≡ operand_by functions go cx o v x
  evaluated_operand op.Or v x h = ap (λ b. if b then pure v else visit go cx x.value) h
  evaluated_operand op.And v x h = ap (λ b. if b then visit go cx x.value else pure v) (not_false (truth_of v) h)
  evaluated_operand op.BitOr v x h = refl
  evaluated_operand op.BitXor v x h = refl
  evaluated_operand op.BitAnd v x h = refl
  evaluated_operand op.Equal v x h = refl
  evaluated_operand op.NotEqual v x h = refl
  evaluated_operand op.StrictEqual v x h = refl
  evaluated_operand op.StrictNotEqual v x h = refl
  evaluated_operand op.Less v x h = refl
  evaluated_operand op.Greater v x h = refl
  evaluated_operand op.LessEqual v x h = refl
  evaluated_operand op.GreaterEqual v x h = refl
  evaluated_operand op.InstanceOf v x h = refl
  evaluated_operand op.In v x h = refl
  evaluated_operand op.ShiftLeft v x h = refl
  evaluated_operand op.ShiftRight v x h = refl
  evaluated_operand op.UnsignedShiftRight v x h = refl
  evaluated_operand op.Add v x h = refl
  evaluated_operand op.Subtract v x h = refl
  evaluated_operand op.Multiply v x h = refl
  evaluated_operand op.Divide v x h = refl
  evaluated_operand op.Remainder v x h = refl

module _ (m : Machine) (v : Value) (x : Operand) (xs : List Operand) (r : Result Now Halt) (m' : Machine) where
  pub decided_moves : decides x.op v ≡ true → Moves (at m (rule.operands_from by_slots) v (operands_of xs)) m r m'
      → Moves (at m (rule.operands_from by_slots) v (operands_of (x ∷ xs))) m r m'
  decided_moves h k = subst (λ q. Moves q m r m') (sym (decided (functions_of m) (inner m) (context_of m.context) x.place x.op v x.value (operands_of xs) h)) k

  pub evaluated_moves : decides x.op v ≡ false → Moves (at m operand_by x.op v x >>= (λ w. at m (rule.operands_from by_slots) w (operands_of xs))) m r m'
      → Moves (at m (rule.operands_from by_slots) v (operands_of (x ∷ xs))) m r m'
  evaluated_moves h k = subst (λ q. Moves (q >>= (λ w. at m (rule.operands_from by_slots) w (operands_of xs))) m r m')
      (sym (evaluated_operand (functions_of m) (inner m) (context_of m.context) x.op v x h)) k
