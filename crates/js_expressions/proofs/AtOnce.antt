-- Operators on operands that are had at once (ECMA-262 5.1, sections 11.5 to 11.11).
use Rattle.std.proofs.Common.{◌≡◌, Bool, true, false, not, List, ◌∷◌, Some, None, Ok, Err, Result, refl, ap, sym, ◌∙◌, subst, if◌then◌else◌}
use Rattle.std.specs.Result.{IsErrAnd}
use Rattle.js_tree.specs.declared.place.Place.{Place}
use Rattle.js_tree.specs.declared.expression.Operand.{Operand}
use Rattle.js_tree.specs.declared.operators.BinaryOp.{BinaryOp}
use Rattle.js_tree.specs.declared.operators.BinaryOp.TheVariants as op
use Rattle.js_tree.specs.Tree.{FunctionTree}
use Rattle.js_tree.specs.View.{operands_of}
use Rattle.heap_values.specs.declared.ids.ObjectId.{ObjectId}
use Rattle.heap_values.specs.declared.value.Value.{Value}
use Rattle.heap_values.specs.declared.value.Value.TheVariants as value
use Rattle.heap_values.specs.Views.{HeapView}
use Rattle.js_convert.specs.Operators.{is_object, operator_value}
use Rattle.run_trees.specs.Runs.{◌>>=◌}
use Rattle.js_evaluation.specs.State.{Does}
use Rattle.js_evaluation.specs.Objects.{Context}
use Rattle.js_evaluation.specs.Conversions as convert
use Rattle.js_evaluation.specs.Conversions.{Call}
use Rattle.js_frames.specs.Parts.{context_of}
use Rattle.js_evaluation.specs.Expressions as rule
use Rattle.js_evaluation.specs.Parts.{Within, calls}
use Rattle.js_evaluation.specs.Scoping.{by_slots}
use Rattle.heap_steps.specs.declared.halt.Halt.{Halt}
use Rattle.heap_steps.specs.Works.{Works}
use Rattle.js_machine.specs.declared.machine.Machine.{Machine}
use Rattle.js_machine.specs.declared.now.Now.{Now}
use Rattle.js_machine.specs.Moves.{Moves, at, functions_of, inner, visited}
use Rattle.js_machine.specs.Leaves.{Reaches}
use Rattle.js_machine.proofs.Steps.{with_heap, works_then, works_stops}
use Rattle.js_machine.proofs.Acting.{reached_then, reached_stops, not_reached}
use Rattle.js_native_calls.proofs.Objects.{is_primitive}
use Rattle.js_expressions.specs.Operators.{converted_object}
use Rattle.js_expressions.specs.Rows.{is_at_once}
use Rattle.js_expressions.proofs.Binary.{binary_else, undecided, operand_else, evaluated_moves}

-- an operator that works at once takes the values of both sides
pub record TakesBoth (o : BinaryOp) (v : Value) : Type 0 where
  pub not_or : o ≡ op.Or → ⊥
  pub not_and : o ≡ op.And → ⊥
  pub not_in : o ≡ op.In → ⊥
  pub not_instance : o ≡ op.InstanceOf → ⊥

takes_both : (o : BinaryOp) (v : Value) → is_at_once o v ≡ true → TakesBoth o v
takes_both o v h = record {
  not_or = λ e. let f : is_at_once op.Or v ≡ true = subst (λ (x : BinaryOp). is_at_once x v ≡ true) e h in cc;
  not_and = λ e. let f : is_at_once op.And v ≡ true = subst (λ (x : BinaryOp). is_at_once x v ≡ true) e h in cc;
  not_in = λ e. let f : is_at_once op.In v ≡ true = subst (λ (x : BinaryOp). is_at_once x v ≡ true) e h in cc;
  not_instance = λ e. let f : is_at_once op.InstanceOf v ≡ true = subst (λ (x : BinaryOp). is_at_once x v ≡ true) e h in cc;
}

-- every other operator works at once on what is no object
pub once_else : (o : BinaryOp) (v : Value) → (o ≡ op.Or → ⊥) → (o ≡ op.And → ⊥) → (o ≡ op.In → ⊥) → (o ≡ op.InstanceOf → ⊥) → is_at_once o v ≡ not (is_object v)
once_else op.Or v k l m n = absurd (k refl)
once_else op.And v k l m n = absurd (l refl)
once_else op.BitOr v k l m n = refl
once_else op.BitXor v k l m n = refl
once_else op.BitAnd v k l m n = refl
once_else op.Equal v k l m n = refl
once_else op.NotEqual v k l m n = refl
once_else op.StrictEqual v k l m n = refl
once_else op.StrictNotEqual v k l m n = refl
once_else op.Less v k l m n = refl
once_else op.Greater v k l m n = refl
once_else op.LessEqual v k l m n = refl
once_else op.GreaterEqual v k l m n = refl
once_else op.InstanceOf v k l m n = absurd (n refl)
once_else op.In v k l m n = absurd (m refl)
once_else op.ShiftLeft v k l m n = refl
once_else op.ShiftRight v k l m n = refl
once_else op.UnsignedShiftRight v k l m n = refl
once_else op.Add v k l m n = refl
once_else op.Subtract v k l m n = refl
once_else op.Multiply v k l m n = refl
once_else op.Divide v k l m n = refl
once_else op.Remainder v k l m n = refl

no_object : (v : Value) → not (is_object v) ≡ true → (id : ObjectId) → v ≡ value.Object id → ⊥
no_object (value.Object k) h id e = cc
no_object value.Undefined h id e = cc
no_object value.Null h id e = cc
no_object (value.Bool b) h id e = cc
no_object (value.Number n) h id e = cc
no_object (value.Text t) h id e = cc

not_some : (b : Bool) (id : ObjectId) → (if b then Some id else None) ≡ None → b ≡ false
not_some true id e = cc
not_some false id e = refl

is_some_if : (b : Bool) (id object : ObjectId) → (if b then Some id else None) ≡ Some object → b ≡ true
is_some_if true id object e = refl
is_some_if false id object e = cc

is_same_if : (b : Bool) (id object : ObjectId) → (if b then Some id else None) ≡ Some object → id ≡ object
is_same_if true id object e = cc
is_same_if false id object e = cc

either : {A : Type 0} (b : Bool) (x y : A) → x ≡ y → (if b then x else y) ≡ y
either true x y e = e
either false x y e = refl

module _ (call : Call) (o : BinaryOp) (v : Value) (p : Place) (once : is_at_once o v ≡ true) where
  left_primitive : (id : ObjectId) → v ≡ value.Object id → ⊥
  left_primitive = let k = takes_both o v once in no_object v (sym (once_else o v k.not_or k.not_and k.not_in k.not_instance) ∙ once)

  abbrev worked : Value → Does Value
  worked w = convert.operated call (operator_value o v w) p

  -- the right side becomes primitive, where the operator takes such
  by_right : (w : Value) → convert.binary call o v w p
      ≡ (if convert.takes_primitives call o v w then (convert.to_primitive call convert.number_methods w p >>= worked) else worked w)
  by_right w =
      let k = takes_both o v once in
      binary_else call o v w p k.not_in k.not_instance
      ∙ ap (λ (q : Does Value). if convert.takes_primitives call o v w
      then (q >>= (λ x. convert.to_primitive call convert.number_methods w p >>= (λ y. convert.operated call (operator_value o x y) p))) else worked w)
      (is_primitive call convert.number_methods v p left_primitive)

  primitive_right : (w : Value) → ((id : ObjectId) → w ≡ value.Object id → ⊥) → convert.binary call o v w p ≡ worked w
  primitive_right w n = by_right w ∙ either (convert.takes_primitives call o v w) (convert.to_primitive call convert.number_methods w p >>= worked) (worked w)
      (ap (λ (q : Does Value). q >>= worked) (is_primitive call convert.number_methods w p n))

  -- it works on the values as they are
  pub binary_worked : (w : Value) → converted_object call o v w ≡ None → convert.binary call o v w p ≡ worked w
  binary_worked (value.Object id) none = by_right (value.Object id) ∙ ap (λ (b : Bool). if b then (convert.to_primitive call convert.number_methods (value.Object id) p >>= worked) else worked (value.Object id))
      (not_some (convert.takes_primitives call o v (value.Object id)) id none)
  binary_worked value.Undefined none = primitive_right value.Undefined (λ id e. cc)
  binary_worked value.Null none = primitive_right value.Null (λ id e. cc)
  binary_worked (value.Bool b) none = primitive_right (value.Bool b) (λ id e. cc)
  binary_worked (value.Number n) none = primitive_right (value.Number n) (λ id e. cc)
  binary_worked (value.Text t) none = primitive_right (value.Text t) (λ id e. cc)

  -- an object on the right side becomes primitive first
  pub binary_converted : (w : Value) (object : ObjectId) → converted_object call o v w ≡ Some object
      → convert.binary call o v w p ≡ (convert.to_primitive call convert.number_methods (value.Object object) p >>= worked)
  binary_converted (value.Object id) object some =
      let b = convert.takes_primitives call o v (value.Object id) in
      by_right (value.Object id)
      ∙ ap (λ (x : Bool). if x then (convert.to_primitive call convert.number_methods (value.Object id) p >>= worked) else worked (value.Object id)) (is_some_if b id object some)
      ∙ ap (λ (x : ObjectId). convert.to_primitive call convert.number_methods (value.Object x) p >>= worked) (is_same_if b id object some)
  binary_converted value.Undefined object some = cc
  binary_converted value.Null object some = cc
  binary_converted (value.Bool b) object some = cc
  binary_converted (value.Number n) object some = cc
  binary_converted (value.Text t) object some = cc

module _ (m m₁ : Machine) (v : Value) (x : Operand) (xs : List Operand) (once : is_at_once x.op v ≡ true) (r : Result Now Halt) (m' : Machine) where
  -- what is done with an operand that has a value
  abbrev with_operand : List FunctionTree → Within → Context → Value → Does Value
  with_operand functions go cx w = convert.binary (calls go) x.op v w x.place >>= (λ u. rule.operands_from by_slots functions go cx u (operands_of xs))

  from_operand : Moves (visited m x.value >>= at m with_operand) m r m' → Moves (at m (rule.operands_from by_slots) v (operands_of (x ∷ xs))) m r m'
  from_operand k = let o = takes_both x.op v once in evaluated_moves m v x xs r m' (undecided x.op v o.not_or o.not_and)
      (subst (λ (q : Does Value). Moves (q >>= (λ u. at m (rule.operands_from by_slots) u (operands_of xs))) m r m') (sym (operand_else (functions_of m) (inner m) (context_of m.context) x.op v x o.not_or o.not_and)) k)

  pub operand_then : (w : Value) → Reaches (visited m x.value) m (Ok (Some w)) m₁ → Moves (at m₁ with_operand w) m₁ r m' → Moves (at m (rule.operands_from by_slots) v (operands_of (x ∷ xs))) m r m'
  operand_then w k goes = from_operand (reached_then (visited m x.value) with_operand m m₁ w r m' k goes)

  pub operand_worked : (w u : Value) (h : HeapView) → ((call : Call) → converted_object call x.op v w ≡ None) → Reaches (visited m x.value) m (Ok (Some w)) m₁
      → ((call : Call) → Works (convert.operated call (operator_value x.op v w) x.place) m₁.state.heap (Ok u) h)
      → Moves (at m₁ (rule.operands_from by_slots) u (operands_of xs)) (with_heap m₁ h) r m' → Moves (at m (rule.operands_from by_slots) v (operands_of (x ∷ xs))) m r m'
  operand_worked w u h none k works goes = operand_then w k
      (subst (λ (q : Does Value). Moves (q >>= (λ y. at m₁ (rule.operands_from by_slots) y (operands_of xs))) m₁ r m') (sym (binary_worked (calls (inner m₁)) x.op v x.place once w (none (calls (inner m₁)))))
      (works_then _ _ m₁ h u (works (calls (inner m₁))) goes))

  -- an object on the right side becomes primitive first
  abbrev with_object : List FunctionTree → Within → Context → ObjectId → Does Value
  with_object functions go cx object = convert.to_primitive (calls go) convert.number_methods (value.Object object) x.place
      >>= (λ w. convert.operated (calls go) (operator_value x.op v w) x.place >>= (λ u. rule.operands_from by_slots functions go cx u (operands_of xs)))

  pub operand_converted : (w : Value) (object : ObjectId) → ((call : Call) → converted_object call x.op v w ≡ Some object) → Reaches (visited m x.value) m (Ok (Some w)) m₁
      → Moves (at m₁ with_object object) m₁ r m' → Moves (at m (rule.operands_from by_slots) v (operands_of (x ∷ xs))) m r m'
  operand_converted w object some k goes = operand_then w k
      (subst (λ (q : Does Value). Moves (q >>= (λ y. at m₁ (rule.operands_from by_slots) y (operands_of xs))) m₁ r m') (sym (binary_converted (calls (inner m₁)) x.op v x.place once w object (some (calls (inner m₁))))) goes)

module _ (m m₁ : Machine) (v : Value) (x : Operand) (xs : List Operand) (once : is_at_once x.op v ≡ true) (r : Result Now Halt) (e : Halt) (i : IsErrAnd r (λ y. y ≡ e)) where
  pub operand_stops : Reaches (visited m x.value) m (Err e) m₁ → Moves (at m (rule.operands_from by_slots) v (operands_of (x ∷ xs))) m r m₁
  operand_stops k = from_operand m m₁ v x xs once r m₁ (reached_stops (visited m x.value) (with_operand m m₁ v x xs once r m₁) m m₁ r e i k)

  pub operation_stops : (w : Value) (h : HeapView) → ((call : Call) → converted_object call x.op v w ≡ None) → Reaches (visited m x.value) m (Ok (Some w)) m₁
      → ((call : Call) → Works (convert.operated call (operator_value x.op v w) x.place) m₁.state.heap (Err e) h)
      → Moves (at m (rule.operands_from by_slots) v (operands_of (x ∷ xs))) m r (with_heap m₁ h)
  operation_stops w h none k works = operand_then m m₁ v x xs once r (with_heap m₁ h) w k
      (subst (λ (q : Does Value). Moves (q >>= (λ y. at m₁ (rule.operands_from by_slots) y (operands_of xs))) m₁ r (with_heap m₁ h)) (sym (binary_worked (calls (inner m₁)) x.op v x.place once w (none (calls (inner m₁)))))
      (works_stops _ _ m₁ h r e i (works (calls (inner m₁)))))

-- an operand that isn't had at once
pub operand_visited : (m m₁ : Machine) (v : Value) (x : Operand) (xs : List Operand) (r : Result Now Halt) (m' : Machine) → Reaches (visited m x.value) m (Ok None) m₁
    → Moves (at m₁ (rule.operands_from by_slots) v (operands_of (x ∷ xs))) m₁ r m' → Moves (at m (rule.operands_from by_slots) v (operands_of (x ∷ xs))) m r m'
operand_visited m m₁ v x xs r m' k goes = not_reached (visited m x.value) (λ functions go cx. rule.operands_from by_slots functions go cx v (operands_of (x ∷ xs))) m m₁ r m' k goes
