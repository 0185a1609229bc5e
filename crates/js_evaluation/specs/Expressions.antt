-- What expressions do (ECMA-262 5.1, section 11). Each rule is what comes behind the charge for its node. A visit gives
-- a value, GetValue (8.7.1) included; where the standard needs the Reference itself, an expression is evaluated up to it
-- (`refer`). Functions stand by number, and the parser has tested targets, so some cases are met by no script.
use Rattle.std.specs.Prelude.{ℕ, ◌+◌, pos, neg_ℤ, ◌-ℤ◌, List, [], ◌∷◌, ◌++◌, Bool, true, false, not, if◌then◌else◌, Option, Some, None, slice_get, codes}
use Rattle.std.specs.Fmt.{decimal}
use Rattle.js_tree.specs.declared.place.Place.{Place}
use Rattle.js_tree.specs.declared.operators.BinaryOp.{BinaryOp}
use Rattle.js_tree.specs.declared.operators.BinaryOp.TheVariants as op
use Rattle.js_tree.specs.declared.operators.AssignOp.{AssignOp}
use Rattle.js_tree.specs.declared.operators.UnaryOp.{UnaryOp}
use Rattle.js_tree.specs.declared.operators.UnaryOp.TheVariants as unary
use Rattle.js_tree.specs.declared.operators.UpdateForm.{UpdateForm}
use Rattle.js_tree.specs.declared.operators.UpdateForm.TheVariants as form
use Rattle.js_tree.specs.declared.operators.UpdateOp.{UpdateOp}
use Rattle.js_binding.specs.Scopes.{itself}
use Rattle.js_tree.specs.Tree.{ExpressionTree, Number, Characters, Pattern, True, False, Null, This, Name, Array, Object, Function, Numbered, Suffixed, New, Update, Unary, Chain, Conditional, Assign, Comma, absent, present, Expressions, no_expression, an_expression, Items, no_item, an_item, Properties, no_property, a_property, SuffixTree, a_member, an_index, a_call, Suffixes, no_suffix, a_suffix, Operands, no_operand, an_operand, FunctionTree, a_function}
use Rattle.js_grammar.specs.Operators.{is_target}
use Rattle.heap_values.specs.declared.ids.Kind.{Kind}
use Rattle.heap_values.specs.declared.ids.Kind.TheVariants as kind
use Rattle.heap_values.specs.declared.ids.ObjectId.{ObjectId}
use Rattle.heap_values.specs.declared.built_in.BuiltIn.TheVariants as built_in
use Rattle.heap_values.specs.declared.value.Value.{Value}
use Rattle.heap_values.specs.declared.value.Value.TheVariants as value
use Rattle.js_pattern_reader.specs.Literal.{Literal}
use Rattle.object_heap.specs.Heap.{object_at, kind_in}
use Rattle.js_convert.specs.Numeric.{truth_of}
use Rattle.js_convert.specs.Texts.{text_of}
use Rattle.run_trees.specs.Runs.{pure, reading, ◌>>=◌, ◌>>◌}
use Rattle.js_evaluation.specs.State.{Does, charge, make, make_pattern, define, write_slot, test_text, built_in_object, global_object, throw_type_error, unsupported}
use Rattle.js_evaluation.specs.Objects.{Context, get, put, test_base, delete_property, closure, arity_of}
use Rattle.js_evaluation.specs.Scoping.{Scoping}
use Rattle.js_evaluation.specs.Parts.{Reference, to_name, to_property, Within, visit, refer, calls, construct, outside, suffix_place}
use Rattle.js_evaluation.specs.Conversions.{call_value, to_text, to_number, to_bits, binary, stepped, assigned_by, type_text}
use Rattle.js_evaluation.specs.NativeTable.{constructs, native_of, native_name}

-- ---- references (8.7)

-- GetValue (8.7.1)
abbrev pub read : Scoping → Context → Reference → Does Value
read scoping cx (to_name p x) = scoping.read_name cx x p
read scoping cx (to_property p base name) = get base name p

-- what `typeof` reads: undefined for a name that stands for nothing (11.4.3)
abbrev pub read_or_undefined : Scoping → Context → Reference → Does Value
read_or_undefined scoping cx (to_name p x) = scoping.read_or_undefined cx x p
read_or_undefined scoping cx (to_property p base name) = get base name p

-- PutValue (8.7.2)
abbrev pub write : Scoping → Context → Reference → Value → Place → Does (Unit {0})
write scoping cx (to_name p x) v place = scoping.write_name cx x v place
write scoping cx (to_property p base name) v place = put base name v place

-- steps 3 to 5 of 11.4.1
abbrev pub delete : Scoping → Context → Reference → Place → Does Value
delete scoping cx (to_name p x) place = scoping.delete_name cx x place
delete scoping cx (to_property p base name) place = delete_property base name place

-- The `this` of a call of what is referred to: the base of a property, and for a name the global object (11.2.3, 10.4.3;
-- profile: for built-in functions too).
abbrev pub this_of : Reference → Value
this_of (to_name p x) = global_object
this_of (to_property p base name) = base

-- It stands where there is no Reference; only names and properties are asked for one, so it comes up in no run.
abbrev pub no_reference : Reference
no_reference = to_property outside value.Undefined (text_of value.Undefined)

-- whether an expression refers to a property; brackets around it change nothing (11.1.6)
abbrev pub refers_to_property : ExpressionTree → Bool
refers_to_property (Suffixed p e ss) = is_target (Suffixed p e ss)
refers_to_property e = false

-- ---- what visits no part

-- an index as a name
abbrev pub index_name : ℕ → List ℕ
index_name i = decimal i

-- holes at the end count in the length (11.1.4)
abbrev pub end_of_array : Place → ObjectId → ℕ → Bool → Does Value
end_of_array p array count true = put (value.Object array) (codes "length") (value.Number (pos count)) p >> pure (value.Object array)
end_of_array p array count false = pure (value.Object array)

abbrev pub text_literal : Place → List ℕ → Does Value
text_literal p t = test_text t p >> pure (value.Text t)

-- a new object at each evaluation (7.8.5), whose search begins at 0 (15.10.7.5)
abbrev pub pattern_literal : Place → Literal → Does Value
pattern_literal p l = do
  _source ← test_text l.body p
  pattern ← make_pattern l p
  _begin ← define pattern (codes "lastIndex") (value.Number (pos 0)) false false p
  pure (value.Object pattern)

abbrev pub not_a_constructor : {A : Type 0} → Place → Does A
not_a_constructor p = throw_type_error (codes "not a constructor") p

abbrev pub given_by : UpdateForm → Value → Value → Value
given_by form.Prefix old new = new
given_by form.Postfix old new = old

-- scoping: how the run has its scopes; functions: those of the script; go: what evaluation makes of the parts within
module _ (scoping : Scoping) (functions : List FunctionTree) (go : Within) where
  -- ---- literals (11.1)

  -- so many items stand in the array already; hole: the last of them is one
  abbrev pub items_from : Context → Place → ObjectId → ℕ → Bool → Items → Does Value
  items_from cx p array count hole no_item = end_of_array p array count hole
  items_from cx p array count hole (an_item absent rest) = items_from cx p array (count + 1) true rest
  items_from cx p array count hole (an_item (present e) rest) =
      visit go cx e >>= (λ v. define array (index_name count) v true true p >> items_from cx p array (count + 1) false rest)

  abbrev pub array_literal : Context → Place → Items → Does Value
  array_literal cx p items = make kind.Array (Some (built_in_object built_in.ArrayPrototype)) p >>= (λ array. items_from cx p array 0 false items)

  abbrev pub properties_from : Context → Place → ObjectId → Properties → Does Value
  properties_from cx p object no_property = pure (value.Object object)
  properties_from cx p object (a_property name e rest) =
      visit go cx e >>= (λ v. define object name v true true p >> properties_from cx p object rest)

  abbrev pub object_literal : Context → Place → Properties → Does Value
  object_literal cx p properties = make kind.Plain (Some (built_in_object built_in.ObjectPrototype)) p >>= (λ object. properties_from cx p object properties)

  -- A function expression with a name of its own has a scope for it, in which its value stands first (13).
  abbrev pub function_value_of : Context → Place → ℕ → Option FunctionTree → Does Value
  function_value_of cx p n (Some (a_function (Some x) parameters names body)) = do
    scope ← scoping.make_scope (itself x.name) cx.scope p
    f ← closure n (arity_of (slice_get functions n)) scope p
    _named ← write_slot scope 0 f
    pure f
  function_value_of cx p n f = closure n (arity_of f) cx.scope p

  abbrev pub function_value : Context → Place → ℕ → Does Value
  function_value cx p n = function_value_of cx p n (slice_get functions n)

  -- ---- members, indexes and calls (11.2)

  abbrev pub arguments_from : Context → List Value → Expressions → Does (List Value)
  arguments_from cx done no_expression = pure done
  arguments_from cx done (an_expression e es) = visit go cx e >>= (λ v. arguments_from cx (done ++ v ∷ []) es)

  -- the name under an index of a base: the expression is evaluated, the base is tested, and the value becomes a text
  abbrev pub name_under : Context → Value → ExpressionTree → Place → Does (List ℕ)
  name_under cx base e p = visit go cx e >>= (λ v. test_base base p >> to_text (calls go) v p)

  -- what a suffix of a value refers to (11.2.1)
  abbrev pub referred_at : Context → Value → SuffixTree → Does Reference
  referred_at cx v (a_member p name) = test_base v p >> pure (to_property p v name)
  referred_at cx v (an_index p e) = name_under cx v e p >>= (λ name. pure (to_property p v name))
  referred_at cx v (a_call p es) = pure no_reference

  -- the `this` that a call of what is referred to has, and its value
  abbrev pub read_with_this : Context → Reference → Does (Value × Value)
  read_with_this cx r = read scoping cx r >>= (λ v. pure (this_of r, v))

  -- a suffix of a value that is called with this `this`: it gives the `this` for a call behind it, and its value
  abbrev pub suffix_at : Context → Value → Value → SuffixTree → Does (Value × Value)
  suffix_at cx this v (a_call p es) = arguments_from cx [] es >>= (λ vs. call_value (calls go) v this vs p >>= (λ w. pure (global_object, w)))
  suffix_at cx this v s = referred_at cx v s >>= (λ r. read_with_this cx r)

  -- each suffix is charged where it is applied
  abbrev pub suffixes_from : Context → Value → Value → Suffixes → Does Value
  suffixes_from cx this v no_suffix = pure v
  suffixes_from cx this v (a_suffix s ss) = charge (suffix_place s) >> suffix_at cx this v s >>= (λ x. suffixes_from cx x.0 x.1 ss)

  -- The `this` that a call of an expression has, and its value (11.2.3): that of a value that is no reference is the
  -- global object.
  abbrev pub with_this : Context → ExpressionTree → Does (Value × Value)
  with_this cx e =
      if refers_to_property e then refer go cx e >>= (λ r. read_with_this cx r)
      else visit go cx e >>= (λ v. pure (global_object, v))

  abbrev pub suffixed : Context → ExpressionTree → Suffixes → Does Value
  suffixed cx first ss = with_this cx first >>= (λ x. suffixes_from cx x.0 x.1 ss)

  -- ---- what is referred to (8.7, 11.2.1)

  -- the last suffix isn't read
  abbrev pub target_suffixes : Context → Value → Value → Suffixes → Does Reference
  target_suffixes cx this v no_suffix = pure no_reference
  target_suffixes cx this v (a_suffix s no_suffix) = charge (suffix_place s) >> referred_at cx v s
  target_suffixes cx this v (a_suffix s (a_suffix t ss)) =
      charge (suffix_place s) >> suffix_at cx this v s >>= (λ x. target_suffixes cx x.0 x.1 (a_suffix t ss))

  -- an expression up to what it refers to
  abbrev pub target_node : Context → ExpressionTree → Does Reference
  target_node cx (Name p x) = pure (to_name p x)
  target_node cx (Suffixed p first ss) = with_this cx first >>= (λ x. target_suffixes cx x.0 x.1 ss)
  target_node cx e = pure no_reference

  -- ---- `new` (11.2.2)

  abbrev pub constructed_by : Kind → ObjectId → List Value → Place → Does Value
  constructed_by (kind.Function f scope) id vs p = construct go id vs p
  constructed_by (kind.Native n) id vs p = if constructs (native_of n) then construct go id vs p else unsupported (native_name (native_of n)) p
  constructed_by k id vs p = not_a_constructor p

  abbrev pub constructed : Value → List Value → Place → Does Value
  constructed (value.Object id) vs p = reading (λ s. constructed_by (kind_in (object_at s.heap id)) id vs p)
  constructed v vs p = not_a_constructor p

  abbrev pub new_value : Context → Place → ExpressionTree → Expressions → Does Value
  new_value cx p callee es = visit go cx callee >>= (λ f. arguments_from cx [] es >>= (λ vs. constructed f vs p))

  -- ---- prefix and postfix operators (11.3, 11.4)

  abbrev pub updated : Context → Place → UpdateForm → UpdateOp → ExpressionTree → Does Value
  updated cx p f o e = do
    r ← refer go cx e
    old ← read scoping cx r
    n ← to_number (calls go) old p
    m ← stepped (calls go) o n p
    _written ← write scoping cx r (value.Number m) p
    pure (given_by f (value.Number n) (value.Number m))

  -- an expression that is no reference has nothing that could be deleted (11.4.1)
  abbrev pub deleted : Context → Place → ExpressionTree → Does Value
  deleted cx p e =
      if is_target e then refer go cx e >>= (λ r. delete scoping cx r p)
      else visit go cx e >> pure (value.Bool true)

  abbrev pub type_of : Context → ExpressionTree → Does Value
  type_of cx (Name p x) = refer go cx (Name p x) >>= (λ r. read_or_undefined scoping cx r)
  type_of cx e = visit go cx e

  -- the operators in front of an operand (11.4)
  abbrev pub unary_value : Context → Place → UnaryOp → ExpressionTree → Does Value
  unary_value cx p unary.Delete e = deleted cx p e
  unary_value cx p unary.Void e = visit go cx e >> pure value.Undefined
  unary_value cx p unary.TypeOf e = type_of cx e >>= (λ v. reading (λ s. pure (value.Text (type_text s.heap v))))
  unary_value cx p unary.Plus e = visit go cx e >>= (λ v. to_number (calls go) v p >>= (λ n. pure (value.Number n)))
  unary_value cx p unary.Minus e = visit go cx e >>= (λ v. to_number (calls go) v p >>= (λ n. pure (value.Number (neg_ℤ n))))
  unary_value cx p unary.BitNot e = visit go cx e >>= (λ v. to_bits (calls go) v p >>= (λ n. pure (value.Number (neg_ℤ n -ℤ pos 1))))
  unary_value cx p unary.Not e = visit go cx e >>= (λ v. pure (value.Bool (not (truth_of v))))

  -- ---- binary operators (11.5 to 11.11)

  -- the operand of `&&` and `||` is evaluated only where the value before doesn't decide
  abbrev pub operand_by : Context → Place → BinaryOp → Value → ExpressionTree → Does Value
  operand_by cx p op.Or v e = if truth_of v then pure v else visit go cx e
  operand_by cx p op.And v e = if truth_of v then visit go cx e else pure v
  operand_by cx p o v e = visit go cx e >>= (λ w. binary (calls go) o v w p)

  abbrev pub operands_from : Context → Value → Operands → Does Value
  operands_from cx v no_operand = pure v
  operands_from cx v (an_operand p o e rest) = operand_by cx p o v e >>= (λ w. operands_from cx w rest)

  abbrev pub chain : Context → ExpressionTree → Operands → Does Value
  chain cx first operands = visit go cx first >>= (λ v. operands_from cx v operands)

  -- ---- `?:`, assignment and commas (11.12 to 11.14)

  abbrev pub conditional : Context → ExpressionTree → ExpressionTree → ExpressionTree → Does Value
  conditional cx c a b = visit go cx c >>= (λ v. if truth_of v then visit go cx a else visit go cx b)

  abbrev pub assigned_with : Context → Place → Reference → Option BinaryOp → ExpressionTree → Does Value
  assigned_with cx p r None e = visit go cx e
  assigned_with cx p r (Some o) e = read scoping cx r >>= (λ old. visit go cx e >>= (λ v. binary (calls go) o old v p))

  abbrev pub assigned : Context → Place → ExpressionTree → AssignOp → ExpressionTree → Does Value
  assigned cx p e o value = refer go cx e >>= (λ r. assigned_with cx p r (assigned_by o) value >>= (λ v. write scoping cx r v p >> pure v))

  -- the value of the last of them
  abbrev pub comma_from : Context → Value → Expressions → Does Value
  comma_from cx v no_expression = pure v
  comma_from cx v (an_expression e es) = visit go cx e >>= (λ w. comma_from cx w es)

  -- ---- all of them

  unfoldable pub expression_node : Context → ExpressionTree → Does Value
  expression_node cx (Number p n) = pure (value.Number n)
  expression_node cx (Characters p t) = text_literal p t
  expression_node cx (Pattern p l) = pattern_literal p l
  expression_node cx (True p) = pure (value.Bool true)
  expression_node cx (False p) = pure (value.Bool false)
  expression_node cx (Null p) = pure value.Null
  expression_node cx (This p) = pure cx.this
  expression_node cx (Name p x) = scoping.read_name cx x p
  expression_node cx (Array p items) = array_literal cx p items
  expression_node cx (Object p properties) = object_literal cx p properties
  expression_node cx (Function p f) = pure value.Undefined
  expression_node cx (Numbered p n) = function_value cx p n
  expression_node cx (Suffixed p first ss) = suffixed cx first ss
  expression_node cx (New p callee es) = new_value cx p callee es
  expression_node cx (Update p f o e) = updated cx p f o e
  expression_node cx (Unary p o e) = unary_value cx p o e
  expression_node cx (Chain p first operands) = chain cx first operands
  expression_node cx (Conditional p c a b) = conditional cx c a b
  expression_node cx (Assign p e o value) = assigned cx p e o value
  expression_node cx (Comma p es) = comma_from cx value.Undefined es
