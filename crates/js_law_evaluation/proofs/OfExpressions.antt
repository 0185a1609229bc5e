-- Expressions have one end and ask for lookup names alone, where the words of scopes and the parts within do.
use Rattle.std.proofs.Common.{refl, ℕ, ◌+◌, pos, List, [], ◌∷◌, ◌++◌, Bool, true, false, Option, Some, None}
use Rattle.std.specs.Prelude.{neg_ℤ, ◌-ℤ◌, not, slice_get, codes}
use Rattle.js_tree.specs.declared.place.Place.{Place}
use Rattle.js_tree.specs.declared.operators.BinaryOp.{BinaryOp}
use Rattle.js_tree.specs.declared.operators.BinaryOp.TheVariants as op
use Rattle.js_tree.specs.declared.operators.AssignOp.{AssignOp}
use Rattle.js_tree.specs.declared.operators.UnaryOp.{UnaryOp}
use Rattle.js_tree.specs.declared.operators.UnaryOp.TheVariants as unary
use Rattle.js_tree.specs.declared.operators.UpdateForm.{UpdateForm}
use Rattle.js_tree.specs.declared.operators.UpdateOp.{UpdateOp}
use Rattle.js_tree.specs.Tree.{ExpressionTree, Number, Characters, Pattern, True, False, Null, This, Name, Array, Object, Function, Numbered, Suffixed, New, Update, Unary, Chain, Conditional, Assign, Comma, absent, present, Expressions, no_expression, an_expression, Items, no_item, an_item, Properties, no_property, a_property, SuffixTree, a_member, an_index, a_call, Suffixes, no_suffix, a_suffix, Operands, no_operand, an_operand, FunctionTree, a_function}
use Rattle.js_grammar.specs.Operators.{is_target}
use Rattle.js_pattern_reader.specs.Literal.{Literal}
use Rattle.js_binding.specs.Scopes.{itself}
use Rattle.heap_values.specs.declared.ids.Kind.{Kind}
use Rattle.heap_values.specs.declared.ids.Kind.TheVariants as kind
use Rattle.heap_values.specs.declared.ids.ObjectId.{ObjectId}
use Rattle.heap_values.specs.declared.built_in.BuiltIn.TheVariants as built_in
use Rattle.heap_values.specs.declared.value.Value.{Value}
use Rattle.heap_values.specs.declared.value.Value.TheVariants as value
use Rattle.object_heap.specs.Heap.{object_at, kind_in}
use Rattle.js_convert.specs.Numeric.{truth_of}
use Rattle.js_evaluation.specs.State.{built_in_object, global_object}
use Rattle.js_evaluation.specs.Objects.{Context, arity_of}
use Rattle.js_evaluation.specs.Scoping.{Scoping}
use Rattle.js_evaluation.specs.Parts.{expression_part, call_part, construct_part, Reference, to_name, to_property, Within, visit, refer, calls, construct, suffix_place}
use Rattle.js_evaluation.specs.Conversions.{assigned_by, type_text}
use Rattle.js_evaluation.specs.NativeTable.{constructs, native_of}
use Rattle.js_evaluation.specs.Expressions as def
use Rattle.js_law_evaluation.proofs.OfState.{Ends, gives, halts, reads, ◌onto◌, ◌then◌, either, charges-ends, make-ends, make_pattern-ends, define-ends, write_slot-ends, test_text-ends, throw_type_error-ends}
use Rattle.js_law_evaluation.proofs.OfObjects.{get-ends, put-ends, test_base-ends, delete_property-ends, closure-ends}
use Rattle.js_law_evaluation.proofs.OfScoping.{WordsEnd}
use Rattle.js_law_evaluation.proofs.OfParts.{WithinEnds}
use Rattle.js_law_evaluation.proofs.OfConversions.{CallsEnd, call_value-ends, to_text-ends, to_number-ends, to_bits-ends, binary-ends, stepped-ends}

-- ---- references

read-ends : {scoping : Scoping} → WordsEnd scoping → (cx : Context) (r : Reference) → Ends (def.read scoping cx r)
read-ends words cx (to_name p x) = words.read_name cx x p
read-ends words cx (to_property p base name) = get-ends base name p

read_or_undefined-ends : {scoping : Scoping} → WordsEnd scoping → (cx : Context) (r : Reference)
    → Ends (def.read_or_undefined scoping cx r)
read_or_undefined-ends words cx (to_name p x) = words.read_or_undefined cx x p
read_or_undefined-ends words cx (to_property p base name) = get-ends base name p

pub write-ends : {scoping : Scoping} → WordsEnd scoping → (cx : Context) (r : Reference) (v : Value) (place : Place)
    → Ends (def.write scoping cx r v place)
write-ends words cx (to_name p x) v place = words.write_name cx x v place
write-ends words cx (to_property p base name) v place = put-ends base name v place

delete-ends : {scoping : Scoping} → WordsEnd scoping → (cx : Context) (r : Reference) (place : Place)
    → Ends (def.delete scoping cx r place)
delete-ends words cx (to_name p x) place = words.delete_name cx x place
delete-ends words cx (to_property p base name) place = delete_property-ends base name place

-- ---- what visits no part

end_of_array-ends : (p : Place) (array : ObjectId) (count : ℕ) (hole : Bool) → Ends (def.end_of_array p array count hole)
end_of_array-ends p array count true =
    put-ends (value.Object array) (codes "length") (value.Number (pos count)) p then gives (value.Object array)
end_of_array-ends p array count false = gives (value.Object array)

text_literal-ends : (p : Place) (t : List ℕ) → Ends (def.text_literal p t)
text_literal-ends p t = test_text-ends t p then gives (value.Text t)

pattern_literal-ends : (p : Place) (l : Literal) → Ends (def.pattern_literal p l)
pattern_literal-ends p l = test_text-ends l.body p then (make_pattern-ends l p onto (λ pattern.
    define-ends pattern (codes "lastIndex") (value.Number (pos 0)) false false p then gives (value.Object pattern)))

module _ {scoping : Scoping} (words : WordsEnd scoping) (functions : List FunctionTree)
    {go : Within} (ends : WithinEnds go) where
  -- ---- the parts within

  visit-ends : (cx : Context) (e : ExpressionTree) → Ends (visit go cx e)
  visit-ends cx e = ends.value (expression_part cx e)

  refer-ends : (cx : Context) (e : ExpressionTree) → Ends (refer go cx e)
  refer-ends cx e = ends.reference cx e

  calls-end : CallsEnd (calls go)
  calls-end f this vs p = ends.value (call_part f this vs p)

  construct-ends : (f : ObjectId) (vs : List Value) (p : Place) → Ends (construct go f vs p)
  construct-ends f vs p = ends.value (construct_part f vs p)

  -- ---- literals

  items_from-ends : (cx : Context) (p : Place) (array : ObjectId) (count : ℕ) (hole : Bool) (items : Items)
      → Ends (def.items_from scoping functions go cx p array count hole items)
  items_from-ends cx p array count hole no_item = end_of_array-ends p array count hole
  items_from-ends cx p array count hole (an_item absent rest) = items_from-ends cx p array (count + 1) true rest
  items_from-ends cx p array count hole (an_item (present e) rest) =
      visit-ends cx e onto (λ v. define-ends array _ v true true p then items_from-ends cx p array (count + 1) false rest)

  array_literal-ends : (cx : Context) (p : Place) (items : Items)
      → Ends (def.array_literal scoping functions go cx p items)
  array_literal-ends cx p items =
      make-ends kind.Array (Some (built_in_object built_in.ArrayPrototype)) p onto (λ array. items_from-ends cx p array 0 false items)

  properties_from-ends : (cx : Context) (p : Place) (object : ObjectId) (properties : Properties)
      → Ends (def.properties_from scoping functions go cx p object properties)
  properties_from-ends cx p object no_property = gives (value.Object object)
  properties_from-ends cx p object (a_property name e rest) =
      visit-ends cx e onto (λ v. define-ends object name v true true p then properties_from-ends cx p object rest)

  object_literal-ends : (cx : Context) (p : Place) (properties : Properties)
      → Ends (def.object_literal scoping functions go cx p properties)
  object_literal-ends cx p properties =
      make-ends kind.Plain (Some (built_in_object built_in.ObjectPrototype)) p onto (λ object. properties_from-ends cx p object properties)

  function_value_of-ends : (cx : Context) (p : Place) (n : ℕ) (f : Option FunctionTree)
      → Ends (def.function_value_of scoping functions go cx p n f)
  function_value_of-ends cx p n (Some (a_function (Some x) parameters names body)) =
      words.make_scope (itself x.name) cx.scope p onto (λ scope. closure-ends n (arity_of (slice_get functions n)) scope p
      onto (λ f. write_slot-ends scope 0 f then gives f))
  function_value_of-ends cx p n f = closure-ends n (arity_of f) cx.scope p

  function_value-ends : (cx : Context) (p : Place) (n : ℕ) → Ends (def.function_value scoping functions go cx p n)
  function_value-ends cx p n = function_value_of-ends cx p n (slice_get functions n)

  -- ---- members, indexes and calls

  arguments_from-ends : (cx : Context) (done : List Value) (es : Expressions)
      → Ends (def.arguments_from scoping functions go cx done es)
  arguments_from-ends cx done no_expression = gives done
  arguments_from-ends cx done (an_expression e es) = visit-ends cx e onto (λ v. arguments_from-ends cx (done ++ v ∷ []) es)

  name_under-ends : (cx : Context) (base : Value) (e : ExpressionTree) (p : Place)
      → Ends (def.name_under scoping functions go cx base e p)
  name_under-ends cx base e p = visit-ends cx e onto (λ v. test_base-ends base p then to_text-ends (calls go) calls-end v p)

  referred_at-ends : (cx : Context) (v : Value) (s : SuffixTree) → Ends (def.referred_at scoping functions go cx v s)
  referred_at-ends cx v (a_member p name) = test_base-ends v p then gives (to_property p v name)
  referred_at-ends cx v (an_index p e) = name_under-ends cx v e p onto (λ name. gives (to_property p v name))
  referred_at-ends cx v (a_call p es) = gives def.no_reference

  read_with_this-ends : (cx : Context) (r : Reference) → Ends (def.read_with_this scoping functions go cx r)
  read_with_this-ends cx r = read-ends words cx r onto (λ v. gives (def.this_of r, v))

  suffix_at-ends : (cx : Context) (this v : Value) (s : SuffixTree)
      → Ends (def.suffix_at scoping functions go cx this v s)
  suffix_at-ends cx this v (a_call p es) =
      arguments_from-ends cx [] es onto (λ vs. call_value-ends (calls go) calls-end v this vs p onto (λ w. gives (global_object, w)))
  suffix_at-ends cx this v s = referred_at-ends cx v s onto (λ r. read_with_this-ends cx r)

  suffixes_from-ends : (cx : Context) (this v : Value) (ss : Suffixes)
      → Ends (def.suffixes_from scoping functions go cx this v ss)
  suffixes_from-ends cx this v no_suffix = gives v
  suffixes_from-ends cx this v (a_suffix s ss) =
      charges-ends 1 (suffix_place s) then suffix_at-ends cx this v s onto (λ x. suffixes_from-ends cx x.0 x.1 ss)

  with_this-ends : (cx : Context) (e : ExpressionTree) → Ends (def.with_this scoping functions go cx e)
  with_this-ends cx e = either (def.refers_to_property e)
      (refer-ends cx e onto (λ r. read_with_this-ends cx r)) (visit-ends cx e onto (λ v. gives (global_object, v)))

  suffixed-ends : (cx : Context) (first : ExpressionTree) (ss : Suffixes)
      → Ends (def.suffixed scoping functions go cx first ss)
  suffixed-ends cx first ss = with_this-ends cx first onto (λ x. suffixes_from-ends cx x.0 x.1 ss)

  -- ---- what is referred to

  target_suffixes-ends : (cx : Context) (this v : Value) (ss : Suffixes)
      → Ends (def.target_suffixes scoping functions go cx this v ss)
  target_suffixes-ends cx this v no_suffix = gives def.no_reference
  target_suffixes-ends cx this v (a_suffix s no_suffix) = charges-ends 1 (suffix_place s) then referred_at-ends cx v s
  target_suffixes-ends cx this v (a_suffix s (a_suffix t ss)) =
      charges-ends 1 (suffix_place s) then suffix_at-ends cx this v s onto (λ x. target_suffixes-ends cx x.0 x.1 (a_suffix t ss))

  pub target_node-ends : (cx : Context) (e : ExpressionTree) → Ends (def.target_node scoping functions go cx e)
  target_node-ends cx (Name p x) = gives (to_name p x)
  target_node-ends cx (Suffixed p first ss) = with_this-ends cx first onto (λ x. target_suffixes-ends cx x.0 x.1 ss)
  target_node-ends cx e = gives def.no_reference

  -- ---- `new`

  constructed_by-ends : (k : Kind) (id : ObjectId) (vs : List Value) (p : Place)
      → Ends (def.constructed_by scoping functions go k id vs p)
  constructed_by-ends (kind.Function f scope) id vs p = construct-ends id vs p
  constructed_by-ends (kind.Native n) id vs p = either (constructs (native_of n)) (construct-ends id vs p) (halts _)
  constructed_by-ends k id vs p = throw_type_error-ends (codes "not a constructor") p

  constructed-ends : (v : Value) (vs : List Value) (p : Place) → Ends (def.constructed scoping functions go v vs p)
  constructed-ends (value.Object id) vs p = reads (λ m s. refl) (λ s. constructed_by-ends (kind_in (object_at s.heap id)) id vs p)
  constructed-ends v vs p = throw_type_error-ends (codes "not a constructor") p

  new_value-ends : (cx : Context) (p : Place) (callee : ExpressionTree) (es : Expressions)
      → Ends (def.new_value scoping functions go cx p callee es)
  new_value-ends cx p callee es =
      visit-ends cx callee onto (λ f. arguments_from-ends cx [] es onto (λ vs. constructed-ends f vs p))

  -- ---- prefix and postfix operators

  updated-ends : (cx : Context) (p : Place) (f : UpdateForm) (o : UpdateOp) (e : ExpressionTree)
      → Ends (def.updated scoping functions go cx p f o e)
  updated-ends cx p f o e =
      refer-ends cx e onto (λ r. read-ends words cx r onto (λ old. to_number-ends (calls go) calls-end old p
      onto (λ n. stepped-ends (calls go) o n p onto (λ m. write-ends words cx r (value.Number m) p
      then gives (def.given_by f (value.Number n) (value.Number m))))))

  deleted-ends : (cx : Context) (p : Place) (e : ExpressionTree) → Ends (def.deleted scoping functions go cx p e)
  deleted-ends cx p e = either (is_target e)
      (refer-ends cx e onto (λ r. delete-ends words cx r p)) (visit-ends cx e then gives (value.Bool true))

  type_of-ends : (cx : Context) (e : ExpressionTree) → Ends (def.type_of scoping functions go cx e)
  type_of-ends cx (Name p x) = refer-ends cx (Name p x) onto (λ r. read_or_undefined-ends words cx r)
  type_of-ends cx e = visit-ends cx e

  unary_value-ends : (cx : Context) (p : Place) (o : UnaryOp) (e : ExpressionTree)
      → Ends (def.unary_value scoping functions go cx p o e)
  unary_value-ends cx p unary.Delete e = deleted-ends cx p e
  unary_value-ends cx p unary.Void e = visit-ends cx e then gives value.Undefined
  unary_value-ends cx p unary.TypeOf e = type_of-ends cx e onto (λ v. reads (λ m s. refl) (λ s. gives (value.Text (type_text s.heap v))))
  unary_value-ends cx p unary.Plus e =
      visit-ends cx e onto (λ v. to_number-ends (calls go) calls-end v p onto (λ n. gives (value.Number n)))
  unary_value-ends cx p unary.Minus e =
      visit-ends cx e onto (λ v. to_number-ends (calls go) calls-end v p onto (λ n. gives (value.Number (neg_ℤ n))))
  unary_value-ends cx p unary.BitNot e =
      visit-ends cx e onto (λ v. to_bits-ends (calls go) calls-end v p onto (λ n. gives (value.Number (neg_ℤ n -ℤ pos 1))))
  unary_value-ends cx p unary.Not e = visit-ends cx e onto (λ v. gives (value.Bool (not (truth_of v))))

  -- ---- binary operators

  operand_by-ends : (cx : Context) (p : Place) (o : BinaryOp) (v : Value) (e : ExpressionTree)
      → Ends (def.operand_by scoping functions go cx p o v e)
  operand_by-ends cx p op.Or v e = either (truth_of v) (gives v) (visit-ends cx e)
  operand_by-ends cx p op.And v e = either (truth_of v) (visit-ends cx e) (gives v)
  operand_by-ends cx p o v e = visit-ends cx e onto (λ w. binary-ends (calls go) calls-end o v w p)

  operands_from-ends : (cx : Context) (v : Value) (operands : Operands)
      → Ends (def.operands_from scoping functions go cx v operands)
  operands_from-ends cx v no_operand = gives v
  operands_from-ends cx v (an_operand p o e rest) = operand_by-ends cx p o v e onto (λ w. operands_from-ends cx w rest)

  chain-ends : (cx : Context) (first : ExpressionTree) (operands : Operands)
      → Ends (def.chain scoping functions go cx first operands)
  chain-ends cx first operands = visit-ends cx first onto (λ v. operands_from-ends cx v operands)

  -- ---- `?:`, assignment and commas

  conditional-ends : (cx : Context) (c a b : ExpressionTree) → Ends (def.conditional scoping functions go cx c a b)
  conditional-ends cx c a b = visit-ends cx c onto (λ v. either (truth_of v) (visit-ends cx a) (visit-ends cx b))

  assigned_with-ends : (cx : Context) (p : Place) (r : Reference) (o : Option BinaryOp) (e : ExpressionTree)
      → Ends (def.assigned_with scoping functions go cx p r o e)
  assigned_with-ends cx p r None e = visit-ends cx e
  assigned_with-ends cx p r (Some o) e = read-ends words cx r onto (λ old. visit-ends cx e onto (λ v. binary-ends (calls go) calls-end o old v p))

  assigned-ends : (cx : Context) (p : Place) (e : ExpressionTree) (o : AssignOp) (value : ExpressionTree)
      → Ends (def.assigned scoping functions go cx p e o value)
  assigned-ends cx p e o value =
      refer-ends cx e onto (λ r. assigned_with-ends cx p r (assigned_by o) value onto (λ v. write-ends words cx r v p then gives v))

  comma_from-ends : (cx : Context) (v : Value) (es : Expressions) → Ends (def.comma_from scoping functions go cx v es)
  comma_from-ends cx v no_expression = gives v
  comma_from-ends cx v (an_expression e es) = visit-ends cx e onto (λ w. comma_from-ends cx w es)

  -- ---- all of them

  pub expression_node-ends : (cx : Context) (e : ExpressionTree) → Ends (def.expression_node scoping functions go cx e)
  unfolding def.expression_node
  expression_node-ends cx (Number p n) = gives (value.Number n)
  expression_node-ends cx (Characters p t) = text_literal-ends p t
  expression_node-ends cx (Pattern p l) = pattern_literal-ends p l
  expression_node-ends cx (True p) = gives (value.Bool true)
  expression_node-ends cx (False p) = gives (value.Bool false)
  expression_node-ends cx (Null p) = gives value.Null
  expression_node-ends cx (This p) = gives cx.this
  expression_node-ends cx (Name p x) = words.read_name cx x p
  expression_node-ends cx (Array p items) = array_literal-ends cx p items
  expression_node-ends cx (Object p properties) = object_literal-ends cx p properties
  expression_node-ends cx (Function p f) = gives value.Undefined
  expression_node-ends cx (Numbered p n) = function_value-ends cx p n
  expression_node-ends cx (Suffixed p first ss) = suffixed-ends cx first ss
  expression_node-ends cx (New p callee es) = new_value-ends cx p callee es
  expression_node-ends cx (Update p f o e) = updated-ends cx p f o e
  expression_node-ends cx (Unary p o e) = unary_value-ends cx p o e
  expression_node-ends cx (Chain p first operands) = chain-ends cx first operands
  expression_node-ends cx (Conditional p c a b) = conditional-ends cx c a b
  expression_node-ends cx (Assign p e o value) = assigned-ends cx p e o value
  expression_node-ends cx (Comma p es) = comma_from-ends cx value.Undefined es
