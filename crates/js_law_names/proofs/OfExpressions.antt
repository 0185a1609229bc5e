-- Expressions, where the parts that they visit agree.
use Rattle.std.proofs.Common.{◌≡◌, refl, sym, ◌∙◌, ap, subst, map, length, zero, suc, ℕ, ◌+◌, pos, List, [], ◌∷◌, ◌++◌, Bool, true, false, Option, Some, None}
use Rattle.std.specs.Prelude.{option_map, neg_ℤ, ◌-ℤ◌, not, slice_get, codes}
use Rattle.js_tree.specs.declared.place.Place.{Place}
use Rattle.js_tree.specs.declared.bound.BoundName.{BoundName}
use Rattle.js_tree.specs.declared.operators.BinaryOp.{BinaryOp}
use Rattle.js_tree.specs.declared.operators.BinaryOp.TheVariants as op
use Rattle.js_tree.specs.declared.operators.AssignOp.{AssignOp}
use Rattle.js_tree.specs.declared.operators.UnaryOp.{UnaryOp}
use Rattle.js_tree.specs.declared.operators.UnaryOp.TheVariants as unary
use Rattle.js_tree.specs.declared.operators.UpdateForm.{UpdateForm}
use Rattle.js_tree.specs.declared.operators.UpdateOp.{UpdateOp}
use Rattle.js_tree.specs.Tree.{ExpressionTree, Number, Characters, Pattern, True, False, Null, This, Name, Array, Object, Function, Numbered, Suffixed, New, Update, Unary, Chain, Conditional, Assign, Comma, absent, present, Expressions, no_expression, an_expression, Items, no_item, an_item, Properties, no_property, a_property, SuffixTree, a_member, an_index, a_call, Suffixes, no_suffix, a_suffix, Operands, no_operand, an_operand, FunctionTree, a_function}
use Rattle.js_grammar.specs.Operators.{ends_in_part, is_target}
use Rattle.js_pattern_reader.specs.Literal.{Literal}
use Rattle.js_binding.specs.Scopes.{Scope, itself}
use Rattle.js_binding.specs.Source.{unbound}
use Rattle.js_binding.specs.Resolved.{around_function}
use Rattle.heap_values.specs.declared.ids.Kind.{Kind}
use Rattle.heap_values.specs.declared.ids.Kind.TheVariants as kind
use Rattle.heap_values.specs.declared.ids.ObjectId.{ObjectId}
use Rattle.heap_values.specs.declared.ids.ScopeId.{ScopeId}
use Rattle.heap_values.specs.declared.built_in.BuiltIn.TheVariants as built_in
use Rattle.heap_values.specs.declared.value.Value.{Value}
use Rattle.heap_values.specs.declared.value.Value.TheVariants as value
use Rattle.object_heap.specs.Heap.{object_at, kind_in}
use Rattle.js_convert.specs.Numeric.{truth_of}
use Rattle.js_evaluation.specs.State.{RunState, charge, built_in_object, global_object}
use Rattle.js_evaluation.specs.Objects.{Context, arity_of, closure}
use Rattle.js_evaluation.specs.Scoping.{by_names, by_slots}
use Rattle.js_evaluation.specs.Parts.{expression_part, call_part, construct_part, Reference, Within, visit, refer, calls, suffix_place}
use Rattle.js_evaluation.specs.Conversions.{assigned_by, type_text}
use Rattle.js_evaluation.specs.NativeTable.{constructs, native_of}
use Rattle.js_evaluation.specs.Expressions as def
use Rattle.js_law_right.specs.EachIn.{EachInExpression, EachInExpressions, EachInItems, EachInProperties, EachInSuffix, EachInSuffixes, EachInOperands}
use Rattle.js_law_right.specs.Right.{Setting, right, own_in}
use Rattle.js_law_right.specs.Unbound.{expression_unbound, expressions_unbound, items_unbound, properties_unbound, suffix_unbound, suffixes_unbound, operands_unbound, function_unbound}
use Rattle.js_law_names.proofs.Worlds.{Shape}
use Rattle.js_law_names.proofs.Agreeing.{Agrees, along, gives, halts, sees, later, ◌onto◌, ◌then◌, either, either_same}
use Rattle.js_law_names.proofs.OfState.{charges-agrees, make-agrees, make_pattern-agrees, define-agrees, write_slot-agrees, test_text-agrees, throw_type_error-agrees}
use Rattle.js_law_names.proofs.OfObjects.{put-agrees, test_base-agrees}
use Rattle.js_law_names.proofs.OfConversions.{CallsAgree, call_value-agrees, to_text-agrees, to_number-agrees, to_bits-agrees, binary-agrees, stepped-agrees}
use Rattle.js_law_names.proofs.OfNames.{closes, in_new_scope, reads_name}
use Rattle.js_law_names.proofs.OfReferences.{SameReference, same_name, same_property, read-agrees, read_or_undefined-agrees, write-agrees, delete-agrees, gives_with_this, ReferencesAgree, refers_to, refers_to_nothing, ◌referring◌, ◌onto_reference◌}
use Rattle.js_law_names.proofs.OfParts.{bare, WithinAgrees, suffix_stays}

pub get_map : (functions : List FunctionTree) (n : ℕ)
    → slice_get (bare functions) n ≡ option_map function_unbound (slice_get functions n)
get_map [] n = refl
get_map (f ∷ functions) zero = refl
get_map (f ∷ functions) (suc n) = get_map functions n

length_same : (xs : List BoundName) → length (map unbound xs) ≡ length xs
length_same [] = refl
length_same (x ∷ xs) = ap suc (length_same xs)

arity_bare : (o : Option FunctionTree) → arity_of (option_map function_unbound o) ≡ arity_of o
arity_bare None = refl
arity_bare (Some (a_function own parameters names body)) = length_same parameters

arity_same : (functions : List FunctionTree) (n : ℕ)
    → arity_of (slice_get (bare functions) n) ≡ arity_of (slice_get functions n)
arity_same functions n = ap arity_of (get_map functions n) ∙ arity_bare (slice_get functions n)

-- the function of a number is made in scopes that stand around it
pub closes_numbered : {setting : ℕ → Setting} (functions : List FunctionTree) (z : RunState) (n : ℕ) (scope : ScopeId) (p : Place)
    → Shape z.names z.heap.scopes scope (setting n).around
    → Agrees setting z (closure n (arity_of (slice_get (bare functions) n)) scope p)
    (closure n (arity_of (slice_get functions n)) scope p)
closes_numbered functions z n scope p shape =
    along (λ k. closure n k scope p) (sym (arity_same functions n)) (closes n (arity_of (slice_get functions n)) scope p shape)

part_same : (b : Bool) (ss : Suffixes) → ends_in_part b (suffixes_unbound ss) ≡ ends_in_part b ss
part_same b no_suffix = refl
part_same b (a_suffix (a_member p x) ss) = part_same true ss
part_same b (a_suffix (an_index p e) ss) = part_same true ss
part_same b (a_suffix (a_call p es) ss) = part_same false ss

target_same : (e : ExpressionTree) → is_target (expression_unbound e) ≡ is_target e
target_same (Suffixed p e ss) = part_same false ss
target_same e = refl

property_same : (e : ExpressionTree) → def.refers_to_property (expression_unbound e) ≡ def.refers_to_property e
property_same (Suffixed p e ss) = part_same false ss
property_same e = refl

module _ {setting : ℕ → Setting} (functions : List FunctionTree) (owns : (n : ℕ) → own_in (slice_get functions n) ≡ (setting n).own)
    (go go' : Within) (agrees : WithinAgrees setting go go') where
  calls_agree : CallsAgree setting (calls go) (calls go')
  calls_agree z f this vs p = agrees.value z (call_part f this vs p) tt

  module _ (z : RunState) (cx : Context) (xs : List Scope) (shape : Shape z.names z.heap.scopes cx.scope xs) where
    visits : (e : ExpressionTree) → EachInExpression (right setting) xs e
        → Agrees setting z (visit go cx (expression_unbound e)) (visit go' cx e)
    visits e r = agrees.value z (expression_part cx e) (xs, shape, r)

    refers : (e : ExpressionTree) → EachInExpression (right setting) xs e
        → ReferencesAgree setting xs z (refer go cx (expression_unbound e)) (refer go' cx e)
    refers e r = agrees.reference z cx xs shape e r

    -- ---- literals

    end_of_array-agrees : (p : Place) (array : ObjectId) (count : ℕ) (hole : Bool)
        → Agrees setting z (def.end_of_array p array count hole) (def.end_of_array p array count hole)
    end_of_array-agrees p array count true = put-agrees (value.Object array) (codes "length") (value.Number (pos count)) p then gives (value.Object array)
    end_of_array-agrees p array count false = gives (value.Object array)

    items_from-agrees : (p : Place) (array : ObjectId) (count : ℕ) (hole : Bool) (items : Items)
        → EachInItems (right setting) xs items
        → Agrees setting z (def.items_from by_names (bare functions) go cx p array count hole (items_unbound items))
        (def.items_from by_slots functions go' cx p array count hole items)
    items_from-agrees p array count hole no_item r = end_of_array-agrees p array count hole
    items_from-agrees p array count hole (an_item absent rest) r = items_from-agrees p array (count + 1) true rest r.1
    items_from-agrees p array count hole (an_item (present e) rest) r =
        visits e r.0 onto (λ v. define-agrees array _ v true true p then items_from-agrees p array (count + 1) false rest r.1)

    array_literal-agrees : (p : Place) (items : Items) → EachInItems (right setting) xs items
        → Agrees setting z (def.array_literal by_names (bare functions) go cx p (items_unbound items))
        (def.array_literal by_slots functions go' cx p items)
    array_literal-agrees p items r =
        make-agrees kind.Array (Some (built_in_object built_in.ArrayPrototype)) p (λ _n _i e. cc) onto (λ array. items_from-agrees p array 0 false items r)

    properties_from-agrees : (p : Place) (object : ObjectId) (properties : Properties)
        → EachInProperties (right setting) xs properties
        → Agrees setting z (def.properties_from by_names (bare functions) go cx p object (properties_unbound properties))
        (def.properties_from by_slots functions go' cx p object properties)
    properties_from-agrees p object no_property r = gives (value.Object object)
    properties_from-agrees p object (a_property name e rest) r =
        visits e r.0 onto (λ v. define-agrees object name v true true p then properties_from-agrees p object rest r.1)

    object_literal-agrees : (p : Place) (properties : Properties) → EachInProperties (right setting) xs properties
        → Agrees setting z (def.object_literal by_names (bare functions) go cx p (properties_unbound properties))
        (def.object_literal by_slots functions go' cx p properties)
    object_literal-agrees p properties r =
        make-agrees kind.Plain (Some (built_in_object built_in.ObjectPrototype)) p (λ _n _i e. cc) onto (λ object. properties_from-agrees p object properties r)

    text_literal-agrees : (p : Place) (t : List ℕ) → Agrees setting z (def.text_literal p t) (def.text_literal p t)
    text_literal-agrees p t = test_text-agrees t p then gives (value.Text t)

    pattern_literal-agrees : (p : Place) (l : Literal)
        → Agrees setting z (def.pattern_literal p l) (def.pattern_literal p l)
    pattern_literal-agrees p l = test_text-agrees l.body p then (make_pattern-agrees l p onto (λ pattern.
        define-agrees pattern (codes "lastIndex") (value.Number (pos 0)) false false p then gives (value.Object pattern)))

    -- ---- functions

    function_value_of-agrees : (p : Place) (n : ℕ) (o : Option FunctionTree)
        → (setting n).around ≡ around_function xs (own_in o)
        → Agrees setting z (def.function_value_of by_names (bare functions) go cx p n (option_map function_unbound o))
        (def.function_value_of by_slots functions go' cx p n o)
    function_value_of-agrees p n None r = closes n 0 cx.scope p (subst (Shape z.names z.heap.scopes cx.scope) (sym r) shape)
    function_value_of-agrees p n (Some (a_function None parameters names body)) r =
        along (λ k. closure n k cx.scope p) (sym (length_same parameters))
        (closes n (length parameters) cx.scope p (subst (Shape z.names z.heap.scopes cx.scope) (sym r) shape))
    function_value_of-agrees p n (Some (a_function (Some x) parameters names body)) r = in_new_scope (itself x.name) cx.scope xs p shape (λ u i l inner.
        closes_numbered functions u n i p (subst (Shape u.names u.heap.scopes i) (sym r) inner) onto (λ f. write_slot-agrees i 0 f then gives f))

    function_value-agrees : (p : Place) (n : ℕ) → (setting n).around ≡ around_function xs (setting n).own
        → Agrees setting z (def.function_value by_names (bare functions) go cx p n)
        (def.function_value by_slots functions go' cx p n)
    function_value-agrees p n r =
        along (λ o. def.function_value_of by_names (bare functions) go cx p n o) (sym (get_map functions n))
        (function_value_of-agrees p n (slice_get functions n) (r ∙ ap (around_function xs) (sym (owns n))))

    -- ---- members, indexes and calls

    arguments_from-agrees : (done : List Value) (es : Expressions) → EachInExpressions (right setting) xs es
        → Agrees setting z (def.arguments_from by_names (bare functions) go cx done (expressions_unbound es))
        (def.arguments_from by_slots functions go' cx done es)
    arguments_from-agrees done no_expression r = gives done
    arguments_from-agrees done (an_expression e es) r = visits e r.0 onto (λ v. arguments_from-agrees (done ++ v ∷ []) es r.1)

    name_under-agrees : (base : Value) (e : ExpressionTree) (p : Place) → EachInExpression (right setting) xs e
        → Agrees setting z (def.name_under by_names (bare functions) go cx base (expression_unbound e) p)
        (def.name_under by_slots functions go' cx base e p)
    name_under-agrees base e p r = visits e r onto (λ v. test_base-agrees base p then to_text-agrees (calls go) (calls go') calls_agree v p)

    referred_at-agrees : (v : Value) (s : SuffixTree) → EachInSuffix (right setting) xs s
        → ReferencesAgree setting xs z (def.referred_at by_names (bare functions) go cx v (suffix_unbound s))
        (def.referred_at by_slots functions go' cx v s)
    referred_at-agrees v (a_member p name) r = test_base-agrees v p referring (λ _. refers_to (same_property p v name))
    referred_at-agrees v (an_index p e) r = name_under-agrees v e p r referring (λ name. refers_to (same_property p v name))
    referred_at-agrees v (a_call p es) r = refers_to_nothing

    read_with_this-agrees : {x y : Reference} → SameReference xs x y
        → Agrees setting z (def.read_with_this by_names (bare functions) go cx x)
        (def.read_with_this by_slots functions go' cx y)
    read_with_this-agrees same = read-agrees z cx xs shape same onto (λ v. gives_with_this same v)

    suffix_charges : (s : SuffixTree) → Agrees setting z (charge (suffix_place (suffix_unbound s))) (charge (suffix_place s))
    suffix_charges s = along charge (suffix_stays s) (charges-agrees 1 (suffix_place s))

    suffix_at-agrees : (this v : Value) (s : SuffixTree) → EachInSuffix (right setting) xs s
        → Agrees setting z (def.suffix_at by_names (bare functions) go cx this v (suffix_unbound s))
        (def.suffix_at by_slots functions go' cx this v s)
    suffix_at-agrees this v (a_call p es) r =
        arguments_from-agrees [] es r onto (λ vs. call_value-agrees (calls go) (calls go') calls_agree v this vs p onto (λ w. gives (global_object, w)))
    suffix_at-agrees this v s r = referred_at-agrees v s r onto_reference (λ x y same. read_with_this-agrees same)

    suffixes_from-agrees : (this v : Value) (ss : Suffixes) → EachInSuffixes (right setting) xs ss
        → Agrees setting z (def.suffixes_from by_names (bare functions) go cx this v (suffixes_unbound ss))
        (def.suffixes_from by_slots functions go' cx this v ss)
    suffixes_from-agrees this v no_suffix r = gives v
    suffixes_from-agrees this v (a_suffix s ss) r =
        suffix_charges s then suffix_at-agrees this v s r.0 onto (λ x. suffixes_from-agrees x.0 x.1 ss r.1)

    with_this-agrees : (e : ExpressionTree) → EachInExpression (right setting) xs e
        → Agrees setting z (def.with_this by_names (bare functions) go cx (expression_unbound e))
        (def.with_this by_slots functions go' cx e)
    with_this-agrees e r = either_same (def.refers_to_property e) (property_same e)
        (refers e r onto_reference (λ x y same. read_with_this-agrees same))
        (visits e r onto (λ v. gives (global_object, v)))

    suffixed-agrees : (first : ExpressionTree) (ss : Suffixes) → EachInExpression (right setting) xs first
        → EachInSuffixes (right setting) xs ss
        → Agrees setting z (def.suffixed by_names (bare functions) go cx (expression_unbound first) (suffixes_unbound ss))
        (def.suffixed by_slots functions go' cx first ss)
    suffixed-agrees first ss r q = with_this-agrees first r onto (λ x. suffixes_from-agrees x.0 x.1 ss q)

    -- ---- what is referred to

    target_suffixes-agrees : (this v : Value) (ss : Suffixes) → EachInSuffixes (right setting) xs ss
        → ReferencesAgree setting xs z (def.target_suffixes by_names (bare functions) go cx this v (suffixes_unbound ss))
        (def.target_suffixes by_slots functions go' cx this v ss)
    target_suffixes-agrees this v no_suffix r = refers_to_nothing
    target_suffixes-agrees this v (a_suffix s no_suffix) r = suffix_charges s referring (λ _. referred_at-agrees v s r.0)
    target_suffixes-agrees this v (a_suffix s (a_suffix t ss)) r =
        suffix_charges s then suffix_at-agrees this v s r.0 referring (λ x. target_suffixes-agrees x.0 x.1 (a_suffix t ss) r.1)

    pub target_node-agrees : (e : ExpressionTree) → EachInExpression (right setting) xs e
        → ReferencesAgree setting xs z (def.target_node by_names (bare functions) go cx (expression_unbound e))
        (def.target_node by_slots functions go' cx e)
    target_node-agrees (Name p x) r = refers_to (same_name p x r)
    target_node-agrees (Suffixed p first ss) r = with_this-agrees first r.0 referring (λ x. target_suffixes-agrees x.0 x.1 ss r.1)
    target_node-agrees e r = refers_to_nothing

    -- ---- `new`

    constructed_by-agrees : (k : Kind) (id : ObjectId) (vs : List Value) (p : Place)
        → Agrees setting z (def.constructed_by by_names (bare functions) go k id vs p)
        (def.constructed_by by_slots functions go' k id vs p)
    constructed_by-agrees (kind.Function f scope) id vs p = agrees.value z (construct_part id vs p) tt
    constructed_by-agrees (kind.Native n) id vs p = either (constructs (native_of n)) (agrees.value z (construct_part id vs p) tt) (halts _)
    constructed_by-agrees k id vs p = throw_type_error-agrees (codes "not a constructor") p

    constructed-agrees : (v : Value) (vs : List Value) (p : Place)
        → Agrees setting z (def.constructed by_names (bare functions) go v vs p)
        (def.constructed by_slots functions go' v vs p)
    constructed-agrees (value.Object id) vs p = sees (λ u l _f. later z u l (constructed_by-agrees (kind_in (object_at u.heap id)) id vs p)) (λ u. refl)
    constructed-agrees v vs p = throw_type_error-agrees (codes "not a constructor") p

    new_value-agrees : (p : Place) (callee : ExpressionTree) (es : Expressions) → EachInExpression (right setting) xs callee
        → EachInExpressions (right setting) xs es
        → Agrees setting z (def.new_value by_names (bare functions) go cx p (expression_unbound callee) (expressions_unbound es))
        (def.new_value by_slots functions go' cx p callee es)
    new_value-agrees p callee es r q = visits callee r onto (λ f. arguments_from-agrees [] es q onto (λ vs. constructed-agrees f vs p))

    -- ---- prefix and postfix operators

    updated-agrees : (p : Place) (f : UpdateForm) (o : UpdateOp) (e : ExpressionTree) → EachInExpression (right setting) xs e
        → Agrees setting z (def.updated by_names (bare functions) go cx p f o (expression_unbound e))
        (def.updated by_slots functions go' cx p f o e)
    updated-agrees p f o e r = refers e r onto_reference (λ x y same. read-agrees z cx xs shape same
        onto (λ old. to_number-agrees (calls go) (calls go') calls_agree old p
        onto (λ n. stepped-agrees (calls go) (calls go') o n p onto (λ m. write-agrees z cx xs shape same (value.Number m) p
        then gives (def.given_by f (value.Number n) (value.Number m))))))

    deleted-agrees : (p : Place) (e : ExpressionTree) → EachInExpression (right setting) xs e
        → Agrees setting z (def.deleted by_names (bare functions) go cx p (expression_unbound e))
        (def.deleted by_slots functions go' cx p e)
    deleted-agrees p e r = either_same (is_target e) (target_same e)
        (refers e r onto_reference (λ x y same. delete-agrees z cx xs shape same p))
        (visits e r then gives (value.Bool true))

    type_of-agrees : (e : ExpressionTree) → EachInExpression (right setting) xs e
        → Agrees setting z (def.type_of by_names (bare functions) go cx (expression_unbound e))
        (def.type_of by_slots functions go' cx e)
    type_of-agrees (Name p x) r = refers (Name p x) r onto_reference (λ x y same. read_or_undefined-agrees z cx xs shape same)
    type_of-agrees e r = visits e r

    unary_value-agrees : (p : Place) (o : UnaryOp) (e : ExpressionTree) → EachInExpression (right setting) xs e
        → Agrees setting z (def.unary_value by_names (bare functions) go cx p o (expression_unbound e))
        (def.unary_value by_slots functions go' cx p o e)
    unary_value-agrees p unary.Delete e r = deleted-agrees p e r
    unary_value-agrees p unary.Void e r = visits e r then gives value.Undefined
    unary_value-agrees p unary.TypeOf e r = type_of-agrees e r onto (λ v. sees (λ u l _f. later z u l (gives (value.Text (type_text u.heap v)))) (λ u. refl))
    unary_value-agrees p unary.Plus e r = visits e r onto (λ v. to_number-agrees (calls go) (calls go') calls_agree v p onto (λ n. gives (value.Number n)))
    unary_value-agrees p unary.Minus e r = visits e r onto (λ v. to_number-agrees (calls go) (calls go') calls_agree v p onto (λ n. gives (value.Number (neg_ℤ n))))
    unary_value-agrees p unary.BitNot e r = visits e r onto (λ v. to_bits-agrees (calls go) (calls go') calls_agree v p onto (λ n. gives (value.Number (neg_ℤ n -ℤ pos 1))))
    unary_value-agrees p unary.Not e r = visits e r onto (λ v. gives (value.Bool (not (truth_of v))))

    -- ---- binary operators

    operand_by-agrees : (p : Place) (o : BinaryOp) (v : Value) (e : ExpressionTree) → EachInExpression (right setting) xs e
        → Agrees setting z (def.operand_by by_names (bare functions) go cx p o v (expression_unbound e))
        (def.operand_by by_slots functions go' cx p o v e)
    operand_by-agrees p op.Or v e r = either (truth_of v) (gives v) (visits e r)
    operand_by-agrees p op.And v e r = either (truth_of v) (visits e r) (gives v)
    operand_by-agrees p o v e r = visits e r onto (λ w. binary-agrees (calls go) (calls go') calls_agree o v w p)

    operands_from-agrees : (v : Value) (operands : Operands) → EachInOperands (right setting) xs operands
        → Agrees setting z (def.operands_from by_names (bare functions) go cx v (operands_unbound operands))
        (def.operands_from by_slots functions go' cx v operands)
    operands_from-agrees v no_operand r = gives v
    operands_from-agrees v (an_operand p o e rest) r = operand_by-agrees p o v e r.0 onto (λ w. operands_from-agrees w rest r.1)

    chain-agrees : (first : ExpressionTree) (operands : Operands) → EachInExpression (right setting) xs first
        → EachInOperands (right setting) xs operands
        → Agrees setting z (def.chain by_names (bare functions) go cx (expression_unbound first) (operands_unbound operands))
        (def.chain by_slots functions go' cx first operands)
    chain-agrees first operands r q = visits first r onto (λ v. operands_from-agrees v operands q)

    -- ---- `?:`, assignment and commas

    conditional-agrees : (c a b : ExpressionTree) → EachInExpression (right setting) xs c
        → EachInExpression (right setting) xs a → EachInExpression (right setting) xs b
        → Agrees setting z (def.conditional by_names (bare functions) go cx (expression_unbound c) (expression_unbound a) (expression_unbound b))
        (def.conditional by_slots functions go' cx c a b)
    conditional-agrees c a b r q s = visits c r onto (λ v. either (truth_of v) (visits a q) (visits b s))

    assigned_with-agrees : (p : Place) {x y : Reference} → SameReference xs x y → (o : Option BinaryOp) (e : ExpressionTree)
        → EachInExpression (right setting) xs e
        → Agrees setting z (def.assigned_with by_names (bare functions) go cx p x o (expression_unbound e))
        (def.assigned_with by_slots functions go' cx p y o e)
    assigned_with-agrees p same None e r = visits e r
    assigned_with-agrees p same (Some o) e r =
        read-agrees z cx xs shape same onto (λ old. visits e r onto (λ v. binary-agrees (calls go) (calls go') calls_agree o old v p))

    assigned-agrees : (p : Place) (e : ExpressionTree) (o : AssignOp) (v : ExpressionTree)
        → EachInExpression (right setting) xs e → EachInExpression (right setting) xs v
        → Agrees setting z (def.assigned by_names (bare functions) go cx p (expression_unbound e) o (expression_unbound v))
        (def.assigned by_slots functions go' cx p e o v)
    assigned-agrees p e o v r s = refers e r onto_reference (λ x y same. assigned_with-agrees p same (assigned_by o) v s
        onto (λ w. write-agrees z cx xs shape same w p then gives w))

    comma_from-agrees : (v : Value) (es : Expressions) → EachInExpressions (right setting) xs es
        → Agrees setting z (def.comma_from by_names (bare functions) go cx v (expressions_unbound es))
        (def.comma_from by_slots functions go' cx v es)
    comma_from-agrees v no_expression r = gives v
    comma_from-agrees v (an_expression e es) r = visits e r.0 onto (λ w. comma_from-agrees w es r.1)

    -- ---- all of them

    pub expression_node-agrees : (e : ExpressionTree) → EachInExpression (right setting) xs e
        → Agrees setting z (def.expression_node by_names (bare functions) go cx (expression_unbound e))
        (def.expression_node by_slots functions go' cx e)
    unfolding def.expression_node
    expression_node-agrees (Number p n) r = gives (value.Number n)
    expression_node-agrees (Characters p t) r = text_literal-agrees p t
    expression_node-agrees (Pattern p l) r = pattern_literal-agrees p l
    expression_node-agrees (True p) r = gives (value.Bool true)
    expression_node-agrees (False p) r = gives (value.Bool false)
    expression_node-agrees (Null p) r = gives value.Null
    expression_node-agrees (This p) r = gives cx.this
    expression_node-agrees (Name p x) r = reads_name cx xs x p shape r
    expression_node-agrees (Array p items) r = array_literal-agrees p items r
    expression_node-agrees (Object p properties) r = object_literal-agrees p properties r
    expression_node-agrees (Function p f) r = gives value.Undefined
    expression_node-agrees (Numbered p n) r = function_value-agrees p n r
    expression_node-agrees (Suffixed p first ss) r = suffixed-agrees first ss r.0 r.1
    expression_node-agrees (New p callee es) r = new_value-agrees p callee es r.0 r.1
    expression_node-agrees (Update p f o e) r = updated-agrees p f o e r
    expression_node-agrees (Unary p o e) r = unary_value-agrees p o e r
    expression_node-agrees (Chain p first operands) r = chain-agrees first operands r.0 r.1
    expression_node-agrees (Conditional p c a b) r = conditional-agrees c a b r.0 r.1 r.2
    expression_node-agrees (Assign p e o v) r = assigned-agrees p e o v r.0 r.1
    expression_node-agrees (Comma p es) r = comma_from-agrees value.Undefined es r
