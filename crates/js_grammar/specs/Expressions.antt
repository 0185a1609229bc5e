-- The expressions that tokens spell (ECMA-262 5.1, section 11), by plain descent.
use Rattle.std.specs.Prelude.{ℕ, zero, suc, List, [], ◌∷◌, Option, Some, None, Ok, Err, Bool, true, false, ◌&&◌, ◌||◌, codes, if◌then◌else◌}
use Rattle.std.specs.Fmt.{signed_decimal}
use Rattle.js_tree.specs.declared.place.Place.{Place}
use Rattle.js_tree.specs.declared.token.Token.{Token}
use Rattle.js_tree.specs.declared.token.TokenKind.{TokenKind}
use Rattle.js_tree.specs.declared.token.TokenKind.TheVariants as token
use Rattle.js_tree.specs.declared.sign.Sign.{Sign}
use Rattle.js_tree.specs.declared.sign.Sign.TheVariants as sign
use Rattle.js_tree.specs.declared.bound.BoundName.{BoundName}
use Rattle.js_tree.specs.declared.refusal.ReadKind.{ReadKind}
use Rattle.js_tree.specs.declared.refusal.ReadKind.TheVariants.{Unexpected, Unsupported}
use Rattle.js_tree.specs.declared.operators.UnaryOp.{UnaryOp}
use Rattle.js_tree.specs.declared.operators.UpdateForm.TheVariants.{Prefix, Postfix}
use Rattle.js_tree.specs.declared.operators.UpdateOp.{UpdateOp}
use Rattle.js_tree.specs.declared.operators.BinaryOp.{BinaryOp}
use Rattle.js_tree.specs.declared.operators.AssignOp.{AssignOp}
use Rattle.js_tree.specs.declared.expression.Property.{Property}
use Rattle.js_tree.specs.declared.expression.Suffix.{Suffix}
use Rattle.js_tree.specs.declared.expression.SuffixNode.TheVariants as suffix
use Rattle.js_tree.specs.declared.expression.Operand.{Operand}
use Rattle.js_tree.specs.declared.expression.Function.{Function as FunctionRecord}
use Rattle.js_tree.specs.Tree.{ExpressionTree, Number, Characters, Pattern, True, False, Null, This, Name, Array, Object, Function, Suffixed, New, Update, Unary, Chain, Conditional, Assign, Comma, StatementTree, expressions_of, items_of}
use Rattle.js_tree.specs.View.{properties_of, suffixes_of, operands_of, function_of}
use Rattle.js_tree.specs.declared.keyword.Keyword.{Keyword}
use Rattle.js_tree.specs.declared.keyword.Keyword.TheVariants as word
use Rattle.js_grammar.specs.declared.turn.Turn.{Turn}
use Rattle.js_grammar.specs.declared.turn.Turn.TheVariants.{More, End}
use Rattle.js_grammar.specs.declared.form.Form.{Form}
use Rattle.js_grammar.specs.declared.form.Form.TheVariants.{Plain}
use Rattle.js_grammar.specs.declared.form.LeftSide.{LeftSide}
use Rattle.js_grammar.specs.declared.form.LeftSide.TheVariants as side
use Rattle.js_grammar.specs.declared.around.Around.{Around}
use Rattle.js_grammar.specs.Reading.{◌>>=◌}
use Rattle.js_grammar.specs.Words.{same, keyword_of}
use Rattle.js_grammar.specs.Readers.{Reader, row, rest_of, next_sign, place_at, refused, expect, name, any_word, unbound, listed, parted, parameters}
use Rattle.js_grammar.specs.Operators.{next_unary, next_update, next_postfix, next_binary, at_level, next_assign, is_target}

-- The readers of the parts that count as nested: they have less room for nesting.
pub record Deeper : Type 0 where
  -- an assignment expression
  pub value : Form → Reader ExpressionTree
  -- the operand of a prefix operator
  pub operand : Reader ExpressionTree
  -- the callee of `new`
  pub callee : Reader ExpressionTree
  pub statement : Around → Reader StatementTree
  -- a block of `try`
  pub block : Around → Reader StatementTree

-- ---- nodes

-- what commas part; one expression alone is itself
abbrev pub joined : Place → List ExpressionTree → ExpressionTree
joined p [] = Comma p (expressions_of [])
joined p (e ∷ []) = e
joined p (e ∷ f ∷ es) = Comma p (expressions_of (e ∷ f ∷ es))

-- the operators of one level are one node
abbrev pub chained : Place → ExpressionTree → List Operand → ExpressionTree
chained p e [] = e
chained p e (o ∷ os) = Chain p e (operands_of (o ∷ os))

abbrev pub suffixed_by : Place → ExpressionTree → List Suffix → ExpressionTree
suffixed_by p e [] = e
suffixed_by p e (s ∷ ss) = Suffixed p e (suffixes_of (s ∷ ss))

-- ---- words

-- the reserved words whose forms this profile leaves out; another reserved word begins no expression
abbrev pub refused_word : Keyword → ReadKind
refused_word word.Class = Unsupported
refused_word word.Const = Unsupported
refused_word word.Enum = Unsupported
refused_word word.Export = Unsupported
refused_word word.Extends = Unsupported
refused_word word.Import = Unsupported
refused_word word.Super = Unsupported
refused_word word.With = Unsupported
refused_word _ = Unexpected

-- ---- names of properties (11.1.5)

-- a word, reserved or not, a text or a number, as a text
abbrev pub name_in : TokenKind → Option (List ℕ)
name_in (token.Word w) = Some w
name_in (token.Text x) = Some x
name_in (token.Number n) = Some (signed_decimal n)
name_in (token.Pattern l) = None
name_in (token.Sign s) = None

abbrev pub next_name : List Token → Option (List ℕ)
next_name [] = None
next_name (t ∷ ts) = name_in t.kind

abbrev pub has_name : Option (List ℕ) → Bool
has_name None = false
has_name (Some x) = true

abbrev pub is_accessor_word : TokenKind → Bool
is_accessor_word (token.Word w) = same w (codes "get") || same w (codes "set")
is_accessor_word _ = false

-- `get` or `set` before the name of a property
abbrev pub is_accessor : List Token → Bool
is_accessor [] = false
is_accessor (t ∷ ts) = is_accessor_word t.kind && has_name (next_name ts)

-- ---- statements in a row, up to what ends them

abbrev pub is_clause_word : Option Keyword → Bool
is_clause_word (Some word.Case) = true
is_clause_word (Some word.Default) = true
is_clause_word _ = false

abbrev pub closes_in : TokenKind → Bool
closes_in (token.Sign sign.RightBrace) = true
closes_in (token.Word w) = is_clause_word (keyword_of w)
closes_in _ = false

-- `}`, `case`, `default` and the end of the script begin no statement
abbrev pub closes : List Token → Bool
closes [] = true
closes (t ∷ ts) = closes_in t.kind

abbrev pub statement_unless : Deeper → Around → Bool → Reader (Turn StatementTree)
statement_unless d around true ts = Ok (End, ts)
statement_unless d around false ts = do
  one ← d.statement around ts
  Ok (More one.0, one.1)

unfoldable pub a_statement : Deeper → Around → Reader (Turn StatementTree)
a_statement d around ts = statement_unless d around (closes ts) ts

-- around the statements of a function's body
abbrev pub in_function : Around
in_function = record { direct = true; in_function = true; in_loop = false; breakable = false }

-- end: the place after the last unit
module _ (end : Place) where
  -- ---- expressions that commas part (11.14)

  unfoldable pub a_part : Deeper → Form → Reader (Turn ExpressionTree)
  a_part d form ts = do
    value ← d.value form ts
    parted (next_sign value.1) value.0 value.1

  unfoldable pub expression : Deeper → Form → Reader ExpressionTree
  expression d form ts = do
    all ← row (a_part d form) ts
    Ok (joined (place_at end ts) all.0, all.1)

  unfoldable pub in_parentheses : Deeper → Reader ExpressionTree
  in_parentheses d ts = do
    open_bracket ← expect end sign.LeftParenthesis ts
    inside ← expression d Plain open_bracket
    rest ← expect end sign.RightParenthesis inside.1
    Ok (inside.0, rest)

  -- ---- arguments (11.2)

  unfoldable pub an_argument : Deeper → Reader (Turn ExpressionTree)
  an_argument d ts = do
    value ← d.value Plain ts
    listed end sign.RightParenthesis value.0 value.1

  abbrev pub arguments_by : Deeper → Option Sign → Reader (List ExpressionTree)
  arguments_by d (Some sign.RightParenthesis) ts = Ok ([], rest_of ts)
  arguments_by d _ ts = row (an_argument d) ts

  -- arguments behind `(`
  unfoldable pub arguments : Deeper → Reader (List ExpressionTree)
  arguments d ts = arguments_by d (next_sign ts) ts

  -- ---- array literals (11.1.4)

  unfoldable pub item_value : Deeper → Reader (Turn (Option ExpressionTree))
  item_value d ts = do
    value ← d.value Plain ts
    listed end sign.RightBracket (Some value.0) value.1

  abbrev pub item_by : Deeper → Option Sign → Reader (Turn (Option ExpressionTree))
  item_by d (Some sign.RightBracket) ts = Ok (End, rest_of ts)
  item_by d (Some sign.Comma) ts = Ok (More None, rest_of ts)
  item_by d _ ts = item_value d ts

  -- an item or a hole, or the `]` behind the last
  unfoldable pub an_item : Deeper → Reader (Turn (Option ExpressionTree))
  an_item d ts = item_by d (next_sign ts) ts

  -- ---- object literals (11.1.5)

  abbrev pub property_from : Deeper → List ℕ → Reader (Turn Property)
  property_from d called ts = do
    rest ← expect end sign.Colon ts
    value ← d.value Plain rest
    listed end sign.RightBrace (record { name = called; value = value.0 }) value.1

  abbrev pub property_by : Deeper → Option (List ℕ) → Bool → Reader (Turn Property)
  property_by d None accessor ts = refused end Unexpected ts
  property_by d (Some called) true ts = refused end Unsupported ts
  property_by d (Some called) false ts = property_from d called (rest_of ts)

  unfoldable pub named_property : Deeper → Reader (Turn Property)
  named_property d ts = property_by d (next_name ts) (is_accessor ts) ts

  abbrev pub property_or_end : Deeper → Option Sign → Reader (Turn Property)
  property_or_end d (Some sign.RightBrace) ts = Ok (End, rest_of ts)
  property_or_end d _ ts = named_property d ts

  -- a property, or the `}` behind the last
  unfoldable pub a_property : Deeper → Reader (Turn Property)
  a_property d ts = property_or_end d (next_sign ts) ts

  -- ---- functions (13)

  -- a function from its parameters on
  unfoldable pub function_from : Deeper → Option BoundName → Reader FunctionRecord
  function_from d own ts = do
    open_bracket ← expect end sign.LeftParenthesis ts
    given ← parameters end open_bracket
    open_body ← expect end sign.LeftBrace given.1
    body ← row (a_statement d in_function) open_body
    rest ← expect end sign.RightBrace body.1
    Ok (record { name = own; parameters = given.0; names = []; body = body.0 }, rest)

  abbrev pub function_by : Deeper → Option Sign → Reader FunctionRecord
  function_by d (Some sign.LeftParenthesis) ts = function_from d None ts
  function_by d _ ts = do
    called ← name end ts
    function_from d (Some called.0) called.1

  -- a function expression behind its word, with a name or none
  unfoldable pub function_expression : Deeper → Reader FunctionRecord
  function_expression d ts = function_by d (next_sign ts) ts

  -- ---- `new` (11.2.2)

  abbrev pub new_arguments_by : Deeper → Option Sign → Reader (List ExpressionTree)
  new_arguments_by d (Some sign.LeftParenthesis) ts = arguments d (rest_of ts)
  new_arguments_by d _ ts = Ok ([], ts)

  -- arguments in brackets, or none where they are left out
  unfoldable pub new_arguments : Deeper → Reader (List ExpressionTree)
  new_arguments d ts = new_arguments_by d (next_sign ts) ts

  -- `new` behind its word
  unfoldable pub new_expression : Deeper → Place → Reader ExpressionTree
  new_expression d p ts = do
    callee ← d.callee ts
    given ← new_arguments d callee.1
    Ok (New p callee.0 (expressions_of given.0), given.1)

  -- ---- primary expressions (11.1)

  abbrev pub word_value : Deeper → Option Keyword → List ℕ → Place → Reader ExpressionTree
  word_value d None w p ts = Ok (Name p (unbound w), ts)
  word_value d (Some word.This) w p ts = Ok (This p, ts)
  word_value d (Some word.Null) w p ts = Ok (Null p, ts)
  word_value d (Some word.True) w p ts = Ok (True p, ts)
  word_value d (Some word.False) w p ts = Ok (False p, ts)
  word_value d (Some word.New) w p ts = new_expression d p ts
  word_value d (Some word.Function) w p ts = do
    f ← function_expression d ts
    Ok (Function p (function_of f.0), f.1)
  word_value d (Some k) w p ts = Err (refused_word k, p)

  abbrev pub sign_value : Deeper → Sign → Place → List Token → Reader ExpressionTree
  sign_value d sign.LeftParenthesis p all ts = in_parentheses d all
  sign_value d sign.LeftBracket p all ts = do
    items ← row (an_item d) ts
    Ok (Array p (items_of items.0), items.1)
  sign_value d sign.LeftBrace p all ts = do
    properties ← row (a_property d) ts
    Ok (Object p (properties_of properties.0), properties.1)
  sign_value d _ p all ts = Err (Unexpected, p)

  abbrev pub primary_by : Deeper → TokenKind → Place → List Token → Reader ExpressionTree
  primary_by d (token.Number n) p all ts = Ok (Number p n, ts)
  primary_by d (token.Text x) p all ts = Ok (Characters p x, ts)
  primary_by d (token.Pattern l) p all ts = Ok (Pattern p l, ts)
  primary_by d (token.Word w) p all ts = word_value d (keyword_of w) w p ts
  primary_by d (token.Sign s) p all ts = sign_value d s p all ts

  unfoldable pub primary : Deeper → Reader ExpressionTree
  primary d [] = Err (Unexpected, end)
  primary d (t ∷ ts) = primary_by d t.kind t.place (t ∷ ts) ts

  -- ---- members, indexes and calls (11.2)

  abbrev pub suffix_by : Deeper → LeftSide → Option Sign → Reader (Turn Suffix)
  suffix_by d _ (Some sign.Dot) ts = do
    called ← any_word end (rest_of ts)
    Ok (More (record { place = place_at end ts; node = suffix.Member called.0 }), called.1)
  suffix_by d _ (Some sign.LeftBracket) ts = do
    index ← expression d Plain (rest_of ts)
    rest ← expect end sign.RightBracket index.1
    Ok (More (record { place = place_at end ts; node = suffix.Index index.0 }), rest)
  suffix_by d side.Call (Some sign.LeftParenthesis) ts = do
    given ← arguments d (rest_of ts)
    Ok (More (record { place = place_at end ts; node = suffix.Call given.0 }), given.1)
  suffix_by d _ _ ts = Ok (End, ts)

  -- a suffix, where one begins here
  unfoldable pub a_suffix : Deeper → LeftSide → Reader (Turn Suffix)
  a_suffix d left ts = suffix_by d left (next_sign ts) ts

  unfoldable pub suffixed : Deeper → LeftSide → Reader ExpressionTree
  suffixed d left ts = do
    first ← primary d ts
    others ← row (a_suffix d left) first.1
    Ok (suffixed_by (place_at end ts) first.0 others.0, others.1)

  -- ---- operators with one operand (11.3, 11.4)

  abbrev pub postfix_by : Option UpdateOp → ExpressionTree → Reader ExpressionTree
  postfix_by None e ts = Ok (e, ts)
  postfix_by (Some op) e ts =
      if is_target e then Ok (Update (place_at end ts) Postfix op e, rest_of ts) else refused end Unexpected ts

  unfoldable pub postfix : Deeper → Reader ExpressionTree
  postfix d ts = do
    target ← suffixed d side.Call ts
    postfix_by (next_postfix target.1) target.0 target.1

  abbrev pub updated : UpdateOp → ExpressionTree → List Token → Reader ExpressionTree
  updated op e ts rest = if is_target e then Ok (Update (place_at end ts) Prefix op e, rest) else refused end Unexpected ts

  abbrev pub unary_by : Deeper → Option UnaryOp → Option UpdateOp → Reader ExpressionTree
  unary_by d (Some op) _ ts = do
    of ← d.operand (rest_of ts)
    Ok (Unary (place_at end ts) op of.0, of.1)
  unary_by d None (Some op) ts = do
    of ← d.operand (rest_of ts)
    updated op of.0 ts of.1
  unary_by d None None ts = postfix d ts

  unfoldable pub unary : Deeper → Reader ExpressionTree
  unary d ts = unary_by d (next_unary ts) (next_update ts) ts

  -- ---- binary operators (11.5 to 11.11)

  abbrev pub operand_by : Option BinaryOp → Reader ExpressionTree → Reader (Turn Operand)
  operand_by None next ts = Ok (End, ts)
  operand_by (Some op) next ts = do
    value ← next (rest_of ts)
    Ok (More (record { place = place_at end ts; op = op; value = value.0 }), value.1)

  -- an operator of a level with its operand, where one stands here
  unfoldable pub an_operand : Form → ℕ → Reader ExpressionTree → Reader (Turn Operand)
  an_operand form k next ts = operand_by (at_level k (next_binary form ts)) next ts

  unfoldable pub chain : Form → ℕ → Reader ExpressionTree → Reader ExpressionTree
  chain form k next ts = do
    first ← next ts
    others ← row (an_operand form k next) first.1
    Ok (chained (place_at end ts) first.0 others.0, others.1)

  -- the operators of the levels below k
  unfoldable pub level : Deeper → Form → ℕ → Reader ExpressionTree
  level d form zero = unary d
  level d form (suc k) = chain form k (level d form k)

  -- ---- `? :` and assignment (11.12, 11.13)

  abbrev pub conditional_by : Deeper → Form → Option Sign → Place → ExpressionTree → Reader ExpressionTree
  conditional_by d form (Some sign.Question) p condition ts = do
    where_true ← d.value form (rest_of ts)
    colon ← expect end sign.Colon where_true.1
    where_false ← d.value form colon
    Ok (Conditional p condition where_true.0 where_false.0, where_false.1)
  conditional_by d form _ p condition ts = Ok (condition, ts)

  unfoldable pub conditional : Deeper → Form → Reader ExpressionTree
  conditional d form ts = do
    condition ← level d form 10 ts
    conditional_by d form (next_sign condition.1) (place_at end ts) condition.0 condition.1

  abbrev pub assigned_by : Deeper → Form → Option AssignOp → ExpressionTree → Reader ExpressionTree
  assigned_by d form None e ts = Ok (e, ts)
  assigned_by d form (Some op) e ts = if is_target e then (do
    value ← d.value form (rest_of ts)
    Ok (Assign (place_at end ts) e op value.0, value.1)) else refused end Unexpected ts

  unfoldable pub assignment : Deeper → Form → Reader ExpressionTree
  assignment d form ts = do
    target ← conditional d form ts
    assigned_by d form (next_assign target.1) target.0 target.1
