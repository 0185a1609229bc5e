-- The induction: the readers of expressions keep what the rules hold of, where the readers of nested parts do.
use Rattle.std.proofs.Common.{◌≡◌, ℕ, zero, suc, List, [], ◌∷◌, length, Option, Some, None, Bool, true, false, refl, ap, ◌∙◌, arith}
use Rattle.std.specs.Prelude.{map}
use Rattle.std.specs.Option.{option_map}
use Rattle.js_tree.specs.declared.place.Place.{Place}
use Rattle.js_tree.specs.declared.token.Token.{Token}
use Rattle.js_tree.specs.declared.token.TokenKind.{TokenKind}
use Rattle.js_tree.specs.declared.token.TokenKind.TheVariants as token
use Rattle.js_tree.specs.declared.sign.Sign.{Sign}
use Rattle.js_tree.specs.declared.sign.Sign.TheVariants as sign
use Rattle.js_tree.specs.declared.bound.BoundName.{BoundName}
use Rattle.js_tree.specs.declared.keyword.Keyword.{Keyword}
use Rattle.js_tree.specs.declared.keyword.Keyword.TheVariants as word
use Rattle.js_tree.specs.declared.operators.UnaryOp.{UnaryOp}
use Rattle.js_tree.specs.declared.operators.UpdateOp.{UpdateOp}
use Rattle.js_tree.specs.declared.operators.UpdateForm.TheVariants.{Prefix, Postfix}
use Rattle.js_tree.specs.declared.operators.AssignOp.{AssignOp}
use Rattle.js_tree.specs.Tree.{ExpressionTree}
use Rattle.js_grammar.specs.declared.form.Form.{Form}
use Rattle.js_grammar.specs.declared.form.Form.TheVariants.{Plain}
use Rattle.js_grammar.specs.declared.form.LeftSide.{LeftSide}
use Rattle.js_grammar.specs.declared.form.LeftSide.TheVariants as side
use Rattle.js_grammar.specs.declared.around.Around.{Around}
use Rattle.js_grammar.specs.Words.{keyword_of}
use Rattle.js_grammar.specs.Readers.{Reader, row, rest_of, sign_of, next_sign, keyword_in, place_at, unbound}
use Rattle.js_grammar.specs.Operators.{next_unary, next_update, next_postfix, next_binary, at_level, next_assign, is_target}
use Rattle.js_grammar.specs.Expressions.{Deeper, next_name, is_accessor, closes, statement_unless, a_statement, in_function, a_part, expression, in_parentheses, an_argument, arguments_by, arguments, item_value, item_by, an_item, property_from, property_by, named_property, property_or_end, a_property, function_from, function_by, function_expression, new_arguments_by, new_arguments, new_expression, word_value, sign_value, primary_by, primary, suffix_by, a_suffix, suffixed, postfix_by, postfix, unary_by, unary, operand_by, an_operand, chain, level, conditional_by, conditional, assigned_by, assignment}
use Rattle.js_law_induction.proofs.Alike.{Other, moved, moved_turn, Read, Alike, stops, Turned, turn_more, turn_end, RowOf, past, wait, skip, both, and_then, skipped, behind, by_test, so, Keep, KeepBy, row_keeps}
use Rattle.js_law_induction.proofs.Words.{Behind, taken_shorter, sign_shorter, unary_shorter, update_shorter, assign_shorter, parted_row, listed_row, row_while, Listed, none_listed, some_listed, rest_moved, sign_moved, next_name_moved, accessor_moved, closes_moved, unary_moved, update_moved, postfix_moved, binary_moved, assign_moved, place_moved, expect_keeps, name_keeps, any_word_keeps, parted_keeps, listed_keeps, all_stay, parameters_keep}
use Rattle.js_law_induction.proofs.Moves.{Moves, moved_property, moved_suffix, moved_operand, moved_function}
use Rattle.js_law_induction.proofs.Derivations.{Kept, Rules, statements, items, properties, AFunction, FunctionValue, NewArguments, ASuffix, AnOperand}
use Rattle.js_law_induction.proofs.Derivations as derived

-- The readers of nested parts, in both runs. No more than two parts begin at one token: a statement, and a value of it.
pub record Nested (o : Other) (m : Moves o.at) (k : Kept) (room : ℕ) (d e : Deeper) : Type 0 where
  pub value : (form : Form) → Keep o m.expression (suc room) k.expression (d.value form) (e.value form)
  pub operand : Keep o m.expression (suc room) k.expression d.operand e.operand
  pub callee : Keep o m.expression (suc room) k.expression d.callee e.callee
  pub statement : (around : Around) → Keep o m.statement room (k.statement around) (d.statement around) (e.statement around)
  pub block : (around : Around) → Keep o m.statement room (k.statement around) (d.block around) (e.block around)

module _ (o : Other) (m : Moves o.at) (k : Kept) (r : Rules k) (end : Place) (room : ℕ) (d e : Deeper) (nested : Nested o m k room d e) where
  -- what both runs make of an expression that began at a, where b comes next
  abbrev Continues : List Token → List Token → Read ExpressionTree → Read ExpressionTree → Type 0
  Continues a b x y = Alike o m.expression (suc (suc room)) (length b) (k.expression a) x y

  abbrev KeepExpressions : Reader ExpressionTree → Reader ExpressionTree → Type 0
  KeepExpressions r t = Keep o m.expression (suc (suc room)) k.expression r t

  -- ---- statements in a row

  statement_unless_keeps : (around : Around) (b : Bool)
      → Keep o (moved_turn m.statement) room (Turned (statements k around)) (statement_unless d around b) (statement_unless e around b)
  statement_unless_keeps around true a = both a refl (turn_end refl)
  statement_unless_keeps around false a = and_then _ _ (nested.statement around a) (λ s b is. both b refl (turn_more is))

  a_statement_keeps : (around : Around) → Keep o (moved_turn m.statement) room (Turned (statements k around)) (a_statement d around) (a_statement e around)
  unfolding a_statement
  a_statement_keeps around a = rw (closes_moved o.at a) (statement_unless_keeps around (closes a) a)

  pub statements_keep : (around : Around) → Keep o (map m.statement) room (RowOf (statements k around)) (row (a_statement d around)) (row (a_statement e around))
  statements_keep around a = row_keeps m.statement (statements k around) _ _ (a_statement_keeps around) a

  -- ---- expressions that commas part, and brackets

  a_part_keeps : (form : Form) → Keep o (moved_turn m.expression) (suc room) (Turned (parted_row k.expression)) (a_part end d form) (a_part (o.at end) e form)
  unfolding a_part
  a_part_keeps form a = and_then _ _ (nested.value form a) (λ x b is. parted_keeps m.expression k.expression a x b is)

  pub expression_keeps : (form : Form) → Keep o m.expression (suc room) k.expression (expression end d form) (expression (o.at end) e form)
  unfolding expression
  expression_keeps form a =
      rw (place_moved o.at end a) (
      and_then _ _ (row_keeps m.expression (parted_row k.expression) _ _ (a_part_keeps form) a) (λ xs b are.
      both b (m.comma (place_at end a) xs) (r.expression (derived.comma (place_at end a) are))))

  pub in_parentheses_keeps : KeepExpressions (in_parentheses end d) (in_parentheses (o.at end) e)
  unfolding in_parentheses
  in_parentheses_keeps a =
      skipped _ _ (expect_keeps o.at end sign.LeftParenthesis a) (λ b less opens. past (taken_shorter a opens) (
      and_then _ _ (wait (expression_keeps Plain b)) (λ x c is.
      behind _ _ (expect_keeps o.at end sign.RightParenthesis c) (λ f closes. both f refl (r.expression (derived.in_brackets opens is closes))))))

  -- ---- arguments

  an_argument_keeps : Keep o (moved_turn m.expression) room (Turned (listed_row sign.RightParenthesis k.expression)) (an_argument end d) (an_argument (o.at end) e)
  unfolding an_argument
  an_argument_keeps a =
      and_then _ _ (wait (nested.value Plain a)) (λ x b is.
      listed_keeps o room end m.expression (listed_row sign.RightParenthesis k.expression) sign.RightParenthesis a x b (λ c takes. (b, is, takes)) (λ c takes. (b, is, takes)))

  arguments_by_keeps : KeepBy o (map m.expression) room (Listed k.expression) next_sign (arguments_by end d) (arguments_by (o.at end) e)
  arguments_by_keeps (Some sign.RightParenthesis) a h = rw (rest_moved o.at a) (skip a (both (rest_of a) refl (none_listed (h, refl))))
  arguments_by_keeps _ a h = so (row_keeps m.expression (listed_row sign.RightParenthesis k.expression) _ _ an_argument_keeps a) (λ xs b are. some_listed are)

  arguments_keep : Keep o (map m.expression) room (Listed k.expression) (arguments end d) (arguments (o.at end) e)
  unfolding arguments
  arguments_keep a = rw (sign_moved o.at a) (arguments_by_keeps (next_sign a) a refl)

  -- ---- array literals

  item_value_keeps : Keep o (moved_turn (option_map m.expression)) room (Turned (items k)) (item_value end d) (item_value (o.at end) e)
  unfolding item_value
  item_value_keeps a =
      and_then _ _ (wait (nested.value Plain a)) (λ x b is.
      listed_keeps o room end (option_map m.expression) (items k) sign.RightBracket a (Some x) b (λ c takes. derived.an_item is takes) (λ c takes. derived.last_item is takes))

  item_by_keeps : KeepBy o (moved_turn (option_map m.expression)) room (Turned (items k)) next_sign (item_by end d) (item_by (o.at end) e)
  item_by_keeps (Some sign.RightBracket) a h = rw (rest_moved o.at a) (skip a (both (rest_of a) refl (turn_end (h, refl))))
  item_by_keeps (Some sign.Comma) a h = rw (rest_moved o.at a) (skip a (both (rest_of a) refl (turn_more (derived.a_hole (h, refl)))))
  item_by_keeps _ a h = item_value_keeps a

  an_item_keeps : Keep o (moved_turn (option_map m.expression)) room (Turned (items k)) (an_item end d) (an_item (o.at end) e)
  unfolding an_item
  an_item_keeps a = rw (sign_moved o.at a) (item_by_keeps (next_sign a) a refl)

  -- ---- object literals

  property_from_keeps : (w : List ℕ) (a : List Token) → next_name a ≡ Some w
      → Alike o (moved_turn (moved_property m.expression)) room (length (rest_of a)) (Turned (properties k) a) (property_from end d w (rest_of a)) (property_from (o.at end) e w (moved o.at (rest_of a)))
  property_from_keeps w a h =
      behind _ _ (expect_keeps o.at end sign.Colon (rest_of a)) (λ b colon.
      and_then _ _ (wait (nested.value Plain b)) (λ x c is.
      listed_keeps o room end (moved_property m.expression) (properties k) sign.RightBrace a (record { name = w; value = x }) c
      (λ f takes. (c, derived.property h colon is, takes)) (λ f takes. (c, derived.property h colon is, takes))))

  property_by_keeps : (accessor : Bool)
      → KeepBy o (moved_turn (moved_property m.expression)) room (Turned (properties k)) next_name (λ w. property_by end d w accessor) (λ w. property_by (o.at end) e w accessor)
  property_by_keeps accessor None a h = rw (place_moved o.at end a) (stops _ (place_at end a) refl)
  property_by_keeps true (Some w) a h = rw (place_moved o.at end a) (stops _ (place_at end a) refl)
  property_by_keeps false (Some w) a h = rw (rest_moved o.at a) (skip a (property_from_keeps w a h))

  named_property_keeps : Keep o (moved_turn (moved_property m.expression)) room (Turned (properties k)) (named_property end d) (named_property (o.at end) e)
  unfolding named_property
  named_property_keeps a = rw (next_name_moved o.at a, accessor_moved o.at a) (property_by_keeps (is_accessor a) (next_name a) a refl)

  property_or_end_keeps : KeepBy o (moved_turn (moved_property m.expression)) room (Turned (properties k)) next_sign (property_or_end end d) (property_or_end (o.at end) e)
  property_or_end_keeps (Some sign.RightBrace) a h = rw (rest_moved o.at a) (skip a (both (rest_of a) refl (turn_end (h, refl))))
  property_or_end_keeps _ a h = named_property_keeps a

  a_property_keeps : Keep o (moved_turn (moved_property m.expression)) room (Turned (properties k)) (a_property end d) (a_property (o.at end) e)
  unfolding a_property
  a_property_keeps a = rw (sign_moved o.at a) (property_or_end_keeps (next_sign a) a refl)

  -- ---- functions

  pub function_from_keeps : (own : Option BoundName)
      → Keep o (moved_function m.statement) room (AFunction k own) (function_from end d own) (function_from (o.at end) e own)
  unfolding function_from
  function_from_keeps own a =
      behind _ _ (expect_keeps o.at end sign.LeftParenthesis a) (λ b opens.
      and_then _ _ (parameters_keep o room end b) (λ xs c given.
      behind _ _ (expect_keeps o.at end sign.LeftBrace c) (λ f begins.
      and_then _ _ (statements_keep in_function f) (λ ss g body.
      behind _ _ (expect_keeps o.at end sign.RightBrace g) (λ h ends.
      both h (ap (λ ys. record { name = own; parameters = ys; names = []; body = map m.statement ss }) (all_stay xs)) (derived.a_function opens given begins body ends))))))

  function_by_keeps : (s : Option Sign) → Keep o (moved_function m.statement) room (FunctionValue k) (function_by end d s) (function_by (o.at end) e s)
  function_by_keeps (Some sign.LeftParenthesis) a = so (function_from_keeps None a) (λ f b is. derived.anonymous is)
  function_by_keeps _ a =
      and_then _ _ (name_keeps o room end a) (λ x b called. so (function_from_keeps (Some x) b) (λ f c is. derived.named called is))

  function_expression_keeps : Keep o (moved_function m.statement) room (FunctionValue k) (function_expression end d) (function_expression (o.at end) e)
  unfolding function_expression
  function_expression_keeps a = rw (sign_moved o.at a) (function_by_keeps (next_sign a) a)

  -- ---- `new`

  new_arguments_by_keeps : KeepBy o (map m.expression) room (NewArguments k) next_sign (new_arguments_by end d) (new_arguments_by (o.at end) e)
  new_arguments_by_keeps (Some sign.LeftParenthesis) a h = rw (rest_moved o.at a) (skip a (so (arguments_keep (rest_of a)) (λ xs b are. derived.given (h, refl) are)))
  new_arguments_by_keeps _ a h = both a refl derived.left_out

  new_arguments_keep : Keep o (map m.expression) room (NewArguments k) (new_arguments end d) (new_arguments (o.at end) e)
  unfolding new_arguments
  new_arguments_keep a = rw (sign_moved o.at a) (new_arguments_by_keeps (next_sign a) a refl)

  new_expression_keeps : (p : Place) (a b : List Token) → Behind word.New a b
      → Alike o m.expression room (length b) (k.expression a) (new_expression end d p b) (new_expression (o.at end) e (o.at p) (moved o.at b))
  unfolding new_expression
  new_expression_keeps p a b h =
      and_then _ _ (wait (nested.callee b)) (λ x c is.
      and_then _ _ (new_arguments_keep c) (λ xs f are. both f (m.new p x xs) (r.expression (derived.new h is are))))

  -- ---- primary expressions

  word_value_keeps : (w : Option Keyword) (x : List ℕ) (t : Token) (ts : List Token) → t.kind ≡ token.Word x → keyword_of x ≡ w
      → Continues (t ∷ ts) (t ∷ ts) (word_value end d w x t.place ts) (word_value (o.at end) e w x (o.at t.place) (moved o.at ts))
  word_value_keeps None x t ts h i = skip (t ∷ ts) (both ts (m.name t.place (unbound x)) (r.expression (derived.name h i)))
  word_value_keeps (Some word.This) x t ts h i = skip (t ∷ ts) (both ts (m.this t.place) (r.expression (derived.this (ap keyword_in h ∙ i, refl))))
  word_value_keeps (Some word.Null) x t ts h i = skip (t ∷ ts) (both ts (m.null t.place) (r.expression (derived.null (ap keyword_in h ∙ i, refl))))
  word_value_keeps (Some word.True) x t ts h i = skip (t ∷ ts) (both ts (m.is_true t.place) (r.expression (derived.is_true (ap keyword_in h ∙ i, refl))))
  word_value_keeps (Some word.False) x t ts h i = skip (t ∷ ts) (both ts (m.is_false t.place) (r.expression (derived.is_false (ap keyword_in h ∙ i, refl))))
  word_value_keeps (Some word.New) x t ts h i = past (omega arith) (new_expression_keeps t.place (t ∷ ts) ts (ap keyword_in h ∙ i, refl))
  word_value_keeps (Some word.Function) x t ts h i = past (omega arith) (and_then _ _ (function_expression_keeps ts) (λ f b is. both b (m.function t.place f) (r.expression (derived.function (ap keyword_in h ∙ i, refl) is))))
  word_value_keeps (Some _) x t ts h i = stops _ t.place refl

  sign_value_keeps : (s : Sign) (t : Token) (ts : List Token) → next_sign (t ∷ ts) ≡ Some s
      → Continues (t ∷ ts) (t ∷ ts) (sign_value end d s t.place (t ∷ ts) ts) (sign_value (o.at end) e s (o.at t.place) (moved o.at (t ∷ ts)) (moved o.at ts))
  sign_value_keeps sign.LeftParenthesis t ts h = in_parentheses_keeps (t ∷ ts)
  sign_value_keeps sign.LeftBracket t ts h = past (omega arith) (and_then _ _ (row_keeps (option_map m.expression) (items k) _ _ an_item_keeps ts) (λ xs b are. both b (m.array t.place xs) (r.expression (derived.array (h, refl) are))))
  sign_value_keeps sign.LeftBrace t ts h = past (omega arith) (and_then _ _ (row_keeps (moved_property m.expression) (properties k) _ _ a_property_keeps ts) (λ xs b are. both b (m.object t.place xs) (r.expression (derived.object (h, refl) are))))
  sign_value_keeps _ t ts h = stops _ t.place refl

  primary_by_keeps : (kind : TokenKind) (t : Token) (ts : List Token) → t.kind ≡ kind
      → Continues (t ∷ ts) (t ∷ ts) (primary_by end d kind t.place (t ∷ ts) ts) (primary_by (o.at end) e kind (o.at t.place) (moved o.at (t ∷ ts)) (moved o.at ts))
  primary_by_keeps (token.Number n) t ts h = skip (t ∷ ts) (both ts (m.number t.place n) (r.expression (derived.number h)))
  primary_by_keeps (token.Text x) t ts h = skip (t ∷ ts) (both ts (m.characters t.place x) (r.expression (derived.characters h)))
  primary_by_keeps (token.Pattern l) t ts h = skip (t ∷ ts) (both ts (m.pattern t.place l) (r.expression (derived.pattern h)))
  primary_by_keeps (token.Word w) t ts h = word_value_keeps (keyword_of w) w t ts h refl
  primary_by_keeps (token.Sign s) t ts h = sign_value_keeps s t ts (ap sign_of h)

  primary_keeps : KeepExpressions (primary end d) (primary (o.at end) e)
  unfolding primary
  primary_keeps [] = stops _ end refl
  primary_keeps (t ∷ ts) = primary_by_keeps t.kind t ts refl

  -- ---- members, indexes and calls

  suffix_by_keeps : (left : LeftSide)
      → KeepBy o (moved_turn (moved_suffix o.at m.expression)) (suc (suc room)) (Turned (row_while (ASuffix k))) next_sign (suffix_by end d left) (suffix_by (o.at end) e left)
  suffix_by_keeps left (Some sign.Dot) a h =
      rw (rest_moved o.at a, place_moved o.at end a) (
      skip a (and_then _ _ (any_word_keeps o (suc (suc room)) end (rest_of a)) (λ w b is. both b refl (turn_more (derived.member (h, refl) is)))))
  suffix_by_keeps left (Some sign.LeftBracket) a h =
      rw (rest_moved o.at a, place_moved o.at end a) (past (sign_shorter sign.LeftBracket a h) (
      and_then _ _ (wait (expression_keeps Plain (rest_of a))) (λ x b is.
      behind _ _ (expect_keeps o.at end sign.RightBracket b) (λ c closes. both c refl (turn_more (derived.index (h, refl) is closes))))))
  suffix_by_keeps side.Call (Some sign.LeftParenthesis) a h =
      rw (rest_moved o.at a, place_moved o.at end a) (past (sign_shorter sign.LeftParenthesis a h) (
      and_then _ _ (arguments_keep (rest_of a)) (λ xs b are. both b refl (turn_more (derived.call (h, refl) are)))))
  suffix_by_keeps side.Call _ a h = both a refl (turn_end refl)
  suffix_by_keeps side.Member _ a h = both a refl (turn_end refl)

  a_suffix_keeps : (left : LeftSide)
      → Keep o (moved_turn (moved_suffix o.at m.expression)) (suc (suc room)) (Turned (row_while (ASuffix k))) (a_suffix end d left) (a_suffix (o.at end) e left)
  unfolding a_suffix
  a_suffix_keeps left a = rw (sign_moved o.at a) (suffix_by_keeps left (next_sign a) a refl)

  pub suffixed_keeps : (left : LeftSide) → KeepExpressions (suffixed end d left) (suffixed (o.at end) e left)
  unfolding suffixed
  suffixed_keeps left a =
      rw (place_moved o.at end a) (
      and_then _ _ (primary_keeps a) (λ x b is.
      and_then _ _ (row_keeps (moved_suffix o.at m.expression) (row_while (ASuffix k)) _ _ (a_suffix_keeps left) b) (λ xs c are.
      both c (m.suffixed (place_at end a) x xs) (r.expression (derived.suffixed (place_at end a) is are)))))

  -- ---- operators with one operand

  postfix_by_keeps : (op : Option UpdateOp) (a : List Token) (x : ExpressionTree) (b : List Token) → next_postfix b ≡ op → k.expression a x b
      → Continues a b (postfix_by end op x b) (postfix_by (o.at end) op (m.expression x) (moved o.at b))
  postfix_by_keeps None a x b h is = both b refl is
  postfix_by_keeps (Some op) a x b h is =
      rw (m.target x, place_moved o.at end b, rest_moved o.at b) (by_test (is_target x)
      (λ target. skip b (both (rest_of b) (m.update (place_at end b) Postfix op x) (r.expression (derived.postfix is h target))))
      (stops _ (place_at end b) refl))

  postfix_keeps : KeepExpressions (postfix end d) (postfix (o.at end) e)
  unfolding postfix
  postfix_keeps a = and_then _ _ (suffixed_keeps side.Call a) (λ x b is. rw (postfix_moved o.at b) (postfix_by_keeps (next_postfix b) a x b refl is))

  unary_by_keeps : (op : Option UnaryOp) (up : Option UpdateOp) (a : List Token) → next_unary a ≡ op → next_update a ≡ up
      → Continues a a (unary_by end d op up a) (unary_by (o.at end) e op up (moved o.at a))
  unary_by_keeps (Some op) up a h i =
      rw (rest_moved o.at a, place_moved o.at end a) (past (unary_shorter a h) (
      and_then _ _ (wait (nested.operand (rest_of a))) (λ x b is. both b (m.unary (place_at end a) op x) (r.expression (derived.unary h is)))))
  unary_by_keeps None (Some op) a h i =
      rw (rest_moved o.at a, place_moved o.at end a) (past (update_shorter a i) (
      and_then _ _ (wait (nested.operand (rest_of a))) (λ x b is. rw (m.target x) (by_test (is_target x)
      (λ target. both b (m.update (place_at end a) Prefix op x) (r.expression (derived.prefix i is target)))
      (stops _ (place_at end a) refl)))))
  unary_by_keeps None None a h i = postfix_keeps a

  pub unary_keeps : KeepExpressions (unary end d) (unary (o.at end) e)
  unfolding unary
  unary_keeps a = rw (unary_moved o.at a, update_moved o.at a) (unary_by_keeps (next_unary a) (next_update a) a refl refl)

  -- ---- binary operators

  operand_by_keeps : (form : Form) (n : ℕ) (next other : Reader ExpressionTree) → KeepExpressions next other
      → KeepBy o (moved_turn (moved_operand o.at m.expression)) (suc (suc room)) (Turned (row_while (AnOperand k form n))) (λ a. at_level n (next_binary form a)) (λ op. operand_by end op next) (λ op. operand_by (o.at end) op other)
  operand_by_keeps form n next other each None a h = both a refl (turn_end refl)
  operand_by_keeps form n next other each (Some op) a h =
      rw (rest_moved o.at a, place_moved o.at end a) (skip a (and_then _ _ (each (rest_of a)) (λ x b is. both b refl (turn_more (derived.operand h is)))))

  an_operand_keeps : (form : Form) (n : ℕ) (next other : Reader ExpressionTree) → KeepExpressions next other
      → Keep o (moved_turn (moved_operand o.at m.expression)) (suc (suc room)) (Turned (row_while (AnOperand k form n))) (an_operand end form n next) (an_operand (o.at end) form n other)
  unfolding an_operand
  an_operand_keeps form n next other each a = rw (binary_moved o.at form a) (operand_by_keeps form n next other each (at_level n (next_binary form a)) a refl)

  chain_keeps : (form : Form) (n : ℕ) (next other : Reader ExpressionTree) → KeepExpressions next other
      → KeepExpressions (chain end form n next) (chain (o.at end) form n other)
  unfolding chain
  chain_keeps form n next other each a =
      rw (place_moved o.at end a) (
      and_then _ _ (each a) (λ x b is.
      and_then _ _ (row_keeps (moved_operand o.at m.expression) (row_while (AnOperand k form n)) _ _ (an_operand_keeps form n next other each) b) (λ xs c are.
      both c (m.chain (place_at end a) x xs) (r.expression (derived.chain form n (place_at end a) is are)))))

  level_keeps : (form : Form) (n : ℕ) → KeepExpressions (level end d form n) (level (o.at end) e form n)
  unfolding level
  level_keeps form zero a = unary_keeps a
  level_keeps form (suc n) a = chain_keeps form n (level end d form n) (level (o.at end) e form n) (level_keeps form n) a

  -- ---- `? :` and assignment

  conditional_by_keeps : (form : Form) (s : Option Sign) (p : Place) (a : List Token) (x : ExpressionTree) (b : List Token) → next_sign b ≡ s → k.expression a x b
      → Continues a b (conditional_by end d form s p x b) (conditional_by (o.at end) e form s (o.at p) (m.expression x) (moved o.at b))
  conditional_by_keeps form (Some sign.Question) p a x b h is =
      rw (rest_moved o.at b) (past (sign_shorter sign.Question b h) (
      and_then _ _ (wait (nested.value form (rest_of b))) (λ v c one.
      behind _ _ (expect_keeps o.at end sign.Colon c) (λ f colon.
      and_then _ _ (wait (nested.value form f)) (λ w g other. both g (m.conditional p x v w) (r.expression (derived.conditional is (h, refl) one colon other)))))))
  conditional_by_keeps form _ p a x b h is = both b refl is

  conditional_keeps : (form : Form) → KeepExpressions (conditional end d form) (conditional (o.at end) e form)
  unfolding conditional
  conditional_keeps form a =
      rw (place_moved o.at end a) (
      and_then _ _ (level_keeps form 10 a) (λ x b is. rw (sign_moved o.at b) (conditional_by_keeps form (next_sign b) (place_at end a) a x b refl is)))

  assigned_by_keeps : (form : Form) (op : Option AssignOp) (a : List Token) (x : ExpressionTree) (b : List Token) → next_assign b ≡ op → k.expression a x b
      → Continues a b (assigned_by end d form op x b) (assigned_by (o.at end) e form op (m.expression x) (moved o.at b))
  assigned_by_keeps form None a x b h is = both b refl is
  assigned_by_keeps form (Some op) a x b h is =
      rw (m.target x, place_moved o.at end b, rest_moved o.at b) (by_test (is_target x)
      (λ target. past (assign_shorter b h) (and_then _ _ (wait (nested.value form (rest_of b))) (λ v c value. both c (m.assign (place_at end b) x op v) (r.expression (derived.assign is h target value)))))
      (stops _ (place_at end b) refl))

  pub assignment_keeps : (form : Form) → KeepExpressions (assignment end d form) (assignment (o.at end) e form)
  unfolding assignment
  assignment_keeps form a = and_then _ _ (conditional_keeps form a) (λ x b is. rw (assign_moved o.at b) (assigned_by_keeps form (next_assign b) a x b refl is))
