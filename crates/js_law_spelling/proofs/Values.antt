-- A printed expression ends in a value, and operators stand where they need one.
use Rattle.std.proofs.Common.{◌≡◌, ℕ, List, [], ◌∷◌, ◌++◌, Bool, true, false, refl, ap}
use Rattle.js_tree.specs.declared.token.Token.{Token}
use Rattle.js_tree.specs.declared.token.TokenKind.TheVariants as token
use Rattle.js_tree.specs.declared.sign.Sign.TheVariants as sign
use Rattle.js_tree.specs.declared.operators.UnaryOp.{UnaryOp}
use Rattle.js_tree.specs.declared.operators.UnaryOp.TheVariants as unary
use Rattle.js_tree.specs.declared.operators.UpdateForm.TheVariants.{Prefix, Postfix}
use Rattle.js_tree.specs.declared.operators.UpdateOp.{UpdateOp}
use Rattle.js_tree.specs.declared.operators.UpdateOp.TheVariants.{Increment, Decrement}
use Rattle.js_tree.specs.declared.operators.BinaryOp.{BinaryOp}
use Rattle.js_tree.specs.declared.operators.BinaryOp.TheVariants as binary
use Rattle.js_tree.specs.declared.operators.AssignOp.{AssignOp}
use Rattle.js_tree.specs.declared.operators.AssignOp.TheVariants as assign
use Rattle.js_tree.specs.Tree.{ExpressionTree, Number, Characters, Pattern, True, False, Null, This, Name, Array, Object, Function, Numbered, Suffixed, New, Update, Unary, Chain, Conditional, Assign, Comma}
use Rattle.js_tree.specs.declared.keyword.Keyword.TheVariants as word
use Rattle.js_grammar.specs.Tokens.{is_value_word, ends_value, is_dot}
use Rattle.js_grammar.specs.Words.{keyword_of, keyword_spelling}
use Rattle.js_grammar.specs.Printing.{printed, sign_token, word_token, keyword_token, unary_token, update_token, binary_token, assign_token, in_round, in_braces, own_name_tokens, expression_tokens, expressions_tokens, items_tokens, properties_tokens, suffixes_tokens, operands_tokens, function_tokens}
use Rattle.js_law_readable.specs.Readable.{IsExpression}
use Rattle.js_law_spelling.specs.Laws.{is_pattern}
use Rattle.js_law_spelling.proofs.Standing.{StandAnywhere, StandBehindValue, EndInValue, sign_stands, word_stands, round_value, square_value}

-- ---- words

-- a word that is no keyword, or one that is a value, ends a value wherever it stands
always_value : (w : List ℕ) (dot : Bool) → is_value_word (keyword_of w) ≡ true → ends_value dot (token.Word w) ≡ true
always_value w true h = refl
always_value w false h = h

word_value : (w : List ℕ) → is_value_word (keyword_of w) ≡ true → EndInValue (word_token w ∷ [])
word_value w h = record { ends = λ dividing dot. always_value w dot h }

pub expression_value : (e : ExpressionTree) → IsExpression e → EndInValue (expression_tokens e)
unfolding expression_tokens
expression_value (Number p n) is = record { ends = λ dividing dot. refl }
expression_value (Characters p x) is = record { ends = λ dividing dot. refl }
expression_value (Pattern p l) is = round_value (printed (token.Pattern l) ∷ [])
expression_value (True p) is = word_value (keyword_spelling word.True) refl
expression_value (False p) is = word_value (keyword_spelling word.False) refl
expression_value (Null p) is = word_value (keyword_spelling word.Null) refl
expression_value (This p) is = word_value (keyword_spelling word.This) refl
expression_value (Name p x) is = word_value x.name (ap is_value_word is.0)
expression_value (Array p all) is = square_value (items_tokens all)
expression_value (Object p all) is = round_value (in_braces (properties_tokens all))
expression_value (Function p f) is = round_value (keyword_token word.Function ∷ (own_name_tokens f ++ function_tokens f))
expression_value (Numbered p n) is = absurd is
expression_value (Suffixed p e all) is = round_value (expression_tokens e ++ suffixes_tokens all)
expression_value (New p e all) is = round_value (keyword_token word.New ∷ (expression_tokens e ++ in_round (expressions_tokens all)))
expression_value (Update p Prefix op e) is = round_value (update_token op ∷ expression_tokens e)
expression_value (Update p Postfix op e) is = round_value (expression_tokens e ++ update_token op ∷ [])
expression_value (Unary p op e) is = round_value (unary_token op ∷ expression_tokens e)
expression_value (Chain p e all) is = round_value (expression_tokens e ++ operands_tokens all)
expression_value (Conditional p c a b) is = round_value (expression_tokens c ++ sign_token sign.Question ∷ (expression_tokens a ++ sign_token sign.Colon ∷ expression_tokens b))
expression_value (Assign p e op v) is = round_value (expression_tokens e ++ assign_token op ∷ expression_tokens v)
expression_value (Comma p all) is = round_value (expressions_tokens all)

-- ---- operators

pub unary_stands : {ts : List Token} (op : UnaryOp) → StandAnywhere ts → StandAnywhere (unary_token op ∷ ts)
unary_stands unary.Delete h = word_stands h
unary_stands unary.Void h = word_stands h
unary_stands unary.TypeOf h = word_stands h
unary_stands unary.Plus h = sign_stands sign.Plus refl h
unary_stands unary.Minus h = sign_stands sign.Minus refl h
unary_stands unary.BitNot h = sign_stands sign.Tilde refl h
unary_stands unary.Not h = sign_stands sign.Exclamation refl h

pub update_stands : {ts : List Token} (op : UpdateOp) → StandAnywhere ts → StandAnywhere (update_token op ∷ ts)
update_stands Increment h = sign_stands sign.PlusPlus refl h
update_stands Decrement h = sign_stands sign.MinusMinus refl h

binary_printed : (op : BinaryOp) → binary_token op ≡ printed (binary_token op).kind
binary_printed binary.InstanceOf = refl
binary_printed _ = refl

assign_printed : (op : AssignOp) → assign_token op ≡ printed (assign_token op).kind
assign_printed assign.Set = refl
assign_printed _ = refl

binary_other : (op : BinaryOp) → is_pattern (binary_token op).kind ≡ false
binary_other binary.InstanceOf = refl
binary_other _ = refl

assign_other : (op : AssignOp) → is_pattern (assign_token op).kind ≡ false
assign_other assign.Set = refl
assign_other _ = refl

-- a slash among them is behind a value
operator_stands : {ts : List Token} (t : Token) → t ≡ printed t.kind → is_pattern t.kind ≡ false → StandAnywhere ts → StandBehindValue (t ∷ ts)
operator_stands t e other h = record { stand = λ dot. (e, ((λ needs. refl), (λ is. cc)), h.stand (ends_value dot t.kind) (is_dot t.kind)) }

pub binary_stands : {ts : List Token} (op : BinaryOp) → StandAnywhere ts → StandBehindValue (binary_token op ∷ ts)
binary_stands op h = operator_stands (binary_token op) (binary_printed op) (binary_other op) h

pub assign_stands : {ts : List Token} (op : AssignOp) → StandAnywhere ts → StandBehindValue (assign_token op ∷ ts)
assign_stands op h = operator_stands (assign_token op) (assign_printed op) (assign_other op) h
