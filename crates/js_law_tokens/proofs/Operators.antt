-- An operator that was read is printed as the token that it was.
use Rattle.std.proofs.Common.{◌≡◌, ℕ, List, [], ◌∷◌, Option, Some, None, Bool, true, false, refl, ap, ◌∙◌, subst}
use Rattle.std.specs.Prelude.{nat_eq, if◌then◌else◌}
use Rattle.js_tree.specs.declared.token.Token.{Token}
use Rattle.js_tree.specs.declared.token.TokenKind.{TokenKind}
use Rattle.js_tree.specs.declared.token.TokenKind.TheVariants as token
use Rattle.js_tree.specs.declared.sign.Sign.{Sign}
use Rattle.js_tree.specs.declared.sign.Sign.TheVariants as sign
use Rattle.js_tree.specs.declared.operators.UnaryOp.{UnaryOp}
use Rattle.js_tree.specs.declared.operators.UnaryOp.TheVariants as unary
use Rattle.js_tree.specs.declared.operators.UpdateOp.{UpdateOp}
use Rattle.js_tree.specs.declared.operators.UpdateOp.TheVariants.{Increment, Decrement}
use Rattle.js_tree.specs.declared.operators.BinaryOp.{BinaryOp}
use Rattle.js_tree.specs.declared.operators.BinaryOp.TheVariants as binary
use Rattle.js_tree.specs.declared.operators.AssignOp.{AssignOp}
use Rattle.js_tree.specs.declared.operators.AssignOp.TheVariants as assign
use Rattle.js_tree.specs.declared.keyword.Keyword.{Keyword}
use Rattle.js_tree.specs.declared.keyword.Keyword.TheVariants as word
use Rattle.js_grammar.specs.declared.form.Form.{Form}
use Rattle.js_grammar.specs.declared.form.Form.TheVariants.{Plain, NoIn}
use Rattle.js_grammar.specs.Words.{keyword_of}
use Rattle.js_grammar.specs.Readers.{rest_of}
use Rattle.js_grammar.specs.Operators.{unary_sign, unary_word, unary_in, next_unary, update_in, next_update, next_postfix, binary_sign, binary_word, binary_in, next_binary, level_of, at_level, assign_sign, assign_in, next_assign}
use Rattle.js_grammar.specs.Printing.{printed, sign_token, word_token, keyword_token, unary_token, update_token, binary_token, assign_token}
use Rattle.js_law_tokens.proofs.Keeping.{Keeps}
use Rattle.js_law_tokens.proofs.Steps.{keyword_spelled, taken}

same_token : {A : Type 0} (spelled : A → Token) (x y : A) → Some x ≡ Some y → spelled x ≡ spelled y
same_token spelled x y h = let e : x ≡ y = cc in ap spelled e

keyword_token_is : (w : List ℕ) (k : Keyword) → keyword_of w ≡ Some k → word_token w ≡ keyword_token k
keyword_token_is w k h = ap word_token (keyword_spelled w k h)

token_taken : (t : Token) (ts : List Token) (u : Token) → printed t.kind ≡ u → Keeps (u ∷ []) (t ∷ ts) ts
token_taken t ts u e = subst (λ v. Keeps (v ∷ []) (t ∷ ts) ts) e (taken t.kind t ts refl)

-- ---- prefix operators

unary_sign_is : (s : Sign) (op : UnaryOp) → unary_sign s ≡ Some op → sign_token s ≡ unary_token op
unary_sign_is sign.Plus op h = same_token unary_token unary.Plus op h
unary_sign_is sign.Minus op h = same_token unary_token unary.Minus op h
unary_sign_is sign.Tilde op h = same_token unary_token unary.BitNot op h
unary_sign_is sign.Exclamation op h = same_token unary_token unary.Not op h
unary_sign_is _ op h = cc

unary_word_is : (w : List ℕ) (o : Option Keyword) (op : UnaryOp) → keyword_of w ≡ o → unary_word o ≡ Some op → word_token w ≡ unary_token op
unary_word_is w (Some word.Delete) op e h = keyword_token_is w word.Delete e ∙ same_token unary_token unary.Delete op h
unary_word_is w (Some word.Void) op e h = keyword_token_is w word.Void e ∙ same_token unary_token unary.Void op h
unary_word_is w (Some word.TypeOf) op e h = keyword_token_is w word.TypeOf e ∙ same_token unary_token unary.TypeOf op h
unary_word_is w _ op e h = cc

unary_is : (k : TokenKind) (op : UnaryOp) → unary_in k ≡ Some op → printed k ≡ unary_token op
unary_is (token.Sign s) op h = unary_sign_is s op h
unary_is (token.Word w) op h = unary_word_is w (keyword_of w) op refl h
unary_is (token.Text x) op h = cc
unary_is (token.Pattern l) op h = cc
unary_is (token.Number n) op h = cc

pub unary_taken : (ts : List Token) (op : UnaryOp) → next_unary ts ≡ Some op → Keeps (unary_token op ∷ []) ts (rest_of ts)
unary_taken [] op h = cc
unary_taken (t ∷ ts) op h = token_taken t ts (unary_token op) (unary_is t.kind op h)

-- ---- `++` and `--`

update_is : (k : TokenKind) (op : UpdateOp) → update_in k ≡ Some op → printed k ≡ update_token op
update_is (token.Sign sign.PlusPlus) op h = same_token update_token Increment op h
update_is (token.Sign sign.MinusMinus) op h = same_token update_token Decrement op h
update_is _ op h = cc

pub update_taken : (ts : List Token) (op : UpdateOp) → next_update ts ≡ Some op → Keeps (update_token op ∷ []) ts (rest_of ts)
update_taken [] op h = cc
update_taken (t ∷ ts) op h = token_taken t ts (update_token op) (update_is t.kind op h)

unless_line : (b : Bool) (o : Option UpdateOp) (op : UpdateOp) → (if b then None else o) ≡ Some op → o ≡ Some op
unless_line true o op h = cc
unless_line false o op h = h

pub postfix_taken : (ts : List Token) (op : UpdateOp) → next_postfix ts ≡ Some op → Keeps (update_token op ∷ []) ts (rest_of ts)
postfix_taken [] op h = cc
postfix_taken (t ∷ ts) op h = update_taken (t ∷ ts) op (unless_line t.after_line (update_in t.kind) op h)

-- ---- binary operators

binary_sign_is : (s : Sign) (op : BinaryOp) → binary_sign s ≡ Some op → sign_token s ≡ binary_token op
binary_sign_is sign.OrOr op h = same_token binary_token binary.Or op h
binary_sign_is sign.AndAnd op h = same_token binary_token binary.And op h
binary_sign_is sign.Bar op h = same_token binary_token binary.BitOr op h
binary_sign_is sign.Caret op h = same_token binary_token binary.BitXor op h
binary_sign_is sign.Ampersand op h = same_token binary_token binary.BitAnd op h
binary_sign_is sign.Equal op h = same_token binary_token binary.Equal op h
binary_sign_is sign.NotEqual op h = same_token binary_token binary.NotEqual op h
binary_sign_is sign.StrictEqual op h = same_token binary_token binary.StrictEqual op h
binary_sign_is sign.StrictNotEqual op h = same_token binary_token binary.StrictNotEqual op h
binary_sign_is sign.Less op h = same_token binary_token binary.Less op h
binary_sign_is sign.Greater op h = same_token binary_token binary.Greater op h
binary_sign_is sign.LessEqual op h = same_token binary_token binary.LessEqual op h
binary_sign_is sign.GreaterEqual op h = same_token binary_token binary.GreaterEqual op h
binary_sign_is sign.ShiftLeft op h = same_token binary_token binary.ShiftLeft op h
binary_sign_is sign.ShiftRight op h = same_token binary_token binary.ShiftRight op h
binary_sign_is sign.UnsignedShiftRight op h = same_token binary_token binary.UnsignedShiftRight op h
binary_sign_is sign.Plus op h = same_token binary_token binary.Add op h
binary_sign_is sign.Minus op h = same_token binary_token binary.Subtract op h
binary_sign_is sign.Star op h = same_token binary_token binary.Multiply op h
binary_sign_is sign.Slash op h = same_token binary_token binary.Divide op h
binary_sign_is sign.Percent op h = same_token binary_token binary.Remainder op h
binary_sign_is _ op h = cc

binary_word_is : (form : Form) (w : List ℕ) (o : Option Keyword) (op : BinaryOp) → keyword_of w ≡ o → binary_word form o ≡ Some op → word_token w ≡ binary_token op
binary_word_is Plain w (Some word.InstanceOf) op e h = keyword_token_is w word.InstanceOf e ∙ same_token binary_token binary.InstanceOf op h
binary_word_is NoIn w (Some word.InstanceOf) op e h = keyword_token_is w word.InstanceOf e ∙ same_token binary_token binary.InstanceOf op h
binary_word_is Plain w (Some word.In) op e h = keyword_token_is w word.In e ∙ same_token binary_token binary.In op h
binary_word_is Plain w _ op e h = cc
binary_word_is NoIn w _ op e h = cc

binary_is : (form : Form) (k : TokenKind) (op : BinaryOp) → binary_in form k ≡ Some op → printed k ≡ binary_token op
binary_is form (token.Sign s) op h = binary_sign_is s op h
binary_is form (token.Word w) op h = binary_word_is form w (keyword_of w) op refl h
binary_is form (token.Text x) op h = cc
binary_is form (token.Pattern l) op h = cc
binary_is form (token.Number n) op h = cc

binary_taken : (form : Form) (ts : List Token) (op : BinaryOp) → next_binary form ts ≡ Some op → Keeps (binary_token op ∷ []) ts (rest_of ts)
binary_taken form [] op h = cc
binary_taken form (t ∷ ts) op h = token_taken t ts (binary_token op) (binary_is form t.kind op h)

if_some : {A : Type 0} (b : Bool) (x y : A) → (if b then Some x else None) ≡ Some y → Some x ≡ Some y
if_some true x y h = h
if_some false x y h = cc

at_any_level : (k : ℕ) (o : Option BinaryOp) (op : BinaryOp) → at_level k o ≡ Some op → o ≡ Some op
at_any_level k None op h = cc
at_any_level k (Some x) op h = if_some (nat_eq (level_of x) k) x op h

pub operator_taken : (form : Form) (k : ℕ) (ts : List Token) (op : BinaryOp) → at_level k (next_binary form ts) ≡ Some op → Keeps (binary_token op ∷ []) ts (rest_of ts)
operator_taken form k ts op h = binary_taken form ts op (at_any_level k (next_binary form ts) op h)

-- ---- assignment

assign_sign_is : (s : Sign) (op : AssignOp) → assign_sign s ≡ Some op → sign_token s ≡ assign_token op
assign_sign_is sign.Assign op h = same_token assign_token assign.Set op h
assign_sign_is sign.PlusAssign op h = same_token assign_token assign.Add op h
assign_sign_is sign.MinusAssign op h = same_token assign_token assign.Subtract op h
assign_sign_is sign.StarAssign op h = same_token assign_token assign.Multiply op h
assign_sign_is sign.SlashAssign op h = same_token assign_token assign.Divide op h
assign_sign_is sign.PercentAssign op h = same_token assign_token assign.Remainder op h
assign_sign_is sign.ShiftLeftAssign op h = same_token assign_token assign.ShiftLeft op h
assign_sign_is sign.ShiftRightAssign op h = same_token assign_token assign.ShiftRight op h
assign_sign_is sign.UnsignedShiftRightAssign op h = same_token assign_token assign.UnsignedShiftRight op h
assign_sign_is sign.AmpersandAssign op h = same_token assign_token assign.BitAnd op h
assign_sign_is sign.BarAssign op h = same_token assign_token assign.BitOr op h
assign_sign_is sign.CaretAssign op h = same_token assign_token assign.BitXor op h
assign_sign_is _ op h = cc

assign_is : (k : TokenKind) (op : AssignOp) → assign_in k ≡ Some op → printed k ≡ assign_token op
assign_is (token.Sign s) op h = assign_sign_is s op h
assign_is (token.Word w) op h = cc
assign_is (token.Text x) op h = cc
assign_is (token.Pattern l) op h = cc
assign_is (token.Number n) op h = cc

pub assign_taken : (ts : List Token) (op : AssignOp) → next_assign ts ≡ Some op → Keeps (assign_token op ∷ []) ts (rest_of ts)
assign_taken [] op h = cc
assign_taken (t ∷ ts) op h = token_taken t ts (assign_token op) (assign_is t.kind op h)
