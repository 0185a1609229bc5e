-- Rows of printed tokens in which each slash divides that begins no pattern literal.
use Rattle.std.proofs.Common.{◌≡◌, ℕ, List, [], ◌∷◌, ◌++◌, Bool, true, false, refl, subst, sym}
use Rattle.js_pattern_reader.specs.Literal.{Literal}
use Rattle.js_tree.specs.declared.token.Token.{Token}
use Rattle.js_tree.specs.declared.token.TokenKind.{TokenKind}
use Rattle.js_tree.specs.declared.token.TokenKind.TheVariants as token
use Rattle.js_tree.specs.declared.sign.Sign.{Sign as SignName}
use Rattle.js_tree.specs.declared.sign.Sign.TheVariants as sign
use Rattle.js_grammar.specs.Tokens.{is_closing_sign, is_dot, ends_value}
use Rattle.js_grammar.specs.Printing.{printed, sign_token, word_token, comma_if, in_round, in_square, in_braces}
use Rattle.js_law_spelling.specs.Laws.{needs_value, is_pattern, MayStand}

-- Tokens that were printed, where each slash stands behind a value and each pattern literal behind none. dividing: a
-- slash divides before them; dot: a dot stands before them.
abbrev pub Stand : Bool → Bool → List Token → Type 0
Stand dividing dot [] = Unit {0}
Stand dividing dot (t ∷ ts) = (t ≡ printed t.kind) × MayStand dividing t.kind × Stand (ends_value dot t.kind) (is_dot t.kind) ts

-- whatever stands before them
pub record StandAnywhere (ts : List Token) : Type 0 where
  pub stand : (dividing dot : Bool) → Stand dividing dot ts

-- behind a value
pub record StandBehindValue (ts : List Token) : Type 0 where
  pub stand : (dot : Bool) → Stand true dot ts

-- whether a slash divides behind tokens
abbrev pub divides_behind : Bool → Bool → List Token → Bool
divides_behind dividing dot [] = dividing
divides_behind dividing dot (t ∷ ts) = divides_behind (ends_value dot t.kind) (is_dot t.kind) ts

-- they end in a value, whatever stands before them
pub record EndInValue (ts : List Token) : Type 0 where
  pub ends : (dividing dot : Bool) → divides_behind dividing dot ts ≡ true

-- ---- single tokens before others

pub none_stand : StandAnywhere []
none_stand = record { stand = λ dividing dot. tt }

pub token_stands : {ts : List Token} (k : TokenKind) → needs_value k ≡ false → is_pattern k ≡ false → StandAnywhere ts → StandAnywhere (printed k ∷ ts)
token_stands k free other h = record { stand = λ dividing dot. (refl, ((λ needs. cc), (λ is. cc)), h.stand (ends_value dot k) (is_dot k)) }

pub sign_stands : {ts : List Token} (s : SignName) → needs_value (token.Sign s) ≡ false → StandAnywhere ts → StandAnywhere (sign_token s ∷ ts)
sign_stands s free h = token_stands (token.Sign s) free refl h

pub word_stands : {ts : List Token} {w : List ℕ} → StandAnywhere ts → StandAnywhere (word_token w ∷ ts)
word_stands {w = w} h = token_stands (token.Word w) refl refl h

pub text_stands : {ts : List Token} {x : List ℕ} → StandAnywhere ts → StandAnywhere (printed (token.Text x) ∷ ts)
text_stands {x = x} h = token_stands (token.Text x) refl refl h

-- ---- rows behind rows

stand_on : (a b : List Token) (dividing dot : Bool) → Stand dividing dot a → StandAnywhere b → Stand dividing dot (a ++ b)
stand_on [] b dividing dot h k = k.stand dividing dot
stand_on (t ∷ a) b dividing dot h k = (h.0, h.1, stand_on a b (ends_value dot t.kind) (is_dot t.kind) h.2 k)

pub rows_stand : {a b : List Token} → StandAnywhere a → StandAnywhere b → StandAnywhere (a ++ b)
rows_stand {a = a} {b = b} h k = record { stand = λ dividing dot. stand_on a b dividing dot (h.stand dividing dot) k }

behind_value : (a b : List Token) (dividing dot : Bool) → Stand dividing dot a → divides_behind dividing dot a ≡ true → StandBehindValue b → Stand dividing dot (a ++ b)
behind_value [] b dividing dot h e k = subst (λ x. Stand x dot b) (sym e) (k.stand dot)
behind_value (t ∷ a) b dividing dot h e k = (h.0, h.1, behind_value a b (ends_value dot t.kind) (is_dot t.kind) h.2 e k)

pub value_stands : {a b : List Token} → StandAnywhere a → EndInValue a → StandBehindValue b → StandAnywhere (a ++ b)
value_stands {a = a} {b = b} h e k = record { stand = λ dividing dot. behind_value a b dividing dot (h.stand dividing dot) (e.ends dividing dot) k }

-- ---- brackets and what stands between parts

sign_behind : {ts : List Token} (s : SignName) → needs_value (token.Sign s) ≡ false → StandAnywhere ts → StandAnywhere (ts ++ sign_token s ∷ [])
sign_behind s free h = rows_stand h (sign_stands s free none_stand)

pub round_stand : {ts : List Token} → StandAnywhere ts → StandAnywhere (in_round ts)
round_stand h = sign_stands sign.LeftParenthesis refl (sign_behind sign.RightParenthesis refl h)

pub square_stand : {ts : List Token} → StandAnywhere ts → StandAnywhere (in_square ts)
square_stand h = sign_stands sign.LeftBracket refl (sign_behind sign.RightBracket refl h)

pub braces_stand : {ts : List Token} → StandAnywhere ts → StandAnywhere (in_braces ts)
braces_stand h = sign_stands sign.LeftBrace refl (sign_behind sign.RightBrace refl h)

pub semicolon_stands : {ts : List Token} → StandAnywhere ts → StandAnywhere (ts ++ sign_token sign.Semicolon ∷ [])
semicolon_stands h = sign_behind sign.Semicolon refl h

pub comma_stands : {ts : List Token} (b : Bool) → StandAnywhere ts → StandAnywhere (comma_if b ++ ts)
comma_stands true h = sign_stands sign.Comma refl h
comma_stands false h = h

pub comma_alone : (b : Bool) → StandAnywhere (comma_if b)
comma_alone true = sign_stands sign.Comma refl none_stand
comma_alone false = none_stand

-- behind its bracket no slash divides
pub pattern_stands : (l : Literal) → StandAnywhere (in_round (printed (token.Pattern l) ∷ []))
pattern_stands l = record { stand = λ dividing dot. (refl, ((λ needs. cc), (λ is. cc)), (refl, ((λ needs. cc), (λ is. refl)), (refl, ((λ needs. cc), (λ is. cc)), tt))) }

-- ---- values

closing_behind : (s : SignName) (ts : List Token) (dividing dot : Bool) → divides_behind dividing dot (ts ++ sign_token s ∷ []) ≡ is_closing_sign s
closing_behind s [] dividing dot = refl
closing_behind s (t ∷ ts) dividing dot = closing_behind s ts (ends_value dot t.kind) (is_dot t.kind)

pub round_value : (ts : List Token) → EndInValue (in_round ts)
round_value ts = record { ends = λ dividing dot. closing_behind sign.RightParenthesis ts false false }

pub square_value : (ts : List Token) → EndInValue (in_square ts)
square_value ts = record { ends = λ dividing dot. closing_behind sign.RightBracket ts false false }
