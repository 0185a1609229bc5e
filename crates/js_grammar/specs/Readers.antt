-- Readers of tokens from left to right, with the first refusal that is met.
use Rattle.std.specs.Prelude.{ℕ, zero, suc, ◌<◌, ◌≤◌, List, [], ◌∷◌, length, Option, Some, None, Result, Ok, Err, Bool, true, false}
use Rattle.js_tree.specs.declared.place.Place.{Place}
use Rattle.js_tree.specs.declared.token.Token.{Token}
use Rattle.js_tree.specs.declared.token.TokenKind.{TokenKind}
use Rattle.js_tree.specs.declared.token.TokenKind.TheVariants as token
use Rattle.js_tree.specs.declared.sign.Sign.{Sign}
use Rattle.js_tree.specs.declared.sign.Sign.TheVariants as sign
use Rattle.js_tree.specs.declared.bound.BoundName.{BoundName}
use Rattle.js_tree.specs.declared.bound.Bound.TheVariants.{Unbound}
use Rattle.js_tree.specs.declared.refusal.ReadKind.{ReadKind}
use Rattle.js_tree.specs.declared.refusal.ReadKind.TheVariants.{Unexpected}
use Rattle.js_tree.specs.declared.keyword.Keyword.{Keyword}
use Rattle.js_grammar.specs.declared.turn.Turn.{Turn}
use Rattle.js_grammar.specs.declared.turn.Turn.TheVariants.{More, Last, End}
use Rattle.js_grammar.specs.Reading.{Refusal, ◌>>=◌}
use Rattle.js_grammar.specs.Words.{keyword_of}

-- a reader gives a value and the tokens behind it
abbrev pub Reader : Type 0 → Type 0
Reader A = List Token → Result (A × List Token) Refusal

-- ---- rows of parts

abbrev pub turned : {A : Type 0} → Turn A → List Token → Result (List A × List Token) Refusal → Result (List A × List Token) Refusal
turned (More x) ts others = others >>= λ xs. Ok (x ∷ xs.0, xs.1)
turned (Last x) ts others = Ok (x ∷ [], ts)
turned End ts others = Ok ([], ts)

-- a row of at most n parts
unfoldable pub row_of : {A : Type 0} → Reader (Turn A) → ℕ → Reader (List A)
row_of turn zero ts = Ok ([], ts)
row_of turn (suc n) ts = do
  one ← turn ts
  turned one.0 one.1 (row_of turn n one.1)

-- A row of parts. Each turn but the last takes a token at least, so there are no more turns than tokens.
abbrev pub row : {A : Type 0} → Reader (Turn A) → Reader (List A)
row turn ts = row_of turn (suc (length ts)) ts

-- A turn behind which more come takes a token at least.
abbrev pub Shortens : {A : Type 0} → Turn A → List Token → List Token → Type 0
Shortens (More x) before after = length after < length before
Shortens (Last x) before after = length after ≤ length before
Shortens End before after = length after ≤ length before

-- ---- the token that comes next

abbrev pub rest_of : List Token → List Token
rest_of [] = []
rest_of (t ∷ ts) = ts

abbrev pub sign_of : TokenKind → Option Sign
sign_of (token.Sign s) = Some s
sign_of _ = None

abbrev pub next_sign : List Token → Option Sign
next_sign [] = None
next_sign (t ∷ ts) = sign_of t.kind

abbrev pub keyword_in : TokenKind → Option Keyword
keyword_in (token.Word w) = keyword_of w
keyword_in _ = None

abbrev pub next_keyword : List Token → Option Keyword
next_keyword [] = None
next_keyword (t ∷ ts) = keyword_in t.kind

-- whether the sign is the one that must stand here
abbrev pub is_sign : Sign → Option Sign → Bool
is_sign sign.LeftParenthesis (Some sign.LeftParenthesis) = true
is_sign sign.RightParenthesis (Some sign.RightParenthesis) = true
is_sign sign.LeftBrace (Some sign.LeftBrace) = true
is_sign sign.RightBrace (Some sign.RightBrace) = true
is_sign sign.RightBracket (Some sign.RightBracket) = true
is_sign sign.Colon (Some sign.Colon) = true
is_sign sign.Semicolon (Some sign.Semicolon) = true
is_sign _ _ = false

-- a name that was read stands in no scope yet
abbrev pub unbound : List ℕ → BoundName
unbound w = record { name = w; bound = Unbound }

-- end: the place after the last unit
module _ (end : Place) where
  abbrev pub place_at : List Token → Place
  place_at [] = end
  place_at (t ∷ ts) = t.place

  -- refused at the token that comes next
  abbrev pub refused : {A : Type 0} → ReadKind → List Token → Result A Refusal
  refused kind ts = Err (kind, place_at ts)

  abbrev pub taken_if : Bool → List Token → Result (List Token) Refusal
  taken_if true ts = Ok (rest_of ts)
  taken_if false ts = refused Unexpected ts

  -- a sign that must stand here: `( ) { } ]`, `:` or `;`
  unfoldable pub expect : Sign → List Token → Result (List Token) Refusal
  expect s ts = taken_if (is_sign s (next_sign ts)) ts

  abbrev pub name_if : Option Keyword → List ℕ → List Token → Result (BoundName × List Token) Refusal
  name_if None w ts = Ok (unbound w, rest_of ts)
  name_if (Some k) w ts = refused Unexpected ts

  abbrev pub name_by : TokenKind → List Token → Result (BoundName × List Token) Refusal
  name_by (token.Word w) ts = name_if (keyword_of w) w ts
  name_by _ ts = refused Unexpected ts

  -- a name: a word that isn't reserved (7.6)
  unfoldable pub name : Reader BoundName
  name [] = refused Unexpected []
  name (t ∷ ts) = name_by t.kind (t ∷ ts)

  abbrev pub word_by : TokenKind → List Token → Result (List ℕ × List Token) Refusal
  word_by (token.Word w) ts = Ok (w, rest_of ts)
  word_by _ ts = refused Unexpected ts

  -- any word, reserved or not
  unfoldable pub any_word : Reader (List ℕ)
  any_word [] = refused Unexpected []
  any_word (t ∷ ts) = word_by t.kind (t ∷ ts)

  abbrev pub semicolon_by : Option Sign → Bool → List Token → Result (List Token) Refusal
  semicolon_by (Some sign.Semicolon) after_line ts = Ok (rest_of ts)
  semicolon_by (Some sign.RightBrace) after_line ts = Ok ts
  semicolon_by _ true ts = Ok ts
  semicolon_by _ false ts = refused Unexpected ts

  -- A semicolon. It may be missing before `}`, after a line's end and at the end of the script (7.9).
  unfoldable pub semicolon : List Token → Result (List Token) Refusal
  semicolon [] = Ok []
  semicolon (t ∷ ts) = semicolon_by (sign_of t.kind) t.after_line (t ∷ ts)

  abbrev pub listed_by : {A : Type 0} → Sign → Option Sign → A → Reader (Turn A)
  listed_by close (Some sign.Comma) x ts = Ok (More x, rest_of ts)
  listed_by close _ x ts = do
    rest ← expect close ts
    Ok (Last x, rest)

  -- a part of a list in brackets: a comma or the closing bracket stands behind it
  abbrev pub listed : {A : Type 0} → Sign → A → Reader (Turn A)
  listed close x ts = listed_by close (next_sign ts) x ts

  unfoldable pub a_parameter : Reader (Turn BoundName)
  a_parameter ts = do
    one ← name ts
    listed sign.RightParenthesis one.0 one.1

  abbrev pub parameters_by : Option Sign → Reader (List BoundName)
  parameters_by (Some sign.RightParenthesis) ts = Ok ([], rest_of ts)
  parameters_by _ ts = row a_parameter ts

  -- the parameters of a function, behind `(` (13)
  unfoldable pub parameters : Reader (List BoundName)
  parameters ts = parameters_by (next_sign ts) ts

-- a part of a list that no bracket closes
abbrev pub parted : {A : Type 0} → Option Sign → A → Reader (Turn A)
parted (Some sign.Comma) x ts = Ok (More x, rest_of ts)
parted _ x ts = Ok (Last x, ts)
