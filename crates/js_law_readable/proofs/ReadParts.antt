-- What reading gives of signs that must come next, of names and of parameters.
use Rattle.std.proofs.Common.{◌≡◌, ℕ, ◌≤◌, List, [], ◌∷◌, length, Option, Some, None, Bool, true, false, refl}
use Rattle.js_tree.specs.declared.place.Place.{Place}
use Rattle.js_tree.specs.declared.token.Token.{Token}
use Rattle.js_tree.specs.declared.token.TokenKind.{TokenKind}
use Rattle.js_tree.specs.declared.token.TokenKind.TheVariants as token
use Rattle.js_tree.specs.declared.sign.Sign.{Sign}
use Rattle.js_tree.specs.declared.sign.Sign.TheVariants as sign
use Rattle.js_tree.specs.declared.keyword.Keyword.{Keyword}
use Rattle.js_grammar.specs.Words.{keyword_of}
use Rattle.js_grammar.specs.Readers.{sign_of, next_sign, is_sign, taken_if, expect, name, name_if, name_by, any_word, word_by, semicolon, semicolon_by, listed, listed_by, parameters, parameters_by, a_parameter}
use Rattle.js_law_readable.specs.Readable.{IsName}
use Rattle.js_law_readable.proofs.Steps.{Where, step, Short, Reads, rest_short, Every, OfTurn, row_reads}

module _ (end : Place) where
  -- ---- what must come next

  taken_short : (b : Bool) (n : ℕ) (ts : List Token) → length ts ≤ n → Where (Short n) (taken_if end b ts)
  taken_short true n ts h = rest_short n ts h
  taken_short false n ts h = tt

  pub expect_short : (s : Sign) (n : ℕ) (ts : List Token) → length ts ≤ n → Where (Short n) (expect end s ts)
  unfolding expect
  expect_short s n ts h = taken_short (is_sign s (next_sign ts)) n ts h

  semicolon_by_short : (s : Option Sign) (line : Bool) (n : ℕ) (ts : List Token) → length ts ≤ n → Where (Short n) (semicolon_by end s line ts)
  semicolon_by_short (Some sign.Semicolon) line n ts h = rest_short n ts h
  semicolon_by_short (Some sign.RightBrace) line n ts h = h
  semicolon_by_short _ true n ts h = h
  semicolon_by_short _ false n ts h = tt

  pub semicolon_short : (n : ℕ) (ts : List Token) → length ts ≤ n → Where (Short n) (semicolon end ts)
  unfolding semicolon
  semicolon_short n [] h = h
  semicolon_short n (t ∷ ts) h = semicolon_by_short (sign_of t.kind) t.after_line n (t ∷ ts) h

  listed_by_reads : {A : Type 0} (P : A → Type 0) (close : Sign) (s : Option Sign) (x : A) → P x → Reads (OfTurn P) (listed_by end close s x)
  listed_by_reads P close (Some sign.Comma) x is n ts h = (is, rest_short n ts h)
  listed_by_reads P close _ x is n ts h = step _ (expect end close ts) _ (expect_short close n ts h) (λ rest k. (is, k))

  pub listed_reads : {A : Type 0} (P : A → Type 0) (close : Sign) (x : A) → P x → Reads (OfTurn P) (listed end close x)
  listed_reads P close x is n ts h = listed_by_reads P close (next_sign ts) x is n ts h

  -- ---- names

  name_if_reads : (k : Option Keyword) (w : List ℕ) → keyword_of w ≡ k → Reads IsName (name_if end k w)
  name_if_reads None w none n ts h = ((none, refl), rest_short n ts h)
  name_if_reads (Some k) w some n ts h = tt

  name_by_reads : (k : TokenKind) → Reads IsName (name_by end k)
  name_by_reads (token.Word w) n ts h = name_if_reads (keyword_of w) w refl n ts h
  name_by_reads _ n ts h = tt

  pub name_reads : Reads IsName (name end)
  unfolding name
  name_reads n [] h = tt
  name_reads n (t ∷ ts) h = name_by_reads t.kind n (t ∷ ts) h

  word_by_short : (k : TokenKind) (n : ℕ) (ts : List Token) → length ts ≤ n → Where (λ y. length y.1 ≤ n) (word_by end k ts)
  word_by_short (token.Word w) n ts h = rest_short n ts h
  word_by_short _ n ts h = tt

  pub any_word_short : (n : ℕ) (ts : List Token) → length ts ≤ n → Where (λ y. length y.1 ≤ n) (any_word end ts)
  unfolding any_word
  any_word_short n [] h = tt
  any_word_short n (t ∷ ts) h = word_by_short t.kind n (t ∷ ts) h

  parameter_reads : Reads (OfTurn IsName) (a_parameter end)
  unfolding a_parameter
  parameter_reads n ts h = step _ (name end ts) _ (name_reads n ts h) (λ one k. listed_reads IsName sign.RightParenthesis one.0 k.0 n one.1 k.1)

  parameters_by_read : (s : Option Sign) → Reads (Every IsName) (parameters_by end s)
  parameters_by_read (Some sign.RightParenthesis) n ts h = (tt, rest_short n ts h)
  parameters_by_read _ n ts h = row_reads IsName (a_parameter end) parameter_reads n ts h

  pub parameters_read : Reads (Every IsName) (parameters end)
  unfolding parameters
  parameters_read n ts h = parameters_by_read (next_sign ts) n ts h
