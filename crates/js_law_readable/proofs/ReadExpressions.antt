-- What reading gives of expressions without operators: one lemma for each production.
use Rattle.std.proofs.Common.{◌≡◌, ℕ, ◌≤◌, List, [], ◌∷◌, length, Option, Some, None, Bool, true, false, refl}
use Rattle.js_tree.specs.declared.place.Place.{Place}
use Rattle.js_tree.specs.declared.token.Token.{Token}
use Rattle.js_tree.specs.declared.token.TokenKind.{TokenKind}
use Rattle.js_tree.specs.declared.token.TokenKind.TheVariants as token
use Rattle.js_tree.specs.declared.sign.Sign.{Sign}
use Rattle.js_tree.specs.declared.sign.Sign.TheVariants as sign
use Rattle.js_tree.specs.declared.bound.BoundName.{BoundName}
use Rattle.js_tree.specs.declared.expression.Property.{Property}
use Rattle.js_tree.specs.declared.expression.Suffix.{Suffix}
use Rattle.js_tree.specs.declared.expression.Function.{Function as FunctionRecord}
use Rattle.js_tree.specs.Tree.{ExpressionTree, StatementTree, optional_of, expressions_of, items_of, statements_of}
use Rattle.js_tree.specs.View.{properties_of, suffix_of, suffixes_of, function_of}
use Rattle.js_tree.specs.declared.keyword.Keyword.{Keyword}
use Rattle.js_tree.specs.declared.keyword.Keyword.TheVariants as word
use Rattle.js_grammar.specs.declared.form.Form.{Form}
use Rattle.js_grammar.specs.declared.form.Form.TheVariants.{Plain}
use Rattle.js_grammar.specs.declared.form.LeftSide.{LeftSide}
use Rattle.js_grammar.specs.declared.form.LeftSide.TheVariants as side
use Rattle.js_grammar.specs.declared.around.Around.{Around}
use Rattle.js_grammar.specs.Words.{keyword_of}
use Rattle.js_grammar.specs.Readers.{Reader, row, rest_of, next_sign, next_keyword, expect, name, any_word, parameters}
use Rattle.js_grammar.specs.Expressions.{Deeper, joined, suffixed_by, next_name, is_accessor, a_statement, statement_unless, closes, in_function, a_part, expression, in_parentheses, an_argument, arguments, arguments_by, item_value, item_by, an_item, named_property, property_or_end, property_by, property_from, a_property, function_from, function_expression, function_by, new_expression, new_arguments, new_arguments_by, primary, primary_by, word_value, sign_value, a_suffix, suffix_by, suffixed}
use Rattle.js_law_readable.specs.Readable.{IsName, AreNames, IsOwnName, IsExpression, IsOptional, AreExpressions, AreItems, AreProperties, IsSuffix, AreSuffixes, IsFunction, IsStatement, AreStatements, ends_open, is_if, is_block}
use Rattle.js_law_readable.proofs.Steps.{Where, step, OfOption, Gives, Reads, weaker, rest_short, Every, OfTurn, OfPart, AreSome, row_reads, some_read, parted_reads}
use Rattle.js_law_readable.proofs.ReadParts.{expect_short, listed_reads, name_reads, any_word_short, parameters_read}

-- ---- lists

abbrev pub IsOption : Option ExpressionTree → Type 0
IsOption o = OfOption IsExpression o

abbrev IsProperty : Property → Type 0
IsProperty p = IsExpression p.value

abbrev IsSuffixRecord : Suffix → Type 0
IsSuffixRecord s = IsSuffix (suffix_of s.place s.node)

every_expression : (es : List ExpressionTree) → Every IsExpression es → AreExpressions (expressions_of es)
every_expression [] h = tt
every_expression (e ∷ es) h = (h.0, every_expression es h.1)

pub option_is : (o : Option ExpressionTree) → IsOption o → IsOptional (optional_of o)
option_is None h = tt
option_is (Some e) h = h

every_item : (os : List (Option ExpressionTree)) → Every IsOption os → AreItems (items_of os)
every_item [] h = tt
every_item (o ∷ os) h = (option_is o h.0, every_item os h.1)

every_property : (ps : List Property) → Every IsProperty ps → AreProperties (properties_of ps)
every_property [] h = tt
every_property (p ∷ ps) h = (h.0, every_property ps h.1)

every_suffix : (ss : List Suffix) → Every IsSuffixRecord ss → AreSuffixes (suffixes_of ss)
every_suffix [] h = tt
every_suffix (s ∷ ss) h = (h.0, every_suffix ss h.1)

pub every_statement : (a : Around) (ss : List StatementTree) → Every (IsStatement a) ss → AreStatements a (statements_of ss)
every_statement a [] h = tt
every_statement a (s ∷ ss) h = (h.0, every_statement a ss h.1)

every_name : (xs : List BoundName) → Every IsName xs → AreNames xs
every_name [] h = tt
every_name (x ∷ xs) h = (h.0, every_name xs h.1)

-- ---- nodes

joined_is : (p : Place) (es : List ExpressionTree) → AreSome IsExpression es → IsExpression (joined p es)
joined_is p [] h = cc (h.0)
joined_is p (e ∷ []) h = h.1.0
joined_is p (e ∷ f ∷ es) h = (refl, every_expression (e ∷ f ∷ es) h.1)

suffixed_is : (p : Place) (e : ExpressionTree) (ss : List Suffix) → IsExpression e → Every IsSuffixRecord ss → IsExpression (suffixed_by p e ss)
suffixed_is p e [] is h = is
suffixed_is p e (s ∷ ss) is h = (is, refl, every_suffix (s ∷ ss) h)

-- ---- what the readers of nested parts give

abbrev pub is_else : Option Keyword → Bool
is_else (Some word.Else) = true
is_else _ = false

abbrev pub is_if_word : Option Keyword → Bool
is_if_word (Some word.If) = true
is_if_word _ = false

-- Behind a statement that would take an `else` none stands.
abbrev pub IsFree : StatementTree → List Token → Type 0
IsFree s rest = is_else (next_keyword rest) ≡ true → ends_open s ≡ false

-- A statement that was read; first: whether it began with `if`.
abbrev pub GivesStatement : Around → Bool → ℕ → StatementTree × List Token → Type 0
GivesStatement a first n y = IsStatement a y.0 × IsFree y.0 y.1 × (is_if y.0 ≡ first) × (length y.1 ≤ n)

abbrev pub ReadsStatement : Around → Reader StatementTree → Type 0
ReadsStatement a reader = (n : ℕ) (ts : List Token) → length ts ≤ n → Where (GivesStatement a (is_if_word (next_keyword ts)) n) (reader ts)

abbrev pub IsBlock : Around → StatementTree → Type 0
IsBlock a s = (is_block s ≡ true) × IsStatement a s

pub record PartsRead (d : Deeper) : Type 0 where
  pub value : (form : Form) → Reads IsExpression (d.value form)
  pub operand : Reads IsExpression d.operand
  pub callee : Reads IsExpression d.callee
  pub statement : (a : Around) → ReadsStatement a (d.statement a)
  pub block : (a : Around) → Reads (IsBlock a) (d.block a)

module _ (end : Place) (d : Deeper) (g : PartsRead d) where
  -- ---- what brackets close

  part_reads : (form : Form) → Reads (OfPart IsExpression) (a_part end d form)
  unfolding a_part
  part_reads form n ts h = step _ (d.value form ts) _ (g.value form n ts h) (λ value k. parted_reads IsExpression (next_sign value.1) value.0 k.0 n value.1 k.1)

  pub expression_reads : (form : Form) → Reads IsExpression (expression end d form)
  unfolding expression
  expression_reads form n ts h = step _ (row (a_part end d form) ts) _ (some_read IsExpression (a_part end d form) (part_reads form) n ts h) (λ all k. (joined_is _ all.0 k.0, k.1))

  pub parentheses_read : Reads IsExpression (in_parentheses end d)
  unfolding in_parentheses
  parentheses_read n ts h =
      step _ (expect end sign.LeftParenthesis ts) _ (expect_short end sign.LeftParenthesis n ts h) (λ open_bracket k.
      step _ (expression end d Plain open_bracket) _ (expression_reads Plain n open_bracket k) (λ inside l.
      step _ (expect end sign.RightParenthesis inside.1) _ (expect_short end sign.RightParenthesis n inside.1 l.1) (λ rest m. (l.0, m))))

  argument_reads : Reads (OfTurn IsExpression) (an_argument end d)
  unfolding an_argument
  argument_reads n ts h = step _ (d.value Plain ts) _ (g.value Plain n ts h) (λ value k. listed_reads end IsExpression sign.RightParenthesis value.0 k.0 n value.1 k.1)

  arguments_by_read : (s : Option Sign) → Reads (Every IsExpression) (arguments_by end d s)
  arguments_by_read (Some sign.RightParenthesis) n ts h = (tt, rest_short n ts h)
  arguments_by_read _ n ts h = row_reads IsExpression (an_argument end d) argument_reads n ts h

  arguments_read : Reads (Every IsExpression) (arguments end d)
  unfolding arguments
  arguments_read n ts h = arguments_by_read (next_sign ts) n ts h

  item_value_reads : Reads (OfTurn IsOption) (item_value end d)
  unfolding item_value
  item_value_reads n ts h = step _ (d.value Plain ts) _ (g.value Plain n ts h) (λ value k. listed_reads end IsOption sign.RightBracket (Some value.0) k.0 n value.1 k.1)

  item_by_reads : (s : Option Sign) → Reads (OfTurn IsOption) (item_by end d s)
  item_by_reads (Some sign.RightBracket) n ts h = (tt, rest_short n ts h)
  item_by_reads (Some sign.Comma) n ts h = (tt, rest_short n ts h)
  item_by_reads _ n ts h = item_value_reads n ts h

  item_reads : Reads (OfTurn IsOption) (an_item end d)
  unfolding an_item
  item_reads n ts h = item_by_reads (next_sign ts) n ts h

  property_from_reads : (called : List ℕ) → Reads (OfTurn IsProperty) (property_from end d called)
  property_from_reads called n ts h =
      step _ (expect end sign.Colon ts) _ (expect_short end sign.Colon n ts h) (λ rest k.
      step _ (d.value Plain rest) _ (g.value Plain n rest k) (λ value l. listed_reads end IsProperty sign.RightBrace (record { name = called; value = value.0 }) l.0 n value.1 l.1))

  property_by_reads : (called : Option (List ℕ)) (accessor : Bool) → Reads (OfTurn IsProperty) (property_by end d called accessor)
  property_by_reads None accessor n ts h = tt
  property_by_reads (Some called) true n ts h = tt
  property_by_reads (Some called) false n ts h = property_from_reads called n (rest_of ts) (rest_short n ts h)

  named_property_reads : Reads (OfTurn IsProperty) (named_property end d)
  unfolding named_property
  named_property_reads n ts h = property_by_reads (next_name ts) (is_accessor ts) n ts h

  property_or_end_reads : (s : Option Sign) → Reads (OfTurn IsProperty) (property_or_end end d s)
  property_or_end_reads (Some sign.RightBrace) n ts h = (tt, rest_short n ts h)
  property_or_end_reads _ n ts h = named_property_reads n ts h

  property_reads : Reads (OfTurn IsProperty) (a_property end d)
  unfolding a_property
  property_reads n ts h = property_or_end_reads (next_sign ts) n ts h

  -- ---- functions and `new`

  statement_unless_reads : (a : Around) (b : Bool) → Reads (OfTurn (IsStatement a)) (statement_unless d a b)
  statement_unless_reads a true n ts h = (tt, h)
  statement_unless_reads a false n ts h = step _ (d.statement a ts) _ (g.statement a n ts h) (λ one k. (k.0, k.3))

  statement_turn_reads : (a : Around) → Reads (OfTurn (IsStatement a)) (a_statement d a)
  unfolding a_statement
  statement_turn_reads a n ts h = statement_unless_reads a (closes ts) n ts h

  pub statements_read : (a : Around) → Reads (Every (IsStatement a)) (row (a_statement d a))
  statements_read a n ts h = row_reads (IsStatement a) (a_statement d a) (statement_turn_reads a) n ts h

  abbrev pub IsFunctionOf : Option BoundName → FunctionRecord → Type 0
  IsFunctionOf own f = (f.name ≡ own) × IsFunction (function_of f)

  pub function_from_reads : (own : Option BoundName) → IsOwnName own → Reads (IsFunctionOf own) (function_from end d own)
  unfolding function_from
  function_from_reads own is n ts h =
      step _ (expect end sign.LeftParenthesis ts) _ (expect_short end sign.LeftParenthesis n ts h) (λ open_bracket k.
      step _ (parameters end open_bracket) _ (parameters_read end n open_bracket k) (λ names l.
      step _ (expect end sign.LeftBrace names.1) _ (expect_short end sign.LeftBrace n names.1 l.1) (λ open_body m.
      step _ (row (a_statement d in_function) open_body) _ (statements_read in_function n open_body m) (λ body o.
      step _ (expect end sign.RightBrace body.1) _ (expect_short end sign.RightBrace n body.1 o.1) (λ rest p.
      ((refl, (is, every_name names.0 l.0, refl, every_statement in_function body.0 o.0)), p))))))

  abbrev IsFunctionRecord : FunctionRecord → Type 0
  IsFunctionRecord f = IsFunction (function_of f)

  function_at : (own : Option BoundName) → IsOwnName own → Reads IsFunctionRecord (function_from end d own)
  function_at own is n ts h = weaker (Gives (IsFunctionOf own) n) (Gives IsFunctionRecord n) (function_from end d own ts) (λ x k. (k.0.1, k.1)) (function_from_reads own is n ts h)

  function_by_reads : (s : Option Sign) → Reads IsFunctionRecord (function_by end d s)
  function_by_reads (Some sign.LeftParenthesis) n ts h = function_at None tt n ts h
  function_by_reads _ n ts h = step _ (name end ts) _ (name_reads end n ts h) (λ called k. function_at (Some called.0) k.0 n called.1 k.1)

  function_reads : Reads IsFunctionRecord (function_expression end d)
  unfolding function_expression
  function_reads n ts h = function_by_reads (next_sign ts) n ts h

  new_arguments_by_read : (s : Option Sign) → Reads (Every IsExpression) (new_arguments_by end d s)
  new_arguments_by_read (Some sign.LeftParenthesis) n ts h = arguments_read n (rest_of ts) (rest_short n ts h)
  new_arguments_by_read _ n ts h = (tt, h)

  new_arguments_read : Reads (Every IsExpression) (new_arguments end d)
  unfolding new_arguments
  new_arguments_read n ts h = new_arguments_by_read (next_sign ts) n ts h

  new_reads : (p : Place) → Reads IsExpression (new_expression end d p)
  unfolding new_expression
  new_reads p n ts h =
      step _ (d.callee ts) _ (g.callee n ts h) (λ callee k.
      step _ (new_arguments end d callee.1) _ (new_arguments_read n callee.1 k.1) (λ all l. ((k.0, every_expression all.0 l.0), l.1)))

  -- ---- primary expressions and suffixes

  word_reads : (k : Option Keyword) (w : List ℕ) (p : Place) → keyword_of w ≡ k → Reads IsExpression (word_value end d k w p)
  word_reads None w p none n ts h = ((none, refl), h)
  word_reads (Some word.This) w p is n ts h = (tt, h)
  word_reads (Some word.Null) w p is n ts h = (tt, h)
  word_reads (Some word.True) w p is n ts h = (tt, h)
  word_reads (Some word.False) w p is n ts h = (tt, h)
  word_reads (Some word.New) w p is n ts h = new_reads p n ts h
  word_reads (Some word.Function) w p is n ts h = step _ (function_expression end d ts) _ (function_reads n ts h) (λ f k. k)
  word_reads (Some _) w p is n ts h = tt

  sign_reads : (s : Sign) (p : Place) (n : ℕ) (all ts : List Token) → length all ≤ n → length ts ≤ n → Where (Gives IsExpression n) (sign_value end d s p all ts)
  sign_reads sign.LeftParenthesis p n all ts h k = parentheses_read n all h
  sign_reads sign.LeftBracket p n all ts h k = step _ (row (an_item end d) ts) _ (row_reads IsOption (an_item end d) item_reads n ts k) (λ items l. (every_item items.0 l.0, l.1))
  sign_reads sign.LeftBrace p n all ts h k = step _ (row (a_property end d) ts) _ (row_reads IsProperty (a_property end d) property_reads n ts k) (λ properties l. (every_property properties.0 l.0, l.1))
  sign_reads _ p n all ts h k = tt

  primary_by_reads : (kind : TokenKind) (p : Place) (n : ℕ) (all ts : List Token) → length all ≤ n → length ts ≤ n → Where (Gives IsExpression n) (primary_by end d kind p all ts)
  primary_by_reads (token.Number i) p n all ts h k = (tt, k)
  primary_by_reads (token.Text x) p n all ts h k = (tt, k)
  primary_by_reads (token.Pattern l) p n all ts h k = (tt, k)
  primary_by_reads (token.Word w) p n all ts h k = word_reads (keyword_of w) w p refl n ts k
  primary_by_reads (token.Sign s) p n all ts h k = sign_reads s p n all ts h k

  primary_reads : Reads IsExpression (primary end d)
  unfolding primary
  primary_reads n [] h = tt
  primary_reads n (t ∷ ts) h = primary_by_reads t.kind t.place n (t ∷ ts) ts h (rest_short n (t ∷ ts) h)

  suffix_by_reads : (left : LeftSide) (s : Option Sign) → Reads (OfTurn IsSuffixRecord) (suffix_by end d left s)
  suffix_by_reads left (Some sign.Dot) n ts h = step _ (any_word end (rest_of ts)) _ (any_word_short end n (rest_of ts) (rest_short n ts h)) (λ called k. (tt, k))
  suffix_by_reads left (Some sign.LeftBracket) n ts h =
      step _ (expression end d Plain (rest_of ts)) _ (expression_reads Plain n (rest_of ts) (rest_short n ts h)) (λ index k.
      step _ (expect end sign.RightBracket index.1) _ (expect_short end sign.RightBracket n index.1 k.1) (λ rest l. (k.0, l)))
  suffix_by_reads side.Call (Some sign.LeftParenthesis) n ts h = step _ (arguments end d (rest_of ts)) _ (arguments_read n (rest_of ts) (rest_short n ts h)) (λ all k. (every_expression all.0 k.0, k.1))
  suffix_by_reads side.Call _ n ts h = (tt, h)
  suffix_by_reads side.Member _ n ts h = (tt, h)

  suffix_reads : (left : LeftSide) → Reads (OfTurn IsSuffixRecord) (a_suffix end d left)
  unfolding a_suffix
  suffix_reads left n ts h = suffix_by_reads left (next_sign ts) n ts h

  pub suffixed_reads : (left : LeftSide) → Reads IsExpression (suffixed end d left)
  unfolding suffixed
  suffixed_reads left n ts h =
      step _ (primary end d ts) _ (primary_reads n ts h) (λ first k.
      step _ (row (a_suffix end d left) first.1) _ (row_reads IsSuffixRecord (a_suffix end d left) (suffix_reads left) n first.1 k.1) (λ others l. (suffixed_is _ first.0 others.0 k.0 l.0, l.1)))
