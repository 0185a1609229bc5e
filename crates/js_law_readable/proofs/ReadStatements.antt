-- What reading gives of the statements that have no branches, clauses or headers: one lemma for each production.
use Rattle.std.proofs.Common.{◌≡◌, ℕ, ◌≤◌, List, [], ◌∷◌, length, Option, Some, None, Bool, true, false, refl}
use Rattle.js_tree.specs.declared.place.Place.{Place}
use Rattle.js_tree.specs.declared.token.Token.{Token}
use Rattle.js_tree.specs.declared.sign.Sign.{Sign}
use Rattle.js_tree.specs.declared.sign.Sign.TheVariants as sign
use Rattle.js_tree.specs.declared.bound.BoundName.{BoundName}
use Rattle.js_tree.specs.declared.statement.Declared.{Declared}
use Rattle.js_tree.specs.Tree.{StatementTree, Block, Return, optional_of}
use Rattle.js_tree.specs.View.{declarations_of}
use Rattle.js_tree.specs.declared.keyword.Keyword.{Keyword}
use Rattle.js_tree.specs.declared.keyword.Keyword.TheVariants as word
use Rattle.js_grammar.specs.declared.form.Form.{Form}
use Rattle.js_grammar.specs.declared.form.Form.TheVariants.{Plain}
use Rattle.js_grammar.specs.declared.around.Around.{Around}
use Rattle.js_grammar.specs.Readers.{Reader, row, rest_of, next_sign, next_keyword, expect, name, semicolon}
use Rattle.js_grammar.specs.Expressions.{Deeper, a_statement, expression, in_parentheses, function_from}
use Rattle.js_grammar.specs.Statements.{inside, in_loop, evaluated, block_from, block, first_value, first_value_by, a_declared, var_statement, while_by, do_statement, while_statement, semicolon_if, alone, alone_if, returned_by, returned_if, return_statement, ends, thrown_by, throw_statement, begins_line, declared_if, function_statement}
use Rattle.js_law_readable.specs.Readable.{IsName, AreDeclared, IsStatement, ends_open, is_if, is_block, has_declared}
use Rattle.js_law_readable.proofs.Steps.{Where, step, Gives, Reads, rest_short, Every, OfPart, AreSome, has_item, some_read, parted_reads}
use Rattle.js_law_readable.proofs.ReadParts.{expect_short, semicolon_short, name_reads}
use Rattle.js_law_readable.proofs.ReadExpressions.{IsOption, option_is, every_statement, GivesStatement, IsBlock, PartsRead, expression_reads, parentheses_read, statements_read, function_from_reads}

-- ---- declared names

abbrev pub IsDeclared : Declared → Type 0
IsDeclared x = IsName x.name × IsOption x.value

pub every_declared : (xs : List Declared) → Every IsDeclared xs → AreDeclared (declarations_of xs)
every_declared [] h = tt
every_declared (x ∷ xs) h = (h.0.0, option_is x.value h.0.1, every_declared xs h.1)

pub some_declared : (xs : List Declared) → has_item xs ≡ true → has_declared (declarations_of xs) ≡ true
some_declared [] h = h
some_declared (x ∷ xs) h = refl

-- ---- no `else` is taken by what a block is, nor by most statements

pub block_gives : (a : Around) (n : ℕ) (y : StatementTree × List Token) → Gives (IsBlock a) n y → GivesStatement a false n y
block_gives a n y h = (h.0.1, λ e. closed y.0 h.0.0, no_if y.0 h.0.0, h.1)
  where
    closed : (s : StatementTree) → is_block s ≡ true → ends_open s ≡ false
    closed (Block p ss) e = refl
    closed _ e = cc

    no_if : (s : StatementTree) → is_block s ≡ true → is_if s ≡ false
    no_if (Block p ss) e = refl
    no_if _ e = cc

-- the statement reader, where the statement doesn't begin with `if`
abbrev pub ReadsOther : Around → Reader StatementTree → Type 0
ReadsOther a reader = (n : ℕ) (ts : List Token) → length ts ≤ n → Where (GivesStatement a false n) (reader ts)

semicolon_if_short : (s : Option Sign) (n : ℕ) (ts : List Token) → length ts ≤ n → length (semicolon_if s ts) ≤ n
semicolon_if_short (Some sign.Semicolon) n ts h = rest_short n ts h
semicolon_if_short _ n ts h = h

module _ (end : Place) where
  while_short : (k : Option Keyword) (n : ℕ) (ts : List Token) → length ts ≤ n → Where (λ us. length us ≤ n) (while_by end k ts)
  while_short (Some word.While) n ts h = rest_short n ts h
  while_short _ n ts h = tt

  -- ---- words alone

  pub alone_reads : (a : Around) (s : StatementTree) → IsStatement a s → ends_open s ≡ false → is_if s ≡ false → ReadsOther a (alone end s)
  alone_reads a s is closed no_if n ts h = step _ (semicolon end ts) _ (semicolon_short end n ts h) (λ rest k. (is, λ e. closed, no_if, k))

  pub alone_if_reads : (a : Around) (b : Bool) (s : StatementTree) (p : Place) → (b ≡ true → IsStatement a s) → ends_open s ≡ false → is_if s ≡ false → ReadsOther a (alone_if end b s p)
  alone_if_reads a true s p is closed no_if n ts h = alone_reads a s (is refl) closed no_if n ts h
  alone_if_reads a false s p is closed no_if n ts h = tt

module _ (end : Place) (d : Deeper) (g : PartsRead d) where
  -- ---- expression statements and blocks

  pub evaluated_reads : (a : Around) → ReadsOther a (evaluated end d)
  unfolding evaluated
  evaluated_reads a n ts h =
      step _ (expression end d Plain ts) _ (expression_reads end d g Plain n ts h) (λ value k.
      step _ (semicolon end value.1) _ (semicolon_short end n value.1 k.1) (λ rest l. (k.0, λ e. refl, refl, l)))

  pub block_from_reads : (a : Around) (p : Place) → Reads (IsBlock a) (block_from end d a p)
  unfolding block_from
  block_from_reads a p n ts h =
      step _ (row (a_statement d (inside a)) ts) _ (statements_read end d g (inside a) n ts h) (λ body k.
      step _ (expect end sign.RightBrace body.1) _ (expect_short end sign.RightBrace n body.1 k.1) (λ rest l. ((refl, every_statement (inside a) body.0 k.0), l)))

  pub block_reads : (a : Around) → Reads (IsBlock a) (block end d a)
  unfolding block
  block_reads a n ts h = step _ (expect end sign.LeftBrace ts) _ (expect_short end sign.LeftBrace n ts h) (λ open_block k. block_from_reads a _ n open_block k)

  -- ---- variables

  first_by_reads : (form : Form) (s : Option Sign) → Reads IsOption (first_value_by end d form s)
  first_by_reads form (Some sign.Assign) n ts h = step _ (d.value form (rest_of ts)) _ (g.value form n (rest_of ts) (rest_short n ts h)) (λ value k. k)
  first_by_reads form _ n ts h = (tt, h)

  first_reads : (form : Form) → Reads IsOption (first_value end d form)
  unfolding first_value
  first_reads form n ts h = first_by_reads form (next_sign ts) n ts h

  declared_reads : (form : Form) → Reads (OfPart IsDeclared) (a_declared end d form)
  unfolding a_declared
  declared_reads form n ts h =
      step _ (name end ts) _ (name_reads end n ts h) (λ called k.
      step _ (first_value end d form called.1) _ (first_reads form n called.1 k.1) (λ value l.
      parted_reads IsDeclared (next_sign value.1) (record { name = called.0; value = value.0 }) (k.0, l.0) n value.1 l.1))

  pub some_declared_read : (form : Form) → Reads (AreSome IsDeclared) (row (a_declared end d form))
  some_declared_read form n ts h = some_read IsDeclared (a_declared end d form) (declared_reads form) n ts h

  pub var_reads : (a : Around) (p : Place) → ReadsOther a (var_statement end d p)
  unfolding var_statement
  var_reads a p n ts h =
      step _ (row (a_declared end d Plain) ts) _ (some_declared_read Plain n ts h) (λ names k.
      step _ (semicolon end names.1) _ (semicolon_short end n names.1 k.1) (λ rest l.
      ((some_declared names.0 k.0.0, every_declared names.0 k.0.1), λ e. refl, refl, l)))

  -- ---- loops but `for`

  pub do_reads : (a : Around) (p : Place) → ReadsOther a (do_statement end d a p)
  unfolding do_statement
  do_reads a p n ts h =
      step _ (d.statement (in_loop a) ts) _ (g.statement (in_loop a) n ts h) (λ body k.
      step _ (while_by end (next_keyword body.1) body.1) _ (while_short end (next_keyword body.1) n body.1 k.3) (λ rest l.
      step _ (in_parentheses end d rest) _ (parentheses_read end d g n rest l) (λ condition m.
      ((k.0, m.0), λ e. refl, refl, semicolon_if_short (next_sign condition.1) n condition.1 m.1))))

  pub while_reads : (a : Around) (p : Place) → ReadsOther a (while_statement end d a p)
  unfolding while_statement
  while_reads a p n ts h =
      step _ (in_parentheses end d ts) _ (parentheses_read end d g n ts h) (λ condition k.
      step _ (d.statement (in_loop a) condition.1) _ (g.statement (in_loop a) n condition.1 k.1) (λ body l.
      ((k.0, l.0), l.1, refl, l.3)))

  -- ---- `return` and `throw`

  returned_by_reads : (a : Around) → a.in_function ≡ true → (b : Bool) (p : Place) → ReadsOther a (returned_by end d b p)
  returned_by_reads a is true p n ts h = alone_reads end a (Return p (optional_of None)) (is, tt) refl refl n ts h
  returned_by_reads a is false p n ts h =
      step _ (expression end d Plain ts) _ (expression_reads end d g Plain n ts h) (λ value k.
      step _ (semicolon end value.1) _ (semicolon_short end n value.1 k.1) (λ rest l. ((is, k.0), λ e. refl, refl, l)))

  returned_if_reads : (a : Around) (b : Bool) (p : Place) → a.in_function ≡ b → ReadsOther a (returned_if end d b p)
  returned_if_reads a true p is n ts h = returned_by_reads a is (ends ts) p n ts h
  returned_if_reads a false p is n ts h = tt

  pub return_reads : (a : Around) (p : Place) → ReadsOther a (return_statement end d a p)
  unfolding return_statement
  return_reads a p n ts h = returned_if_reads a a.in_function p refl n ts h

  thrown_by_reads : (a : Around) (b : Bool) (p : Place) → ReadsOther a (thrown_by end d b p)
  thrown_by_reads a true p n ts h = tt
  thrown_by_reads a false p n ts h =
      step _ (expression end d Plain ts) _ (expression_reads end d g Plain n ts h) (λ value k.
      step _ (semicolon end value.1) _ (semicolon_short end n value.1 k.1) (λ rest l. (k.0, λ e. refl, refl, l)))

  pub throw_reads : (a : Around) (p : Place) → ReadsOther a (throw_statement end d p)
  unfolding throw_statement
  throw_reads a p n ts h = thrown_by_reads a (begins_line ts) p n ts h

  -- ---- function declarations

  declared_if_reads : (a : Around) (b : Bool) (x : BoundName) (p : Place) → a.direct ≡ b → IsName x → ReadsOther a (declared_if end d b x p)
  declared_if_reads a true x p direct is n ts h = step _ (function_from end d None ts) _ (function_from_reads end d g None tt n ts h) (λ f k. ((direct, is, k.0.0, k.0.1), λ e. refl, refl, k.1))
  declared_if_reads a false x p direct is n ts h = tt

  pub declare_reads : (a : Around) (p : Place) → ReadsOther a (function_statement end d a p)
  unfolding function_statement
  declare_reads a p n ts h = step _ (name end ts) _ (name_reads end n ts h) (λ called k. declared_if_reads a a.direct called.0 p refl k.0 n called.1 k.1)
