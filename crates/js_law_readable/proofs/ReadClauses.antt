-- What reading gives of `switch` and `try`.
use Rattle.std.proofs.Common.{◌≡◌, List, [], ◌∷◌, ◌++◌, Option, Some, None, Bool, true, false, refl}
use Rattle.std.specs.Prelude.{◌||◌}
use Rattle.js_tree.specs.declared.place.Place.{Place}
use Rattle.js_tree.specs.declared.sign.Sign.TheVariants as sign
use Rattle.js_tree.specs.declared.statement.Clause.{Clause}
use Rattle.js_tree.specs.declared.statement.Catch.{Catch}
use Rattle.js_tree.specs.Tree.{ExpressionTree, StatementTree, Clauses, a_clause, optional_of, statements_of}
use Rattle.js_tree.specs.View.{clauses_of}
use Rattle.js_tree.specs.declared.keyword.Keyword.{Keyword}
use Rattle.js_tree.specs.declared.keyword.Keyword.TheVariants as word
use Rattle.js_grammar.specs.declared.form.Form.TheVariants.{Plain}
use Rattle.js_grammar.specs.declared.around.Around.{Around}
use Rattle.js_grammar.specs.Readers.{row, rest_of, next_keyword, expect, name}
use Rattle.js_grammar.specs.Expressions.{Deeper, a_statement, expression, in_parentheses}
use Rattle.js_grammar.specs.Statements.{inside, in_switch, clause_from, case_by, a_case, default_by, clauses, switch_statement, catch_by, catch_part, finally_by, finally_part, tried, try_statement, has_part}
use Rattle.js_tree.specs.Parts.{catch_or_none, statement_or_none}
use Rattle.js_law_readable.specs.Readable.{IsName, IsExpression, IsStatement, AreClauses, IsCatch, IsFinally, is_caught, is_given}
use Rattle.js_law_readable.proofs.Steps.{step, OfOption, Reads, rest_short, Every, OfTurn, row_reads}
use Rattle.js_law_readable.proofs.ReadParts.{expect_short, name_reads}
use Rattle.js_law_readable.proofs.ReadExpressions.{every_statement, IsBlock, PartsRead, expression_reads, parentheses_read, statements_read}
use Rattle.js_law_readable.proofs.ReadStatements.{ReadsOther}

-- ---- clauses

abbrev HasTest : Option ExpressionTree → Type 0
HasTest None = ⊥
HasTest (Some e) = IsExpression e

abbrev HasNone : Option ExpressionTree → Type 0
HasNone None = Unit {0}
HasNone (Some e) = ⊥

abbrev IsClause : (Option ExpressionTree → Type 0) → Around → Clause → Type 0
IsClause T a c = T c.test × Every (IsStatement a) c.body

case_is : (a : Around) (before : Bool) (test : Option ExpressionTree) (body : List StatementTree) (cs : Clauses) → HasTest test → Every (IsStatement a) body → AreClauses a before cs → AreClauses a before (a_clause (optional_of test) (statements_of body) cs)
case_is a before None body cs is are others = absurd is
case_is a before (Some e) body cs is are others = (is, every_statement a body are, others)

default_is : (a : Around) (test : Option ExpressionTree) (body : List StatementTree) (cs : Clauses) → HasNone test → Every (IsStatement a) body → AreClauses a false cs → AreClauses a true (a_clause (optional_of test) (statements_of body) cs)
default_is a None body cs is are others = (refl, every_statement a body are, others)
default_is a (Some e) body cs is are others = absurd is

cases_are : (a : Around) (before : Bool) (cs : List Clause) → Every (IsClause HasTest a) cs → AreClauses a before (clauses_of cs)
cases_are a before [] h = tt
cases_are a before (c ∷ cs) h = case_is a before c.test c.body (clauses_of cs) h.0.0 h.0.1 (cases_are a before cs h.1)

all_are : (a : Around) (cs : List Clause) (c : Clause) (others : List Clause) → Every (IsClause HasTest a) cs → IsClause HasNone a c → Every (IsClause HasTest a) others → AreClauses a true (clauses_of (cs ++ c ∷ others))
all_are a [] c others h is k = default_is a c.test c.body (clauses_of others) is.0 is.1 (cases_are a false others k)
all_are a (x ∷ cs) c others h is k = case_is a true x.test x.body (clauses_of (cs ++ c ∷ others)) h.0.0 h.0.1 (all_are a cs c others h.1 is k)

-- ---- the parts of a `try`

abbrev IsCatchPart : Around → Catch → Type 0
IsCatchPart a c = IsName c.name × IsBlock (inside a) c.body

catch_is : (a : Around) (c : Option Catch) → OfOption (IsCatchPart a) c → IsCatch a (catch_or_none c)
catch_is a None h = tt
catch_is a (Some c) h = (h.1.0, h.0, h.1.1)

finally_is : (a : Around) (s : Option StatementTree) → OfOption (IsBlock (inside a)) s → IsFinally a (statement_or_none s)
finally_is a None h = tt
finally_is a (Some s) h = h

part_there : (c : Option Catch) (s : Option StatementTree) → has_part c s ≡ true → (is_caught (catch_or_none c) || is_given (statement_or_none s)) ≡ true
part_there None None h = h
part_there None (Some s) h = refl
part_there (Some c) s h = refl

tried_reads : (end : Place) (a : Around) (b : Bool) (p : Place) (body : StatementTree) (c : Option Catch) (last : Option StatementTree) → has_part c last ≡ b → IsBlock (inside a) body → OfOption (IsCatchPart a) c → OfOption (IsBlock (inside a)) last → ReadsOther a (tried end b p body c last)
tried_reads end a true p body c last some is caught final n ts h = ((is.0, part_there c last some, is.1, catch_is a c caught, finally_is a last final), λ e. refl, refl, h)
tried_reads end a false p body c last some is caught final n ts h = tt

module _ (end : Place) (d : Deeper) (g : PartsRead d) where
  clause_reads : (T : Option ExpressionTree → Type 0) (a : Around) (test : Option ExpressionTree) → T test → Reads (IsClause T a) (clause_from end d a test)
  unfolding clause_from
  clause_reads T a test is n ts h =
      step _ (expect end sign.Colon ts) _ (expect_short end sign.Colon n ts h) (λ colon k.
      step _ (row (a_statement d a) colon) _ (statements_read end d g a n colon k) (λ body l. ((is, l.0), l.1)))

  case_by_reads : (a : Around) (k : Option Keyword) → Reads (OfTurn (IsClause HasTest a)) (case_by end d a k)
  case_by_reads a (Some word.Case) n ts h =
      step _ (expression end d Plain (rest_of ts)) _ (expression_reads end d g Plain n (rest_of ts) (rest_short n ts h)) (λ test k.
      step _ (clause_from end d a (Some test.0) test.1) _ (clause_reads HasTest a (Some test.0) k.0 n test.1 k.1) (λ clause l. l))
  case_by_reads a _ n ts h = (tt, h)

  case_reads : (a : Around) → Reads (OfTurn (IsClause HasTest a)) (a_case end d a)
  unfolding a_case
  case_reads a n ts h = case_by_reads a (next_keyword ts) n ts h

  abbrev AreAll : Around → List Clause → Type 0
  AreAll a cs = AreClauses a true (clauses_of cs)

  default_by_reads : (a : Around) (k : Option Keyword) (cases : List Clause) → Every (IsClause HasTest a) cases → Reads (AreAll a) (default_by end d a k cases)
  default_by_reads a (Some word.Default) cases are n ts h =
      step _ (clause_from end d a None (rest_of ts)) _ (clause_reads HasNone a None tt n (rest_of ts) (rest_short n ts h)) (λ default k.
      step _ (row (a_case end d a) default.1) _ (row_reads (IsClause HasTest a) (a_case end d a) (case_reads a) n default.1 k.1) (λ others l.
      (all_are a cases default.0 others.0 are k.0 l.0, l.1)))
  default_by_reads a _ cases are n ts h = (cases_are a true cases are, h)

  clauses_read : (a : Around) → Reads (AreAll a) (clauses end d a)
  unfolding clauses
  clauses_read a n ts h = step _ (row (a_case end d a) ts) _ (row_reads (IsClause HasTest a) (a_case end d a) (case_reads a) n ts h) (λ cases k. default_by_reads a (next_keyword cases.1) cases.0 k.0 n cases.1 k.1)

  pub switch_reads : (a : Around) (p : Place) → ReadsOther a (switch_statement end d a p)
  unfolding switch_statement
  switch_reads a p n ts h =
      step _ (in_parentheses end d ts) _ (parentheses_read end d g n ts h) (λ value k.
      step _ (expect end sign.LeftBrace value.1) _ (expect_short end sign.LeftBrace n value.1 k.1) (λ open_brace l.
      step _ (clauses end d (in_switch a) open_brace) _ (clauses_read (in_switch a) n open_brace l) (λ all m.
      step _ (expect end sign.RightBrace all.1) _ (expect_short end sign.RightBrace n all.1 m.1) (λ rest o.
      ((k.0, m.0), λ e. refl, refl, o)))))

  catch_by_reads : (a : Around) (k : Option Keyword) → Reads (OfOption (IsCatchPart a)) (catch_by end d a k)
  catch_by_reads a (Some word.Catch) n ts h =
      step _ (expect end sign.LeftParenthesis (rest_of ts)) _ (expect_short end sign.LeftParenthesis n (rest_of ts) (rest_short n ts h)) (λ open_bracket k.
      step _ (name end open_bracket) _ (name_reads end n open_bracket k) (λ called l.
      step _ (expect end sign.RightParenthesis called.1) _ (expect_short end sign.RightParenthesis n called.1 l.1) (λ close m.
      step _ (d.block (inside a) close) _ (g.block (inside a) n close m) (λ body o. ((l.0, o.0), o.1)))))
  catch_by_reads a _ n ts h = (tt, h)

  catch_reads : (a : Around) → Reads (OfOption (IsCatchPart a)) (catch_part end d a)
  unfolding catch_part
  catch_reads a n ts h = catch_by_reads a (next_keyword ts) n ts h

  finally_by_reads : (a : Around) (k : Option Keyword) → Reads (OfOption (IsBlock (inside a))) (finally_by end d a k)
  finally_by_reads a (Some word.Finally) n ts h = step _ (d.block (inside a) (rest_of ts)) _ (g.block (inside a) n (rest_of ts) (rest_short n ts h)) (λ body k. k)
  finally_by_reads a _ n ts h = (tt, h)

  finally_reads : (a : Around) → Reads (OfOption (IsBlock (inside a))) (finally_part end d a)
  unfolding finally_part
  finally_reads a n ts h = finally_by_reads a (next_keyword ts) n ts h

  pub try_reads : (a : Around) (p : Place) → ReadsOther a (try_statement end d a p)
  unfolding try_statement
  try_reads a p n ts h =
      step _ (d.block (inside a) ts) _ (g.block (inside a) n ts h) (λ body k.
      step _ (catch_part end d a body.1) _ (catch_reads a n body.1 k.1) (λ caught l.
      step _ (finally_part end d a caught.1) _ (finally_reads a n caught.1 l.1) (λ last m.
      tried_reads end a (has_part caught.0 last.0) p body.0 caught.0 last.0 refl k.0 l.0 m.0 n last.1 m.1)))
