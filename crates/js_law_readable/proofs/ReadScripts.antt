-- What reading gives of statements at any depth, and of scripts.
use Rattle.std.proofs.Common.{◌≡◌, ℕ, zero, suc, ◌≤◌, List, [], ◌∷◌, length, Option, Some, None, Result, Ok, Err, false, refl, subst, arith}
use Rattle.js_tree.specs.declared.place.Place.{Place}
use Rattle.js_tree.specs.declared.token.Token.{Token}
use Rattle.js_tree.specs.declared.token.TokenKind.{TokenKind}
use Rattle.js_tree.specs.declared.token.TokenKind.TheVariants as token
use Rattle.js_tree.specs.declared.sign.Sign.{Sign}
use Rattle.js_tree.specs.declared.sign.Sign.TheVariants as sign
use Rattle.js_tree.specs.Tree.{StatementTree, Continue, Break, Debugger, statements_of}
use Rattle.js_tree.specs.declared.keyword.Keyword.{Keyword}
use Rattle.js_tree.specs.declared.keyword.Keyword.TheVariants as word
use Rattle.js_grammar.specs.declared.form.LeftSide.TheVariants as side
use Rattle.js_grammar.specs.declared.around.Around.{Around}
use Rattle.js_grammar.specs.Reading.{Refusal}
use Rattle.js_grammar.specs.Words.{keyword_of}
use Rattle.js_grammar.specs.Tokens.{tokens_of}
use Rattle.js_grammar.specs.Readers.{row, rest_of, next_sign, keyword_in}
use Rattle.js_grammar.specs.Expressions.{Deeper, a_statement}
use Rattle.js_grammar.specs.Statements.{at_top, block_from, unlabelled, word_statement, statement_by, statement, deeper, whole, script_within, script_of_text}
use Rattle.js_law_readable.specs.Readable.{AreStatements, IsStatement}
use Rattle.js_law_readable.specs.Laws.{ScriptsReadAreReadable, TextsReadAreReadable}
use Rattle.js_law_readable.proofs.Steps.{Where, step, weaker, Gives, rest_short, Every}
use Rattle.js_law_readable.proofs.ReadExpressions.{every_statement, is_if_word, GivesStatement, ReadsStatement, IsBlock, PartsRead, statements_read, suffixed_reads}
use Rattle.js_law_readable.proofs.ReadOperators.{unary_reads, assignment_reads}
use Rattle.js_law_readable.proofs.ReadStatements.{block_gives, ReadsOther, alone_reads, alone_if_reads, evaluated_reads, block_from_reads, block_reads, var_reads, do_reads, while_reads, return_reads, throw_reads, declare_reads}
use Rattle.js_law_readable.proofs.ReadBranches.{if_reads}
use Rattle.js_law_readable.proofs.ReadHeaders.{for_reads}
use Rattle.js_law_readable.proofs.ReadClauses.{switch_reads, try_reads}

module _ (end : Place) where
  module _ (d : Deeper) (g : PartsRead d) where
    unlabelled_reads : (a : Around) (s : Option Sign) (p : Place) → ReadsOther a (unlabelled end d s p)
    unlabelled_reads a (Some sign.Colon) p n ts h = tt
    unlabelled_reads a _ p n ts h = evaluated_reads end d g a n ts h

    word_reads : (a : Around) (k : Option Keyword) (p : Place) (n : ℕ) (ts : List Token) → length ts ≤ n → Where (GivesStatement a (is_if_word k) n) (word_statement end d a k p ts)
    word_reads a None p n ts h = unlabelled_reads a (next_sign (rest_of ts)) p n ts h
    word_reads a (Some word.Var) p n ts h = var_reads end d g a p n (rest_of ts) (rest_short n ts h)
    word_reads a (Some word.If) p n ts h = if_reads end d g a p n (rest_of ts) (rest_short n ts h)
    word_reads a (Some word.Do) p n ts h = do_reads end d g a p n (rest_of ts) (rest_short n ts h)
    word_reads a (Some word.While) p n ts h = while_reads end d g a p n (rest_of ts) (rest_short n ts h)
    word_reads a (Some word.For) p n ts h = for_reads end d g a p n (rest_of ts) (rest_short n ts h)
    word_reads a (Some word.Continue) p n ts h = alone_if_reads end a a.in_loop (Continue p) p (λ e. e) refl refl n (rest_of ts) (rest_short n ts h)
    word_reads a (Some word.Break) p n ts h = alone_if_reads end a a.breakable (Break p) p (λ e. e) refl refl n (rest_of ts) (rest_short n ts h)
    word_reads a (Some word.Return) p n ts h = return_reads end d g a p n (rest_of ts) (rest_short n ts h)
    word_reads a (Some word.Throw) p n ts h = throw_reads end d g a p n (rest_of ts) (rest_short n ts h)
    word_reads a (Some word.Switch) p n ts h = switch_reads end d g a p n (rest_of ts) (rest_short n ts h)
    word_reads a (Some word.Try) p n ts h = try_reads end d g a p n (rest_of ts) (rest_short n ts h)
    word_reads a (Some word.Function) p n ts h = declare_reads end d g a p n (rest_of ts) (rest_short n ts h)
    word_reads a (Some word.Debugger) p n ts h = alone_reads end a (Debugger p) tt refl refl n (rest_of ts) (rest_short n ts h)
    word_reads a (Some word.Class) p n ts h = tt
    word_reads a (Some word.Const) p n ts h = tt
    word_reads a (Some word.Enum) p n ts h = tt
    word_reads a (Some word.Export) p n ts h = tt
    word_reads a (Some word.Extends) p n ts h = tt
    word_reads a (Some word.Import) p n ts h = tt
    word_reads a (Some word.Super) p n ts h = tt
    word_reads a (Some word.With) p n ts h = tt
    word_reads a (Some _) p n ts h = evaluated_reads end d g a n ts h

    block_at : (a : Around) (p : Place) (n : ℕ) (ts : List Token) → length ts ≤ n → Where (GivesStatement a false n) (block_from end d a p ts)
    block_at a p n ts h = weaker (Gives (IsBlock a) n) (GivesStatement a false n) (block_from end d a p ts) (λ y k. block_gives a n y k) (block_from_reads end d g a p n ts h)

    statement_by_reads : (a : Around) (kind : TokenKind) (p : Place) (n : ℕ) (all ts : List Token) → length all ≤ n → length ts ≤ n → Where (GivesStatement a (is_if_word (keyword_in kind)) n) (statement_by end d a kind p all ts)
    statement_by_reads a (token.Word w) p n all ts h k = word_reads a (keyword_of w) p n all h
    statement_by_reads a (token.Sign sign.LeftBrace) p n all ts h k = block_at a p n ts k
    statement_by_reads a (token.Sign sign.Semicolon) p n all ts h k = (tt, λ e. refl, refl, k)
    statement_by_reads a _ p n all ts h k = evaluated_reads end d g a n all h

    statement_reads : (a : Around) → ReadsStatement a (statement end d a)
    unfolding statement
    statement_reads a n [] h = evaluated_reads end d g a n [] h
    statement_reads a n (t ∷ ts) h = statement_by_reads a t.kind t.place n (t ∷ ts) ts h (rest_short n (t ∷ ts) h)

  -- what is nested may be read with any room for nesting
  deeper_reads : (room : ℕ) → PartsRead (deeper end room)
  unfolding deeper
  deeper_reads zero = record {
    value = λ form n ts h. tt;
    operand = λ n ts h. tt;
    callee = λ n ts h. tt;
    statement = λ a n ts h. tt;
    block = λ a n ts h. tt;
  }
  deeper_reads (suc room) = record {
    value = λ form n ts h. assignment_reads end (deeper end room) (deeper_reads room) form n ts h;
    operand = λ n ts h. unary_reads end (deeper end room) (deeper_reads room) n ts h;
    callee = λ n ts h. suffixed_reads end (deeper end room) (deeper_reads room) side.Member n ts h;
    statement = λ a n ts h. statement_reads (deeper end room) (deeper_reads room) a n ts h;
    block = λ a n ts h. block_reads end (deeper end room) (deeper_reads room) a n ts h;
  }

  abbrev AreReadable : List StatementTree → Type 0
  AreReadable body = AreStatements at_top (statements_of body)

  whole_reads : (body : List StatementTree) (ts : List Token) → Every (IsStatement at_top) body → Where AreReadable (whole body ts)
  whole_reads body [] are = every_statement at_top body are
  whole_reads body (t ∷ ts) are = tt

  script_reads : (room : ℕ) (ts : List Token) → Where AreReadable (script_within end room ts)
  unfolding script_within
  script_reads room ts = step _ (row (a_statement (deeper end room) at_top) ts) _ (statements_read end (deeper end room) (deeper_reads room) at_top (length ts) ts (omega arith)) (λ body k. whole_reads body.0 body.1 k.0)

where_given : {A : Type 0} (P : A → Type 0) (m : Result A Refusal) (x : A) → Where P m → m ≡ Ok x → P x
where_given P (Ok y) x h e = (let same : y ≡ x = cc in subst P same h)
where_given P (Err r) x h e = cc

any_tokens : (m : Result (List Token) Refusal) → Where (λ ts. Unit {0}) m
any_tokens (Ok ts) = tt
any_tokens (Err r) = tt

pub scripts_law : ScriptsReadAreReadable
scripts_law end room ts body is = where_given (AreReadable end) (script_within end room ts) body (script_reads end room ts) is

text_reads : (us : List ℕ) → Where (λ body. AreStatements at_top (statements_of body)) (script_of_text us)
text_reads us = step _ (tokens_of us) _ (any_tokens (tokens_of us)) (λ ts k. script_reads _ 200 ts)

pub texts_law : TextsReadAreReadable
texts_law us body is = where_given (λ (b : List StatementTree). AreStatements at_top (statements_of b)) (script_of_text us) body (text_reads us) is
