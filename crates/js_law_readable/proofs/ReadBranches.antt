-- What reading gives of `if`: an `else` is taken by the nearest statement, and no `else if` is left to the last branch.
use Rattle.std.proofs.Common.{◌≡◌, ℕ, zero, suc, ◌<◌, ◌≤◌, List, [], ◌∷◌, length, Option, Some, None, Result, Bool, true, false, refl, sym, ap, ◌∙◌, arith}
use Rattle.std.specs.Prelude.{◌||◌}
use Rattle.js_tree.specs.declared.place.Place.{Place}
use Rattle.js_tree.specs.declared.token.Token.{Token}
use Rattle.js_tree.specs.declared.statement.Branch.{Branch}
use Rattle.js_tree.specs.Tree.{StatementTree, If}
use Rattle.js_tree.specs.View.{branches_of}
use Rattle.js_grammar.specs.declared.turn.Turn.{Turn}
use Rattle.js_grammar.specs.declared.turn.Turn.TheVariants.{More, Last, End}
use Rattle.js_tree.specs.declared.keyword.Keyword.{Keyword}
use Rattle.js_tree.specs.declared.keyword.Keyword.TheVariants as word
use Rattle.js_grammar.specs.declared.around.Around.{Around}
use Rattle.js_grammar.specs.Reading.{Refusal}
use Rattle.js_grammar.specs.Readers.{row, row_of, turned, rest_of, next_keyword}
use Rattle.js_grammar.specs.Expressions.{Deeper, in_parentheses}
use Rattle.js_grammar.specs.Statements.{inside, one_branch, branch_by, a_branch, otherwise_by, otherwise, if_statement}
use Rattle.js_tree.specs.Parts.{statement_or_none}
use Rattle.js_grammar.specs.Printing.{more_branches}
use Rattle.js_law_readable.specs.Readable.{IsExpression, AreBranches, IsClosedBefore, IsStatement, ends_open, is_if}
use Rattle.js_law_readable.proofs.Steps.{Where, step, rest_short, has_item}
use Rattle.js_law_readable.proofs.ReadExpressions.{IsFree, is_else, is_if_word, GivesStatement, PartsRead, parentheses_read}

-- no `else if` comes next
abbrev NoElseIf : List Token → Type 0
NoElseIf ts = is_else (next_keyword ts) ≡ true → is_if_word (next_keyword (rest_of ts)) ≡ false

no_else_if : (k j : Option Keyword) (ts : List Token) → next_keyword ts ≡ k → next_keyword (rest_of ts) ≡ j → (is_else k ≡ true → is_if_word j ≡ false) → NoElseIf ts
no_else_if k j ts ek ej none e = ap is_if_word ej ∙ none (sym (ap is_else ek) ∙ e)

two_taken : (k : Keyword) (n : ℕ) (ts : List Token) → next_keyword ts ≡ Some k → length ts ≤ n → length (rest_of (rest_of ts)) < n
two_taken k n [] e h = cc
two_taken k n (t ∷ ts) e h = omega (arith, rest_short (length ts) ts (omega arith), h)

-- ---- a branch

abbrev IsBranch : Around → Branch → Type 0
IsBranch a b = IsExpression b.condition × IsStatement (inside a) b.body

abbrev OfBranch : Around → ℕ → Turn Branch → List Token → Type 0
OfBranch a n (More b) rest = IsBranch a b × (ends_open b.body ≡ false) × (length rest < n)
OfBranch a n (Last b) rest = IsBranch a b × IsFree b.body rest × NoElseIf rest × (length rest ≤ n)
OfBranch a n End rest = ⊥

branch_by_reads : (end : Place) (a : Around) (k j : Option Keyword) (b : Branch) (n : ℕ) (ts : List Token) → next_keyword ts ≡ k → next_keyword (rest_of ts) ≡ j → IsBranch a b → IsFree b.body ts → length ts ≤ n → Where (λ y. OfBranch a n y.0 y.1) (branch_by end k j b ts)
branch_by_reads end a (Some word.Else) (Some word.If) b n ts ek ej is free h = (is, free (ap is_else ek), two_taken word.Else n ts ek h)
branch_by_reads end a (Some word.Else) j b n ts ek ej is free h = (is, free, no_else_if (Some word.Else) j ts ek ej (λ e. refl), h)
branch_by_reads end a k j b n ts ek ej is free h = (is, free, no_else_if k j ts ek ej (λ e. cc), h)

-- ---- the row of branches

-- last: whether an `else` follows the row
abbrev AreRead : Around → ℕ → List Branch × List Token → Type 0
AreRead a n y = (has_item y.0 ≡ true) × ((last : Bool) → (last ≡ true → is_else (next_keyword y.1) ≡ true) → AreBranches a last (branches_of y.0)) × NoElseIf y.1 × (length y.1 ≤ n)

closed_before : (b : Bool) (s : StatementTree) → ends_open s ≡ false → IsClosedBefore b s
closed_before true s h = h
closed_before false s h = tt

closed_where : (last : Bool) (s : StatementTree) (rest : List Token) → IsFree s rest → (last ≡ true → is_else (next_keyword rest) ≡ true) → IsClosedBefore last s
closed_where true s rest free e = free (e refl)
closed_where false s rest free e = tt

branches_turned : (a : Around) (n : ℕ) (t : Turn Branch) (ts : List Token) (others : Result (List Branch × List Token) Refusal) → OfBranch a n t ts → (length ts < n → Where (AreRead a (length ts)) others) → Where (AreRead a n) (turned t ts others)
branches_turned a n (More b) ts others is k = step _ others _ (k is.2) (λ y l. (refl, (λ last e. (is.0.0, is.0.1, closed_before (more_branches (branches_of y.0) || last) b.body is.1, l.1 last e)), l.2, omega (arith, l.3, is.2)))
branches_turned a n (Last b) ts others is k = (refl, (λ last e. (is.0.0, is.0.1, closed_where last b.body ts is.1 e, tt)), is.2, is.3)
branches_turned a n End ts others is k = absurd is

some_branches : (bs : List Branch) → has_item bs ≡ true → more_branches (branches_of bs) ≡ true
some_branches [] h = h
some_branches (b ∷ bs) h = refl

-- ---- what is done where no condition holds

abbrev IsOther : Around → List Token → Option StatementTree → List Token → Type 0
IsOther a ts None rest = is_else (next_keyword rest) ≡ false
IsOther a ts (Some s) rest = (is_else (next_keyword ts) ≡ true) × (is_if s ≡ false) × IsStatement (inside a) s × IsFree s rest

if_gives : (a : Around) (p : Place) (m n : ℕ) (bs : List Branch) (ts : List Token) (o : Option StatementTree) (rest : List Token) → AreRead a m (bs, ts) → IsOther a ts o rest → length rest ≤ n → GivesStatement a true n (If p (branches_of bs) (statement_or_none o), rest)
if_gives a p m n bs ts None rest is other h = ((some_branches bs is.0, is.1 false (λ e. cc), tt), (λ e. sym e ∙ other), refl, h)
if_gives a p m n bs ts (Some s) rest is other h = ((some_branches bs is.0, is.1 true (λ e. other.0), (other.1, other.2)), other.3, refl, h)

module _ (end : Place) (d : Deeper) (g : PartsRead d) where
  one_branch_reads : (a : Around) (n : ℕ) (ts : List Token) → length ts ≤ n → Where (λ y. IsBranch a y.0 × IsFree y.0.body y.1 × (length y.1 ≤ n)) (one_branch end d a ts)
  unfolding one_branch
  one_branch_reads a n ts h =
      step _ (in_parentheses end d ts) _ (parentheses_read end d g n ts h) (λ condition k.
      step _ (d.statement (inside a) condition.1) _ (g.statement (inside a) n condition.1 k.1) (λ body l.
      ((k.0, l.0), l.1, l.3)))

  branch_reads : (a : Around) (n : ℕ) (ts : List Token) → length ts ≤ n → Where (λ y. OfBranch a n y.0 y.1) (a_branch end d a ts)
  unfolding a_branch
  branch_reads a n ts h = step _ (one_branch end d a ts) _ (one_branch_reads a n ts h) (λ one k. branch_by_reads end a (next_keyword one.1) (next_keyword (rest_of one.1)) one.0 n one.1 refl refl k.0 k.1 k.2)

  branches_read : (a : Around) (room : ℕ) (ts : List Token) → length ts < room → Where (AreRead a (length ts)) (row_of (a_branch end d a) room ts)
  unfolding row_of
  branches_read a zero ts h = absurd (omega arith)
  branches_read a (suc room) ts h =
      step _ (a_branch end d a ts) _ (branch_reads a (length ts) ts (omega arith)) (λ one k.
      branches_turned a (length ts) one.0 one.1 (row_of (a_branch end d a) room one.1) k (λ less. branches_read a room one.1 (omega (arith, less, h))))

  other_by_reads : (a : Around) (k : Option Keyword) (n : ℕ) (ts : List Token) → next_keyword ts ≡ k → NoElseIf ts → length ts ≤ n → Where (λ y. IsOther a ts y.0 y.1 × (length y.1 ≤ n)) (otherwise_by end d a k ts)
  other_by_reads a (Some word.Else) n ts ek none h = step _ (d.statement (inside a) (rest_of ts)) _ (g.statement (inside a) n (rest_of ts) (rest_short n ts h)) (λ one l. ((ap is_else ek, l.2 ∙ none (ap is_else ek), l.0, l.1), l.3))
  other_by_reads a _ n ts ek none h = (ap is_else ek, h)

  other_reads : (a : Around) (n : ℕ) (ts : List Token) → NoElseIf ts → length ts ≤ n → Where (λ y. IsOther a ts y.0 y.1 × (length y.1 ≤ n)) (otherwise end d a ts)
  unfolding otherwise
  other_reads a n ts none h = other_by_reads a (next_keyword ts) n ts refl none h

  pub if_reads : (a : Around) (p : Place) (n : ℕ) (ts : List Token) → length ts ≤ n → Where (GivesStatement a true n) (if_statement end d a p ts)
  unfolding if_statement
  if_reads a p n ts h =
      step _ (row (a_branch end d a) ts) _ (branches_read a (suc (length ts)) ts (omega arith)) (λ found k.
      step _ (otherwise end d a found.1) _ (other_reads a n found.1 k.2 (omega (arith, k.3, h))) (λ last l.
      if_gives a p (length ts) n found.0 found.1 last.0 last.1 k l.0 l.1))
