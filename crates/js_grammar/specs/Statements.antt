-- The statements that tokens spell, and scripts (ECMA-262 5.1, sections 12 to 14), by plain descent.
use Rattle.std.specs.Prelude.{ℕ, zero, suc, ◌+◌, ◌*◌, List, [], ◌∷◌, ◌++◌, length, Option, Some, None, Result, Ok, Err, Bool, true, false, ◌||◌, if◌then◌else◌}
use Rattle.js_tree.specs.declared.place.Place.{Place}
use Rattle.js_tree.specs.declared.token.Token.{Token}
use Rattle.js_tree.specs.declared.token.TokenKind.{TokenKind}
use Rattle.js_tree.specs.declared.token.TokenKind.TheVariants as token
use Rattle.js_tree.specs.declared.sign.Sign.{Sign}
use Rattle.js_tree.specs.declared.sign.Sign.TheVariants as sign
use Rattle.js_tree.specs.declared.bound.BoundName.{BoundName}
use Rattle.js_tree.specs.declared.refusal.ReadKind.TheVariants.{Unexpected, TooDeep, Unsupported}
use Rattle.js_tree.specs.declared.statement.Declared.{Declared}
use Rattle.js_tree.specs.declared.statement.Branch.{Branch}
use Rattle.js_tree.specs.declared.statement.Clause.{Clause}
use Rattle.js_tree.specs.declared.statement.Catch.{Catch}
use Rattle.js_tree.specs.Tree.{ExpressionTree, StatementTree, Block, Empty, Evaluate, Debugger, Var, If, DoWhile, While, For, ForIn, Continue, Break, Return, Throw, Switch, Try, Declare, absent, present, OptionalStatement, omitted, given, StartTree, no_start, start_var, start_value, TargetTree, target_value, target_declared, CatchTree, no_catch, a_catch, optional_of, statements_of}
use Rattle.js_tree.specs.View.{function_of, declarations_of, branches_of, clauses_of}
use Rattle.js_tree.specs.Parts.{statement_or_none, catch_or_none}
use Rattle.js_tree.specs.declared.keyword.Keyword.{Keyword}
use Rattle.js_tree.specs.declared.keyword.Keyword.TheVariants as word
use Rattle.js_grammar.specs.declared.turn.Turn.{Turn}
use Rattle.js_grammar.specs.declared.turn.Turn.TheVariants.{More, Last, End}
use Rattle.js_grammar.specs.declared.form.Form.{Form}
use Rattle.js_grammar.specs.declared.form.Form.TheVariants.{Plain, NoIn}
use Rattle.js_grammar.specs.declared.form.LeftSide.TheVariants as side
use Rattle.js_grammar.specs.declared.around.Around.{Around}
use Rattle.js_grammar.specs.Reading.{Refusal, ◌>>=◌}
use Rattle.js_grammar.specs.Words.{keyword_of}
use Rattle.js_grammar.specs.Units.{place_after}
use Rattle.js_grammar.specs.Tokens.{tokens_of}
use Rattle.js_grammar.specs.Readers.{Reader, row, rest_of, sign_of, next_sign, next_keyword, is_sign, place_at, refused, expect, name, semicolon, parted}
use Rattle.js_grammar.specs.Operators.{is_target}
use Rattle.js_grammar.specs.Expressions.{Deeper, a_statement, expression, in_parentheses, function_from, assignment, unary, suffixed}
use Rattle.js_grammar.specs.declared.limits.TheConstants.{NESTING}

-- ---- what stands around a statement

abbrev pub at_top : Around
at_top = record { direct = true; in_function = false; in_loop = false; breakable = false }

-- around a part of a statement
abbrev pub inside : Around → Around
inside a = record { direct = false; in_function = a.in_function; in_loop = a.in_loop; breakable = a.breakable }

-- around the body of a loop
abbrev pub in_loop : Around → Around
in_loop a = record { direct = false; in_function = a.in_function; in_loop = true; breakable = true }

-- around the clauses of a `switch`
abbrev pub in_switch : Around → Around
in_switch a = record { direct = false; in_function = a.in_function; in_loop = a.in_loop; breakable = true }

-- ---- parts that may be missing

-- one of the two parts of a `try` must be there
abbrev pub has_part : Option Catch → Option StatementTree → Bool
has_part None None = false
has_part _ _ = true

-- the one declared name before `in`
abbrev pub before_in : Option Keyword → List Declared → Option Declared
before_in (Some word.In) (x ∷ []) = Some x
before_in _ _ = None

-- a value that may be left out ends here
abbrev pub ends_statement : Option Sign → Bool
ends_statement (Some sign.Semicolon) = true
ends_statement (Some sign.RightBrace) = true
ends_statement _ = false

abbrev pub ends : List Token → Bool
ends [] = true
ends (t ∷ ts) = t.after_line || ends_statement (sign_of t.kind)

-- a line's end or the end of the script stands before what comes next
abbrev pub begins_line : List Token → Bool
begins_line [] = true
begins_line (t ∷ ts) = t.after_line

abbrev pub semicolon_if : Option Sign → List Token → List Token
semicolon_if (Some sign.Semicolon) ts = rest_of ts
semicolon_if _ ts = ts

-- no token is left behind the statements of a script
abbrev pub whole : List StatementTree → List Token → Result (List StatementTree) Refusal
whole body [] = Ok body
whole body (t ∷ ts) = Err (Unexpected, t.place)

-- end: the place after the last unit
module _ (end : Place) where
  -- ---- expression statements (12.4)

  unfoldable pub evaluated : Deeper → Reader StatementTree
  evaluated d ts = do
    value ← expression end d Plain ts
    rest ← semicolon end value.1
    Ok (Evaluate (place_at end ts) value.0, rest)

  -- ---- blocks (12.1)

  -- a block behind its `{`
  unfoldable pub block_from : Deeper → Around → Place → Reader StatementTree
  block_from d around p ts = do
    body ← row (a_statement d (inside around)) ts
    rest ← expect end sign.RightBrace body.1
    Ok (Block p (statements_of body.0), rest)

  unfoldable pub block : Deeper → Around → Reader StatementTree
  block d around ts = do
    open_block ← expect end sign.LeftBrace ts
    block_from d around (place_at end ts) open_block

  -- ---- variables (12.2)

  abbrev pub first_value_by : Deeper → Form → Option Sign → Reader (Option ExpressionTree)
  first_value_by d form (Some sign.Assign) ts = do
    value ← d.value form (rest_of ts)
    Ok (Some value.0, value.1)
  first_value_by d form _ ts = Ok (None, ts)

  unfoldable pub first_value : Deeper → Form → Reader (Option ExpressionTree)
  first_value d form ts = first_value_by d form (next_sign ts) ts

  -- a declared name, and whether a comma stands behind it
  unfoldable pub a_declared : Deeper → Form → Reader (Turn Declared)
  a_declared d form ts = do
    called ← name end ts
    value ← first_value d form called.1
    parted (next_sign value.1) (record { name = called.0; value = value.0 }) value.1

  -- `var` behind its word
  unfoldable pub var_statement : Deeper → Place → Reader StatementTree
  var_statement d p ts = do
    names ← row (a_declared d Plain) ts
    rest ← semicolon end names.1
    Ok (Var p (declarations_of names.0), rest)

  -- ---- `if` (12.5)

  -- a condition in brackets and what is done where it holds
  unfoldable pub one_branch : Deeper → Around → Reader Branch
  one_branch d around ts = do
    condition ← in_parentheses end d ts
    body ← d.statement (inside around) condition.1
    Ok (record { condition = condition.0; body = body.0 }, body.1)

  abbrev pub branch_by : Option Keyword → Option Keyword → Branch → Reader (Turn Branch)
  branch_by (Some word.Else) (Some word.If) b ts = Ok (More b, rest_of (rest_of ts))
  branch_by _ _ b ts = Ok (Last b, ts)

  -- a branch, and whether `else if` stands behind it
  unfoldable pub a_branch : Deeper → Around → Reader (Turn Branch)
  a_branch d around ts = do
    one ← one_branch d around ts
    branch_by (next_keyword one.1) (next_keyword (rest_of one.1)) one.0 one.1

  abbrev pub otherwise_by : Deeper → Around → Option Keyword → Reader (Option StatementTree)
  otherwise_by d around (Some word.Else) ts = do
    one ← d.statement (inside around) (rest_of ts)
    Ok (Some one.0, one.1)
  otherwise_by d around _ ts = Ok (None, ts)

  -- what is done where no condition holds
  unfoldable pub otherwise : Deeper → Around → Reader (Option StatementTree)
  otherwise d around ts = otherwise_by d around (next_keyword ts) ts

  -- `if` behind its word
  unfoldable pub if_statement : Deeper → Around → Place → Reader StatementTree
  if_statement d around p ts = do
    found ← row (a_branch d around) ts
    last ← otherwise d around found.1
    Ok (If p (branches_of found.0) (statement_or_none last.0), last.1)

  -- ---- loops (12.6)

  abbrev pub while_by : Option Keyword → List Token → Result (List Token) Refusal
  while_by (Some word.While) ts = Ok (rest_of ts)
  while_by _ ts = refused end Unexpected ts

  -- `do` behind its word; no semicolon is missed behind it
  unfoldable pub do_statement : Deeper → Around → Place → Reader StatementTree
  do_statement d around p ts = do
    body ← d.statement (in_loop around) ts
    rest ← while_by (next_keyword body.1) body.1
    condition ← in_parentheses end d rest
    Ok (DoWhile p body.0 condition.0, semicolon_if (next_sign condition.1) condition.1)

  -- `while` behind its word
  unfoldable pub while_statement : Deeper → Around → Place → Reader StatementTree
  while_statement d around p ts = do
    condition ← in_parentheses end d ts
    body ← d.statement (in_loop around) condition.1
    Ok (While p condition.0 body.0, body.1)

  abbrev pub optional_by : Deeper → Sign → Bool → Reader (Option ExpressionTree)
  optional_by d close true ts = Ok (None, rest_of ts)
  optional_by d close false ts = do
    value ← expression end d NoIn ts
    rest ← expect end close value.1
    Ok (Some value.0, rest)

  -- an expression or none, and the sign that closes it
  unfoldable pub optional_expression : Deeper → Sign → Reader (Option ExpressionTree)
  optional_expression d close ts = optional_by d close (is_sign close (next_sign ts)) ts

  -- a `for` from its first semicolon on
  unfoldable pub for_from : Deeper → Around → Place → StartTree → Reader StatementTree
  for_from d around p start ts = do
    first ← expect end sign.Semicolon ts
    condition ← optional_expression d sign.Semicolon first
    step ← optional_expression d sign.RightParenthesis condition.1
    body ← d.statement (in_loop around) step.1
    Ok (For p start (optional_of condition.0) (optional_of step.0) body.0, body.1)

  -- a `for`-`in` behind its `in`
  unfoldable pub for_in_from : Deeper → Around → Place → TargetTree → Reader StatementTree
  for_in_from d around p target ts = do
    object ← expression end d NoIn ts
    rest ← expect end sign.RightParenthesis object.1
    body ← d.statement (in_loop around) rest
    Ok (ForIn p target object.0 body.0, body.1)

  abbrev pub for_var_by : Deeper → Around → Place → Place → Option Declared → List Declared → Reader StatementTree
  for_var_by d around p q (Some x) names ts = for_in_from d around p (target_declared x.name (optional_of x.value)) (rest_of ts)
  for_var_by d around p q None names ts = for_from d around p (start_var q (declarations_of names)) ts

  -- a `for` whose header begins with `var`, at q; behind that word
  unfoldable pub for_var : Deeper → Around → Place → Place → Reader StatementTree
  for_var d around p q ts = do
    names ← row (a_declared d NoIn) ts
    for_var_by d around p q (before_in (next_keyword names.1) names.0) names.0 names.1

  abbrev pub for_value_by : Deeper → Around → Place → Option Keyword → ExpressionTree → Reader StatementTree
  for_value_by d around p (Some word.In) e ts =
      if is_target e then for_in_from d around p (target_value e) (rest_of ts) else refused end Unexpected ts
  for_value_by d around p _ e ts = for_from d around p (start_value e) ts

  -- a `for` whose header begins with an expression
  unfoldable pub for_value : Deeper → Around → Place → Reader StatementTree
  for_value d around p ts = do
    value ← expression end d NoIn ts
    for_value_by d around p (next_keyword value.1) value.0 value.1

  abbrev pub for_word : Deeper → Around → Place → Option Keyword → Reader StatementTree
  for_word d around p (Some word.Var) ts = for_var d around p (place_at end ts) (rest_of ts)
  for_word d around p _ ts = for_value d around p ts

  abbrev pub for_by : Deeper → Around → Place → Option Sign → Reader StatementTree
  for_by d around p (Some sign.Semicolon) ts = for_from d around p no_start ts
  for_by d around p _ ts = for_word d around p (next_keyword ts) ts

  -- `for` behind its word
  unfoldable pub for_statement : Deeper → Around → Place → Reader StatementTree
  for_statement d around p ts = do
    open_bracket ← expect end sign.LeftParenthesis ts
    for_by d around p (next_sign open_bracket) open_bracket

  -- ---- `continue`, `break`, `return` and `throw` (12.7 to 12.9, 12.13)

  -- a statement that is its word alone
  abbrev pub alone : StatementTree → Reader StatementTree
  alone s ts = do
    rest ← semicolon end ts
    Ok (s, rest)

  abbrev pub alone_if : Bool → StatementTree → Place → Reader StatementTree
  alone_if true s p ts = alone s ts
  alone_if false s p ts = Err (Unexpected, p)

  abbrev pub returned_by : Deeper → Bool → Place → Reader StatementTree
  returned_by d true p ts = alone (Return p absent) ts
  returned_by d false p ts = do
    value ← expression end d Plain ts
    rest ← semicolon end value.1
    Ok (Return p (present value.0), rest)

  abbrev pub returned_if : Deeper → Bool → Place → Reader StatementTree
  returned_if d true p ts = returned_by d (ends ts) p ts
  returned_if d false p ts = Err (Unexpected, p)

  -- `return` behind its word; its value doesn't stand behind a line's end
  unfoldable pub return_statement : Deeper → Around → Place → Reader StatementTree
  return_statement d around p ts = returned_if d around.in_function p ts

  abbrev pub thrown_by : Deeper → Bool → Place → Reader StatementTree
  thrown_by d true p ts = refused end Unexpected ts
  thrown_by d false p ts = do
    value ← expression end d Plain ts
    rest ← semicolon end value.1
    Ok (Throw p value.0, rest)

  -- `throw` behind its word; its value must stand on the same line
  unfoldable pub throw_statement : Deeper → Place → Reader StatementTree
  throw_statement d p ts = thrown_by d (begins_line ts) p ts

  -- ---- `switch` (12.11)

  -- a clause from its colon on
  unfoldable pub clause_from : Deeper → Around → Option ExpressionTree → Reader Clause
  clause_from d around test ts = do
    colon ← expect end sign.Colon ts
    body ← row (a_statement d around) colon
    Ok (record { test = test; body = body.0 }, body.1)

  abbrev pub case_by : Deeper → Around → Option Keyword → Reader (Turn Clause)
  case_by d around (Some word.Case) ts = do
    test ← expression end d Plain (rest_of ts)
    clause ← clause_from d around (Some test.0) test.1
    Ok (More clause.0, clause.1)
  case_by d around _ ts = Ok (End, ts)

  -- a clause with a test, where one begins here
  unfoldable pub a_case : Deeper → Around → Reader (Turn Clause)
  a_case d around ts = case_by d around (next_keyword ts) ts

  abbrev pub default_by : Deeper → Around → Option Keyword → List Clause → Reader (List Clause)
  default_by d around (Some word.Default) cases ts = do
    default ← clause_from d around None (rest_of ts)
    others ← row (a_case d around) default.1
    Ok (cases ++ default.0 ∷ others.0, others.1)
  default_by d around _ cases ts = Ok (cases, ts)

  -- clauses with tests, of which one may be followed by the only `default`
  unfoldable pub clauses : Deeper → Around → Reader (List Clause)
  clauses d around ts = do
    cases ← row (a_case d around) ts
    default_by d around (next_keyword cases.1) cases.0 cases.1

  -- `switch` behind its word
  unfoldable pub switch_statement : Deeper → Around → Place → Reader StatementTree
  switch_statement d around p ts = do
    value ← in_parentheses end d ts
    open_brace ← expect end sign.LeftBrace value.1
    all ← clauses d (in_switch around) open_brace
    rest ← expect end sign.RightBrace all.1
    Ok (Switch p value.0 (clauses_of all.0), rest)

  -- ---- `try` (12.14)

  abbrev pub catch_by : Deeper → Around → Option Keyword → Reader (Option Catch)
  catch_by d around (Some word.Catch) ts = do
    open_bracket ← expect end sign.LeftParenthesis (rest_of ts)
    called ← name end open_bracket
    close ← expect end sign.RightParenthesis called.1
    body ← d.block (inside around) close
    Ok (Some (record { name = called.0; body = body.0 }), body.1)
  catch_by d around _ ts = Ok (None, ts)

  unfoldable pub catch_part : Deeper → Around → Reader (Option Catch)
  catch_part d around ts = catch_by d around (next_keyword ts) ts

  abbrev pub finally_by : Deeper → Around → Option Keyword → Reader (Option StatementTree)
  finally_by d around (Some word.Finally) ts = do
    body ← d.block (inside around) (rest_of ts)
    Ok (Some body.0, body.1)
  finally_by d around _ ts = Ok (None, ts)

  unfoldable pub finally_part : Deeper → Around → Reader (Option StatementTree)
  finally_part d around ts = finally_by d around (next_keyword ts) ts

  abbrev pub tried : Bool → Place → StatementTree → Option Catch → Option StatementTree → Reader StatementTree
  tried true p body catch last ts = Ok (Try p body (catch_or_none catch) (statement_or_none last), ts)
  tried false p body catch last ts = refused end Unexpected ts

  -- `try` behind its word
  unfoldable pub try_statement : Deeper → Around → Place → Reader StatementTree
  try_statement d around p ts = do
    body ← d.block (inside around) ts
    catch ← catch_part d around body.1
    last ← finally_part d around catch.1
    tried (has_part catch.0 last.0) p body.0 catch.0 last.0 last.1

  -- ---- function declarations (13)

  abbrev pub declared_if : Deeper → Bool → BoundName → Place → Reader StatementTree
  declared_if d true called p ts = do
    f ← function_from end d None ts
    Ok (Declare p called (function_of f.0), f.1)
  declared_if d false called p ts = Err (Unsupported, p)

  -- a function declaration behind its word; it stands directly in the script or in a function's body
  unfoldable pub function_statement : Deeper → Around → Place → Reader StatementTree
  function_statement d around p ts = do
    called ← name end ts
    declared_if d around.direct called.0 p called.1

  -- ---- statements (12)

  -- a name before a colon is a label, which this profile leaves out
  abbrev pub unlabelled : Deeper → Option Sign → Place → Reader StatementTree
  unlabelled d (Some sign.Colon) p ts = Err (Unsupported, p)
  unlabelled d _ p ts = evaluated d ts

  -- a statement that begins with a word, at p, by the reserved word that it is
  abbrev pub word_statement : Deeper → Around → Option Keyword → Place → Reader StatementTree
  word_statement d around None p ts = unlabelled d (next_sign (rest_of ts)) p ts
  word_statement d around (Some word.Var) p ts = var_statement d p (rest_of ts)
  word_statement d around (Some word.If) p ts = if_statement d around p (rest_of ts)
  word_statement d around (Some word.Do) p ts = do_statement d around p (rest_of ts)
  word_statement d around (Some word.While) p ts = while_statement d around p (rest_of ts)
  word_statement d around (Some word.For) p ts = for_statement d around p (rest_of ts)
  word_statement d around (Some word.Continue) p ts = alone_if around.in_loop (Continue p) p (rest_of ts)
  word_statement d around (Some word.Break) p ts = alone_if around.breakable (Break p) p (rest_of ts)
  word_statement d around (Some word.Return) p ts = return_statement d around p (rest_of ts)
  word_statement d around (Some word.Throw) p ts = throw_statement d p (rest_of ts)
  word_statement d around (Some word.Switch) p ts = switch_statement d around p (rest_of ts)
  word_statement d around (Some word.Try) p ts = try_statement d around p (rest_of ts)
  word_statement d around (Some word.Function) p ts = function_statement d around p (rest_of ts)
  word_statement d around (Some word.Debugger) p ts = alone (Debugger p) (rest_of ts)
  word_statement d around (Some word.Class) p ts = Err (Unsupported, p)
  word_statement d around (Some word.Const) p ts = Err (Unsupported, p)
  word_statement d around (Some word.Enum) p ts = Err (Unsupported, p)
  word_statement d around (Some word.Export) p ts = Err (Unsupported, p)
  word_statement d around (Some word.Extends) p ts = Err (Unsupported, p)
  word_statement d around (Some word.Import) p ts = Err (Unsupported, p)
  word_statement d around (Some word.Super) p ts = Err (Unsupported, p)
  word_statement d around (Some word.With) p ts = Err (Unsupported, p)
  word_statement d around (Some _) p ts = evaluated d ts

  abbrev pub statement_by : Deeper → Around → TokenKind → Place → List Token → Reader StatementTree
  statement_by d around (token.Word w) p all ts = word_statement d around (keyword_of w) p all
  statement_by d around (token.Sign sign.LeftBrace) p all ts = block_from d around p ts
  statement_by d around (token.Sign sign.Semicolon) p all ts = Ok (Empty p, ts)
  statement_by d around _ p all ts = evaluated d all

  unfoldable pub statement : Deeper → Around → Reader StatementTree
  statement d around [] = evaluated d []
  statement d around (t ∷ ts) = statement_by d around t.kind t.place (t ∷ ts) ts

  -- ---- nesting

  -- the readers of nested parts, with room for so many more of them, one in another
  unfoldable pub deeper : ℕ → Deeper
  deeper zero = record {
    value = λ form. refused end TooDeep;
    operand = refused end TooDeep;
    callee = refused end TooDeep;
    statement = λ around. refused end TooDeep;
    block = λ around. refused end TooDeep;
  }
  deeper (suc n) = record {
    value = assignment end (deeper n);
    operand = unary end (deeper n);
    callee = suffixed end (deeper n) side.Member;
    statement = statement (deeper n);
    block = block (deeper n);
  }

  -- ---- scripts (14)

  -- the statements that the tokens spell, or the first refusal, with so much room for nesting
  unfoldable pub script_within : ℕ → List Token → Result (List StatementTree) Refusal
  script_within room ts = do
    body ← row (a_statement (deeper room) at_top) ts
    whole body.0 body.1

  -- The script that tokens spell, or the first refusal in the order of reading: at most so many parts are nested.
  abbrev pub script_of : List Token → Result (List StatementTree) Refusal
  script_of ts = script_within NESTING ts

  -- The same without a limit of nesting: no more than two parts begin at one token.
  abbrev pub script_without_limit : List Token → Result (List StatementTree) Refusal
  script_without_limit ts = script_within (2 * length ts + 2) ts

-- The script that a text spells, or its first refusal: one of its tokens stands before all others.
abbrev pub script_of_text : List ℕ → Result (List StatementTree) Refusal
script_of_text us = do
  ts ← tokens_of us
  script_of (place_after (record { line = 1; column = 1 }) us) ts
