-- The induction: the readers of statements keep what the rules hold of, where the readers of nested parts do.
use Rattle.std.proofs.Common.{◌≡◌, ℕ, suc, List, [], ◌∷◌, length, Option, Some, None, Bool, true, false, refl, sym, ap, subst, arith}
use Rattle.std.specs.Prelude.{map}
use Rattle.std.specs.Option.{option_map}
use Rattle.std.proofs.lemmas.List.{map-append}
use Rattle.js_tree.specs.declared.place.Place.{Place}
use Rattle.js_tree.specs.declared.token.Token.{Token}
use Rattle.js_tree.specs.declared.token.TokenKind.{TokenKind}
use Rattle.js_tree.specs.declared.token.TokenKind.TheVariants as token
use Rattle.js_tree.specs.declared.sign.Sign.{Sign}
use Rattle.js_tree.specs.declared.sign.Sign.TheVariants as sign
use Rattle.js_tree.specs.declared.bound.BoundName.{BoundName}
use Rattle.js_tree.specs.declared.keyword.Keyword.{Keyword}
use Rattle.js_tree.specs.declared.keyword.Keyword.TheVariants as word
use Rattle.js_tree.specs.declared.statement.Declared.{Declared}
use Rattle.js_tree.specs.declared.statement.Branch.{Branch}
use Rattle.js_tree.specs.declared.statement.Clause.{Clause}
use Rattle.js_tree.specs.declared.statement.Catch.{Catch}
use Rattle.js_tree.specs.Tree.{ExpressionTree, StatementTree, Debugger, Continue, Break, Return, absent, StartTree, no_start, start_var, start_value, TargetTree, target_value, target_declared, optional_of}
use Rattle.js_tree.specs.View.{declarations_of}
use Rattle.js_grammar.specs.declared.form.Form.{Form}
use Rattle.js_grammar.specs.declared.form.Form.TheVariants.{Plain, NoIn}
use Rattle.js_grammar.specs.declared.around.Around.{Around}
use Rattle.js_grammar.specs.Words.{keyword_of}
use Rattle.js_grammar.specs.Readers.{Reader, row, rest_of, sign_of, next_sign, keyword_in, next_keyword, is_sign, place_at}
use Rattle.js_grammar.specs.Operators.{is_target}
use Rattle.js_grammar.specs.Expressions.{Deeper, a_statement, expression, in_parentheses}
use Rattle.js_grammar.specs.Statements.{inside, in_loop, in_switch, has_part, before_in, ends, begins_line, semicolon_if, evaluated, block_from, block, first_value_by, first_value, a_declared, var_statement, one_branch, branch_by, a_branch, otherwise_by, otherwise, if_statement, while_by, do_statement, while_statement, optional_by, optional_expression, for_from, for_in_from, for_var_by, for_var, for_value_by, for_value, for_word, for_by, for_statement, alone, alone_if, returned_by, returned_if, return_statement, thrown_by, throw_statement, clause_from, case_by, a_case, default_by, clauses, switch_statement, catch_by, catch_part, finally_by, finally_part, tried, try_statement, declared_if, function_statement, unlabelled, word_statement, statement_by, statement}
use Rattle.js_law_induction.proofs.Alike.{Other, moved, moved_turn, Read, Alike, stops, Skips, skips, no_skip, Turned, turn_more, turn_last, turn_end, RowOf, later, past, wait, rest_shorter, skip, both, and_then, skipped, behind, by_test, Keep, KeepBy, row_keeps}
use Rattle.js_law_induction.proofs.Words.{Takes, Behind, Named, Ends, by_sign, by_itself, taken_shorter, ended_less, parted_row, row_while, rest_moved, sign_moved, keyword_moved, ends_moved, line_moved, place_moved, is_the_sign, expect_keeps, semicolon_keeps, name_keeps, parted_keeps}
use Rattle.js_law_induction.proofs.Moves.{Moves, moved_declared, moved_branch, moved_clause, moved_catch}
use Rattle.js_law_induction.proofs.Derivations.{Kept, Rules, statements, FirstValue, ADeclared, Declarations, ABranch, branches, MayFollow, MayStand, Start, Target, ClauseBehind, ACase, Clauses, MayCatch}
use Rattle.js_law_induction.proofs.Derivations as derived
use Rattle.js_law_induction.proofs.Expressions.{Nested}
use Rattle.js_law_induction.proofs.Expressions as read

-- ---- parts that may be missing

semicolon_if_moved : (at : Place → Place) (s : Option Sign) (a : List Token) → semicolon_if s (moved at a) ≡ moved at (semicolon_if s a)
semicolon_if_moved at (Some sign.Semicolon) a = rest_moved at a
semicolon_if_moved at _ a = refl

semicolon_if_ends : (s : Option Sign) (a : List Token) → next_sign a ≡ s → Ends a (semicolon_if s a)
semicolon_if_ends (Some sign.Semicolon) a e = by_sign (e, refl)
semicolon_if_ends _ a e = by_itself

before_in_moved : (f : Declared → Declared) (w : Option Keyword) (xs : List Declared) → before_in w (map f xs) ≡ option_map f (before_in w xs)
before_in_moved f (Some word.In) [] = refl
before_in_moved f (Some word.In) (x ∷ []) = refl
before_in_moved f (Some word.In) (x ∷ y ∷ xs) = refl
before_in_moved f _ xs = refl

before_in_is : (w : Option Keyword) (xs : List Declared) (x : Declared) → before_in w xs ≡ Some x → (w ≡ Some word.In) × (xs ≡ x ∷ [])
before_in_is (Some word.In) [] x h = absurd (cc)
before_in_is (Some word.In) (y ∷ []) x h = let e : y ≡ x = cc in (refl, ap (λ z. z ∷ []) e)
before_in_is (Some word.In) (y ∷ z ∷ zs) x h = absurd (cc)
before_in_is _ xs x h = absurd (cc)

has_part_moved : (f : Catch → Catch) (g : StatementTree → StatementTree) (x : Option Catch) (y : Option StatementTree)
    → has_part (option_map f x) (option_map g y) ≡ has_part x y
has_part_moved f g None None = refl
has_part_moved f g None (Some y) = refl
has_part_moved f g (Some x) y = refl

while_by_keeps : (at : Place → Place) (end : Place) (w : Option Keyword) (a : List Token) → next_keyword a ≡ w
    → Skips at (length a) (Behind word.While a) (while_by end w a) (while_by (at end) w (moved at a))
while_by_keeps at end (Some word.While) a h = rw (rest_moved at a) (skips (rest_of a) (rest_shorter a) (h, refl))
while_by_keeps at end _ a h = rw (place_moved at end a) (no_skip _ (place_at end a) refl)

module _ (o : Other) (m : Moves o.at) (k : Kept) (r : Rules k) (end : Place) (room : ℕ) (d e : Deeper) (nested : Nested o m k room d e) where
  -- what both runs make of a statement that began at a, where b comes next
  abbrev Continues : Around → List Token → List Token → Read StatementTree → Read StatementTree → Type 0
  Continues around a b x y = Alike o m.statement room (length b) (k.statement around a) x y

  -- the production of a statement, behind the word that it begins with
  abbrev KeepBehind : Keyword → (Around → Place → Reader StatementTree) → (Around → Place → Reader StatementTree) → Type 0
  KeepBehind w r t = (around : Around) (p : Place) (a b : List Token) → Behind w a b → Continues around a b (r around p b) (t around (o.at p) (moved o.at b))

  expression_keeps : (form : Form) → Keep o m.expression room k.expression (expression end d form) (expression (o.at end) e form)
  expression_keeps form a = wait (read.expression_keeps o m k r end room d e nested form a)

  in_parentheses_keeps : Keep o m.expression room k.expression (in_parentheses end d) (in_parentheses (o.at end) e)
  in_parentheses_keeps a = wait (wait (read.in_parentheses_keeps o m k r end room d e nested a))

  statements_keep : (around : Around) → Keep o (map m.statement) room (RowOf (statements k around)) (row (a_statement d around)) (row (a_statement e around))
  statements_keep around a = read.statements_keep o m k r end room d e nested around a

  -- ---- expression statements, blocks and variables

  evaluated_keeps : (around : Around) → Keep o m.statement (suc room) (k.statement around) (evaluated end d) (evaluated (o.at end) e)
  unfolding evaluated
  evaluated_keeps around a =
      rw (place_moved o.at end a) (
      and_then _ _ (read.expression_keeps o m k r end room d e nested Plain a) (λ x b is.
      behind _ _ (semicolon_keeps o.at end b) (λ c ends. both c (m.evaluate (place_at end a) x) (r.statement (derived.evaluate is ends)))))

  block_from_keeps : (around : Around) (p : Place) (a b : List Token) → Takes sign.LeftBrace a b
      → Continues around a b (block_from end d around p b) (block_from (o.at end) e around (o.at p) (moved o.at b))
  unfolding block_from
  block_from_keeps around p a b opens =
      and_then _ _ (statements_keep (inside around) b) (λ ss c are.
      behind _ _ (expect_keeps o.at end sign.RightBrace c) (λ f closes. both f (m.block p ss) (r.statement (derived.block opens are closes))))

  pub block_keeps : (around : Around) → Keep o m.statement (suc room) (k.statement around) (block end d around) (block (o.at end) e around)
  unfolding block
  block_keeps around a =
      rw (place_moved o.at end a) (
      skipped _ _ (expect_keeps o.at end sign.LeftBrace a) (λ b less opens. wait (past (taken_shorter a opens) (block_from_keeps around (place_at end a) a b opens))))

  first_value_by_keeps : (form : Form) → KeepBy o (option_map m.expression) room (FirstValue k) next_sign (first_value_by end d form) (first_value_by (o.at end) e form)
  first_value_by_keeps form (Some sign.Assign) a h = rw (rest_moved o.at a) (skip a (and_then _ _ (wait (nested.value form (rest_of a))) (λ x b is. both b refl (derived.a_value (h, refl) is))))
  first_value_by_keeps form _ a h = both a refl derived.no_value

  first_value_keeps : (form : Form) → Keep o (option_map m.expression) room (FirstValue k) (first_value end d form) (first_value (o.at end) e form)
  unfolding first_value
  first_value_keeps form a = rw (sign_moved o.at a) (first_value_by_keeps form (next_sign a) a refl)

  a_declared_keeps : (form : Form)
      → Keep o (moved_turn (moved_declared m.expression)) room (Turned (parted_row (ADeclared k))) (a_declared end d form) (a_declared (o.at end) e form)
  unfolding a_declared
  a_declared_keeps form a =
      and_then _ _ (name_keeps o room end a) (λ x b called.
      and_then _ _ (first_value_keeps form b) (λ v c value.
      parted_keeps (moved_declared m.expression) (ADeclared k) a (record { name = x; value = v }) c (derived.declared called value)))

  declarations_keep : (form : Form) → Keep o (map (moved_declared m.expression)) room (Declarations k) (row (a_declared end d form)) (row (a_declared (o.at end) e form))
  declarations_keep form a = row_keeps (moved_declared m.expression) (parted_row (ADeclared k)) _ _ (a_declared_keeps form) a

  var_statement_keeps : KeepBehind word.Var (λ around. var_statement end d) (λ around. var_statement (o.at end) e)
  unfolding var_statement
  var_statement_keeps around p a b h =
      and_then _ _ (declarations_keep Plain b) (λ xs c are.
      behind _ _ (semicolon_keeps o.at end c) (λ f ends. both f (m.var p xs) (r.statement (derived.var h are ends))))

  -- ---- `if`

  one_branch_keeps : (around : Around) → Keep o (moved_branch m.expression m.statement) room (ABranch k around) (one_branch end d around) (one_branch (o.at end) e around)
  unfolding one_branch
  one_branch_keeps around a =
      and_then _ _ (in_parentheses_keeps a) (λ x b is.
      and_then _ _ (nested.statement (inside around) b) (λ s c body. both c refl (derived.branch is body)))

  branch_by_keeps : (around : Around) (w v : Option Keyword) (a : List Token) (x : Branch) (b : List Token) → next_keyword b ≡ w → next_keyword (rest_of b) ≡ v
      → ABranch k around a x b
      → Alike o (moved_turn (moved_branch m.expression m.statement)) room (length b) (Turned (branches k around) a) (branch_by end w v x b) (branch_by (o.at end) w v (moved_branch m.expression m.statement x) (moved o.at b))
  branch_by_keeps around (Some word.Else) (Some word.If) a x b h i is =
      rw (rest_moved o.at b, rest_moved o.at (rest_of b)) (skip b (skip (rest_of b) (both (rest_of (rest_of b)) refl (turn_more (derived.else_if is (h, refl) (i, refl))))))
  branch_by_keeps around _ _ a x b h i is = both b refl (turn_last is)

  a_branch_keeps : (around : Around)
      → Keep o (moved_turn (moved_branch m.expression m.statement)) room (Turned (branches k around)) (a_branch end d around) (a_branch (o.at end) e around)
  unfolding a_branch
  a_branch_keeps around a =
      and_then _ _ (one_branch_keeps around a) (λ x b is.
      rw (rest_moved o.at b, keyword_moved o.at b, keyword_moved o.at (rest_of b)) (branch_by_keeps around (next_keyword b) (next_keyword (rest_of b)) a x b refl refl is))

  otherwise_by_keeps : (around : Around)
      → KeepBy o (option_map m.statement) room (MayFollow k word.Else around) next_keyword (otherwise_by end d around) (otherwise_by (o.at end) e around)
  otherwise_by_keeps around (Some word.Else) a h = rw (rest_moved o.at a) (skip a (and_then _ _ (nested.statement (inside around) (rest_of a)) (λ s b is. both b refl (derived.follows (h, refl) is))))
  otherwise_by_keeps around _ a h = both a refl derived.nothing_follows

  otherwise_keeps : (around : Around) → Keep o (option_map m.statement) room (MayFollow k word.Else around) (otherwise end d around) (otherwise (o.at end) e around)
  unfolding otherwise
  otherwise_keeps around a = rw (keyword_moved o.at a) (otherwise_by_keeps around (next_keyword a) a refl)

  if_statement_keeps : KeepBehind word.If (if_statement end d) (if_statement (o.at end) e)
  unfolding if_statement
  if_statement_keeps around p a b h =
      and_then _ _ (row_keeps (moved_branch m.expression m.statement) (branches k around) _ _ (a_branch_keeps around) b) (λ xs c are.
      and_then _ _ (otherwise_keeps around c) (λ s f last. both f (m.if p xs s) (r.statement (derived.if h are last))))

  -- ---- `do` and `while`

  do_statement_keeps : KeepBehind word.Do (do_statement end d) (do_statement (o.at end) e)
  unfolding do_statement
  do_statement_keeps around p a b h =
      and_then _ _ (nested.statement (in_loop around) b) (λ s c body. rw (keyword_moved o.at c) (
      behind _ _ (while_by_keeps o.at end (next_keyword c) c refl) (λ f while.
      and_then _ _ (in_parentheses_keeps f) (λ x g is.
      let ends = semicolon_if_ends (next_sign g) g refl in
      rw (sign_moved o.at g, semicolon_if_moved o.at (next_sign g) g) (later (ended_less ends) (
      both (semicolon_if (next_sign g) g) (m.do_while p s x) (r.statement (derived.do_while h body while is ends))))))))

  while_statement_keeps : KeepBehind word.While (while_statement end d) (while_statement (o.at end) e)
  unfolding while_statement
  while_statement_keeps around p a b h =
      and_then _ _ (in_parentheses_keeps b) (λ x c is.
      and_then _ _ (nested.statement (in_loop around) c) (λ s f body. both f (m.while p x s) (r.statement (derived.while h is body))))

  -- ---- `for`

  optional_by_keeps : (close : Sign)
      → KeepBy o (option_map m.expression) room (MayStand k close) (λ a. is_sign close (next_sign a)) (optional_by end d close) (optional_by (o.at end) e close)
  optional_by_keeps close true a h = rw (rest_moved o.at a) (skip a (both (rest_of a) refl (derived.nothing_stands (is_the_sign close (next_sign a) h, refl))))
  optional_by_keeps close false a h =
      and_then _ _ (expression_keeps NoIn a) (λ x b is.
      behind _ _ (expect_keeps o.at end close b) (λ c closes. both c refl (derived.stands is closes)))

  optional_keeps : (close : Sign) → Keep o (option_map m.expression) room (MayStand k close) (optional_expression end d close) (optional_expression (o.at end) e close)
  unfolding optional_expression
  optional_keeps close a = rw (sign_moved o.at a) (optional_by_keeps close (is_sign close (next_sign a)) a refl)

  -- behind `for` and its bracket
  module _ (around : Around) (p : Place) (a b c : List Token) (h : Behind word.For a b) (opens : Takes sign.LeftParenthesis b c) where
    for_from_keeps : (u v : StartTree) (f : List Token) → v ≡ m.start u → Start k c u f
        → Continues around a f (for_from end d around p u f) (for_from (o.at end) e around (o.at p) v (moved o.at f))
    unfolding for_from
    for_from_keeps u v f same start =
        rw same (
        behind _ _ (expect_keeps o.at end sign.Semicolon f) (λ g first.
        and_then _ _ (optional_keeps sign.Semicolon g) (λ x i condition.
        and_then _ _ (optional_keeps sign.RightParenthesis i) (λ y j step.
        and_then _ _ (nested.statement (in_loop around) j) (λ s l body. both l (m.for p u x y s) (r.statement (derived.for h opens start first condition step body)))))))

    for_in_from_keeps : (u v : TargetTree) (f g : List Token) → v ≡ m.header u → Target k c u f → Behind word.In f g
        → Continues around a g (for_in_from end d around p u g) (for_in_from (o.at end) e around (o.at p) v (moved o.at g))
    unfolding for_in_from
    for_in_from_keeps u v f g same target of =
        rw same (
        and_then _ _ (expression_keeps NoIn g) (λ x i is.
        behind _ _ (expect_keeps o.at end sign.RightParenthesis i) (λ j closes.
        and_then _ _ (nested.statement (in_loop around) j) (λ s l body. both l (m.for_in p u x s) (r.statement (derived.for_in h opens target of is closes body))))))

    for_var_by_keeps : (q : Place) (x : Option Declared) (xs : List Declared) (f g : List Token) → before_in (next_keyword g) xs ≡ x → Behind word.Var c f
        → Declarations k f xs g
        → Continues around a g (for_var_by end d around p q x xs g) (for_var_by (o.at end) e around (o.at p) (o.at q) (option_map (moved_declared m.expression) x) (map (moved_declared m.expression) xs) (moved o.at g))
    for_var_by_keeps q (Some x) xs f g i var are =
        let is = before_in_is (next_keyword g) xs x i in
        let target : Target k c (target_declared x.name (optional_of x.value)) g = derived.a_variable var (subst (λ ys. Declarations k f ys g) is.1 are) in
        rw (rest_moved o.at g) (skip g (for_in_from_keeps (target_declared x.name (optional_of x.value)) _ g (rest_of g) (m.header_declared x.name x.value) target (is.0, refl)))
    for_var_by_keeps q None xs f g i var are = for_from_keeps (start_var q (declarations_of xs)) _ g (m.start_variables q xs) (derived.variables var are)

    for_var_keeps : (q : Place) (f : List Token) → Behind word.Var c f
        → Continues around a f (for_var end d around p q f) (for_var (o.at end) e around (o.at p) (o.at q) (moved o.at f))
    unfolding for_var
    for_var_keeps q f var =
        and_then _ _ (declarations_keep NoIn f) (λ xs g are.
        rw (keyword_moved o.at g, before_in_moved (moved_declared m.expression) (next_keyword g) xs) (for_var_by_keeps q (before_in (next_keyword g) xs) xs f g refl var are))

    for_value_by_keeps : (w : Option Keyword) (x : ExpressionTree) (f : List Token) → next_keyword f ≡ w → k.expression c x f
        → Continues around a f (for_value_by end d around p w x f) (for_value_by (o.at end) e around (o.at p) w (m.expression x) (moved o.at f))
    for_value_by_keeps (Some word.In) x f i is =
        rw (m.target x, place_moved o.at end f, rest_moved o.at f) (by_test (is_target x)
        (λ target. skip f (for_in_from_keeps (target_value x) _ f (rest_of f) (m.header_value x) (derived.a_target is target) (i, refl)))
        (stops _ (place_at end f) refl))
    for_value_by_keeps _ x f i is = for_from_keeps (start_value x) _ f (m.start_expression x) (derived.value is)

    for_value_keeps : Continues around a c (for_value end d around p c) (for_value (o.at end) e around (o.at p) (moved o.at c))
    unfolding for_value
    for_value_keeps = and_then _ _ (expression_keeps NoIn c) (λ x f is. rw (keyword_moved o.at f) (for_value_by_keeps (next_keyword f) x f refl is))

    for_word_keeps : (w : Option Keyword) → next_keyword c ≡ w
        → Continues around a c (for_word end d around p w c) (for_word (o.at end) e around (o.at p) w (moved o.at c))
    for_word_keeps (Some word.Var) i = rw (place_moved o.at end c, rest_moved o.at c) (skip c (for_var_keeps (place_at end c) (rest_of c) (i, refl)))
    for_word_keeps _ i = for_value_keeps

    for_by_keeps : (s : Option Sign) → Continues around a c (for_by end d around p s c) (for_by (o.at end) e around (o.at p) s (moved o.at c))
    for_by_keeps (Some sign.Semicolon) = for_from_keeps no_start _ c m.no_start_value derived.nothing
    for_by_keeps _ = rw (keyword_moved o.at c) (for_word_keeps (next_keyword c) refl)

  for_statement_keeps : KeepBehind word.For (for_statement end d) (for_statement (o.at end) e)
  unfolding for_statement
  for_statement_keeps around p a b h =
      behind _ _ (expect_keeps o.at end sign.LeftParenthesis b) (λ c opens. rw (sign_moved o.at c) (for_by_keeps around p a b c h opens (next_sign c)))

  -- ---- `continue`, `break`, `return` and `throw`

  alone_keeps : (around : Around) (s t : StatementTree) (a b : List Token) → t ≡ m.statement s → ((c : List Token) → Ends b c → k.statement around a s c)
      → Continues around a b (alone end s b) (alone (o.at end) t (moved o.at b))
  alone_keeps around s t a b same h = behind _ _ (semicolon_keeps o.at end b) (λ c ends. both c same (h c ends))

  alone_if_keeps : (around : Around) (test : Bool) (s t : StatementTree) (p : Place) (a b : List Token) → t ≡ m.statement s
      → (test ≡ true → (c : List Token) → Ends b c → k.statement around a s c)
      → Continues around a b (alone_if end test s p b) (alone_if (o.at end) test t (o.at p) (moved o.at b))
  alone_if_keeps around true s t p a b same h = alone_keeps around s t a b same (h refl)
  alone_if_keeps around false s t p a b same h = stops _ p refl

  returned_by_keeps : (around : Around) (bare : Bool) (p : Place) (a b : List Token) → Behind word.Return a b → around.in_function ≡ true
      → Continues around a b (returned_by end d bare p b) (returned_by (o.at end) e bare (o.at p) (moved o.at b))
  returned_by_keeps around true p a b h can = alone_keeps around (Return p absent) (Return (o.at p) absent) a b (m.return p) (λ c ends. r.statement (derived.return h can ends))
  returned_by_keeps around false p a b h can =
      and_then _ _ (expression_keeps Plain b) (λ x c is.
      behind _ _ (semicolon_keeps o.at end c) (λ f ends. both f (m.return_value p x) (r.statement (derived.return_value h can is ends))))

  returned_if_keeps : (around : Around) (test : Bool) (p : Place) (a b : List Token) → Behind word.Return a b → around.in_function ≡ test
      → Continues around a b (returned_if end d test p b) (returned_if (o.at end) e test (o.at p) (moved o.at b))
  returned_if_keeps around true p a b h can = rw (ends_moved o.at b) (returned_by_keeps around (ends b) p a b h can)
  returned_if_keeps around false p a b h can = stops _ p refl

  return_statement_keeps : KeepBehind word.Return (return_statement end d) (return_statement (o.at end) e)
  unfolding return_statement
  return_statement_keeps around p a b h = returned_if_keeps around around.in_function p a b h refl

  thrown_by_keeps : (around : Around) (test : Bool) (p : Place) (a b : List Token) → Behind word.Throw a b
      → Continues around a b (thrown_by end d test p b) (thrown_by (o.at end) e test (o.at p) (moved o.at b))
  thrown_by_keeps around true p a b h = rw (place_moved o.at end b) (stops _ (place_at end b) refl)
  thrown_by_keeps around false p a b h =
      and_then _ _ (expression_keeps Plain b) (λ x c is.
      behind _ _ (semicolon_keeps o.at end c) (λ f ends. both f (m.throw p x) (r.statement (derived.throw h is ends))))

  throw_statement_keeps : KeepBehind word.Throw (λ around. throw_statement end d) (λ around. throw_statement (o.at end) e)
  unfolding throw_statement
  throw_statement_keeps around p a b h = rw (line_moved o.at b) (thrown_by_keeps around (begins_line b) p a b h)

  -- ---- `switch`

  clause_from_keeps : (around : Around) (test : Option ExpressionTree)
      → Keep o (moved_clause m.expression m.statement) room (ClauseBehind k around test) (clause_from end d around test) (clause_from (o.at end) e around (option_map m.expression test))
  unfolding clause_from
  clause_from_keeps around test a =
      behind _ _ (expect_keeps o.at end sign.Colon a) (λ b colon.
      and_then _ _ (statements_keep around b) (λ ss c are. both c refl (derived.clause colon are)))

  case_by_keeps : (around : Around)
      → KeepBy o (moved_turn (moved_clause m.expression m.statement)) room (Turned (row_while (ACase k around))) next_keyword (case_by end d around) (case_by (o.at end) e around)
  case_by_keeps around (Some word.Case) a h =
      rw (rest_moved o.at a) (skip a (
      and_then _ _ (expression_keeps Plain (rest_of a)) (λ x b is.
      and_then _ _ (clause_from_keeps around (Some x) b) (λ y c clause. both c refl (turn_more (derived.case (h, refl) is clause))))))
  case_by_keeps around _ a h = both a refl (turn_end refl)

  a_case_keeps : (around : Around)
      → Keep o (moved_turn (moved_clause m.expression m.statement)) room (Turned (row_while (ACase k around))) (a_case end d around) (a_case (o.at end) e around)
  unfolding a_case
  a_case_keeps around a = rw (keyword_moved o.at a) (case_by_keeps around (next_keyword a) a refl)

  cases_keep : (around : Around)
      → Keep o (map (moved_clause m.expression m.statement)) room (RowOf (row_while (ACase k around))) (row (a_case end d around)) (row (a_case (o.at end) e around))
  cases_keep around a = row_keeps (moved_clause m.expression m.statement) (row_while (ACase k around)) _ _ (a_case_keeps around) a

  default_by_keeps : (around : Around) (w : Option Keyword) (xs : List Clause) (a b : List Token) → next_keyword b ≡ w → RowOf (row_while (ACase k around)) a xs b
      → Alike o (map (moved_clause m.expression m.statement)) room (length b) (Clauses k around a) (default_by end d around w xs b) (default_by (o.at end) e around w (map (moved_clause m.expression m.statement) xs) (moved o.at b))
  default_by_keeps around (Some word.Default) xs a b h are =
      rw (rest_moved o.at b) (skip b (
      and_then _ _ (clause_from_keeps around None (rest_of b)) (λ y c default.
      and_then _ _ (cases_keep around c) (λ ys f others.
      both f (sym (map-append (moved_clause m.expression m.statement) xs (y ∷ ys))) (derived.with_default are (h, refl) default others)))))
  default_by_keeps around _ xs a b h are = both b refl (derived.cases are)

  clauses_keep : (around : Around) → Keep o (map (moved_clause m.expression m.statement)) room (Clauses k around) (clauses end d around) (clauses (o.at end) e around)
  unfolding clauses
  clauses_keep around a = and_then _ _ (cases_keep around a) (λ xs b are. rw (keyword_moved o.at b) (default_by_keeps around (next_keyword b) xs a b refl are))

  switch_statement_keeps : KeepBehind word.Switch (switch_statement end d) (switch_statement (o.at end) e)
  unfolding switch_statement
  switch_statement_keeps around p a b h =
      and_then _ _ (in_parentheses_keeps b) (λ x c is.
      behind _ _ (expect_keeps o.at end sign.LeftBrace c) (λ f opens.
      and_then _ _ (clauses_keep (in_switch around) f) (λ ys g are.
      behind _ _ (expect_keeps o.at end sign.RightBrace g) (λ i closes. both i (m.switch p x ys) (r.statement (derived.switch h is opens are closes))))))

  -- ---- `try`

  catch_by_keeps : (around : Around)
      → KeepBy o (option_map (moved_catch m.statement)) room (MayCatch k around) next_keyword (catch_by end d around) (catch_by (o.at end) e around)
  catch_by_keeps around (Some word.Catch) a h =
      rw (rest_moved o.at a) (skip a (
      behind _ _ (expect_keeps o.at end sign.LeftParenthesis (rest_of a)) (λ b opens.
      and_then _ _ (name_keeps o room end b) (λ x c called.
      behind _ _ (expect_keeps o.at end sign.RightParenthesis c) (λ f closes.
      and_then _ _ (nested.block (inside around) f) (λ s g body. both g refl (derived.a_catch (h, refl) opens called closes body)))))))
  catch_by_keeps around _ a h = both a refl derived.no_catch

  catch_keeps : (around : Around) → Keep o (option_map (moved_catch m.statement)) room (MayCatch k around) (catch_part end d around) (catch_part (o.at end) e around)
  unfolding catch_part
  catch_keeps around a = rw (keyword_moved o.at a) (catch_by_keeps around (next_keyword a) a refl)

  finally_by_keeps : (around : Around)
      → KeepBy o (option_map m.statement) room (MayFollow k word.Finally around) next_keyword (finally_by end d around) (finally_by (o.at end) e around)
  finally_by_keeps around (Some word.Finally) a h = rw (rest_moved o.at a) (skip a (and_then _ _ (nested.block (inside around) (rest_of a)) (λ s b is. both b refl (derived.follows (h, refl) is))))
  finally_by_keeps around _ a h = both a refl derived.nothing_follows

  finally_keeps : (around : Around)
      → Keep o (option_map m.statement) room (MayFollow k word.Finally around) (finally_part end d around) (finally_part (o.at end) e around)
  unfolding finally_part
  finally_keeps around a = rw (keyword_moved o.at a) (finally_by_keeps around (next_keyword a) a refl)

  tried_keeps : (around : Around) (test : Bool) (p : Place) (s : StatementTree) (x : Option Catch) (y : Option StatementTree) (a b c f g : List Token)
      → has_part x y ≡ test → Behind word.Try a b → k.statement (inside around) b s c → MayCatch k around c x f → MayFollow k word.Finally around f y g
      → Continues around a g (tried end test p s x y g) (tried (o.at end) test (o.at p) (m.statement s) (option_map (moved_catch m.statement) x) (option_map m.statement y) (moved o.at g))
  tried_keeps around true p s x y a b c f g part h body catch last = both g (m.try p s x y) (r.statement (derived.try h body catch last part))
  tried_keeps around false p s x y a b c f g part h body catch last = rw (place_moved o.at end g) (stops _ (place_at end g) refl)

  try_statement_keeps : KeepBehind word.Try (try_statement end d) (try_statement (o.at end) e)
  unfolding try_statement
  try_statement_keeps around p a b h =
      and_then _ _ (nested.block (inside around) b) (λ s c body.
      and_then _ _ (catch_keeps around c) (λ x f catch.
      and_then _ _ (finally_keeps around f) (λ y g last.
      rw (has_part_moved (moved_catch m.statement) m.statement x y) (tried_keeps around (has_part x y) p s x y a b c f g refl h body catch last))))

  -- ---- function declarations

  declared_if_keeps : (around : Around) (test : Bool) (x : BoundName) (p : Place) (a b c : List Token) → around.direct ≡ test → Behind word.Function a b → Named b x c
      → Continues around a c (declared_if end d test x p c) (declared_if (o.at end) e test x (o.at p) (moved o.at c))
  declared_if_keeps around true x p a b c direct h called =
      and_then _ _ (read.function_from_keeps o m k r end room d e nested None c) (λ f g is. both g (m.declare p x f) (r.statement (derived.declare h called direct is)))
  declared_if_keeps around false x p a b c direct h called = stops _ p refl

  function_statement_keeps : KeepBehind word.Function (function_statement end d) (function_statement (o.at end) e)
  unfolding function_statement
  function_statement_keeps around p a b h = and_then _ _ (name_keeps o room end b) (λ x c called. declared_if_keeps around around.direct x p a b c refl h called)

  -- ---- statements

  -- behind the word that a statement begins with
  begun : {P : StatementTree → List Token → Type 0} {x y : Read StatementTree} (t : Token) (ts : List Token) → Alike o m.statement room (length ts) P x y
      → Alike o m.statement (suc room) (length (t ∷ ts)) P x y
  begun t ts h = wait (past (omega arith) h)

  unlabelled_keeps : (around : Around) (s : Option Sign) (p : Place) (a : List Token)
      → Alike o m.statement (suc room) (length a) (k.statement around a) (unlabelled end d s p a) (unlabelled (o.at end) e s (o.at p) (moved o.at a))
  unlabelled_keeps around (Some sign.Colon) p a = stops _ p refl
  unlabelled_keeps around _ p a = evaluated_keeps around a

  word_statement_keeps : (around : Around) (w : Option Keyword) (p : Place) (t : Token) (ts : List Token) → next_keyword (t ∷ ts) ≡ w
      → Alike o m.statement (suc room) (length (t ∷ ts)) (k.statement around (t ∷ ts)) (word_statement end d around w p (t ∷ ts)) (word_statement (o.at end) e around w (o.at p) (moved o.at (t ∷ ts)))
  word_statement_keeps around None p t ts h = rw (sign_moved o.at ts) (unlabelled_keeps around (next_sign ts) p (t ∷ ts))
  word_statement_keeps around (Some word.Var) p t ts h = begun t ts (var_statement_keeps around p (t ∷ ts) ts (h, refl))
  word_statement_keeps around (Some word.If) p t ts h = begun t ts (if_statement_keeps around p (t ∷ ts) ts (h, refl))
  word_statement_keeps around (Some word.Do) p t ts h = begun t ts (do_statement_keeps around p (t ∷ ts) ts (h, refl))
  word_statement_keeps around (Some word.While) p t ts h = begun t ts (while_statement_keeps around p (t ∷ ts) ts (h, refl))
  word_statement_keeps around (Some word.For) p t ts h = begun t ts (for_statement_keeps around p (t ∷ ts) ts (h, refl))
  word_statement_keeps around (Some word.Continue) p t ts h = begun t ts (alone_if_keeps around around.in_loop (Continue p) (Continue (o.at p)) p (t ∷ ts) ts (m.continue p) (λ can c ends. r.statement (derived.continue (h, refl) can ends)))
  word_statement_keeps around (Some word.Break) p t ts h = begun t ts (alone_if_keeps around around.breakable (Break p) (Break (o.at p)) p (t ∷ ts) ts (m.break p) (λ can c ends. r.statement (derived.break (h, refl) can ends)))
  word_statement_keeps around (Some word.Return) p t ts h = begun t ts (return_statement_keeps around p (t ∷ ts) ts (h, refl))
  word_statement_keeps around (Some word.Throw) p t ts h = begun t ts (throw_statement_keeps around p (t ∷ ts) ts (h, refl))
  word_statement_keeps around (Some word.Switch) p t ts h = begun t ts (switch_statement_keeps around p (t ∷ ts) ts (h, refl))
  word_statement_keeps around (Some word.Try) p t ts h = begun t ts (try_statement_keeps around p (t ∷ ts) ts (h, refl))
  word_statement_keeps around (Some word.Function) p t ts h = begun t ts (function_statement_keeps around p (t ∷ ts) ts (h, refl))
  word_statement_keeps around (Some word.Debugger) p t ts h = begun t ts (alone_keeps around (Debugger p) (Debugger (o.at p)) (t ∷ ts) ts (m.debugger p) (λ c ends. r.statement (derived.debugger (h, refl) ends)))
  word_statement_keeps around (Some word.Class) p t ts h = stops _ p refl
  word_statement_keeps around (Some word.Const) p t ts h = stops _ p refl
  word_statement_keeps around (Some word.Enum) p t ts h = stops _ p refl
  word_statement_keeps around (Some word.Export) p t ts h = stops _ p refl
  word_statement_keeps around (Some word.Extends) p t ts h = stops _ p refl
  word_statement_keeps around (Some word.Import) p t ts h = stops _ p refl
  word_statement_keeps around (Some word.Super) p t ts h = stops _ p refl
  word_statement_keeps around (Some word.With) p t ts h = stops _ p refl
  word_statement_keeps around (Some _) p t ts h = evaluated_keeps around (t ∷ ts)

  statement_by_keeps : (around : Around) (kind : TokenKind) (t : Token) (ts : List Token) → t.kind ≡ kind
      → Alike o m.statement (suc room) (length (t ∷ ts)) (k.statement around (t ∷ ts)) (statement_by end d around kind t.place (t ∷ ts) ts) (statement_by (o.at end) e around kind (o.at t.place) (moved o.at (t ∷ ts)) (moved o.at ts))
  statement_by_keeps around (token.Word w) t ts h = word_statement_keeps around (keyword_of w) t.place t ts (ap keyword_in h)
  statement_by_keeps around (token.Sign sign.LeftBrace) t ts h = begun t ts (block_from_keeps around t.place (t ∷ ts) ts (ap sign_of h, refl))
  statement_by_keeps around (token.Sign sign.Semicolon) t ts h = skip (t ∷ ts) (both ts (m.empty t.place) (r.statement (derived.empty (ap sign_of h, refl))))
  statement_by_keeps around _ t ts h = evaluated_keeps around (t ∷ ts)

  pub statement_keeps : (around : Around) → Keep o m.statement (suc room) (k.statement around) (statement end d around) (statement (o.at end) e around)
  unfolding statement
  statement_keeps around [] = evaluated_keeps around []
  statement_keeps around (t ∷ ts) = statement_by_keeps around t.kind t ts refl
