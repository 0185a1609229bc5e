-- What is read of parts of nodes is printed again, where what is read of nodes is.
use Rattle.std.proofs.Common.{◌≡◌, ◌<◌, ℕ, List, [], ◌∷◌, ◌++◌, length, Option, Some, None, Bool, true, false, refl, sym, subst, arith}
use Rattle.std.proofs.lemmas.List.{append-nil}
use Rattle.js_tree.specs.declared.token.Token.{Token}
use Rattle.js_tree.specs.declared.token.TokenKind.TheVariants as token
use Rattle.js_tree.specs.declared.sign.Sign.{Sign}
use Rattle.js_tree.specs.declared.sign.Sign.TheVariants as sign
use Rattle.js_tree.specs.declared.bound.BoundName.{BoundName}
use Rattle.js_tree.specs.declared.keyword.Keyword.{Keyword}
use Rattle.js_tree.specs.declared.keyword.Keyword.TheVariants as word
use Rattle.js_tree.specs.declared.expression.Property.{Property}
use Rattle.js_tree.specs.declared.expression.Suffix.{Suffix}
use Rattle.js_tree.specs.declared.expression.Operand.{Operand}
use Rattle.js_tree.specs.declared.expression.Function.{Function as FunctionRecord}
use Rattle.js_tree.specs.declared.statement.Declared.{Declared}
use Rattle.js_tree.specs.declared.statement.Branch.{Branch}
use Rattle.js_tree.specs.declared.statement.Clause.{Clause}
use Rattle.js_tree.specs.declared.statement.Catch.{Catch}
use Rattle.js_tree.specs.Tree.{ExpressionTree, StatementTree, StartTree, TargetTree, optional_of}
use Rattle.js_tree.specs.View.{function_of, branches_of}
use Rattle.js_tree.specs.Parts.{statement_or_none, catch_or_none}
use Rattle.js_grammar.specs.declared.form.Form.{Form}
use Rattle.js_grammar.specs.declared.around.Around.{Around}
use Rattle.js_grammar.specs.Readers.{rest_of}
use Rattle.js_grammar.specs.Expressions.{next_name, in_function}
use Rattle.js_grammar.specs.Printing.{printed, sign_token, word_token, keyword_token, own_name_tokens, in_round, else_if, more_branches, expression_tokens, optional_tokens, expressions_tokens, suffix_tokens, function_tokens, statement_tokens, otherwise_tokens, finally_tokens, first_value_tokens, declarations_tokens, branches_tokens, start_tokens, target_tokens, test_tokens, catch_tokens}
use Rattle.js_law_induction.proofs.Alike.{Rel, Turns, no_turn, more_turns, last_turn, end_turn, RowOf}
use Rattle.js_law_induction.proofs.Words.{Takes, Behind, Ends, by_sign, by_itself, Worded, a_word, Named, a_name, taken_shorter, closed_row, row_while, Listed, none_listed, some_listed}
use Rattle.js_law_induction.proofs.Derivations.{Kept, statements, items, MoreItem, LastItem, AProperty, AFunction, FunctionValue, NewArguments, ASuffix, AnOperand, FirstValue, ADeclared, Declarations, ABranch, branches, MayFollow, MayStand, Start, Target, ClauseBehind, ACase, Clauses, MayCatch}
use Rattle.js_law_induction.proofs.Derivations as derived
use Rattle.js_law_tokens.specs.BareTokens.{bare_kind}
use Rattle.js_law_tokens.proofs.Keeping.{Keeps, done, named, behind, and_skips, no_longer, round}
use Rattle.js_law_tokens.proofs.Steps.{taken, sign_taken, sign_skipped, keyword_taken, keyword_shortens}
use Rattle.js_law_tokens.proofs.Operators.{operator_taken}
use Rattle.js_law_tokens.proofs.Rows.{Lists, no_part, row_kept, Closes, row_closes}
use Rattle.js_law_tokens.proofs.Lists.{expressions_list, expression_list, item_part, item_list, items_list, property_part, property_list, properties_list, suffix_part, operand_part, name_part, parameters_list, statement_list, statements_list, declared_part, declared_list, declarations_list, clause_part, clause_list, clauses_list, clauses_behind}

-- what was read is printed as it was read
abbrev pub printed_again : Kept
printed_again = record {
  expression = λ a x b. Keeps (expression_tokens x) a b;
  statement = λ around a s b. Keeps (statement_tokens s) a b;
}

-- ---- steps

pub took : {s : Sign} {a b : List Token} → Takes s a b → Keeps (sign_token s ∷ []) a b
took {s} {a} {b} h = subst (λ c. Keeps (sign_token s ∷ []) a c) (sym h.1) (sign_taken a s h.0)

pub left : {s : Sign} {a b : List Token} → bare_kind (token.Sign s) ≡ [] → Takes s a b → Keeps [] a b
left {s} {a} {b} e h = subst (λ c. Keeps [] a c) (sym h.1) (sign_skipped a s e h.0)

pub said : {k : Keyword} {a b : List Token} → Behind k a b → Keeps (keyword_token k ∷ []) a b
said {k} {a} {b} h = subst (λ c. Keeps (keyword_token k ∷ []) a c) (sym h.1) (keyword_taken a k h.0)

pub ended : {a b : List Token} → Ends a b → Keeps [] a b
ended (by_sign takes) = left refl takes
ended (by_itself {a = a}) = done a

-- a row that ends before what is no part
pub none : {a b : List Token} → b ≡ a → Keeps [] a b
none {a} {b} e = subst (λ c. Keeps [] a c) (sym e) (done a)

shorter : {s : Sign} {a b c : List Token} {out : List Token} → Keeps out a b → Takes s b c → length c < length a
shorter {b = b} k h = omega (arith, taken_shorter b h, no_longer k)

worded : {a : List Token} {w : List ℕ} {b : List Token} → Worded a w b → Keeps (word_token w ∷ []) a b
worded (a_word {t} {ts} {w} e) = taken (token.Word w) t ts e

pub called : {a : List Token} {x : BoundName} {b : List Token} → Named a x b → Keeps (name_part x) a b
called (a_name {t} {ts} {w} e free) = taken (token.Word w) t ts e

-- ---- lists in brackets

listed_kept : {A : Type 0} {item : A → List Token} {out : List A → List Token} (l : Lists item out) (P : Rel A)
    → ((a : List Token) (x : A) (b : List Token) → P a x b → Keeps (item x) a b) → {a : List Token} {xs : List A} {b : List Token} → Listed P a xs b → Keeps (out xs) a b
listed_kept l P each (none_listed takes) = no_part l _ _ (left refl takes)
listed_kept l P each (some_listed are) = row_kept l _ (record {
  more = λ a x b is. and_skips (each _ _ _ is.1) (left refl is.2);
  last = λ a x b is. and_skips (each _ _ _ is.1) (left refl is.2);
  ended = λ a b never. absurd never;
}) are

arguments_kept : {a : List Token} {xs : List ExpressionTree} {b : List Token} → Listed printed_again.expression a xs b → Keeps (expression_list xs) a b
arguments_kept are = listed_kept expressions_list printed_again.expression (λ a x b is. is) are

more_item_kept : {a : List Token} {x : Option ExpressionTree} {b : List Token} → MoreItem printed_again a x b → Keeps (item_part x) a b × (length b < length a)
unfolding optional_tokens
more_item_kept (derived.a_hole takes) = (left refl takes, shorter (done _) takes)
more_item_kept (derived.an_item is takes) = (and_skips is (left refl takes), shorter is takes)

last_item_kept : {a : List Token} {x : Option ExpressionTree} {b : List Token} → LastItem printed_again a x b
    → Closes (sign_token sign.RightBracket ∷ []) (item_part x) a b
unfolding optional_tokens
last_item_kept (derived.last_item {b = b} is takes) = (b, is, took takes)

pub items_kept : {a : List Token} {xs : List (Option ExpressionTree)} {b : List Token} → RowOf (items printed_again) a xs b
    → Closes (sign_token sign.RightBracket ∷ []) (item_list xs) a b
items_kept are = row_closes (sign_token sign.RightBracket ∷ []) items_list _ (record {
  more = λ a x b is. more_item_kept is;
  last = λ a x b is. last_item_kept is;
  ended = λ a b takes. took takes;
}) (omega arith) are

name_taken : (w : List ℕ) (a : List Token) → next_name a ≡ Some w → Keeps (printed (token.Text w) ∷ []) a (rest_of a)
name_taken w [] h = cc
name_taken w (t ∷ ts) h = named w t [] ts ts h (done ts)

property_kept : {a : List Token} {x : Property} {b : List Token} → AProperty printed_again a x b → Keeps (property_part x) a b
property_kept (derived.property {a = a} {w = w} h colon is) = behind (name_taken w a h) (behind (took colon) is)

pub properties_kept : {a : List Token} {xs : List Property} {b : List Token} → RowOf (closed_row sign.RightBrace (AProperty printed_again)) a xs b
    → Closes (sign_token sign.RightBrace ∷ []) (property_list xs) a b
properties_kept are = row_closes (sign_token sign.RightBrace ∷ []) properties_list _ (record {
  more = λ a x b is. (and_skips (property_kept is.1) (left refl is.2), shorter (property_kept is.1) is.2);
  last = λ a x b is. (is.0, property_kept is.1, took is.2);
  ended = λ a b takes. took takes;
}) (omega arith) are

-- ---- statements in a row, functions and `new`

pub statements_kept : (around : Around) {a : List Token} {ss : List StatementTree} {b : List Token} → RowOf (statements printed_again around) a ss b
    → Keeps (statement_list ss) a b
statements_kept around are = row_kept statements_list _ (record { more = λ a s b is. is; last = λ a s b never. absurd never; ended = λ a b e. none e }) are

abbrev own_part : Option BoundName → List Token
own_part None = []
own_part (Some x) = name_part x

abbrev pub whole_function : FunctionRecord → List Token
whole_function f = own_name_tokens (function_of f) ++ function_tokens (function_of f)

pub function_kept : {own : Option BoundName} {a : List Token} {f : FunctionRecord} {b : List Token} → AFunction printed_again own a f b
    → Keeps (function_tokens (function_of f)) a b
unfolding function_tokens
function_kept (derived.a_function opens given begins body ends) =
    behind (round (behind (left refl opens) (listed_kept parameters_list Named (λ a x b is. called is) given))) (behind (took begins) (behind (statements_kept in_function body) (took ends)))

own_name_is : {own : Option BoundName} {a : List Token} {f : FunctionRecord} {b : List Token} → AFunction printed_again own a f b
    → own_name_tokens (function_of f) ≡ own_part own
own_name_is {own = None} (derived.a_function opens given begins body ends) = refl
own_name_is {own = Some x} (derived.a_function opens given begins body ends) = refl

pub function_value_kept : {a : List Token} {f : FunctionRecord} {b : List Token} → FunctionValue printed_again a f b → Keeps (whole_function f) a b
function_value_kept (derived.anonymous is) = rw (own_name_is is) (function_kept is)
function_value_kept (derived.named name is) = rw (own_name_is is) (behind (called name) (function_kept is))

pub new_arguments_kept : {a : List Token} {xs : List ExpressionTree} {b : List Token} → NewArguments printed_again a xs b → Keeps (expression_list xs) a b
unfolding expressions_tokens
new_arguments_kept (derived.given takes are) = behind (left refl takes) (arguments_kept are)
new_arguments_kept derived.left_out = done _

-- ---- members, indexes and calls, and operators

pub suffix_kept : {a : List Token} {x : Suffix} {b : List Token} → ASuffix printed_again a x b → Keeps (suffix_part x) a b
unfolding suffix_tokens
suffix_kept (derived.member takes is) = behind (took takes) (worded is)
suffix_kept (derived.index takes is closes) = behind (took takes) (behind is (took closes))
suffix_kept (derived.call takes are) = round (behind (left refl takes) (arguments_kept are))

pub operand_kept : (form : Form) (n : ℕ) {a : List Token} {x : Operand} {b : List Token} → AnOperand printed_again form n a x b → Keeps (operand_part x) a b
operand_kept form n (derived.operand {op = op} {a = a} h is) = behind (operator_taken form n a op h) is

-- ---- declared names

first_kept : {a : List Token} {x : Option ExpressionTree} {b : List Token} → FirstValue printed_again a x b → Keeps (first_value_tokens (optional_of x)) a b
unfolding first_value_tokens
first_kept derived.no_value = done _
first_kept (derived.a_value takes is) = behind (took takes) is

declared_kept : {a : List Token} {x : Declared} {b : List Token} → ADeclared printed_again a x b → Keeps (declared_part x) a b
declared_kept (derived.declared name first) = behind (called name) (first_kept first)

pub declarations_kept : {a : List Token} {xs : List Declared} {b : List Token} → Declarations printed_again a xs b → Keeps (declared_list xs) a b
declarations_kept are = row_kept declarations_list _ (record {
  more = λ a x b is. and_skips (declared_kept is.1) (left refl is.2);
  last = λ a x b is. declared_kept is;
  ended = λ a b never. absurd never;
}) are

-- ---- `if`, `else` and `finally`

-- a condition in brackets and what is done where it holds
abbrev BranchRead : Branch → List Token → List Token → Type 0
BranchRead x a c = (b : List Token) × Keeps (in_round (expression_tokens x.condition)) a b × Keeps (statement_tokens x.body) b c

branch_read : {around : Around} {a : List Token} {x : Branch} {b : List Token} → ABranch printed_again around a x b → BranchRead x a b
branch_read (derived.branch {b = b} is body) = (b, round is, body)

else_kept : (b : Bool) (out before rest : List Token) → b ≡ true → Keeps (keyword_token word.Else ∷ out) before rest → Keeps (else_if b ++ out) before rest
else_kept true out before rest e k = k
else_kept false out before rest e k = absurd (cc)

branch_printed : (x : Branch) (xs : List Branch) (before a b rest : List Token) → Keeps (keyword_token word.If ∷ []) before a → BranchRead x a b
    → Keeps (else_if (more_branches (branches_of xs)) ++ branches_tokens (branches_of xs)) b rest → Keeps (branches_tokens (branches_of (x ∷ xs))) before rest
unfolding branches_tokens
branch_printed x xs before a b rest h k l = behind h (behind k.1 (behind k.2 l))

two_shorter : {a b c d : List Token} (x : Branch) → BranchRead x a b → Behind word.Else b c → Behind word.If c d → length d < length a
two_shorter {b = b} {c = c} x k other again =
    let one : length c < length b = rw other.1 (keyword_shortens b word.Else other.0) in
    rw again.1 (omega (arith, one, keyword_shortens c word.If again.0, no_longer k.1, no_longer k.2))

-- a branch takes two tokens where more follow, so their row never runs out of turns
pub branches_kept : (around : Around) {n : ℕ} {a : List Token} {xs : List Branch} {rest : List Token} (before : List Token)
    → Keeps (keyword_token word.If ∷ []) before a → length a < n → Turns (branches printed_again around) n a xs rest
    → Keeps (branches_tokens (branches_of xs)) before rest × (more_branches (branches_of xs) ≡ true)
unfolding branches_tokens
branches_kept around before h less no_turn = absurd (omega arith)
branches_kept around {a = a} {rest = rest} before h less (more_turns {x = x} {xs = xs} (derived.else_if {b = b} {c = c} is other again) are) =
    let read = branch_read is in
    let others = branches_kept around c (said again) (omega (arith, two_shorter x read other again, less)) are in
    (branch_printed x xs before a b rest h read (else_kept _ _ b rest others.1 (behind (said other) others.0)), refl)
branches_kept around {a = a} {rest = rest} before h less (last_turn {x = x} is) = (branch_printed x [] before a rest rest h (branch_read is) (done rest), refl)
branches_kept around before h less (end_turn never) = absurd never

pub otherwise_kept : {around : Around} {a : List Token} {s : Option StatementTree} {b : List Token} → MayFollow printed_again word.Else around a s b
    → Keeps (otherwise_tokens (statement_or_none s)) a b
unfolding otherwise_tokens
otherwise_kept derived.nothing_follows = done _
otherwise_kept (derived.follows h is) = behind (said h) is

pub finally_kept : {around : Around} {a : List Token} {s : Option StatementTree} {b : List Token} → MayFollow printed_again word.Finally around a s b
    → Keeps (finally_tokens (statement_or_none s)) a b
unfolding finally_tokens
finally_kept derived.nothing_follows = done _
finally_kept (derived.follows h is) = behind (said h) is

-- ---- the headers of `for`

pub may_stand_kept : {close : Sign} {a : List Token} {x : Option ExpressionTree} {b : List Token} → bare_kind (token.Sign close) ≡ []
    → MayStand printed_again close a x b → Keeps (optional_tokens (optional_of x)) a b
unfolding optional_tokens
may_stand_kept e (derived.nothing_stands takes) = left e takes
may_stand_kept e (derived.stands is closes) = and_skips is (left e closes)

pub start_kept : {a : List Token} {u : StartTree} {b : List Token} → Start printed_again a u b → Keeps (start_tokens u) a b
unfolding start_tokens
start_kept derived.nothing = done _
start_kept (derived.variables h are) = behind (said h) (declarations_kept are)
start_kept (derived.value is) = is

pub target_kept : {a : List Token} {u : TargetTree} {b : List Token} → Target printed_again a u b → Keeps (target_tokens u) a b
unfolding target_tokens declarations_tokens
target_kept (derived.a_target is target) = is
target_kept (derived.a_variable {b = b} {x = x} {c = c} h are) =
    behind (said h) (subst (λ out. Keeps out b c) (append-nil (declared_part x)) (declarations_kept are))

-- ---- `switch` and `catch`

body_kept : {around : Around} {test : Option ExpressionTree} {before a : List Token} {x : Clause} {b : List Token}
    → ((c : List Token) → Takes sign.Colon a c → Keeps (test_tokens (optional_of test)) before c) → ClauseBehind printed_again around test a x b
    → Keeps (clause_part x) before b
body_kept {around = around} h (derived.clause colon are) = behind (h _ colon) (statements_kept around are)

case_kept : {around : Around} {a : List Token} {x : Clause} {b : List Token} → ACase printed_again around a x b → Keeps (clause_part x) a b
unfolding test_tokens
case_kept (derived.case h is body) = body_kept (λ c colon. behind (said h) (behind is (took colon))) body

cases_kept : {around : Around} {n : ℕ} {a : List Token} {xs : List Clause} {b : List Token} → Turns (row_while (ACase printed_again around)) n a xs b
    → Keeps (clause_list xs) a b
cases_kept are = row_kept clauses_list _ (record { more = λ a x b is. case_kept is; last = λ a x b never. absurd never; ended = λ a b e. none e }) are

with_default : (xs : List Clause) (y : Clause) (ys : List Clause) (a b c d : List Token) → Keeps (clause_list xs) a b → Keeps (clause_part y) b c
    → Keeps (clause_list ys) c d → Keeps (clause_list (xs ++ y ∷ ys)) a d
with_default xs y ys a b c d k l m = subst (λ out. Keeps out a d) (sym (clauses_behind xs (y ∷ ys))) (behind k (clauses_list.more y ys b c d l m))

pub clauses_kept : {around : Around} {a : List Token} {xs : List Clause} {b : List Token} → Clauses printed_again around a xs b → Keeps (clause_list xs) a b
unfolding test_tokens
clauses_kept (derived.cases are) = cases_kept are
clauses_kept (derived.with_default {xs = xs} {x = x} {ys = ys} are h body others) =
    with_default xs x ys _ _ _ _ (cases_kept are) (body_kept (λ c colon. behind (said h) (took colon)) body) (cases_kept others)

pub catch_kept : {around : Around} {a : List Token} {x : Option Catch} {b : List Token} → MayCatch printed_again around a x b → Keeps (catch_tokens (catch_or_none x)) a b
unfolding catch_tokens
catch_kept derived.no_catch = done _
catch_kept (derived.a_catch h opens name closes body) =
    behind (said h) (behind (round (behind (left refl opens) (and_skips (called name) (left refl closes)))) body)
