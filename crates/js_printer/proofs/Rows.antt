-- Loops over lists of parts: what a pattern `[one, rest @ ..]` takes apart, and one turn of each loop. A turn of a loop
-- leads from the row before it, `xs`, and the bytes `a` to the row behind it, `rest`; `whole` is what the loop is to
-- write.
use Rattle.std.proofs.Common.{◌≡◌, ℕ, ◌-◌, ◌<◌, ◌≤◌, List, [], ◌∷◌, Bool, true, false, Option, length, take, drop, get_or, nat_eq, refl, sym, ap, ◌∙◌, arith}
use mathlib.Core.Bool.{not}
use Rattle.std.proofs.Math.Dec.{eqb-suc-zero}
use Rattle.std.proofs.lemmas.List.{nil_from_length, take_all}
use Rattle.js_tree.specs.declared.bound.BoundName.{BoundName}
use Rattle.js_tree.specs.declared.token.TokenKind.TheVariants as token
use Rattle.js_tree.specs.declared.token.Token.{Token}
use Rattle.js_tree.specs.declared.sign.Sign.TheVariants as sign
use Rattle.js_tree.specs.declared.expression.Property.{Property}
use Rattle.js_tree.specs.declared.expression.Suffix.{Suffix}
use Rattle.js_tree.specs.declared.expression.Operand.{Operand}
use Rattle.js_tree.specs.declared.statement.Declared.{Declared}
use Rattle.js_tree.specs.declared.statement.Branch.{Branch}
use Rattle.js_tree.specs.declared.statement.Clause.{Clause}
use Rattle.js_tree.specs.Size.{expressions_size, items_size, properties_size, suffixes_size, operands_size, statements_size, declarations_size, branches_size, clauses_size}
use Rattle.js_tree.specs.Tree.{ExpressionTree, StatementTree, optional_of, expressions_of, items_of, statements_of}
use Rattle.js_tree.specs.View.{properties_of, suffix_of, suffixes_of, operands_of, declarations_of, branches_of, clauses_of}
use Rattle.js_tree.specs.declared.keyword.Keyword.TheVariants as word
use Rattle.js_grammar.specs.Printing.{printed, sign_token, word_token, keyword_token, binary_token, comma_if, else_if, parameters_tokens, expression_tokens, expressions_tokens, items_tokens, item_tokens, properties_tokens, suffix_tokens, suffixes_tokens, operands_tokens, statement_tokens, statements_tokens, first_value_tokens, declarations_tokens, branches_tokens, test_tokens, clauses_tokens}
use Rattle.js_printer.specs.Written.{written}
use Rattle.js_printer.proofs.Tokens.{written_append}

pub first_and_rest : {A : Type 0} (xs : List A) (x : A) → 1 ≤ length xs → x ≡ get_or xs 0 x → xs ≡ x ∷ take (length xs - 1) (drop 1 xs)
first_and_rest [] x h e = absurd (omega arith)
first_and_rest (y ∷ ys) x h e =
    let rest : take (length (y ∷ ys) - 1) ys ≡ ys = take_all (length (y ∷ ys) - 1) ys (omega arith) in
    rw rest (ap (λ z. z ∷ ys) (sym e))

-- a row goes on behind its first part
goes_on : {A : Type 0} (size : List A → ℕ) (tokens : List A → List Token) (xs rest : List A) (x : A) (n : ℕ) (a b whole : List ℕ) → xs ≡ x ∷ rest → size rest ≤ size (x ∷ rest) → written b (tokens rest) ≡ written a (tokens (x ∷ rest)) → (size xs ≤ n) × (written a (tokens xs) ≡ whole) → (size rest ≤ n) × (written b (tokens rest) ≡ whole)
goes_on size tokens xs rest x n a b whole e less step before =
    let same : size xs ≡ size (x ∷ rest) = ap size e in
    let smaller : size xs ≤ n = before.0 in
    let below : size rest ≤ n = omega (arith, same, less, smaller) in
    let here : written b (tokens rest) ≡ whole = step ∙ ap (λ ys. written a (tokens ys)) (sym e) ∙ before.1 in
    (below, here)

-- a row is over
pub all_written : {A : Type 0} (size : List A → ℕ) (tokens : List A → List Token) (xs : List A) (n : ℕ) (a whole : List ℕ) → tokens [] ≡ [] → length xs < 1 → (size xs ≤ n) × (written a (tokens xs) ≡ whole) → a ≡ whole
unfolding written
all_written size tokens xs n a whole none h before =
    let here : written a (tokens xs) ≡ a = ap (λ ys. written a (tokens ys)) (nil_from_length xs (omega (arith, h))) ∙ ap (λ ts. written a ts) none in
    sym here ∙ before.1

-- ---- what one turn writes; a comma, or `else`, stands behind each part but the last

names_stepped : (out : List ℕ) (last : Bool) (x : BoundName) (rest : List (BoundName)) → last ≡ nat_eq (length rest) 0 → written (written (written out (word_token x.name ∷ [])) (comma_if (not last))) (parameters_tokens rest) ≡ written out (parameters_tokens (x ∷ rest))
unfolding expression_tokens written
names_stepped out last x [] e = let yes : last ≡ true = e in rw yes (refl)
names_stepped out last x (y ∷ ys) e = let no : last ≡ false = e ∙ eqb-suc-zero (length ys) in rw no (refl)

pub names_turn : (xs rest : List (BoundName)) (x : BoundName) (last : Bool) (n : ℕ) (a b c whole : List ℕ) → xs ≡ x ∷ rest → last ≡ nat_eq (length rest) 0 → b ≡ written a (word_token x.name ∷ []) → c ≡ written b (comma_if (not last)) → (length xs ≤ n) × (written a (parameters_tokens xs) ≡ whole) → (length rest ≤ n) × (written c (parameters_tokens rest) ≡ whole)
names_turn xs rest x last n a b c whole parts is_last wb wc before =
    let step : written c (parameters_tokens rest) ≡ written a (parameters_tokens (x ∷ rest)) = rw (wc, wb) (names_stepped a last x rest is_last) in
    goes_on (λ ys. length ys) (λ ys. parameters_tokens ys) xs rest x n a c whole parts (omega arith) step before

expressions_stepped : (out : List ℕ) (last : Bool) (x : ExpressionTree) (rest : List (ExpressionTree)) → last ≡ nat_eq (length rest) 0 → written (written (written out (expression_tokens x)) (comma_if (not last))) (expressions_tokens (expressions_of rest)) ≡ written out (expressions_tokens (expressions_of (x ∷ rest)))
unfolding expression_tokens written
expressions_stepped out last x [] e = let yes : last ≡ true = e in rw yes (simp written_append)
expressions_stepped out last x (y ∷ ys) e = let no : last ≡ false = e ∙ eqb-suc-zero (length ys) in rw no (simp written_append)

pub expressions_turn : (xs rest : List (ExpressionTree)) (x : ExpressionTree) (last : Bool) (n : ℕ) (a b c whole : List ℕ) → xs ≡ x ∷ rest → last ≡ nat_eq (length rest) 0 → b ≡ written a (expression_tokens x) → c ≡ written b (comma_if (not last)) → (expressions_size (expressions_of xs) ≤ n) × (written a (expressions_tokens (expressions_of xs)) ≡ whole) → (expressions_size (expressions_of rest) ≤ n) × (written c (expressions_tokens (expressions_of rest)) ≡ whole)
expressions_turn xs rest x last n a b c whole parts is_last wb wc before =
    let step : written c (expressions_tokens (expressions_of rest)) ≡ written a (expressions_tokens (expressions_of (x ∷ rest))) = rw (wc, wb) (expressions_stepped a last x rest is_last) in
    goes_on (λ ys. expressions_size (expressions_of ys)) (λ ys. expressions_tokens (expressions_of ys)) xs rest x n a c whole parts (omega arith) step before

items_stepped : (out : List ℕ) (last : Bool) (x : Option ExpressionTree) (rest : List (Option ExpressionTree)) → last ≡ nat_eq (length rest) 0 → written (written out (item_tokens (optional_of x) (not last))) (items_tokens (items_of rest)) ≡ written out (items_tokens (items_of (x ∷ rest)))
unfolding expression_tokens written
items_stepped out last x [] e = let yes : last ≡ true = e in rw yes (simp written_append)
items_stepped out last x (y ∷ ys) e = let no : last ≡ false = e ∙ eqb-suc-zero (length ys) in rw no (simp written_append)

pub items_turn : (xs rest : List (Option ExpressionTree)) (x : Option ExpressionTree) (last : Bool) (n : ℕ) (a b whole : List ℕ) → xs ≡ x ∷ rest → last ≡ nat_eq (length rest) 0 → b ≡ written a (item_tokens (optional_of x) (not last)) → (items_size (items_of xs) ≤ n) × (written a (items_tokens (items_of xs)) ≡ whole) → (items_size (items_of rest) ≤ n) × (written b (items_tokens (items_of rest)) ≡ whole)
items_turn xs rest x last n a b whole parts is_last wb before =
    let step : written b (items_tokens (items_of rest)) ≡ written a (items_tokens (items_of (x ∷ rest))) = rw (wb) (items_stepped a last x rest is_last) in
    goes_on (λ ys. items_size (items_of ys)) (λ ys. items_tokens (items_of ys)) xs rest x n a b whole parts (omega arith) step before

properties_stepped : (out : List ℕ) (last : Bool) (x : Property) (rest : List (Property)) → last ≡ nat_eq (length rest) 0 → written (written (written (written (written out (printed (token.Text x.name) ∷ [])) (sign_token sign.Colon ∷ [])) (expression_tokens x.value)) (comma_if (not last))) (properties_tokens (properties_of rest)) ≡ written out (properties_tokens (properties_of (x ∷ rest)))
unfolding expression_tokens written
properties_stepped out last x [] e = let yes : last ≡ true = e in rw yes (simp written_append)
properties_stepped out last x (y ∷ ys) e = let no : last ≡ false = e ∙ eqb-suc-zero (length ys) in rw no (simp written_append)

pub properties_turn : (xs rest : List (Property)) (x : Property) (last : Bool) (n : ℕ) (a b c d e whole : List ℕ) → xs ≡ x ∷ rest → last ≡ nat_eq (length rest) 0 → b ≡ written a (printed (token.Text x.name) ∷ []) → c ≡ written b (sign_token sign.Colon ∷ []) → d ≡ written c (expression_tokens x.value) → e ≡ written d (comma_if (not last)) → (properties_size (properties_of xs) ≤ n) × (written a (properties_tokens (properties_of xs)) ≡ whole) → (properties_size (properties_of rest) ≤ n) × (written e (properties_tokens (properties_of rest)) ≡ whole)
properties_turn xs rest x last n a b c d e whole parts is_last wb wc wd we before =
    let step : written e (properties_tokens (properties_of rest)) ≡ written a (properties_tokens (properties_of (x ∷ rest))) = rw (we, wd, wc, wb) (properties_stepped a last x rest is_last) in
    goes_on (λ ys. properties_size (properties_of ys)) (λ ys. properties_tokens (properties_of ys)) xs rest x n a e whole parts (omega arith) step before

suffixes_stepped : (out : List ℕ) (x : Suffix) (rest : List (Suffix)) → written (written out (suffix_tokens (suffix_of x.place x.node))) (suffixes_tokens (suffixes_of rest)) ≡ written out (suffixes_tokens (suffixes_of (x ∷ rest)))
unfolding expression_tokens written
suffixes_stepped out x rest = simp written_append

pub suffixes_turn : (xs rest : List (Suffix)) (x : Suffix) (n : ℕ) (a b whole : List ℕ) → xs ≡ x ∷ rest → b ≡ written a (suffix_tokens (suffix_of x.place x.node)) → (suffixes_size (suffixes_of xs) ≤ n) × (written a (suffixes_tokens (suffixes_of xs)) ≡ whole) → (suffixes_size (suffixes_of rest) ≤ n) × (written b (suffixes_tokens (suffixes_of rest)) ≡ whole)
suffixes_turn xs rest x n a b whole parts wb before =
    let step : written b (suffixes_tokens (suffixes_of rest)) ≡ written a (suffixes_tokens (suffixes_of (x ∷ rest))) = rw (wb) (suffixes_stepped a x rest) in
    goes_on (λ ys. suffixes_size (suffixes_of ys)) (λ ys. suffixes_tokens (suffixes_of ys)) xs rest x n a b whole parts (omega arith) step before

operands_stepped : (out : List ℕ) (x : Operand) (rest : List (Operand)) → written (written (written out (binary_token x.op ∷ [])) (expression_tokens x.value)) (operands_tokens (operands_of rest)) ≡ written out (operands_tokens (operands_of (x ∷ rest)))
unfolding expression_tokens written
operands_stepped out x rest = simp written_append

pub operands_turn : (xs rest : List (Operand)) (x : Operand) (n : ℕ) (a b c whole : List ℕ) → xs ≡ x ∷ rest → b ≡ written a (binary_token x.op ∷ []) → c ≡ written b (expression_tokens x.value) → (operands_size (operands_of xs) ≤ n) × (written a (operands_tokens (operands_of xs)) ≡ whole) → (operands_size (operands_of rest) ≤ n) × (written c (operands_tokens (operands_of rest)) ≡ whole)
operands_turn xs rest x n a b c whole parts wb wc before =
    let step : written c (operands_tokens (operands_of rest)) ≡ written a (operands_tokens (operands_of (x ∷ rest))) = rw (wc, wb) (operands_stepped a x rest) in
    goes_on (λ ys. operands_size (operands_of ys)) (λ ys. operands_tokens (operands_of ys)) xs rest x n a c whole parts (omega arith) step before

statements_stepped : (out : List ℕ) (x : StatementTree) (rest : List (StatementTree)) → written (written out (statement_tokens x)) (statements_tokens (statements_of rest)) ≡ written out (statements_tokens (statements_of (x ∷ rest)))
unfolding expression_tokens written
statements_stepped out x rest = simp written_append

pub statements_turn : (xs rest : List (StatementTree)) (x : StatementTree) (n : ℕ) (a b whole : List ℕ) → xs ≡ x ∷ rest → b ≡ written a (statement_tokens x) → (statements_size (statements_of xs) ≤ n) × (written a (statements_tokens (statements_of xs)) ≡ whole) → (statements_size (statements_of rest) ≤ n) × (written b (statements_tokens (statements_of rest)) ≡ whole)
statements_turn xs rest x n a b whole parts wb before =
    let step : written b (statements_tokens (statements_of rest)) ≡ written a (statements_tokens (statements_of (x ∷ rest))) = rw (wb) (statements_stepped a x rest) in
    goes_on (λ ys. statements_size (statements_of ys)) (λ ys. statements_tokens (statements_of ys)) xs rest x n a b whole parts (omega arith) step before

declarations_stepped : (out : List ℕ) (last : Bool) (x : Declared) (rest : List (Declared)) → last ≡ nat_eq (length rest) 0 → written (written (written (written out (word_token x.name.name ∷ [])) (first_value_tokens (optional_of x.value))) (comma_if (not last))) (declarations_tokens (declarations_of rest)) ≡ written out (declarations_tokens (declarations_of (x ∷ rest)))
unfolding expression_tokens written
declarations_stepped out last x [] e = let yes : last ≡ true = e in rw yes (simp written_append)
declarations_stepped out last x (y ∷ ys) e = let no : last ≡ false = e ∙ eqb-suc-zero (length ys) in rw no (simp written_append)

pub declarations_turn : (xs rest : List (Declared)) (x : Declared) (last : Bool) (n : ℕ) (a b c d whole : List ℕ) → xs ≡ x ∷ rest → last ≡ nat_eq (length rest) 0 → b ≡ written a (word_token x.name.name ∷ []) → c ≡ written b (first_value_tokens (optional_of x.value)) → d ≡ written c (comma_if (not last)) → (declarations_size (declarations_of xs) ≤ n) × (written a (declarations_tokens (declarations_of xs)) ≡ whole) → (declarations_size (declarations_of rest) ≤ n) × (written d (declarations_tokens (declarations_of rest)) ≡ whole)
declarations_turn xs rest x last n a b c d whole parts is_last wb wc wd before =
    let step : written d (declarations_tokens (declarations_of rest)) ≡ written a (declarations_tokens (declarations_of (x ∷ rest))) = rw (wd, wc, wb) (declarations_stepped a last x rest is_last) in
    goes_on (λ ys. declarations_size (declarations_of ys)) (λ ys. declarations_tokens (declarations_of ys)) xs rest x n a d whole parts (omega arith) step before

branches_stepped : (out : List ℕ) (last : Bool) (x : Branch) (rest : List (Branch)) → last ≡ nat_eq (length rest) 0 → written (written (written (written (written (written (written out (keyword_token word.If ∷ [])) (sign_token sign.LeftParenthesis ∷ [])) (expression_tokens x.condition)) (sign_token sign.RightParenthesis ∷ [])) (statement_tokens x.body)) (else_if (not last))) (branches_tokens (branches_of rest)) ≡ written out (branches_tokens (branches_of (x ∷ rest)))
unfolding expression_tokens written
branches_stepped out last x [] e = let yes : last ≡ true = e in rw yes (simp written_append)
branches_stepped out last x (y ∷ ys) e = let no : last ≡ false = e ∙ eqb-suc-zero (length ys) in rw no (simp written_append)

pub branches_turn : (xs rest : List (Branch)) (x : Branch) (last : Bool) (n : ℕ) (a b c d e f g whole : List ℕ) → xs ≡ x ∷ rest → last ≡ nat_eq (length rest) 0 → b ≡ written a (keyword_token word.If ∷ []) → c ≡ written b (sign_token sign.LeftParenthesis ∷ []) → d ≡ written c (expression_tokens x.condition) → e ≡ written d (sign_token sign.RightParenthesis ∷ []) → f ≡ written e (statement_tokens x.body) → g ≡ written f (else_if (not last)) → (branches_size (branches_of xs) ≤ n) × (written a (branches_tokens (branches_of xs)) ≡ whole) → (branches_size (branches_of rest) ≤ n) × (written g (branches_tokens (branches_of rest)) ≡ whole)
branches_turn xs rest x last n a b c d e f g whole parts is_last wb wc wd we wf wg before =
    let step : written g (branches_tokens (branches_of rest)) ≡ written a (branches_tokens (branches_of (x ∷ rest))) = rw (wg, wf, we, wd, wc, wb) (branches_stepped a last x rest is_last) in
    goes_on (λ ys. branches_size (branches_of ys)) (λ ys. branches_tokens (branches_of ys)) xs rest x n a g whole parts (omega arith) step before

clauses_stepped : (out : List ℕ) (x : Clause) (rest : List (Clause)) → written (written (written out (test_tokens (optional_of x.test))) (statements_tokens (statements_of x.body))) (clauses_tokens (clauses_of rest)) ≡ written out (clauses_tokens (clauses_of (x ∷ rest)))
unfolding expression_tokens written
clauses_stepped out x rest = simp written_append

pub clauses_turn : (xs rest : List (Clause)) (x : Clause) (n : ℕ) (a b c whole : List ℕ) → xs ≡ x ∷ rest → b ≡ written a (test_tokens (optional_of x.test)) → c ≡ written b (statements_tokens (statements_of x.body)) → (clauses_size (clauses_of xs) ≤ n) × (written a (clauses_tokens (clauses_of xs)) ≡ whole) → (clauses_size (clauses_of rest) ≤ n) × (written c (clauses_tokens (clauses_of rest)) ≡ whole)
clauses_turn xs rest x n a b c whole parts wb wc before =
    let step : written c (clauses_tokens (clauses_of rest)) ≡ written a (clauses_tokens (clauses_of (x ∷ rest))) = rw (wc, wb) (clauses_stepped a x rest) in
    goes_on (λ ys. clauses_size (clauses_of ys)) (λ ys. clauses_tokens (clauses_of ys)) xs rest x n a c whole parts (omega arith) step before
