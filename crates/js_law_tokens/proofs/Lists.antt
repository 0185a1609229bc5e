-- The lists of parts that trees have, and how each is printed.
use Rattle.std.proofs.Common.{◌≡◌, List, [], ◌∷◌, ◌++◌, Option, Some, None, Bool, true, false, refl, subst, append_assoc}
use Rattle.std.specs.List.{flat_map}
use Rattle.js_tree.specs.declared.token.Token.{Token}
use Rattle.js_tree.specs.declared.token.TokenKind.TheVariants as token
use Rattle.js_tree.specs.declared.sign.Sign.TheVariants as sign
use Rattle.js_tree.specs.declared.bound.BoundName.{BoundName}
use Rattle.js_tree.specs.declared.expression.Property.{Property}
use Rattle.js_tree.specs.declared.expression.Suffix.{Suffix}
use Rattle.js_tree.specs.declared.expression.Operand.{Operand}
use Rattle.js_tree.specs.declared.statement.Declared.{Declared}
use Rattle.js_tree.specs.declared.statement.Clause.{Clause}
use Rattle.js_tree.specs.Tree.{ExpressionTree, StatementTree, optional_of, expressions_of, items_of, statements_of}
use Rattle.js_tree.specs.View.{properties_of, suffix_of, suffixes_of, operands_of, declarations_of, clauses_of}
use Rattle.js_grammar.specs.Printing.{printed, sign_token, word_token, comma_if, more_names, more_expressions, more_items, more_properties, more_declared, parameters_tokens, binary_token, expression_tokens, optional_tokens, expressions_tokens, items_tokens, item_tokens, properties_tokens, suffix_tokens, suffixes_tokens, operands_tokens, statement_tokens, statements_tokens, first_value_tokens, declarations_tokens, test_tokens, clauses_tokens}
use Rattle.js_law_tokens.proofs.Keeping.{Keeps, behind, without_nil, with_sign, ends_with, comma_before}
use Rattle.js_law_tokens.proofs.Rows.{Lists}

-- ---- the parts of expressions

abbrev pub expression_list : List ExpressionTree → List Token
expression_list es = expressions_tokens (expressions_of es)

pub expressions_list : Lists expression_tokens expression_list
unfolding expressions_tokens
expressions_list = record { none = refl; more = λ e es a b c k l. behind k (comma_before (more_expressions (expressions_of es)) l) }

-- an item, or nothing for a hole
abbrev pub item_part : Option ExpressionTree → List Token
item_part o = optional_tokens (optional_of o)

abbrev pub item_list : List (Option ExpressionTree) → List Token
item_list os = items_tokens (items_of os)

comma_behind : (more : Bool) {a before rest : List Token} → Keeps a before rest → Keeps (a ++ comma_if more) before rest
comma_behind true k = ends_with sign.Comma refl k
comma_behind false k = without_nil k

item_more : (o : Option ExpressionTree) (os : List (Option ExpressionTree)) (a b c : List Token) → Keeps (item_part o) a b → Keeps (item_list os) b c → Keeps (item_list (o ∷ os)) a c
unfolding items_tokens item_tokens optional_tokens
item_more None os a b c k l = with_sign sign.Comma refl (behind k l)
item_more (Some e) os a b c k l = behind (comma_behind (more_items (items_of os)) k) l

pub items_list : Lists item_part item_list
unfolding items_tokens
items_list = record { none = refl; more = item_more }

abbrev pub property_part : Property → List Token
property_part p = printed (token.Text p.name) ∷ (sign_token sign.Colon ∷ expression_tokens p.value)

abbrev pub property_list : List Property → List Token
property_list ps = properties_tokens (properties_of ps)

pub properties_list : Lists property_part property_list
unfolding properties_tokens
properties_list = record { none = refl; more = λ p ps a b c k l. behind k (comma_before (more_properties (properties_of ps)) l) }

abbrev pub suffix_part : Suffix → List Token
suffix_part s = suffix_tokens (suffix_of s.place s.node)

abbrev pub suffix_list : List Suffix → List Token
suffix_list ss = suffixes_tokens (suffixes_of ss)

pub suffixes_list : Lists suffix_part suffix_list
unfolding suffixes_tokens
suffixes_list = record { none = refl; more = λ s ss a b c k l. behind k l }

abbrev pub operand_part : Operand → List Token
operand_part o = binary_token o.op ∷ expression_tokens o.value

abbrev pub operand_list : List Operand → List Token
operand_list os = operands_tokens (operands_of os)

pub operands_list : Lists operand_part operand_list
unfolding operands_tokens
operands_list = record { none = refl; more = λ o os a b c k l. behind k l }

abbrev pub name_part : BoundName → List Token
name_part x = word_token x.name ∷ []

pub parameters_list : Lists name_part parameters_tokens
parameters_list = record { none = refl; more = λ x xs a b c k l. behind k (comma_before (more_names xs) l) }

-- ---- the parts of statements

abbrev pub statement_list : List StatementTree → List Token
statement_list ss = statements_tokens (statements_of ss)

pub statements_list : Lists statement_tokens statement_list
unfolding statements_tokens
statements_list = record { none = refl; more = λ s ss a b c k l. behind k l }

pub script_list : Lists statement_tokens (flat_map statement_tokens)
script_list = record { none = refl; more = λ s ss a b c k l. behind k l }

abbrev pub declared_part : Declared → List Token
declared_part d = word_token d.name.name ∷ first_value_tokens (optional_of d.value)

abbrev pub declared_list : List Declared → List Token
declared_list ds = declarations_tokens (declarations_of ds)

pub declarations_list : Lists declared_part declared_list
unfolding declarations_tokens
declarations_list = record { none = refl; more = λ d ds a b c k l. behind k (comma_before (more_declared (declarations_of ds)) l) }

abbrev pub clause_part : Clause → List Token
clause_part c = test_tokens (optional_of c.test) ++ statements_tokens (statements_of c.body)

abbrev pub clause_list : List Clause → List Token
clause_list cs = clauses_tokens (clauses_of cs)

clause_more : (x : Clause) (xs : List Clause) (a b c : List Token) → Keeps (clause_part x) a b → Keeps (clause_list xs) b c → Keeps (clause_list (x ∷ xs)) a c
unfolding clauses_tokens
clause_more x xs a b c k l = subst (λ ts. Keeps ts a c) (append_assoc (test_tokens (optional_of x.test)) (statements_tokens (statements_of x.body)) (clause_list xs)) (behind k l)

pub clauses_list : Lists clause_part clause_list
unfolding clauses_tokens
clauses_list = record { none = refl; more = clause_more }

-- clauses behind other clauses
pub clauses_behind : (cs ds : List Clause) → clause_list (cs ++ ds) ≡ clause_list cs ++ clause_list ds
unfolding clauses_tokens
clauses_behind [] ds = refl
clauses_behind (c ∷ cs) ds = rw (clauses_behind cs ds) (simp append_assoc)
