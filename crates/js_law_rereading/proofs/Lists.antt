-- The parts of trees in lists, as reading gives them, with their places put aside.
use Rattle.std.proofs.Common.{◌≡◌, List, [], ◌∷◌, Option, None, Some, Bool, true, false, refl, ap, ◌∙◌}
use Rattle.js_tree.specs.declared.expression.Property.{Property}
use Rattle.js_tree.specs.declared.expression.Suffix.{Suffix}
use Rattle.js_tree.specs.declared.expression.SuffixNode.TheVariants as suffix
use Rattle.js_tree.specs.declared.expression.Operand.{Operand}
use Rattle.js_tree.specs.declared.expression.Function.{Function as FunctionRecord}
use Rattle.js_tree.specs.declared.statement.Declared.{Declared}
use Rattle.js_tree.specs.declared.statement.Branch.{Branch}
use Rattle.js_tree.specs.declared.statement.Clause.{Clause}
use Rattle.js_tree.specs.Tree.{ExpressionTree, Name, Suffixed, OptionalExpression, absent, present, Expressions, no_expression, an_expression, Items, no_item, an_item, Properties, no_property, a_property, SuffixTree, a_member, an_index, a_call, Suffixes, no_suffix, a_suffix, Operands, no_operand, an_operand, FunctionTree, a_function, StatementTree, Statements, no_statement, a_statement, Declarations, no_declared, a_declared, Branches, no_branch, a_branch, Clauses, no_clause, a_clause, optional_of, expressions_of, items_of, statements_of}
use Rattle.js_tree.specs.View.{properties_of, suffix_of, suffixes_of, operands_of, declarations_of, branches_of, clauses_of}
use Rattle.js_grammar.specs.Operators.{is_target, ends_in_part}
use Rattle.js_grammar.specs.Printing.{nowhere}
use Rattle.js_grammar.specs.Placeless.{placeless_expression, placeless_optional, placeless_expressions, placeless_items, placeless_properties, placeless_suffix, placeless_suffixes, placeless_operands, placeless_statement, placeless_statements, placeless_declarations, placeless_branches, placeless_clauses}

-- ---- the lists

abbrev pub option_of : OptionalExpression → Option ExpressionTree
option_of absent = None
option_of (present e) = Some (placeless_expression e)

abbrev pub expression_list : Expressions → List ExpressionTree
expression_list no_expression = []
expression_list (an_expression e es) = placeless_expression e ∷ expression_list es

abbrev pub item_list : Items → List (Option ExpressionTree)
item_list no_item = []
item_list (an_item o os) = option_of o ∷ item_list os

abbrev pub property_list : Properties → List Property
property_list no_property = []
property_list (a_property x e ps) = record { name = x; value = placeless_expression e } ∷ property_list ps

abbrev pub suffix_record : SuffixTree → Suffix
suffix_record (a_member p x) = record { place = nowhere; node = suffix.Member x }
suffix_record (an_index p e) = record { place = nowhere; node = suffix.Index (placeless_expression e) }
suffix_record (a_call p es) = record { place = nowhere; node = suffix.Call (expression_list es) }

abbrev pub suffix_list : Suffixes → List Suffix
suffix_list no_suffix = []
suffix_list (a_suffix s ss) = suffix_record s ∷ suffix_list ss

abbrev pub operand_list : Operands → List Operand
operand_list no_operand = []
operand_list (an_operand p op e os) = record { place = nowhere; op = op; value = placeless_expression e } ∷ operand_list os

abbrev pub statement_list : Statements → List StatementTree
statement_list no_statement = []
statement_list (a_statement s ss) = placeless_statement s ∷ statement_list ss

abbrev pub declared_list : Declarations → List Declared
declared_list no_declared = []
declared_list (a_declared x o ds) = record { name = x; value = option_of o } ∷ declared_list ds

abbrev pub branch_list : Branches → List Branch
branch_list no_branch = []
branch_list (a_branch c s bs) = record { condition = placeless_expression c; body = placeless_statement s } ∷ branch_list bs

abbrev pub clause_list : Clauses → List Clause
clause_list no_clause = []
clause_list (a_clause o ss cs) = record { test = option_of o; body = statement_list ss } ∷ clause_list cs

abbrev pub function_record : FunctionTree → FunctionRecord
function_record (a_function own parameters names body) = record { name = own; parameters = parameters; names = []; body = statement_list body }

-- ---- they are those of the placeless trees

pub option_placeless : (o : OptionalExpression) → optional_of (option_of o) ≡ placeless_optional o
option_placeless absent = refl
option_placeless (present e) = refl

pub expressions_placeless : (es : Expressions) → expressions_of (expression_list es) ≡ placeless_expressions es
expressions_placeless no_expression = refl
expressions_placeless (an_expression e es) = ap (an_expression (placeless_expression e)) (expressions_placeless es)

pub items_placeless : (os : Items) → items_of (item_list os) ≡ placeless_items os
items_placeless no_item = refl
items_placeless (an_item o os) = cc (option_placeless o, items_placeless os)

pub properties_placeless : (ps : Properties) → properties_of (property_list ps) ≡ placeless_properties ps
properties_placeless no_property = refl
properties_placeless (a_property x e ps) = ap (a_property x (placeless_expression e)) (properties_placeless ps)

pub suffix_placeless : (s : SuffixTree) → suffix_of (suffix_record s).place (suffix_record s).node ≡ placeless_suffix s
suffix_placeless (a_member p x) = refl
suffix_placeless (an_index p e) = refl
suffix_placeless (a_call p es) = ap (a_call nowhere) (expressions_placeless es)

pub suffixes_placeless : (ss : Suffixes) → suffixes_of (suffix_list ss) ≡ placeless_suffixes ss
suffixes_placeless no_suffix = refl
suffixes_placeless (a_suffix s ss) = cc (suffix_placeless s, suffixes_placeless ss)

pub operands_placeless : (os : Operands) → operands_of (operand_list os) ≡ placeless_operands os
operands_placeless no_operand = refl
operands_placeless (an_operand p op e os) = ap (an_operand nowhere op (placeless_expression e)) (operands_placeless os)

pub statements_placeless : (ss : Statements) → statements_of (statement_list ss) ≡ placeless_statements ss
statements_placeless no_statement = refl
statements_placeless (a_statement s ss) = ap (a_statement (placeless_statement s)) (statements_placeless ss)

pub declarations_placeless : (ds : Declarations) → declarations_of (declared_list ds) ≡ placeless_declarations ds
declarations_placeless no_declared = refl
declarations_placeless (a_declared x o ds) = cc (option_placeless o, declarations_placeless ds)

pub branches_placeless : (bs : Branches) → branches_of (branch_list bs) ≡ placeless_branches bs
branches_placeless no_branch = refl
branches_placeless (a_branch c s bs) = ap (a_branch (placeless_expression c) (placeless_statement s)) (branches_placeless bs)

pub clauses_placeless : (cs : Clauses) → clauses_of (clause_list cs) ≡ placeless_clauses cs
clauses_placeless no_clause = refl
clauses_placeless (a_clause o ss cs) = cc (option_placeless o, statements_placeless ss, clauses_placeless cs)

-- ---- targets

ends_in_part_placeless : (before : Bool) (ss : Suffixes) → ends_in_part before (placeless_suffixes ss) ≡ ends_in_part before ss
ends_in_part_placeless before no_suffix = refl
ends_in_part_placeless before (a_suffix (a_member p x) ss) = ends_in_part_placeless true ss
ends_in_part_placeless before (a_suffix (an_index p e) ss) = ends_in_part_placeless true ss
ends_in_part_placeless before (a_suffix (a_call p es) ss) = ends_in_part_placeless false ss

pub is_target_placeless : (e : ExpressionTree) → is_target e ≡ true → is_target (placeless_expression e) ≡ true
is_target_placeless (Name p x) h = refl
is_target_placeless (Suffixed p e ss) h = ends_in_part_placeless false ss ∙ h
is_target_placeless _ h = cc
