-- Each tree that reading can give is read again from the tokens that it is printed as, places aside.
use Rattle.std.proofs.Common.{◌≡◌, ℕ, suc, ◌+◌, List, [], ◌∷◌, ◌++◌, length, None, Ok, Bool, true, false, refl, ap, ◌∙◌, subst, arith}
use Rattle.std.specs.Prelude.{◌*◌, map}
use Rattle.std.specs.List.{flat_map}
use Rattle.std.proofs.lemmas.List.{append-nil}
use Rattle.js_tree.specs.declared.place.Place.{Place}
use Rattle.js_tree.specs.declared.token.Token.{Token}
use Rattle.js_tree.specs.declared.operators.UpdateForm.TheVariants.{Prefix, Postfix}
use Rattle.js_tree.specs.Tree.{ExpressionTree, Pattern, Name, Update, Function, OptionalExpression, absent, present, FunctionTree, a_function, StatementTree, Block, Empty, Evaluate, Debugger, Var, If, DoWhile, While, For, ForIn, Continue, Break, Return, Throw, Switch, Try, Declare, DeclareNumbered, OptionalStatement, omitted, given, Statements, no_statement, a_statement, Declarations, no_declared, a_declared, Branches, no_branch, a_branch, no_start, start_var, start_value, target_value, target_declared, Clauses, no_clause, a_clause, CatchTree, no_catch, a_catch, statements_of, Number, Characters, True, False, Null, This, Array, Object, Numbered, Suffixed, New, Unary, Chain, Conditional, Assign, Comma, Expressions, no_expression, an_expression, Items, no_item, an_item, Properties, no_property, a_property, SuffixTree, a_member, an_index, a_call, Suffixes, no_suffix, a_suffix as suffix_more, Operands, no_operand, an_operand as operand_more}
use Rattle.js_tree.specs.View.{function_of}
use Rattle.js_grammar.specs.declared.around.Around.{Around}
use Rattle.js_grammar.specs.Readers.{row_of}
use Rattle.js_grammar.specs.Expressions.{primary, a_statement as statement_turn, in_function}
use Rattle.js_grammar.specs.Statements.{deeper, at_top, script_within, script_without_limit, inside, in_loop, in_switch}
use Rattle.js_grammar.specs.Printing.{more_declared, expression_tokens, statement_tokens, statements_tokens}
use Rattle.js_grammar.specs.Placeless.{placeless_function, placeless_statement}
use Rattle.js_law_readable.specs.Readable.{IsOwnName, IsExpression, IsOptional, AreExpressions, AreItems, AreProperties, IsSuffix, AreSuffixes, AreOperands, IsFunction, IsAnonymous, IsStatement, AreStatements, IsFinally, AreDeclared, AreBranches, AreClauses, IsCatch, has_declared, is_block}
use Rattle.js_law_rereading.specs.Laws.{PrintedTokensAreReadAgain, ScriptsReadAreReadAgain}
use Rattle.js_law_readable.proofs.ReadScripts.{scripts_law as readable_law}
use Rattle.js_law_rereading.proofs.Lists.{function_record, statement_list, statements_placeless}
use Rattle.js_law_rereading.proofs.RereadExpressions.{Rereads, name_again, pattern_node, unary_node, prefix_node, postfix_node}
use Rattle.js_law_rereading.proofs.RereadRows.{RereadsArguments, RereadsParts, RereadsItems, RereadsProperties, no_arguments, no_parts, arguments_row, parts_row, comma_node, no_items, hole_row, item_row, array_node, no_properties, property_row, object_node}
use Rattle.js_law_rereading.proofs.RereadOperators.{RereadsOperands, no_operands, operand_row, chain_node, conditional_node, assign_node}
use Rattle.js_law_rereading.proofs.RereadSuffixes.{RereadsSuffix, member_again, index_again, call_again, RereadsSuffixes, no_suffixes, suffix_row, suffixed_node, new_node}
use Rattle.js_law_rereading.proofs.RereadStatements.{RereadsStatement, RereadsStatements, no_statements, statement_row, RereadsFunction, function_again}
use Rattle.js_law_rereading.proofs.RereadKinds.{own_of, RereadsOptional, function_node, declare_node, evaluate_node, block_node, RereadsBlock, block_again, empty_node, debugger_node, continue_node, break_node, return_node, return_value_node, throw_node, while_node, do_node, RereadsDeclared, nothing_declared, declared_row, var_node}
use Rattle.js_law_rereading.proofs.RereadLoops.{for_nothing, for_expression, for_declared, in_value, in_declared}
use Rattle.js_law_rereading.proofs.RereadCompounds.{RereadsBranches, no_branches, branch_row, if_node, if_else_node, following, RereadsCases, RereadsDefault, no_cases, default_ends, case_row, switch_node, RereadsCatch, RereadsFinally, try_node}

function_is_placeless : (f : FunctionTree) → IsFunction f → function_of (function_record f) ≡ placeless_function f
function_is_placeless (a_function own xs names body) is = cc (statements_placeless body, is.2)

own_is : (f : FunctionTree) → IsFunction f → IsOwnName (own_of f)
own_is (a_function own xs names body) is = is.0

anonymous_is : (f : FunctionTree) → IsAnonymous f → own_of f ≡ None
anonymous_is (a_function own xs names body) is = is

declared_some : (ds : Declarations) → has_declared ds ≡ true → more_declared ds ≡ true
declared_some no_declared h = h
declared_some (a_declared x o ds) h = refl

module _ (end : Place) where
  no_second : (a : Around) (cs : Clauses) → AreClauses a false cs → following end cs ≡ no_clause
  no_second a no_clause h = refl
  no_second a (a_clause absent ss cs) h = cc (h.0)
  no_second a (a_clause (present e) ss cs) h = no_second a cs h.2

  mutual
    unfolding expression_tokens primary

    pub again : (e : ExpressionTree) → IsExpression e → Rereads end e
    again (Number p n) is room rest fits = refl
    again (Characters p x) is room rest fits = refl
    again (Pattern p l) is room rest fits = pattern_node end l room rest fits
    again (True p) is room rest fits = refl
    again (False p) is room rest fits = refl
    again (Null p) is room rest fits = refl
    again (This p) is room rest fits = refl
    again (Name p x) is room rest fits = name_again end x room rest is
    again (Array p all) is room rest fits = array_node end all room rest (items_again all is) fits
    again (Object p all) is room rest fits = object_node end all room rest (properties_again all is) fits
    again (Function p f) is room rest fits = function_node end f room rest (own_is f is) (function_is_placeless f is) (function_reread f is) fits
    again (Numbered p n) is room rest fits = absurd is
    again (Suffixed p e all) is room rest fits = suffixed_node end e all room rest is.1 is.0 (again e is.0) (suffixes_again all is.2) fits
    again (New p e all) is room rest fits = new_node end e all room rest (again e is.0) (arguments_reread all is.1) fits
    again (Update p Prefix op e) is room rest fits = prefix_node end op e room rest is.0 is.1 (again e is.1) fits
    again (Update p Postfix op e) is room rest fits = postfix_node end op e room rest is.0 is.1 (again e is.1) fits
    again (Unary p op e) is room rest fits = unary_node end op e room rest is (again e is) fits
    again (Chain p e all) is room rest fits = chain_node end e all is.2.0 room rest is.2.1 is.1 is.2.2 is.0 (again e is.0) (operands_again is.2.0 all is.2.2) fits
    again (Conditional p c a b) is room rest fits = conditional_node end c a b room rest is.0 is.1 is.2 (again c is.0) (again a is.1) (again b is.2) fits
    again (Assign p e op v) is room rest fits = assign_node end e op v room rest is.0 is.1 is.2 (again e is.1) (again v is.2) fits
    again (Comma p all) is room rest fits = comma_node end all room rest is.0 (parts_again all is.1) fits

    optional_again : (o : OptionalExpression) → IsOptional o → RereadsOptional end o
    optional_again absent is = tt
    optional_again (present e) is = again e is

    arguments_reread : (es : Expressions) → AreExpressions es → RereadsArguments end es
    arguments_reread no_expression is = no_arguments end
    arguments_reread (an_expression e es) is = arguments_row end e es is.0 (again e is.0) (arguments_reread es is.1)

    parts_again : (es : Expressions) → AreExpressions es → RereadsParts end es
    parts_again no_expression is = no_parts end
    parts_again (an_expression e es) is = parts_row end e es is.0 (again e is.0) (parts_again es is.1)

    items_again : (os : Items) → AreItems os → RereadsItems end os
    items_again no_item is = no_items end
    items_again (an_item absent os) is = hole_row end os (items_again os is.1)
    items_again (an_item (present e) os) is = item_row end e os is.0 (again e is.0) (items_again os is.1)

    properties_again : (ps : Properties) → AreProperties ps → RereadsProperties end ps
    properties_again no_property is = no_properties end
    properties_again (a_property x e ps) is = property_row end x e ps is.0 (again e is.0) (properties_again ps is.1)

    suffix_again : (s : SuffixTree) → IsSuffix s → RereadsSuffix end s
    suffix_again (a_member p x) is = member_again end p x
    suffix_again (an_index p e) is = index_again end p e is (again e is)
    suffix_again (a_call p es) is = call_again end p es (arguments_reread es is)

    suffixes_again : (ss : Suffixes) → AreSuffixes ss → RereadsSuffixes end ss
    suffixes_again no_suffix is = no_suffixes end
    suffixes_again (suffix_more s ss) is = suffix_row end s ss (suffix_again s is.0) (suffixes_again ss is.1)

    operands_again : (k : ℕ) (os : Operands) → AreOperands k os → RereadsOperands end k os
    operands_again k no_operand is = no_operands end k
    operands_again k (operand_more p op e os) is = operand_row end p op e os k is.0 is.1 (again e is.1) is.2 (operands_again k os is.2)

    function_reread : (f : FunctionTree) → IsFunction f → RereadsFunction end f
    function_reread (a_function own xs names body) is = function_again end own xs names body is.1 (statements_again in_function body is.3)

    pub statement_again : (a : Around) (s : StatementTree) → IsStatement a s → RereadsStatement end a s
    statement_again a (Block p ss) is = block_node end p a ss (statements_again (inside a) ss is)
    statement_again a (Empty p) is = empty_node end p a
    statement_again a (Evaluate p e) is = evaluate_node end p a e is (again e is)
    statement_again a (Debugger p) is = debugger_node end p a
    statement_again a (Var p ds) is = var_node end p a ds (declared_some ds is.0) (declared_again ds is.1)
    statement_again a (If p bs omitted) is = if_node end p a bs is.0 (branches_again a false bs is.1)
    statement_again a (If p bs (given s)) is = if_else_node end p a bs s is.0 is.2.0 is.2.1 (branches_again a true bs is.1) (statement_again (inside a) s is.2.1)
    statement_again a (DoWhile p s c) is = do_node end p a s c is.1 (again c is.1) (statement_again (in_loop a) s is.0)
    statement_again a (While p c s) is = while_node end p a c s is.0 (again c is.0) (statement_again (in_loop a) s is.1)
    statement_again a (For p no_start c e s) is = for_nothing end p a c e s is.1 is.2 (optional_again c is.1) (optional_again e is.2) (statement_again (in_loop a) s is.3)
    statement_again a (For p (start_value v) c e s) is = for_expression end p a v c e s is.0 (again v is.0) is.1 is.2 (optional_again c is.1) (optional_again e is.2) (statement_again (in_loop a) s is.3)
    statement_again a (For p (start_var q ds) c e s) is = for_declared end p q a ds c e s (declared_some ds is.0.0) (declared_again ds is.0.1) is.1 is.2 (optional_again c is.1) (optional_again e is.2) (statement_again (in_loop a) s is.3)
    statement_again a (ForIn p (target_value t) e s) is = in_value end p a t e s is.0.0 is.0.1 (again t is.0.1) is.1 (again e is.1) (statement_again (in_loop a) s is.2)
    statement_again a (ForIn p (target_declared x o) e s) is = in_declared end p a x o e s is.0.0 is.0.1 (optional_again o is.0.1) is.1 (again e is.1) (statement_again (in_loop a) s is.2)
    statement_again a (Continue p) is = continue_node end p a is
    statement_again a (Break p) is = break_node end p a is
    statement_again a (Return p absent) is = return_node end p a is.0
    statement_again a (Return p (present e)) is = return_value_node end p a e is.0 is.1 (again e is.1)
    statement_again a (Throw p e) is = throw_node end p a e is (again e is)
    statement_again a (Switch p e cs) is = switch_node end p a e cs is.0 (again e is.0) (cases_again (in_switch a) true cs is.1) (default_again (in_switch a) true cs is.1)
    statement_again a (Try p s c f) is = try_node end p a s c f is.1 (block_reread (inside a) s is.0 is.2) (catch_again a c is.3) (finally_again a f is.4)
    statement_again a (Declare p x f) is = declare_node end p a x f is.0 is.1 (anonymous_is f is.2) (function_is_placeless f is.3) (function_reread f is.3)
    statement_again a (DeclareNumbered p x n) is = absurd is

    block_reread : (a : Around) (s : StatementTree) → is_block s ≡ true → IsStatement a s → RereadsBlock end a s
    block_reread a (Block p ss) h is = block_again end p a ss (statements_again (inside a) ss is)
    block_reread a _ h is = cc

    pub statements_again : (a : Around) (ss : Statements) → AreStatements a ss → RereadsStatements end a ss
    statements_again a no_statement is = no_statements end a
    statements_again a (a_statement s ss) is = statement_row end a s ss is.0 is.1 (statement_again a s is.0) (statements_again a ss is.1)

    declared_again : (ds : Declarations) → AreDeclared ds → RereadsDeclared end ds
    declared_again no_declared is = nothing_declared end
    declared_again (a_declared x o ds) is = declared_row end x o ds is.0 is.1 (optional_again o is.1) (declared_again ds is.2)

    branches_again : (a : Around) (last : Bool) (bs : Branches) → AreBranches a last bs → RereadsBranches end a last bs
    branches_again a last no_branch is = no_branches end a last
    branches_again a last (a_branch c s bs) is = branch_row end a last c s bs is.0 (again c is.0) is.2 (statement_again (inside a) s is.1) (branches_again a last bs is.3)

    cases_again : (a : Around) (before : Bool) (cs : Clauses) → AreClauses a before cs → RereadsCases end a cs
    cases_again a before no_clause is = no_cases end a
    cases_again a before (a_clause absent ss cs) is = default_ends end a ss cs
    cases_again a before (a_clause (present e) ss cs) is = case_row end a e ss cs is.0 (again e is.0) (statements_again a ss is.1) (cases_again a before cs is.2)

    default_again : (a : Around) (before : Bool) (cs : Clauses) → AreClauses a before cs → RereadsDefault end a (following end cs)
    default_again a before no_clause is = tt
    default_again a before (a_clause absent ss cs) is = (statements_again a ss is.1, cases_again a false cs is.2, no_second a cs is.2)
    default_again a before (a_clause (present e) ss cs) is = default_again a before cs is.2

    catch_again : (a : Around) (c : CatchTree) → IsCatch a c → RereadsCatch end a c
    catch_again a no_catch is = tt
    catch_again a (a_catch x s) is = (is.1, block_reread (inside a) s is.0 is.2)

    finally_again : (a : Around) (f : OptionalStatement) → IsFinally a f → RereadsFinally end a f
    finally_again a omitted is = tt
    finally_again a (given s) is = block_reread (inside a) s is.0 is.1

  -- a whole script, without a limit of nesting
  pub script_again : (body : Statements) → AreStatements at_top body → script_without_limit end (statements_tokens body) ≡ Ok (statement_list body)
  unfolding script_within
  script_again body are =
      let ts = statements_tokens body in
      let room = 2 * length ts + 2 in
      let list : row_of (statement_turn (deeper end room) at_top) (suc (length ts)) (ts ++ []) ≡ Ok (statement_list body, []) = statements_again at_top body are room (length ts) [] (omega arith) (omega arith) refl refl in
      let all : row_of (statement_turn (deeper end room) at_top) (suc (length ts)) ts ≡ Ok (statement_list body, []) = subst (λ (us : List Token). row_of (statement_turn (deeper end room) at_top) (suc (length ts)) us ≡ Ok (statement_list body, [])) (append-nil ts) list in
      rw all refl

printed_all : (body : List StatementTree) → statements_tokens (statements_of body) ≡ flat_map statement_tokens body
unfolding expression_tokens
printed_all [] = refl
printed_all (s ∷ ss) = ap (λ (ts : List Token). statement_tokens s ++ ts) (printed_all ss)

placeless_all : (body : List StatementTree) → statement_list (statements_of body) ≡ map placeless_statement body
placeless_all [] = refl
placeless_all (s ∷ ss) = ap (λ (ts : List StatementTree). placeless_statement s ∷ ts) (placeless_all ss)

pub printed_tokens_law : PrintedTokensAreReadAgain
printed_tokens_law end body are =
    let again = script_again end (statements_of body) are in
    subst (λ (ts : List Token). script_without_limit end ts ≡ Ok (map placeless_statement body)) (printed_all body) (again ∙ ap Ok (placeless_all body))

pub scripts_law : ScriptsReadAreReadAgain
scripts_law end other room ts body is = printed_tokens_law other body (readable_law end room ts body is)
