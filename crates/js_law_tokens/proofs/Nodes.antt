-- What is read of a node is printed again, where what is read of its parts is; so is what is read of a script.
use Rattle.std.proofs.Common.{◌≡◌, ℕ, List, [], ◌∷◌, Ok, refl, subst, arith}
use Rattle.std.proofs.lemmas.List.{append-nil}
use Rattle.std.specs.Prelude.{map}
use Rattle.std.specs.List.{flat_map}
use Rattle.js_tree.specs.declared.place.Place.{Place}
use Rattle.js_tree.specs.declared.token.Token.{Token}
use Rattle.js_tree.specs.declared.sign.Sign.TheVariants as sign
use Rattle.js_tree.specs.declared.expression.Suffix.{Suffix}
use Rattle.js_tree.specs.declared.expression.Operand.{Operand}
use Rattle.js_tree.specs.Tree.{ExpressionTree, StatementTree}
use Rattle.js_grammar.specs.declared.around.Around.{Around}
use Rattle.js_grammar.specs.Expressions.{joined, chained, suffixed_by}
use Rattle.js_grammar.specs.Statements.{inside, script_within}
use Rattle.js_grammar.specs.Printing.{expression_tokens, expressions_tokens, optional_tokens, suffixes_tokens, operands_tokens, statement_tokens}
use Rattle.js_law_induction.proofs.Alike.{stays, beside, Read, Alike, gave, stops, too_deep, deeper_than, so}
use Rattle.js_law_induction.proofs.Moves.{unmoved}
use Rattle.js_law_induction.proofs.Derivations.{Rules, Expression, Statement}
use Rattle.js_law_induction.proofs.Derivations as derived
use Rattle.js_law_induction.proofs.Scripts.{script_keeps_in}
use Rattle.js_law_induction.proofs.Scripts as scripts
use Rattle.js_law_tokens.proofs.Keeping.{Keeps, behind, and_skips, with_sign, round, semicolon_behind}
use Rattle.js_law_tokens.proofs.Steps.{taken}
use Rattle.js_law_tokens.proofs.Operators.{unary_taken, update_taken, postfix_taken, assign_taken}
use Rattle.js_law_tokens.proofs.Rows.{row_kept}
use Rattle.js_law_tokens.proofs.Lists.{expression_list, expressions_list, suffix_list, suffixes_list, operand_list, operands_list, script_list}
use Rattle.js_law_tokens.proofs.Parts.{printed_again, took, left, said, ended, none, called, items_kept, properties_kept, statements_kept, function_kept, function_value_kept, new_arguments_kept, suffix_kept, operand_kept, declarations_kept, branches_kept, otherwise_kept, finally_kept, may_stand_kept, start_kept, target_kept, clauses_kept, catch_kept}

-- ---- nodes of one part or more

joined_kept : (p : Place) (xs : List ExpressionTree) (a b : List Token) → Keeps (expression_list xs) a b → Keeps (expression_tokens (joined p xs)) a b
unfolding expression_tokens expressions_tokens
joined_kept p [] a b k = round k
joined_kept p (x ∷ []) a b k = subst (λ ts. Keeps ts a b) (append-nil (expression_tokens x)) k
joined_kept p (x ∷ y ∷ xs) a b k = round k

suffixed_kept : (p : Place) (x : ExpressionTree) (xs : List Suffix) (a b c : List Token) → Keeps (expression_tokens x) a b → Keeps (suffix_list xs) b c
    → Keeps (expression_tokens (suffixed_by p x xs)) a c
unfolding expression_tokens suffixes_tokens
suffixed_kept p x [] a b c k l = and_skips k l
suffixed_kept p x (y ∷ ys) a b c k l = round (behind k l)

chained_kept : (p : Place) (x : ExpressionTree) (xs : List Operand) (a b c : List Token) → Keeps (expression_tokens x) a b → Keeps (operand_list xs) b c
    → Keeps (expression_tokens (chained p x xs)) a c
unfolding expression_tokens operands_tokens
chained_kept p x [] a b c k l = and_skips k l
chained_kept p x (y ∷ ys) a b c k l = round (behind k l)

-- ---- nodes

expression_kept : {a : List Token} {x : ExpressionTree} {b : List Token} → Expression printed_again a x b → Keeps (expression_tokens x) a b
unfolding expression_tokens
expression_kept (derived.number h) = taken _ _ _ h
expression_kept (derived.characters h) = taken _ _ _ h
expression_kept (derived.pattern h) = round (taken _ _ _ h)
expression_kept (derived.name h free) = taken _ _ _ h
expression_kept (derived.this h) = said h
expression_kept (derived.null h) = said h
expression_kept (derived.is_true h) = said h
expression_kept (derived.is_false h) = said h
expression_kept (derived.array opens are) = let all = items_kept are in behind (took opens) (behind all.1 all.2)
expression_kept (derived.object opens are) = let all = properties_kept are in round (behind (took opens) (behind all.1 all.2))
expression_kept (derived.function h is) = round (behind (said h) (function_value_kept is))
expression_kept (derived.in_brackets opens is closes) = behind (left refl opens) (and_skips is (left refl closes))
expression_kept (derived.new h is are) = round (behind (said h) (behind is (round (new_arguments_kept are))))
expression_kept (derived.suffixed p {x = x} {xs = xs} is are) =
    suffixed_kept p x xs _ _ _ is (row_kept suffixes_list _ (record { more = λ a s b is. suffix_kept is; last = λ a s b never. absurd never; ended = λ a b e. none e }) are)
expression_kept (derived.postfix is h target) = round (behind is (postfix_taken _ _ h))
expression_kept (derived.prefix h is target) = round (behind (update_taken _ _ h) is)
expression_kept (derived.unary h is) = round (behind (unary_taken _ _ h) is)
expression_kept (derived.chain form n p {x = x} {xs = xs} is are) =
    chained_kept p x xs _ _ _ is (row_kept operands_list _ (record { more = λ a y b is. operand_kept form n is; last = λ a y b never. absurd never; ended = λ a b e. none e }) are)
expression_kept (derived.conditional is takes one colon other) = round (behind is (behind (took takes) (behind one (behind (took colon) other))))
expression_kept (derived.assign is h target value) = round (behind is (behind (assign_taken _ _ h) value))
expression_kept (derived.comma p {xs = xs} are) =
    joined_kept p xs _ _ (row_kept expressions_list _ (record { more = λ a x b is. and_skips is.1 (left refl is.2); last = λ a x b is. is; ended = λ a b never. absurd never }) are)

statement_kept : (around : Around) {a : List Token} {s : StatementTree} {b : List Token} → Statement printed_again around a s b → Keeps (statement_tokens s) a b
unfolding statement_tokens optional_tokens
statement_kept around (derived.block opens are closes) = behind (took opens) (behind (statements_kept (inside around) are) (took closes))
statement_kept around (derived.var h are ends) = behind (said h) (semicolon_behind (and_skips (declarations_kept are) (ended ends)))
statement_kept around (derived.empty takes) = took takes
statement_kept around (derived.evaluate is ends) = semicolon_behind (and_skips is (ended ends))
statement_kept around (derived.if h are other) = behind ((branches_kept around _ (said h) (omega arith) are).0) (otherwise_kept other)
statement_kept around (derived.do_while h body while is ends) = behind (said h) (behind body (behind (said while) (semicolon_behind (and_skips (round is) (ended ends)))))
statement_kept around (derived.while h is body) = behind (said h) (behind (round is) body)
statement_kept around (derived.for h opens start first condition step body) =
    let tests = with_sign sign.Semicolon refl (behind (left refl first) (behind (may_stand_kept refl condition) (with_sign sign.Semicolon refl (may_stand_kept refl step)))) in
    behind (and_skips (said h) (left refl opens)) (behind (round (behind (start_kept start) tests)) body)
statement_kept around (derived.for_in h opens target of is closes body) =
    behind (and_skips (said h) (left refl opens)) (behind (round (behind (target_kept target) (behind (said of) (and_skips is (left refl closes))))) body)
statement_kept around (derived.continue h can ends) = semicolon_behind (and_skips (said h) (ended ends))
statement_kept around (derived.break h can ends) = semicolon_behind (and_skips (said h) (ended ends))
statement_kept around (derived.return h can ends) = semicolon_behind (and_skips (said h) (ended ends))
statement_kept around (derived.return_value h can is ends) = behind (said h) (semicolon_behind (and_skips is (ended ends)))
statement_kept around (derived.switch h is opens are closes) = behind (said h) (behind (round is) (behind (took opens) (behind (clauses_kept are) (took closes))))
statement_kept around (derived.throw h is ends) = behind (said h) (semicolon_behind (and_skips is (ended ends)))
statement_kept around (derived.try h body catch last part) = behind (said h) (behind body (behind (catch_kept catch) (finally_kept last)))
statement_kept around (derived.debugger h ends) = semicolon_behind (and_skips (said h) (ended ends))
statement_kept around (derived.declare h name direct is) = behind (said h) (behind (called name) (function_kept is))

rules : Rules printed_again
rules = record { expression = λ {a} {x} {b} is. expression_kept is; statement = λ {around} {a} {s} {b} is. statement_kept around is }

-- ---- scripts

ended_kept : (a : List Token) {s n : ℕ} {x y : Read (List StatementTree)} → Alike (beside ⊥) (map stays) s n (λ ss b. Keeps (flat_map statement_tokens ss) a b) x y
    → (body : List StatementTree) → scripts.ended x ≡ Ok body → Keeps (flat_map statement_tokens body) a []
ended_kept a (gave ss [] less k) body e = let same : ss ≡ body = cc in subst (λ all. Keeps (flat_map statement_tokens all) a []) same k
ended_kept a (gave ss (t ∷ ts) less k) body e = cc
ended_kept a (stops kind place not) body e = cc
ended_kept a (too_deep lacks place) body e = cc
ended_kept a (deeper_than never lacks place other) body e = absurd never

pub script_kept : (end : Place) (room : ℕ) (ts : List Token) (body : List StatementTree) → script_within end room ts ≡ Ok body
    → Keeps (flat_map statement_tokens body) ts []
unfolding script_within unmoved
script_kept end room ts body e =
    ended_kept ts (so (script_keeps_in (beside ⊥) unmoved printed_again rules end room ts) (λ ss b are.
    row_kept script_list _ (record { more = λ a s c is. is; last = λ a s c never. absurd never; ended = λ a c e. none e }) are)) body e
