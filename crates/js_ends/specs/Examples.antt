-- Worked examples of the definitions, each by computation alone. The places and names in them say nothing.
use Rattle.std.specs.Prelude.{◌≡◌, pos, true, codes, refl}
use Rattle.js_tree.specs.declared.place.Place.{Place}
use Rattle.js_tree.specs.declared.bound.Bound.TheVariants.{Unbound}
use Rattle.js_tree.specs.declared.bound.BoundName.{BoundName}
use Rattle.js_tree.specs.Tree.{ExpressionTree, Number, True, Name, absent, present, StatementTree, Block, If, DoWhile, While, For, Continue, Break, Return, Throw, Switch, Try, omitted, given, no_statement, a_statement, a_branch, no_branch, no_start, Clauses, no_clause, a_clause, no_catch, a_catch}
use Rattle.js_ends.specs.declared.ends.Ends.{Ends}
use Rattle.js_ends.specs.Ways.{no_end, completion, returning, either, into, followed_by, loop_of, switch_of}
use Rattle.js_ends.specs.Ends.{ends_of_statement, ends_of_statements}

abbrev here : Place
here = record { line = 1; column = 1 }

abbrev name : BoundName
name = record { name = codes "x"; bound = Unbound }

abbrev x : ExpressionTree
x = Name here name

-- `return x;`, and `if (x) return x;`
abbrev gives : StatementTree
gives = Return here (present x)

abbrev may_give : StatementTree
may_give = If here (a_branch x gives no_branch) omitted

abbrev value : Ends
value = returning true

-- `if (x) return x;` may complete, and `if (x) return x; else return x;` doesn't
pub no_else : ends_of_statement may_give ≡ record completion { returns_value = true }
unfolding either into followed_by loop_of switch_of
no_else = refl

pub with_else : ends_of_statement (If here (a_branch x gives no_branch) (given gives)) ≡ value
unfolding either into followed_by loop_of switch_of
with_else = refl

-- what stands behind a `return` isn't reached
pub behind_return : ends_of_statements (a_statement gives (a_statement (Return here absent) no_statement)) ≡ value
unfolding either into followed_by loop_of switch_of
behind_return = refl

-- `while (true) if (x) return x;` ends by that alone, and so does `for (;;) ..`; `while (x) ..` may complete
pub endless : ends_of_statement (While here (True here) may_give) ≡ value
unfolding either into followed_by loop_of switch_of
endless = refl

pub endless_for : ends_of_statement (For here no_start absent absent may_give) ≡ value
unfolding either into followed_by loop_of switch_of
endless_for = refl

pub while_it_holds : ends_of_statement (While here x gives) ≡ record completion { returns_value = true }
unfolding either into followed_by loop_of switch_of
while_it_holds = refl

-- `while (1) break;` completes, and `while (1) continue;` has no end
pub broken : ends_of_statement (While here (Number here (pos 1)) (Break here)) ≡ completion
unfolding either into followed_by loop_of switch_of
broken = refl

pub continued : ends_of_statement (While here (Number here (pos 1)) (Continue here)) ≡ no_end
unfolding either into followed_by loop_of switch_of
continued = refl

-- `do return x; while (x);` doesn't reach its condition, and `do continue; while (x);` does
pub do_return : ends_of_statement (DoWhile here gives x) ≡ value
unfolding either into followed_by loop_of switch_of
do_return = refl

pub do_continue : ends_of_statement (DoWhile here (Continue here) x) ≡ completion
unfolding either into followed_by loop_of switch_of
do_continue = refl

-- `switch (x) { case x: return x; default: throw x; }`, and without its `default`
abbrev cases : Clauses → Clauses
cases cs = a_clause (present x) (a_statement gives no_statement) cs

pub with_default : ends_of_statement (Switch here x (cases (a_clause absent (a_statement (Throw here x) no_statement) no_clause))) ≡ value
unfolding either into followed_by loop_of switch_of
with_default = refl

pub without_default : ends_of_statement (Switch here x (cases no_clause)) ≡ record completion { returns_value = true }
unfolding either into followed_by loop_of switch_of
without_default = refl

-- `switch (x) { default: break; case x: return x; }`
pub broken_out : ends_of_statement (Switch here x (a_clause absent (a_statement (Break here) no_statement) (cases no_clause))) ≡ record completion { returns_value = true }
unfolding either into followed_by loop_of switch_of
broken_out = refl

-- `try { return x; } catch (x) { }` may complete; `try { return x; } finally { throw x; }` has no end
pub caught : ends_of_statement (Try here gives (a_catch name (Block here no_statement)) omitted) ≡ record completion { returns_value = true }
unfolding either into followed_by loop_of switch_of
caught = refl

pub finally_throws : ends_of_statement (Try here gives no_catch (given (Throw here x))) ≡ no_end
unfolding either into followed_by loop_of switch_of
finally_throws = refl

-- `try { return x; } finally { if (x) return x; }` returns either way
pub finally_may_return : ends_of_statement (Try here gives no_catch (given may_give)) ≡ value
unfolding either into followed_by loop_of switch_of
finally_may_return = refl

pub nothing : ends_of_statements no_statement ≡ completion
unfolding either into followed_by loop_of switch_of
nothing = refl
