-- Parts that may be missing, as the code holds them, in the types that trees have for them.
use Rattle.std.specs.Prelude.{Option, Some, None, Box}
use Rattle.std.specs.declared.alloc.Global.{Global}
use Rattle.js_tree.specs.declared.statement.Catch.{Catch}
use Rattle.js_tree.specs.declared.statement.ForStart.{ForStart}
use Rattle.js_tree.specs.Tree.{StatementTree, OptionalStatement, omitted, given, StartTree, no_start, CatchTree, no_catch, a_catch}
use Rattle.js_tree.specs.View.{start_of}

abbrev pub statement_or_none : Option StatementTree → OptionalStatement
statement_or_none None = omitted
statement_or_none (Some s) = given s

abbrev pub start_or_none : Option ForStart → StartTree
start_or_none None = no_start
start_or_none (Some s) = start_of s

abbrev pub catch_or_none : Option Catch → CatchTree
catch_or_none None = no_catch
catch_or_none (Some c) = a_catch c.name c.body

-- what a box holds, where there is one
abbrev pub unboxed : {T : Type 0} → Option (Box T Global) → Option T
unboxed None = None
unboxed (Some b) = Some b.value
