-- Scripts whose nodes and names can be numbered in 32 bits.
use Rattle.std.specs.Prelude.{ℕ, ◌<◌, ◌^◌, List}
use Rattle.js_tree.specs.Tree.{StatementTree, statements_of}
use Rattle.js_tree.specs.Size.{statements_size}

-- its nodes and names, with the lists between them
abbrev pub script_size : List StatementTree → ℕ
script_size body = statements_size (statements_of body)

-- fewer than 2^32
abbrev pub IsNumberable : List StatementTree → Type 0
IsNumberable body = script_size body < 2 ^ 32
