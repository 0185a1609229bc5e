-- The laws of the scripts that are read, once they are resolved.
use Rattle.std.specs.Prelude.{◌≡◌, ℕ, List, Ok}
use Rattle.js_tree.specs.Tree.{StatementTree}
use Rattle.js_grammar.specs.Statements.{script_of_text}
use Rattle.js_binding.specs.Resolved.{resolved}
use Rattle.js_law_right.specs.Anonymous.{DeclaredAreAnonymous}
use Rattle.js_binding.specs.Numbered.{numbered_script}
use Rattle.js_law_right.specs.Right.{ProgramRight}
use Rattle.js_law_right.specs.Unbound.{unbound_program}

-- No declared function of a script that is read has a name of its own.
abbrev pub ReadsAreAnonymous : Type 0
ReadsAreAnonymous = (us : List ℕ) (script : List StatementTree) → script_of_text us ≡ Ok script → DeclaredAreAnonymous script

-- a script whose program has each name where it stands, and without these places is the script with functions by number
pub record ResolvesByName (script : List StatementTree) : Type 0 where
  pub right : ProgramRight (resolved script)
  pub numbered : unbound_program (resolved script) ≡ numbered_script script

-- So is each script that is read.
abbrev pub ReadsAreRight : Type 0
ReadsAreRight = (us : List ℕ) (script : List StatementTree) → script_of_text us ≡ Ok script → ResolvesByName script
