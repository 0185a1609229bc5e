-- The laws of resolved scripts.
use Rattle.std.specs.Prelude.{◌≡◌, List}
use Rattle.js_tree.specs.Tree.{StatementTree}
use Rattle.js_binding.specs.Resolved.{resolved}
use Rattle.js_law_right.specs.Anonymous.{DeclaredAreAnonymous}
use Rattle.js_binding.specs.Numbered.{numbered_script}
use Rattle.js_law_right.specs.Right.{ProgramRight}
use Rattle.js_law_right.specs.Unbound.{unbound_program}

-- Each name of a resolved script has the place where it stands, and each function the names of its scope.
abbrev pub ResolvedIsRight : Type 0
ResolvedIsRight = (script : List StatementTree) → DeclaredAreAnonymous script → ProgramRight (resolved script)

-- Without the places of its names, a resolved script is the script with its functions by number.
abbrev pub ResolvedIsNumbered : Type 0
ResolvedIsNumbered = (script : List StatementTree) → unbound_program (resolved script) ≡ numbered_script script
