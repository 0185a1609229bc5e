-- The laws of resolved scripts.
use Rattle.std.specs.Prelude.{◌≡◌, ℕ, List, true}
use Rattle.js_tree.specs.Tree.{StatementTree, statements_of}
use Rattle.js_binding.specs.Resolved.{hollow, resolved}
use Rattle.js_binding.specs.Source.{source_of, statements_source}
use Rattle.js_binding.specs.Fits.{program_fits}
use Rattle.js_binding.specs.Scopes.{Scope}
use Rattle.js_law_binding.specs.Environments.{read_by_name, read_by_slot}
use Rattle.js_law_binding.specs.Rules.{BindsNames}

-- Each kind of node that touches names comes to what its rule says.
abbrev pub NamesAreBound : Type 0
NamesAreBound = (scopes : List Scope) → BindsNames scopes

-- The source of a resolved script is the script, its bounds and names dropped. No function of it stands by number.
abbrev pub SourceIsTheScript : Type 0
SourceIsTheScript = (script : List StatementTree) → source_of (resolved script) ≡ statements_source (λ n. hollow) (statements_of script)

-- Each number of a resolved script has a function, and each bound leads to a slot of a scope that is there.
abbrev pub ResolvedFits : Type 0
ResolvedFits = (script : List StatementTree) → program_fits (resolved script).0 (resolved script).1 ≡ true

-- To read each name by its slot is to look it up along the environment records around it, whatever their values.
abbrev pub SlotsAreLookUps : Type 0
SlotsAreLookUps = (value : ℕ → ℕ → ℕ) (script : List StatementTree) → read_by_slot value (resolved script) ≡ read_by_name value script
