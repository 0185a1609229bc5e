use Rattle.std.proofs.Common.{◌≡◌, List, [], refl, ◌∙◌, arith}
use Rattle.js_tree.specs.Tree.{StatementTree, statements_of}
use Rattle.js_grammar.specs.Statements.{at_top}
use Rattle.js_law_readable.proofs.ReadScripts.{texts_law}
use Rattle.js_binding.specs.Numbered.{numbered_script}
use Rattle.js_binding.specs.Source.{source_of, statements_source}
use Rattle.js_law_source.proofs.BackTrees.{statements_back}
use Rattle.js_law_source.proofs.ReadScripts.{none, statements_same}
use Rattle.js_law_source.proofs.laws.sources_of_numbered_scripts.Goals as goal

source_of_numbered : (script : List StatementTree) → source_of (numbered_script script) ≡ statements_source none (statements_of script)
source_of_numbered script =
    (statements_back (statements_of script)).keeps [] (numbered_script script).1 _
    (record { longer = omega arith; kept = λ n past below. refl }) (λ n past. refl)

pub returns : goal.returns
returns c = λ us script read. source_of_numbered script ∙ statements_same at_top (statements_of script) (texts_law us script read)
