use Rattle.std.proofs.Common.{◌∙◌}
use Rattle.js_tree.specs.Tree.{statements_of}
use Rattle.js_grammar.specs.Statements.{at_top}
use Rattle.js_law_readable.proofs.ReadScripts.{texts_law}
use Rattle.js_law_binding.proofs.SourceLaw.{source_of_resolved}
use Rattle.js_law_source.proofs.ReadScripts.{statements_same}
use Rattle.js_law_source.proofs.laws.sources_of_scripts_read.Goals as goal

pub returns : goal.returns
returns c = λ us script read. source_of_resolved script ∙ statements_same at_top (statements_of script) (texts_law us script read)
