-- What the statements of a script come to is its program, and that fits together.
use Rattle.std.proofs.Common.{◌≡◌, List, [], sym, ◌∙◌, ap}
use Rattle.std.specs.Prelude.{IsTrue}
use Rattle.js_tree.specs.declared.expression.Function.{Function}
use Rattle.js_tree.specs.Tree.{FunctionTree, StatementTree, Statements, statements_of}
use Rattle.js_binding.specs.Resolved.{statement_in, resolved}
use Rattle.js_binding.specs.Fits.{program_fits}
use Rattle.js_law_binding.proofs.FitsLaw.{resolved_fits}
use Rattle.js_scope.specs.Functions.{functions_of}
use Rattle.js_scope.specs.Gives.{Gives}
use Rattle.js_scope.specs.Parts.{each}
use Rattle.js_scope.proofs.Trees.{statements_row}

module _ (script read body : List StatementTree) (none functions : List Function) (moved : read ≡ script) (empty : none ≡ []) (made : Gives (each (statement_in []) read) none body functions) where
  pub program_made : resolved script ≡ (statements_of body, functions_of functions)
  program_made =
      statements_row [] script []
      ∙ ap (λ (m : List StatementTree × List FunctionTree). (statements_of m.0, m.1))
      (ap (λ (ss : List StatementTree). each (statement_in []) ss []) (sym moved)
      ∙ ap (λ (fs : List Function). each (statement_in []) read (functions_of fs)) (sym empty)
      ∙ made)

  pub program_fitting : IsTrue (program_fits (statements_of body) (functions_of functions))
  program_fitting = ap (λ (m : Statements × List FunctionTree). program_fits m.0 m.1) (sym program_made) ∙ resolved_fits script
