use Rattle.std.proofs.Common.{◌≡◌, ◌∙◌, Option, IfOk, ap, sym, subst}
use Rattle.std.specs.Option.{option_map}
use Rattle.std.proofs.lemmas.Option.{slice_get-map}
use Rattle.js_tree.specs.Tree.{FunctionTree}
use Rattle.js_tree.specs.View.{function_of}
use Rattle.js_lint.specs.Rules.{function_finding}
use Rattle.js_lint.proofs.rules.numbered_finding.Goals as goal

pub returns : goal.returns
returns c =
    subst (λ (f : Option FunctionTree). IfOk c.function_finding.result (λ finding. finding ≡ function_finding c.args.place c.args.name.now f))
    (ap (option_map function_of) c.function_at.ensures ∙ sym (slice_get-map function_of c.args.functions.now c.args.number))
    c.function_finding.ensures
