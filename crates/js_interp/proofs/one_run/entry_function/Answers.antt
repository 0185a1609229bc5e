use Rattle.std.proofs.Common.{◌≡◌, ◌∙◌, Option, IfOk, ap, subst, sym}
use Rattle.std.specs.Prelude.{codes}
use Rattle.std.specs.Option.{option_or}
use Rattle.heap_values.specs.declared.ids.ObjectId.{ObjectId}
use Rattle.js_evaluation.specs.Evaluation.{entry_in, function_named}
use Rattle.js_interp.proofs.one_run.entry_function.Goals as goal

-- where the longer name stands for no function, the other one's counts
pub returns-in-None : goal.returns-in-None
returns-in-None c =
    let other = function_named c.args.heap.now (codes "FindProxyForURL") in
    let none : entry_in c.args.heap.now ≡ other = ap (λ (f : Option ObjectId). option_or f other) (sym c.in_ok-function.ensures ∙ c.in-None.is) in
    subst (λ (o : Option ObjectId). IfOk c.function_named-in-None.result (λ function. function ≡ o)) (sym none) c.function_named-in-None.ensures
