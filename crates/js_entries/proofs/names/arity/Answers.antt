use Rattle.std.proofs.Common.{◌≡◌, ap, subst}
use Rattle.std.specs.Prelude.{IfOk}
use Rattle.js_evaluation.specs.Objects.{arity_of}
use Rattle.js_entries.proofs.names.arity.Goals as goal

pub returns-in-None : goal.returns-in-None
returns-in-None c = ap arity_of c.in-None.ensures

pub returns-in-Some : goal.returns-in-Some
returns-in-Some c = subst (λ f. IfOk c.arity_of.result (λ a. a ≡ arity_of f)) c.in-Some.ensures c.arity_of.ensures
