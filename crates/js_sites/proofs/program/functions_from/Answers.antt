use Rattle.std.proofs.Common.{◌≡◌, ◌∙◌, ℕ, ◌-◌, List, length, take, drop, ap, sym, arith}
use Rattle.std.proofs.lemmas.List.{take_rest, drop_min, drop-map}
use Rattle.js_tree.specs.declared.expression.Function.{Function}
use Rattle.js_tree.specs.View.{function_of}
use Rattle.js_scope.specs.Functions.{functions_of}
use Rattle.js_sites.specs.Program.{first_sites}
use Rattle.js_sites.proofs.Numbering.{sites_from-below, sites_from-at}
use Rattle.js_sites.proofs.program.functions_from.Goals as goal

pub returns-then-number-first-clause-sites : goal.returns-then-number-first-clause-sites
returns-then-number-first-clause-sites c =
    sym (sites_from-below c.args.first (functions_of c.args.functions.now) c.args.number c.if-number-first.true)

pub returns-clause-sites : goal.returns-clause-sites
returns-clause-sites c =
    let functions = c.args.functions.now in
    let n = c.args.number - c.args.first in
    let rest : take (length functions - c.min.result) (drop c.min.result functions) ≡ drop n functions =
    take_rest functions c.min.result ∙ ap (λ (k : ℕ). drop k functions) c.min.ensures ∙ drop_min n functions in
    ap (λ (fs : List Function). first_sites c.args.number (functions_of fs)) rest
    ∙ ap (first_sites c.args.number) (sym (drop-map function_of n functions))
    ∙ sites_from-at c.args.first (functions_of functions) c.args.number n (omega arith)
