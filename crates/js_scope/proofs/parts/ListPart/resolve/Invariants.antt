use Rattle.std.proofs.Common.{◌≡◌}
use Rattle.scope_names.specs.Around.{scopes_of}
use Rattle.js_scope.specs.Functions.{functions_of}
use Rattle.js_scope.specs.Parts.{each}
use Rattle.js_scope.proofs.Passing.{rest_of}
use Rattle.js_scope.proofs.parts.ListPart.resolve.Given as goal

abbrev pub invariant-loop-part : goal.invariant-loop-part
invariant-loop-part g l =
    let place = g.T.Part.place (scopes_of l.scopes) in
    each place l.fn.self (functions_of l.initial.functions) ≡ rest_of place l.part-index l.part-items (functions_of l.functions)
