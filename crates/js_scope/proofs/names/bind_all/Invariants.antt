use Rattle.std.proofs.Common.{◌≡◌, ◌++◌, map, take, drop}
use Rattle.js_binding.specs.Scopes.{bound_in}
use Rattle.scope_names.specs.Around.{scopes_of}
use Rattle.js_scope.proofs.names.bind_all.Given as goal

abbrev pub invariant-loop-x : goal.invariant-loop-x
invariant-loop-x l =
    map (bound_in (scopes_of l.scopes)) l.fn.all ≡ take l.x-index l.x-items ++ map (bound_in (scopes_of l.scopes)) (drop l.x-index l.x-items)
