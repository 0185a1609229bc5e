use Rattle.std.proofs.Common.{arith}
use Rattle.scope_names.specs.Around.{scopes_of}
use Rattle.js_scope.specs.Functions.{functions_of}
use Rattle.js_scope.specs.Parts.{each}
use Rattle.js_scope.proofs.Passing.{passed_more, passed_all}
use Rattle.js_scope.proofs.parts.ListPart.resolve.Goals as goal

pub loop-part-preserved : goal.loop-part-preserved
loop-part-preserved g c =
    let place = g.T.Part.place (scopes_of c.args.scopes.now) in
    passed_more place (each place c.args.self.now (functions_of c.args.functions.now)) c.loop-part.part-items c.loop-part.part-index (functions_of c.loop-part.functions) (functions_of c.resolve.new.functions) c.part-item.result c.resolve.new.self
    c.loop-part.invariant (omega arith) c.part-item.is c.in_ok-resolve.ensures

pub returns : goal.returns
returns g c =
    let place = g.T.Part.place (scopes_of c.args.scopes.now) in
    rw c.from_vec.ensures
    (passed_all place (each place c.args.self.now (functions_of c.args.functions.now)) c.loop-part.part-items c.into_vec-items.result.items c.loop-part.part-index c.into_vec-items.result.len (functions_of c.loop-part.functions)
    c.loop-part.invariant (omega arith) (omega arith))
