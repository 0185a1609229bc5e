use Rattle.js_scope.proofs.Fitting.{program_made, program_fitting}
use Rattle.js_scope.proofs.scripts.resolve.Goals as goal

pub invariant_of-result : goal.invariant_of-result
invariant_of-result c = record {
  fits = program_fitting c.args.script c.into_body-body.result c.resolve.new.self c.new-functions.result c.resolve.new.functions c.into_body-body.ensures.value c.new-functions.ensures c.in_ok-resolve.ensures;
}

pub returns : goal.returns
returns c =
    program_made c.args.script c.into_body-body.result c.resolve.new.self c.new-functions.result c.resolve.new.functions c.into_body-body.ensures.value c.new-functions.ensures c.in_ok-resolve.ensures
