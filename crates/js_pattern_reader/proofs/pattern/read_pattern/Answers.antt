use Rattle.js_pattern_reader.proofs.Numbers.{bodies_are_numbered}
use Rattle.js_pattern_reader.proofs.pattern.read_pattern.Goals as goal

pub new-requires-clause-count : goal.new-requires-clause-count
new-requires-clause-count c = (bodies_are_numbered c.args.body.now c.in_ok-body.body.root c.in_ok-body.body.groups c.in_ok-body.ensures).0

pub new-requires-clause-numbered : goal.new-requires-clause-numbered
new-requires-clause-numbered c = (bodies_are_numbered c.args.body.now c.in_ok-body.body.root c.in_ok-body.body.groups c.in_ok-body.ensures).1
