use Rattle.js_pattern_reader.proofs.Numbers.{bodies_are_numbered}
use Rattle.js_pattern_reader.proofs.pattern.bodies_are_numbered.Goals as goal

pub returns : goal.returns
returns c = bodies_are_numbered
