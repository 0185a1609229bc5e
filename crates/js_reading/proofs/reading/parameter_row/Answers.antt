use Rattle.std.proofs.Common.{rules}
use Rattle.js_grammar.specs.Readers as spec
use Rattle.js_reading.proofs.reading.parameter_row.Goals as goal

pub returns : goal.returns
returns c = c.row.ensures (spec.a_parameter c.args.end) (λ before given post. search rules)
