use Rattle.std.proofs.Common.{◌≡◌, ◌++◌, rules}
use Rattle.text_builtins.specs.Replacing.{expanded}
use Rattle.text_builtins.proofs.Making.{replaced_at-long, replaced_at-fits}
use Rattle.text_builtins.proofs.replacing.replaced.Goals as goal

pub returns-then-length-gt-LONGEST_TEXT : goal.returns-then-length-gt-LONGEST_TEXT
returns-then-length-gt-LONGEST_TEXT c =
    replaced_at-long c.args.units.now c.args.part.now c.args.by.now c.front-before.result.now c.rest-behind.result.now c.args.at
    c.expanded_length-size.result
    c.front-before.ensures c.rest-behind.ensures c.expanded_length-size.ensures c.if-length-gt-LONGEST_TEXT.true

pub returns : goal.returns
returns c =
    let text : c.in_ok-from_vec.field-0
    ≡ c.front-before.result.now ++ expanded c.front-before.result.now c.args.part.now c.rest-behind.result.now c.args.by.now ++ c.rest-behind.result.now = search rules in
    replaced_at-fits c.args.units.now c.args.part.now c.args.by.now c.front-before.result.now c.rest-behind.result.now c.args.at
    c.expanded_length-size.result
    c.front-before.ensures c.rest-behind.ensures c.expanded_length-size.ensures c.in_ok-from_vec.field-0 text c.if-length-gt-LONGEST_TEXT.false
