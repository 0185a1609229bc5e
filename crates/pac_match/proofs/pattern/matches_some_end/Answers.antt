use Rattle.std.proofs.Common.{sym, ◌∙◌}
use Rattle.pac_match.specs.Matching.{is_match}
use Rattle.pac_match.proofs.Ends.{some_end-whole}
use Rattle.pac_match.proofs.pattern.matches_some_end.Goals as goal

pub returns-in-Whole : goal.returns-in-Whole
returns-in-Whole c = sym (c.loop-rest.invariant ∙ some_end-whole (is_match c.loop-rest.signs.now) c.loop-rest.left.now c.in-Whole.ensures)
