use Rattle.std.proofs.Common.{sym, ◌∙◌}
use Rattle.js_pattern_natives.proofs.Pieces.{gives_some}
use Rattle.js_pattern_natives.proofs.giving.give_matches.Goals as goal

pub returns : goal.returns
returns c = gives_some _ _ _ _ _ _ (sym c.if-is_empty.false ∙ c.is_empty.ensures) c.give_pieces.ensures
