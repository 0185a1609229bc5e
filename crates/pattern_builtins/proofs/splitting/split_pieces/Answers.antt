use Rattle.pattern_builtins.proofs.Splits.{takes_within}
use Rattle.pattern_builtins.proofs.splitting.split_pieces.Goals as goal

pub returns-clause-within : goal.returns-clause-within
returns-clause-within c = takes_within c.args.pattern.now c.args.text.now c.args.limit c.args.fuel.now c.split.new.fuel _ c.split.ensures
