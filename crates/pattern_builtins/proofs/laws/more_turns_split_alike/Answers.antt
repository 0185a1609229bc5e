use Rattle.pattern_builtins.proofs.Splits.{more_turns}
use Rattle.pattern_builtins.proofs.laws.more_turns_split_alike.Goals as goal

pub returns : goal.returns
returns c = more_turns
