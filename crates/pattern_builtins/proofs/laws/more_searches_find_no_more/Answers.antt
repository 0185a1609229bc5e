use Rattle.pattern_builtins.proofs.Searching.{more_searches}
use Rattle.pattern_builtins.proofs.laws.more_searches_find_no_more.Goals as goal

pub returns : goal.returns
returns c = more_searches
