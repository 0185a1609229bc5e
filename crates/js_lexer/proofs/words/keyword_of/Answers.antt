use Rattle.std.proofs.Common.{◌∙◌, arith}
use Rattle.js_lexer.proofs.Keywords.{first_among}
use Rattle.js_lexer.proofs.words.keyword_of.Goals as goal

pub returns : goal.returns
returns c = c.keyword_among.ensures ∙ first_among c.args.units.now _ (omega arith) c.keywords_from.ensures
