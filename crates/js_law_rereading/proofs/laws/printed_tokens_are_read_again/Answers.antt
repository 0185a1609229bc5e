use Rattle.js_law_rereading.proofs.Rereading.{printed_tokens_law}
use Rattle.js_law_rereading.proofs.laws.printed_tokens_are_read_again.Goals as goal

pub returns : goal.returns
returns c = printed_tokens_law
