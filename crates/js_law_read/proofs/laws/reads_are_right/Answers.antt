use Rattle.js_law_right.proofs.RightLaw.{resolved_is_right, resolved_is_numbered}
use Rattle.js_law_read.proofs.Anonymous.{reads_anonymous}
use Rattle.js_law_read.proofs.laws.reads_are_right.Goals as goal

pub returns : goal.returns
returns c = λ us script read. record {
  right = resolved_is_right script (reads_anonymous us script read);
  numbered = resolved_is_numbered script;
}
