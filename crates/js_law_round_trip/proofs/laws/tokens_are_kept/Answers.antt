use Rattle.js_law_round_trip.proofs.RoundTrip.{kept}
use Rattle.js_law_round_trip.proofs.laws.tokens_are_kept.Goals as goal

pub returns : goal.returns
returns c = kept
