use Rattle.js_law_round_trip.proofs.RoundTrip.{read_back}
use Rattle.js_law_round_trip.proofs.laws.printing_is_read_back.Goals as goal

pub returns : goal.returns
returns c = read_back
