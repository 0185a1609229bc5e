use Rattle.js_law_round_trip.proofs.RoundTrip.{read_back, kept}
use Rattle.js_law_round_trip.proofs.laws.of_text.Goals as goal

pub returns-clause-read_back : goal.returns-clause-read_back
returns-clause-read_back c = read_back _ c.units-units.ensures.text

pub returns-clause-kept : goal.returns-clause-kept
returns-clause-kept c = kept _ c.units-units.ensures.text
