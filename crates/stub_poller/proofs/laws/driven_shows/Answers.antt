use Rattle.stub_poller.proofs.Driving.{driven_shows as law}
use Rattle.stub_poller.proofs.laws.driven_shows.Goals as goal

pub returns : goal.returns
returns c = law
