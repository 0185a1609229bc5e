use Rattle.js_law_binding.proofs.FitsLaw.{resolved_fits}
use Rattle.js_law_binding.proofs.laws.resolved_fits.Goals as goal

pub returns : goal.returns
returns c = resolved_fits
