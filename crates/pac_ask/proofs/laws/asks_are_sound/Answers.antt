use Rattle.pac_ask.proofs.Begin.{sound}
use Rattle.pac_ask.proofs.laws.asks_are_sound.Goals as goal

pub returns : goal.returns
returns c upstream name terms named = sound upstream.terms name terms named
