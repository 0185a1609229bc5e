use Rattle.utf16_text.specs.Decode.{utf16_units}
use Rattle.pac_ask.proofs.Plans.{memory_first}
use Rattle.pac_ask.proofs.asking.ask.Goals as goal

pub returns-in_default : goal.returns-in_default
returns-in_default g c o = memory_first c.args.upstream (utf16_units c.args.word.now) _
