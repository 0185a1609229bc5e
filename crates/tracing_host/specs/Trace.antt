-- What a host writes down of a run, and what it answers.
use Rattle.std.specs.Prelude.{◌≡◌, Option, Some, None, true, false}
use Rattle.pac_names.specs.declared.answer.Answer.{Answer}
use Rattle.pac_names.specs.Names.{Name}
use Rattle.js_host.specs.Seen.{is_one_too_many, with_name}
use Rattle.js_host.specs.declared.host.Looked.{Looked}
use Rattle.js_host.specs.declared.host.Looked.TheVariants.{Known, Missing, TooMany, Memory}
use Rattle.tracing_host.specs.declared.trace.Trace.{Trace}

-- the name is written down if it is new
abbrev pub Notes : Trace → Name → Trace → Type 0
Notes before name after =
    (is_one_too_many before.asked name ≡ false) × (after ≡ record before { asked = with_name before.asked name })

-- What is known of the name is told and the name written down, or it is one too many. After Memory all is as before.
abbrev pub Tells : Trace → Name → Option Answer → Looked → Trace → Type 0
Tells before name known (Known answer) after = (known ≡ Some answer) × Notes before name after
Tells before name known Missing after = (known ≡ None) × Notes before name after
Tells before name known TooMany after = (is_one_too_many before.asked name ≡ true) × (after ≡ before)
Tells before name known Memory after = after ≡ before
