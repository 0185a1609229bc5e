use Rattle.std.proofs.Common.{◌∙◌, sym, ap}
use Rattle.pac_calendar.specs.Argument.{ends_in_gmt}
use Rattle.pac_calendar.proofs.Forms.{ends_in_gmt-last}
use Rattle.pac_calendar.proofs.argument.has_gmt.Goals as goal

pub returns-in-Some : goal.returns-in-Some
returns-in-Some c = c.is_text.ensures ∙ sym (ap ends_in_gmt c.in-Some.ensures.cases.0 ∙ ends_in_gmt-last c.in-Some.field-0-1.now c.in-Some.last.now)
