use Rattle.std.proofs.Common.{◌≡◌, refl}
use Rattle.pac_functions.proofs.Asking.{asked, refused}
use Rattle.pac_functions.proofs.addresses.answer_on.Goals as goal

pub returns-in-Known : goal.returns-in-Known
returns-in-Known g c next = rw (c.in-Some.is, asked c.in-Some.name next _ _ c.in-Known.ensures) refl

pub returns-in-Missing : goal.returns-in-Missing
returns-in-Missing g c next = rw c.in-Some.is (asked c.in-Some.name next _ _ c.in-Missing.ensures)

pub returns-in-TooMany : goal.returns-in-TooMany
returns-in-TooMany g c next = rw c.in-Some.is (refused c.in-Some.name next _ _ c.in-TooMany.ensures)
