use Rattle.std.proofs.Common.{refl}
use Rattle.library_calls.proofs.Zones.{is_text}
use Rattle.library_calls.proofs.zone.written_zone.Goals as goal

-- it is ASCII
pub unreachable-requires : goal.unreachable-requires
unreachable-requires c =
    c.in-Err.ensures.cases.0 (rw (c.digit.ensures, c.digit-2.ensures, c.digit-3.ensures, c.digit-4.ensures) (is_text c.args.sign c.args.away c.requires.ascii c.requires.near))

pub returns : goal.returns
returns c = rw (c.read_zone.ensures, c.in-Ok.ensures.cases.0, c.digit.ensures, c.digit-2.ensures, c.digit-3.ensures, c.digit-4.ensures) refl
