use Rattle.std.proofs.Common.{◌≤◌, length, arith}
use Rattle.std.proofs.lemmas.List.{take_all}
use Rattle.js_host.specs.declared.limits.TheConstants.{MOST_UNITS}
use Rattle.js_host.proofs.alerts.kept_units.Goals as goal

pub returns-then-len-le-MOST_UNITS : goal.returns-then-len-le-MOST_UNITS
returns-then-len-le-MOST_UNITS c =
    let short : length c.args.text.now ≤ MOST_UNITS = omega arith in
    rw (take_all MOST_UNITS c.args.text.now short) c.copy.ensures
