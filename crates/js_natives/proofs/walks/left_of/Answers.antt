use Rattle.std.proofs.Common.{◌≤◌, arith}
use Rattle.js_natives.proofs.walks.left_of.Goals as goal

pub returns-in-None : goal.returns-in-None
returns-in-None c = λ n m.
    let big : 18446744073709551616 ≤ n = rw c.in-None.is at m in
    omega (arith, big, c.ranges.fuel.fits)
