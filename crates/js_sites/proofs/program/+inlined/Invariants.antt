-- The measure of each function is the number of functions that are left; a loop has added what it passed.
use Rattle.std.proofs.Common.{◌≡◌, ◌+◌, ◌*◌, ◌++◌, length}
use Rattle.js_scope.specs.Functions.{functions_of}
use Rattle.js_sites.specs.Program.{inlined, sites_from}
use Rattle.js_sites.proofs.program.+inlined.Given as goal

abbrev pub decreases-add_inlined : goal.decreases-add_inlined
decreases-add_inlined l = 2 * length l.functions.now + 1

abbrev pub invariant-add_inlined-loop-site : goal.invariant-add_inlined-loop-site
invariant-add_inlined-loop-site l = l.found ≡ l.initial.found ++ inlined (sites_from l.first (functions_of l.functions)) l.yielded

abbrev pub decreases-add_within : goal.decreases-add_within
decreases-add_within l = 2 * length l.functions.now
