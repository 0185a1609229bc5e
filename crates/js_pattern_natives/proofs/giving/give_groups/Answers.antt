use Rattle.pattern_builtins.specs.Pieces.{found_in}
use Rattle.js_pattern_natives.proofs.Pieces.{array_stops, array_then, no_array}
use Rattle.js_pattern_natives.proofs.giving.give_groups.Goals as goal

pub returns-in_err-array : goal.returns-in_err-array
returns-in_err-array c = array_stops c.args.text.now (found_in c.args.found.now) c.args.place _ _ _ _ c.from_residual-in_err-array.ensures.1
    (rw (c.as_slice.ensures, c.in_ok-pieces.ensures.pieces) at c.in_err-array.ensures)

pub returns-in-Object : goal.returns-in-Object
returns-in-Object c = array_then c.args.text.now (found_in c.args.found.now) c.args.place _ _ _ _ _
    (rw (c.as_slice.ensures, c.in_ok-pieces.ensures.pieces, c.in-Object.is) at c.in_ok-array.ensures) c.describe.ensures

pub returns : goal.returns
returns c = array_then c.args.text.now (found_in c.args.found.now) c.args.place _ _ _ _ _
    (rw (c.as_slice.ensures, c.in_ok-pieces.ensures.pieces) at c.in_ok-array.ensures)
    (no_array _ c.args.text.now (found_in c.args.found.now) c.args.place _ c.in_default.not-Object)
