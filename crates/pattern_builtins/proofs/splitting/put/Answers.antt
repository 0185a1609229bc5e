use Rattle.std.proofs.Common.{◌∷◌, arith}
use Rattle.js_regex.proofs.Lists.{list_end}
use Rattle.pattern_builtins.specs.Pieces.{piece}
use Rattle.pattern_builtins.proofs.Puts.{first_left, put_last, put_next}
use Rattle.pattern_builtins.proofs.splitting.put.Goals as goal

pub loop-left-preserved : goal.loop-left-preserved
loop-left-preserved c =
    put_next c.args.limit (piece c.args.from c.args.found.now.from ∷ c.args.found.now.groups) c.args.pieces.now c.loop-left.pieces c.loop-left.left.now _ _ _
    c.loop-left.invariant (omega arith) (first_left c.loop-left.left.now c.in-len1-up.len_at_least) c.in_ok-push-2.ensures.ok

pub returns : goal.returns
returns c =
    put_last c.args.limit (piece c.args.from c.args.found.now.from ∷ c.args.found.now.groups) c.args.pieces.now c.loop-left.pieces c.loop-left.left.now
    c.len-2.result c.loop-left.invariant (list_end c.loop-left.left.now c.in_default.len_below) c.len-2.ensures
