use Rattle.std.proofs.Common.{◌∙◌, sym}
use Rattle.array_builtins.proofs.PlaceLemmas.{place_from-miss}
use Rattle.array_builtins.proofs.places.index_from.Goals as goal

pub loop-at-preserved : goal.loop-at-preserved
loop-at-preserved c =
    c.loop-at.invariant
    ∙ place_from-miss c.args.heap.now c.args.array c.args.value.now c.args.length c.loop-at.at c.loop-at-test.true
    (sym c.in_ok-stands_at.ensures ∙ c.if-branch.false)
