use Rattle.std.proofs.Common.{◌∙◌, sym, arith}
use Rattle.array_builtins.proofs.PlaceLemmas.{place_below-miss}
use Rattle.array_builtins.proofs.places.last_index_below.Goals as goal

pub loop-left-preserved : goal.loop-left-preserved
loop-left-preserved c = record {
  within = omega (arith, c.loop-left.invariant.within);
  place =
      c.loop-left.invariant.place
      ∙ place_below-miss c.args.heap.now c.args.array c.args.value.now c.loop-left.left c.loop-left-test.true
      (sym c.in_ok-stands_at.ensures ∙ c.if-branch.false);
}
