use Rattle.std.proofs.Common.{◌∙◌, ◌++◌, ◌∷◌, [], ◌-◌, ◌+◌, ap, sym, append_assoc}
use Rattle.std.specs.Fmt.{decimal}
use Rattle.heap_objects.specs.Object.{index_names}
use Rattle.heap_objects.proofs.ObjectLemmas.{index_names-first}
use Rattle.heap_objects.proofs.object.names_between.Goals as goal

pub loop-index-preserved : goal.loop-index-preserved
loop-index-preserved c =
    let rest = index_names (c.loop-index.index + 1) (c.args.to - (c.loop-index.index + 1)) in
    ap (λ names. names ++ rest) (c.in_ok-push.ensures.ok ∙ ap (λ name. c.loop-index.names ++ name ∷ []) c.in_ok-index_name.ensures)
    ∙ append_assoc c.loop-index.names (decimal c.loop-index.index ∷ []) rest
    ∙ ap (λ names. c.loop-index.names ++ names) (sym (index_names-first c.loop-index.index c.args.to c.loop-index-test.true))
    ∙ c.loop-index.invariant
