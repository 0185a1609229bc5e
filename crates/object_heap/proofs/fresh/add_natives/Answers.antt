use Rattle.std.proofs.Common.{◌∙◌, ◌++◌, ◌∷◌, [], ◌-◌, ◌+◌, ap, sym, append_assoc}
use Rattle.object_heap.specs.declared.table.TheConstants.{NATIVES}
use Rattle.object_heap.specs.Fresh.{native_object, natives_from}
use Rattle.object_heap.proofs.FreshLemmas.{natives_from-first}
use Rattle.object_heap.proofs.fresh.add_natives.Goals as goal

pub loop-number-preserved : goal.loop-number-preserved
loop-number-preserved c =
    let number = c.loop-number.number in
    let rest = natives_from (number + 1) (NATIVES - (number + 1)) in
    ap (λ objects. objects ++ rest) (c.in_ok-push.ensures.items ∙ ap (λ object. c.loop-number.objects.items ++ object ∷ []) c.new.ensures)
    ∙ append_assoc c.loop-number.objects.items (native_object number ∷ []) rest
    ∙ ap (λ objects. c.loop-number.objects.items ++ objects) (sym (natives_from-first number NATIVES c.loop-number-test.true))
    ∙ c.loop-number.invariant
