use Rattle.std.proofs.Common.{◌∙◌, sym, ap, ⊎_elim}
use Rattle.std.specs.Fmt.{decimal}
use Rattle.object_heap.specs.Heap.{is_absent}
use Rattle.object_heap.proofs.LineLemmas.{found_among-own}
use Rattle.object_heap.proofs.heap.Heap.get_index.Goals as goal

pub returns-then-not-is_nothing : goal.returns-then-not-is_nothing
returns-then-not-is_nothing c = ⊎_elim
    (λ absent. absurd (let clash = c.if-not-is_nothing.ensures ∙ ap is_absent absent in cc))
    (λ own. own ∙ sym (found_among-own c.args.self.now c.args.object (decimal c.args.index) (sym (ap is_absent own) ∙ sym c.if-not-is_nothing.ensures)))
    c.in_ok-element.ensures
