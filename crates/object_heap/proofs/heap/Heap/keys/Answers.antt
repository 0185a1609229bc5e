use Rattle.std.proofs.Common.{◌<◌, ◌∙◌, sym, ap, subst, reverse, Option}
use Rattle.std.specs.Prelude.{IfSome}
use Rattle.heap_values.specs.declared.ids.ObjectId.{ObjectId}
use Rattle.heap_objects.specs.Keys.{with_names}
use Rattle.object_heap.specs.Heap.{object_at, line_of, own_keys_in, keys_among}
use Rattle.object_heap.proofs.LineLemmas.{line_among-none, keys_among-line}
use Rattle.object_heap.proofs.heap.Heap.keys.Goals as goal

pub loop-next-preserved : goal.loop-next-preserved
loop-next-preserved c =
    let heap = c.args.self.now in
    let names = c.loop-next.names in
    let id = c.in-Some.id in
    let older = subst (λ (p : Option ObjectId). IfSome p (λ q. q.0 < id.0)) c.prototype-next.ensures.prototype c.prototype-next.ensures.older in
    c.loop-next.invariant
    ∙ ap (λ next. keys_among heap (line_of heap next) names) c.in-Some.is
    ∙ keys_among-line heap id names older
    ∙ sym (ap (λ next. keys_among heap (line_of heap next) (with_names names (own_keys_in (object_at heap id)))) c.prototype-next.ensures.prototype)
    ∙ sym (ap (λ more. keys_among heap (line_of heap c.prototype-next.result) more) (c.in_ok-add_all.ensures ∙ ap (λ own. with_names names own) c.in_ok-own_keys.ensures))

pub returns : goal.returns
returns c =
    let heap = c.args.self.now in
    c.into_list.ensures
    ∙ sym (c.loop-next.invariant
    ∙ ap (λ next. keys_among heap (line_of heap next) c.loop-next.names) c.in_default.is
    ∙ ap (λ ids. keys_among heap ids c.loop-next.names) (line_among-none (reverse heap.objects)))
