use Rattle.std.proofs.Common.{◌<◌, ◌∙◌, sym, ap, subst, reverse, Option}
use Rattle.std.specs.Prelude.{IfSome}
use Rattle.heap_values.specs.declared.ids.ObjectId.{ObjectId}
use Rattle.object_heap.specs.Heap.{object_at, line_of, is_absent, own_found_in, found_among}
use Rattle.object_heap.proofs.LineLemmas.{line_among-none, or_found-absent, found_among-own, found_among-line}
use Rattle.object_heap.proofs.heap.Heap.get.Goals as goal

pub returns-then-not-is_nothing : goal.returns-then-not-is_nothing
returns-then-not-is_nothing c =
    let heap = c.args.self.now in
    let present = sym (ap is_absent c.in_ok-found.ensures) ∙ sym c.if-not-is_nothing.ensures in
    c.in_ok-found.ensures
    ∙ sym (found_among-own heap c.in-Some.id c.args.name.now present)
    ∙ sym (ap (λ next. found_among heap (line_of heap next) c.args.name.now) c.in-Some.is)
    ∙ sym c.loop-next.invariant

pub loop-next-preserved : goal.loop-next-preserved
loop-next-preserved c =
    let heap = c.args.self.now in
    let name = c.args.name.now in
    let id = c.in-Some.id in
    let absent = sym (ap is_absent c.in_ok-found.ensures) ∙ sym c.if-not-is_nothing.ensures in
    let older = subst (λ (p : Option ObjectId). IfSome p (λ q. q.0 < id.0)) c.prototype-next.ensures.prototype c.prototype-next.ensures.older in
    c.loop-next.invariant
    ∙ ap (λ next. found_among heap (line_of heap next) name) c.in-Some.is
    ∙ found_among-line heap id name older
    ∙ or_found-absent (own_found_in (object_at heap id) name) _ absent
    ∙ sym (ap (λ next. found_among heap (line_of heap next) name) c.prototype-next.ensures.prototype)

pub returns : goal.returns
returns c =
    let heap = c.args.self.now in
    sym (c.loop-next.invariant
    ∙ ap (λ next. found_among heap (line_of heap next) c.args.name.now) c.in_default.is
    ∙ ap (λ ids. found_among heap ids c.args.name.now) (line_among-none (reverse heap.objects)))
