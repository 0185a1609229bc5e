use Rattle.std.proofs.Common.{◌<◌, ◌==◌, ◌∙◌, sym, ap, subst, length, reverse, Option}
use Rattle.std.specs.Prelude.{IfSome}
use Rattle.std.specs.List.{list_any}
use Rattle.heap_values.specs.declared.ids.ObjectId.{ObjectId}
use Rattle.object_heap.specs.Heap.{line_of}
use Rattle.object_heap.proofs.LineLemmas.{line_among-none, next_is_there, inherits-here, inherits-pass}
use Rattle.object_heap.proofs.heap.Heap.inherits_from.Goals as goal

pub loop-next-init : goal.loop-next-init
loop-next-init c =
    let heap = c.args.self.now in (
      sym (ap (λ next. list_any (λ p. p.0 == c.args.prototype.0) (line_of heap next)) c.prototype-next.ensures.prototype),
      next_is_there heap c.args.object _ c.prototype-next.ensures.prototype c.prototype-next.ensures.older,
    )

pub returns-then-eq : goal.returns-then-eq
returns-then-eq c =
    let heap = c.args.self.now in
    let there = subst (λ (next : Option ObjectId). IfSome next (λ p. p.0 < length heap.objects)) c.in-Some.is c.loop-next.invariant.1 in
    sym (c.loop-next.invariant.0
    ∙ ap (λ next. list_any (λ p. p.0 == c.args.prototype.0) (line_of heap next)) c.in-Some.is
    ∙ inherits-here heap c.in-Some.id c.args.prototype there (sym c.eq.ensures ∙ c.if-eq.true))

pub loop-next-preserved : goal.loop-next-preserved
loop-next-preserved c =
    let heap = c.args.self.now in
    let id = c.in-Some.id in
    let there = subst (λ (next : Option ObjectId). IfSome next (λ p. p.0 < length heap.objects)) c.in-Some.is c.loop-next.invariant.1 in
    let older = subst (λ (p : Option ObjectId). IfSome p (λ q. q.0 < id.0)) c.prototype-next-in-Some.ensures.prototype c.prototype-next-in-Some.ensures.older in (
      c.loop-next.invariant.0
          ∙ ap (λ next. list_any (λ p. p.0 == c.args.prototype.0) (line_of heap next)) c.in-Some.is
          ∙ inherits-pass heap id c.args.prototype there older (sym c.eq.ensures ∙ c.if-eq.false)
          ∙ sym (ap (λ next. list_any (λ p. p.0 == c.args.prototype.0) (line_of heap next)) c.prototype-next-in-Some.ensures.prototype),
      next_is_there heap id _ c.prototype-next-in-Some.ensures.prototype c.prototype-next-in-Some.ensures.older,
    )

pub returns : goal.returns
returns c =
    let heap = c.args.self.now in
    sym (c.loop-next.invariant.0
    ∙ ap (λ next. list_any (λ p. p.0 == c.args.prototype.0) (line_of heap next)) c.in_default.is
    ∙ ap (list_any (λ p. p.0 == c.args.prototype.0)) (line_among-none (reverse heap.objects)))
