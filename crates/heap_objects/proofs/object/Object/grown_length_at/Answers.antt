use Rattle.std.proofs.Common.{◌∙◌, ◌+◌, sym, ap, arith}
use Rattle.std.specs.Prelude.{max}
use Rattle.heap_values.specs.Views.{ObjectView}
use Rattle.heap_objects.proofs.ObjectLemmas.{grown_length-index, grown_length-no_index}
use Rattle.heap_objects.proofs.object.Object.grown_length_at.Goals as goal

pub returns-then-index-lt4294967295 : goal.returns-then-index-lt4294967295
returns-then-index-lt4294967295 c =
    c.max.ensures ∙ ap (λ (o : ObjectView). max o.length (c.args.index + 1)) c.self.view_is
    ∙ grown_length-index c.args.self.now c.args.index (ap (λ (o : ObjectView). o.kind) (sym c.self.view_is) ∙ c.in-Array.is) c.if-index-lt4294967295.true

pub returns-else-index-lt4294967295 : goal.returns-else-index-lt4294967295
returns-else-index-lt4294967295 c =
    ap (λ (o : ObjectView). o.length) c.self.view_is
    ∙ grown_length-no_index c.args.self.now c.args.index (ap (λ (o : ObjectView). o.kind) (sym c.self.view_is) ∙ c.in-Array.is) c.if-index-lt4294967295.false (omega arith)
