use Rattle.std.proofs.Common.{[], ◌∷◌, ◌++◌, arith, sym, ap, ◌∙◌}
use Rattle.std.proofs.lemmas.List.FromFn.{map-range_with_len_more}
use Rattle.std.specs.Fmt.{decimal, signed_decimal}
use Rattle.js_statements.proofs.listed.indexes.Goals as goal

pub loop-index-preserved : goal.loop-index-preserved
loop-index-preserved c = c.in_ok-push.ensures.ok ∙ ap (λ name. c.loop-index.names ++ name ∷ []) (c.in_ok-to_text.ensures ∙ ap signed_decimal c.from.ensures) ∙ ap (λ names. names ++ decimal c.loop-index.index ∷ []) c.loop-index.invariant ∙ sym (map-range_with_len_more decimal 0 c.loop-index.index c.loop-index.index (omega arith))
