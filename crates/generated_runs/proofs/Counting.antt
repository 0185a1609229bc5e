-- The kinds of one end more.
use Rattle.std.proofs.Common.{◌≡◌, ℕ, ◌+◌, ◌<◌, List, [], ◌∷◌, ◌++◌, take, get_or, length, map, sym, ap, ◌∙◌}
use Rattle.std.specs.List.{cons_option}
use Rattle.std.proofs.lemmas.List.{map-append, take_more}
use Rattle.std.proofs.lemmas.List.Elements.{filter_map-append}
use Rattle.report_text.specs.Report.{UrlEnd, seen_end}
use Rattle.report_text.specs.declared.blocks.UrlEnd as code
use Rattle.generated_runs.specs.Summing.{kind_tried, kinds_tried}

pub kinds_more : (ends : List code.UrlEnd) (i : ℕ) (end : code.UrlEnd) → i < length ends → end ≡ get_or ends i end
    → kinds_tried (map seen_end (take (i + 1) ends)) ≡ kinds_tried (map seen_end (take i ends)) ++ cons_option (kind_tried (seen_end end).end) []
kinds_more ends i end low is =
    ap (λ (es : List code.UrlEnd). kinds_tried (map seen_end es)) (take_more ends i end low ∙ ap (λ (x : code.UrlEnd). take i ends ++ x ∷ []) (sym is))
    ∙ ap kinds_tried (map-append seen_end (take i ends) (end ∷ []))
    ∙ filter_map-append (λ (x : UrlEnd). kind_tried x.end) (map seen_end (take i ends)) (seen_end end ∷ [])
