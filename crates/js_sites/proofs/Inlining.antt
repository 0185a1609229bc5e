-- One more site, with those of its function behind it.
use Rattle.std.proofs.Common.{◌≡◌, ◌∙◌, ℕ, List, [], ◌∷◌, ◌++◌, ap, sym, append_assoc}
use Rattle.std.proofs.lemmas.List.{append-nil}
use Rattle.js_sites.specs.declared.site.Site.{Site}
use Rattle.js_sites.specs.Program.{number_in, within, inlined}

pub inlined_more : (at : ℕ → List Site) (ss : List Site) (s : Site)
    → inlined at (ss ++ s ∷ []) ≡ inlined at ss ++ s ∷ within at (number_in s)
inlined_more at [] s = append-nil (s ∷ within at (number_in s))
inlined_more at (t ∷ ss) s =
    ap (λ (rest : List Site). (t ∷ within at (number_in t)) ++ rest) (inlined_more at ss s)
    ∙ sym (append_assoc (t ∷ within at (number_in t)) (inlined at ss) (s ∷ within at (number_in s)))
