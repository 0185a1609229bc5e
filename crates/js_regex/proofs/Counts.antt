-- Outcomes that cost some units more.
use Rattle.std.proofs.Common.{◌≡◌, ℕ, zero, suc, ◌+◌, List, Option, refl, ap, sym, ◌∙◌, arith}
use Rattle.js_pattern.specs.declared.span.Span.{Span}
use Rattle.js_pattern.specs.Tree.{Trees}
use Rattle.js_pattern.specs.Place.{Subject}
use Rattle.js_pattern.specs.Walk.{Outcome, After, counted, or_else, row_walk}
use Rattle.js_pattern.proofs.Outcomes.{counted_or_else}

-- so many units more
abbrev pub counts : ℕ → Outcome → Outcome
counts n o = record { cost = n + o.cost; end = o.end }

pub counts_none : (n : ℕ) (o : Outcome) → n ≡ 0 → counts n o ≡ o
counts_none n o e = let same : n + o.cost ≡ o.cost = omega arith in λ i. record { cost = same i; end = o.end }

pub counted_is : (n : ℕ) (o : Outcome) → counted (counts n o) ≡ counts (suc n) o
counted_is n o = let same : suc (n + o.cost) ≡ suc n + o.cost = omega arith in λ i. record { cost = same i; end = o.end }

pub counts_or_else : (n : ℕ) (a r : Outcome) → or_else (counts n a) r ≡ counts n (or_else a r)
counts_or_else zero a r = ap (λ o. or_else o r) (counts_none 0 a refl) ∙ sym (counts_none 0 (or_else a r) refl)
counts_or_else (suc n) a r =
    ap (λ o. or_else o r) (sym (counted_is n a)) ∙ counted_or_else (counts n a) r ∙ ap counted (counts_or_else n a r) ∙ counted_is n (or_else a r)

-- all terms from a place on are so many units and these terms from another place
abbrev pub RowGoes : Subject → Trees → ℕ → ℕ → Trees → ℕ → Type 0
RowGoes s xs p n ys q = (k : After) (gs : List (Option Span))
    → row_walk s xs k (record { place = p; groups = gs }) ≡ counts n (row_walk s ys k (record { place = q; groups = gs }))
