-- The first of the longest rows, from that of the rows behind the first one.
use Rattle.std.proofs.Common.{◌≡◌, ℕ, ◌+◌, ◌<◌, ◌≤◌, true, false, ◌==◌, max, List, ◌∷◌, refl, ◌∙◌, ap, arith, eq-eqb, ne_eqb}
use Rattle.std.specs.List.{position_or_len}
use Rattle.pac_ext.specs.declared.row.Row.{Row}

-- the first of some lengths that is this one
abbrev pub first_of : ℕ → List ℕ → Row
first_of longest rows = record { start = position_or_len (λ length. length == longest) rows; length = longest }

-- a row in groups that stand so far behind
abbrev pub moved : ℕ → Row → Row
moved places row = record { start = places + row.start; length = row.length }

pub at-front : (z m : ℕ) (rows : List ℕ) → m ≤ z → first_of (max z m) (z ∷ rows) ≡ record { start = 0; length = z }
at-front z m rows h =
    let same : max z m ≡ z = omega arith in
    let found : (z == z) ≡ true = eq-eqb z z refl in
    ap (λ (n : ℕ). first_of n (z ∷ rows)) same ∙ rw found refl

pub behind : (z m : ℕ) (rows : List ℕ) → z < m → first_of (max z m) (z ∷ rows) ≡ moved 1 (first_of m rows)
behind z m rows h =
    let same : max z m ≡ m = omega arith in
    let other : (z == m) ≡ false = ne_eqb z m (omega arith) in
    ap (λ (n : ℕ). first_of n (z ∷ rows)) same ∙ rw other refl
