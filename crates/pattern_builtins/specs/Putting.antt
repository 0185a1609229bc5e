-- What is put together piece by piece.
use Rattle.std.specs.Prelude.{◌≡◌, ℕ, ◌-◌, ◌<◌, ◌≤◌, Bool, true, false, List, ◌++◌, Option, length}
use Rattle.js_pattern.specs.declared.span.Span.{Span}
use Rattle.pattern_builtins.specs.Splitting.{Splits, pieces_alone, within_limit}
use Rattle.utf16_text.specs.declared.limits.TheConstants.{LONGEST_TEXT}

-- a piece is put behind a text where both together aren't too long
abbrev pub Grows : List ℕ → List ℕ → Bool → List ℕ → Type 0
Grows piece old true new = (new ≡ old ++ piece) × (length new ≤ LONGEST_TEXT)
Grows piece old false new = LONGEST_TEXT < length (old ++ piece)

-- pieces that are there already, and those behind them
abbrev pub after : List (Option Span) → Splits → Splits
after ps s = record { pieces = ps ++ s.pieces; cost = s.cost }

-- pieces are put behind others up to the limit; true says that there is room for more
abbrev pub Puts : ℕ → List (Option Span) → List (Option Span) → Bool → List (Option Span) → Type 0
Puts limit added old true new = (length new < limit)
    × ((behind : ℕ → Splits) → after old (within_limit (limit - length old) added behind) ≡ after new (behind (limit - length new)))
Puts limit added old false new = (behind : ℕ → Splits) → after old (within_limit (limit - length old) added behind) ≡ pieces_alone new
