-- The text of a zone.
use Rattle.std.specs.Prelude.{ℕ, ◌+◌, ◌/◌, ◌%◌, List, [], ◌∷◌}

-- a sign, two digits of hours, a colon (58) and two digits of minutes, for a zone so many minutes away
abbrev pub zone_text : ℕ → ℕ → List ℕ
zone_text sign away =
    sign ∷ (48 + away / 60 / 10) ∷ (48 + away / 60 % 10) ∷ 58 ∷ (48 + away % 60 / 10) ∷ (48 + away % 60 % 10) ∷ []
