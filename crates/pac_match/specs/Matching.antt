-- Which texts a shell expression matches: `shExpMatch` of the Netscape Navigator Proxy Auto-Config format. The star is
-- 42, the question mark 63.
use Rattle.std.specs.Prelude.{ℕ, List, [], ◌∷◌, Bool, true, false, ◌&&◌, ◌||◌, nat_eq, if◌then◌else◌}

-- a test holds of some end of a text: of the whole, or of an end of what is behind its first unit
abbrev pub some_end : (List ℕ → Bool) → List ℕ → Bool
some_end test [] = test []
some_end test (u ∷ us) = test (u ∷ us) || some_end test us

-- `?` stands for any one unit, every other sign but the star for itself
abbrev pub stands_for : ℕ → ℕ → Bool
stands_for sign u = nat_eq sign 63 || nat_eq sign u

-- the text begins with a unit that the sign stands for, and a test holds of what is behind it
abbrev pub behind_unit : ℕ → (List ℕ → Bool) → List ℕ → Bool
behind_unit sign test [] = false
behind_unit sign test (u ∷ us) = stands_for sign u && test us

-- the empty pattern matches the empty text; a star any sequence, so the pattern behind it matches some end of the text
abbrev pub is_match : List ℕ → List ℕ → Bool
is_match [] [] = true
is_match [] (u ∷ us) = false
is_match (sign ∷ pattern) text = if nat_eq sign 42 then some_end (is_match pattern) text else behind_unit sign (is_match pattern) text

abbrev pub has_match_in_some_end : List ℕ → List ℕ → Bool
has_match_in_some_end pattern text = some_end (is_match pattern) text
