-- What it means that a pattern was laid on a text, unit on unit, up to its first star.
use Rattle.std.specs.Prelude.{◌≡◌, ℕ, ◌<◌, ◌≤◌, List, true, false, length}
use Rattle.pac_match.specs.Matching.{is_match, has_match_in_some_end}
use Rattle.pac_match.specs.declared.pattern.Fit.{Fit}
use Rattle.pac_match.specs.declared.pattern.Fit.TheVariants.{Whole, Misfit, UpToStar}

-- whether the pattern matches the text, or some end of it, is whether what is behind the star matches some end of what
-- is left of the text: the units before the star need no second try
pub record FitsUpToStar (pattern text rest behind : List ℕ) : Type 0 where
  pub whole : is_match pattern text ≡ has_match_in_some_end behind rest
  pub some_end : has_match_in_some_end pattern text ≡ has_match_in_some_end behind rest
  pub shorter : length behind < length pattern
  pub no_longer : length rest ≤ length text

abbrev pub IsFit : List ℕ → List ℕ → Fit → Type 0
IsFit pattern text Whole = is_match pattern text ≡ true
IsFit pattern text Misfit = is_match pattern text ≡ false
IsFit pattern text (UpToStar rest behind) = FitsUpToStar pattern text rest.now behind.now
