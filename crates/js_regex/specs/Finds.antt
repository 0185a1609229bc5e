-- What a search finds, and what it takes from the fuel (ECMA-262 5.1, sections 15.10.2.2 and 15.10.6.2).
use Rattle.std.specs.Prelude.{◌≡◌, ℕ, ◌+◌, ◌<◌, ◌≤◌, List, Option, Some, None, Result, Ok, Err}
use Rattle.js_pattern.specs.Pattern.{PatternTree}
use Rattle.js_pattern.specs.Within.{SpansWithin}
use Rattle.js_pattern.specs.Search.{Found, match_from, cost_from}
use Rattle.js_regex.specs.declared.answer.FindAnswer.{FindAnswer}
use Rattle.js_regex.specs.declared.answer.FindAnswer.TheVariants as answer
use Rattle.js_regex.specs.declared.search.Match.{Match}

-- where a match begins, and where it ends with its groups
abbrev pub found_of : Option Match → Option Found
found_of None = None
found_of (Some m) = Some (record { from = m.from; end = record { place = m.to; groups = m.groups } })

-- the fuel before, the answer, and the fuel behind
abbrev pub Finds : PatternTree → List ℕ → ℕ → ℕ → Result (Option Match) FindAnswer → ℕ → Type 0
Finds p text from f (Ok m) g = (found_of m ≡ match_from p text from) × (cost_from p text from + g ≡ f)
Finds p text from f (Err answer.Spent) g = (f < cost_from p text from) × (g ≤ f)
Finds p text from f (Err answer.Memory) g = g ≤ f

-- a match lies within a text of so many units, and so do its groups
abbrev pub MatchWithin : ℕ → Match → Type 0
MatchWithin end m = (m.from ≤ m.to) × (m.to ≤ end) × SpansWithin end m.groups
