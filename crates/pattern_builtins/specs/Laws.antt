-- What holds of the definitions: the turns that they allow are enough.
use Rattle.std.specs.Prelude.{◌≡◌, ℕ, suc, ◌*◌, ◌≤◌, List, length}
use Rattle.js_pattern.specs.Pattern.{PatternTree}
use Rattle.pattern_builtins.specs.Matches.{searches_from, all_searches}
use Rattle.pattern_builtins.specs.Splitting.{splits_from}

-- more searches than there are places find no more, and cost no more
abbrev pub MoreSearchesFindNoMore : Type 0
MoreSearchesFindNoMore = (p : PatternTree) (text : List ℕ) (n : ℕ) → suc (length text) ≤ n → searches_from n p text 0 ≡ all_searches p text

-- more turns than two for each unit give the same pieces, at the same cost
abbrev pub MoreTurnsSplitAlike : Type 0
MoreTurnsSplitAlike =
    (p : PatternTree) (text : List ℕ) (limit n : ℕ) → 2 * length text ≤ n → splits_from n p text limit 0 0 ≡ splits_from (2 * length text) p text limit 0 0
