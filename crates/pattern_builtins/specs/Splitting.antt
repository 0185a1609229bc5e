-- The pieces of a text between the matches of a pattern (ECMA-262 5.1, section 15.5.4.14).
use Rattle.std.specs.Prelude.{ℕ, zero, suc, ◌+◌, ◌*◌, Bool, true, false, List, [], ◌∷◌, Option, Some, None, if◌then◌else◌, nat_eq, nat_lt, length}
use Rattle.js_pattern.specs.declared.span.Span.{Span}
use Rattle.js_pattern.specs.Pattern.{PatternTree}
use Rattle.js_pattern.specs.Search.{Found, match_from, cost_from}
use Rattle.pattern_builtins.specs.Pieces.{piece}

-- the pieces, and what the searches for them cost together
pub record Splits : Type 0 where
  pub pieces : List (Option Span)
  pub cost : ℕ

abbrev pub pieces_alone : List (Option Span) → Splits
pieces_alone ps = record { pieces = ps; cost = 0 }

abbrev pub and_cost : ℕ → Splits → Splits
and_cost cost s = record { pieces = s.pieces; cost = cost + s.cost }

abbrev pub and_piece : Option Span → Splits → Splits
and_piece x s = record { pieces = x ∷ s.pieces; cost = s.cost }

-- as many pieces as there may be; with room for more, what comes behind them
abbrev pub within_limit : ℕ → List (Option Span) → (ℕ → Splits) → Splits
within_limit zero ps behind = pieces_alone []
within_limit (suc limit) [] behind = behind (suc limit)
within_limit (suc limit) (x ∷ ps) behind = and_piece x (within_limit limit ps behind)

-- ---- a search within the text: none is made at its end, and a match that begins there is none

abbrev pub begins_before : ℕ → Option Found → Option Found
begins_before end None = None
begins_before end (Some f) = if nat_lt f.from end then Some f else None

abbrev pub match_before_end : PatternTree → List ℕ → ℕ → Option Found
match_before_end p text at = begins_before (length text) (match_from p text at)

abbrev pub cost_before_end : PatternTree → List ℕ → ℕ → ℕ
cost_before_end p text at = if nat_lt at (length text) then cost_from p text at else 0

-- ---- the loop of step 13: `from` is the end of the last match (p), `at` where the next is looked for (q)

-- a match that ends where the last one did parts nothing, and the search goes on one unit behind where it begins
abbrev pub parted : Bool → ℕ → ℕ → Found → (ℕ → ℕ → ℕ → Splits) → Splits
parted true limit from f behind = behind limit from (f.from + 1)
parted false limit from f behind = within_limit limit (piece from f.from ∷ (f.end).groups) (λ left. behind left (f.end).place (f.end).place)

-- where there is no match any more, the last piece goes up to the end
abbrev pub split_at : ℕ → ℕ → ℕ → Option Found → (ℕ → ℕ → ℕ → Splits) → Splits
split_at end limit from None behind = pieces_alone (piece from end ∷ [])
split_at end limit from (Some f) behind = parted (nat_eq (f.end).place from) limit from f behind

-- in at most so many turns
abbrev pub splits_from : ℕ → PatternTree → List ℕ → ℕ → ℕ → ℕ → Splits
splits_from zero p text limit from at = pieces_alone (piece from (length text) ∷ [])
splits_from (suc turns) p text limit from at = and_cost (cost_before_end p text at)
    (split_at (length text) limit from (match_before_end p text at) (λ left from at. splits_from turns p text left from at))

-- ---- the whole

-- an empty text is its own piece, but where the pattern matches it there is none (step 12)
abbrev pub piece_of_empty : Option Found → List (Option Span)
piece_of_empty None = piece 0 0 ∷ []
piece_of_empty (Some f) = []

-- `split` with a pattern, and at most so many pieces; each turn takes `from` or `at` one unit further at least
abbrev pub splits_of : PatternTree → List ℕ → ℕ → Splits
splits_of p text zero = pieces_alone []
splits_of p [] (suc limit) = record { pieces = piece_of_empty (match_from p [] 0); cost = cost_from p [] 0 }
splits_of p (u ∷ us) (suc limit) = splits_from (2 * length (u ∷ us)) p (u ∷ us) (suc limit) 0 0
