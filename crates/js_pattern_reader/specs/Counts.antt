-- Quantifiers (ECMA-262 5.1, sections 15.10.1 and 15.10.2.7).
use Rattle.std.specs.Prelude.{ℕ, ◌+◌, ◌-◌, ◌*◌, Bool, true, false, nat_eq, nat_lt, if◌then◌else◌, List, [], ◌∷◌, Option, Some, None, Result, Ok}
use Rattle.utf16_text.specs.Digits.{is_digit}
use Rattle.js_pattern_reader.specs.declared.answer.PatternAnswer.{PatternAnswer}
use Rattle.js_pattern_reader.specs.declared.counts.Counts.{Counts}
use Rattle.js_pattern_reader.specs.declared.limits.TheConstants.{MOST_TIMES}
use Rattle.js_pattern_reader.specs.Answers.{Read, bad, unsupported, ◌>>=◌}

abbrev pub up_to : ℕ → Option ℕ → Counts
up_to least most = record { least = least; most = most }

-- this unit, which must stand here
abbrev pub behind : ℕ → List ℕ → Result (List ℕ) PatternAnswer
behind wanted [] = bad
behind wanted (u ∷ us) = if nat_eq u wanted then Ok us else bad

-- the number that digits spell behind one that was read; it is refused where it passes the limit
abbrev pub count_from : ℕ → Read ℕ
count_from n [] = Ok (n, [])
count_from n (u ∷ us) =
    if is_digit u then (if nat_lt MOST_TIMES (n * 10 + (u - 48)) then unsupported else count_from (n * 10 + (u - 48)) us)
    else Ok (n, u ∷ us)

-- a number of one digit or more
abbrev pub count_of : Read ℕ
count_of [] = bad
count_of (u ∷ us) = if is_digit u then count_from (u - 48) us else bad

-- `m}`, which doesn't run backwards
abbrev pub to_most : ℕ → Read Counts
to_most n us = count_of us >>= λ m. if nat_lt m.0 n then bad else (behind 125 m.1 >>= λ vs. Ok (up_to n (Some m.0), vs))

-- `}` (125), without a limit, or `m}`
abbrev pub behind_comma : ℕ → Read Counts
behind_comma n [] = bad
behind_comma n (u ∷ us) = if nat_eq u 125 then Ok (up_to n None, us) else to_most n (u ∷ us)

-- `}` (125), exactly so often, or `,` (44)
abbrev pub behind_least : ℕ → Read Counts
behind_least n [] = bad
behind_least n (u ∷ us) = if nat_eq u 125 then Ok (up_to n (Some n), us) else if nat_eq u 44 then behind_comma n us else bad

-- counts behind `{`
abbrev pub in_braces : Read Counts
in_braces us = count_of us >>= λ n. behind_least n.0 n.1

abbrev pub some_counts : Result (Counts × List ℕ) PatternAnswer → Result (Option Counts × List ℕ) PatternAnswer
some_counts r = r >>= λ x. Ok (Some x.0, x.1)

-- how often the part before is repeated, where it is: by `*` (42), `+` (43), `?` (63) or `{` (123)
abbrev pub quantifier : Read (Option Counts)
quantifier [] = Ok (None, [])
quantifier (u ∷ us) =
    if nat_eq u 42 then Ok (Some (up_to 0 None), us)
    else if nat_eq u 43 then Ok (Some (up_to 1 None), us)
    else if nat_eq u 63 then Ok (Some (up_to 0 (Some 1)), us)
    else if nat_eq u 123 then some_counts (in_braces us)
    else Ok (None, u ∷ us)

-- a `?` (63) behind a quantifier makes it lazy
abbrev pub greedy_at : List ℕ → Bool × List ℕ
greedy_at [] = (true, [])
greedy_at (u ∷ us) = if nat_eq u 63 then (false, us) else (true, u ∷ us)
