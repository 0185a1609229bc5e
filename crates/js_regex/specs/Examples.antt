-- Worked searches, computed from the definitions: bodies as they are written, and what they match in a text from its
-- front on. The matches are those of ECMA-262 5.1, sections 15.10.2.3 to 15.10.2.9; a cost counts each node and mark
-- that is taken up.
use Rattle.std.specs.Prelude.{◌≡◌, ℕ, List, [], ◌∷◌, Option, Some, None, Result, Ok, refl, codes}
use Rattle.js_pattern.specs.declared.span.Span.{Span}
use Rattle.js_pattern.specs.Search.{Found, match_from, cost_from}
use Rattle.js_pattern_reader.specs.declared.answer.PatternAnswer.{PatternAnswer}
use Rattle.js_pattern_reader.specs.Answers.{◌>>=◌}
use Rattle.js_pattern_reader.specs.Reading.{inside_of, pattern_of}

abbrev match_of : List ℕ → List ℕ → List ℕ → Result (Option Found) PatternAnswer
match_of body flags text = pattern_of body flags >>= λ p. Ok (match_from p text 0)

abbrev cost_of : List ℕ → List ℕ → List ℕ → Result ℕ PatternAnswer
cost_of body flags text = pattern_of body flags >>= λ p. Ok (cost_from p text 0)

abbrev span : ℕ → ℕ → Option Span
span from to = Some (record { from = from; to = to })

abbrev found : ℕ → ℕ → List (Option Span) → Result (Option Found) PatternAnswer
found from to groups = Ok (Some (record { from = from; end = record { place = to; groups = groups } }))

-- an alternative that leads on is kept, also where a longer one would do (15.10.2.3)
pub first_that_leads_on : match_of (codes "(?:a|ab)(?:c|bcd)(d*)") [] (codes "abcd") ≡ found 0 4 (span 4 4 ∷ [])
unfolding inside_of
first_that_leads_on = refl

-- a turn begins with its groups unset (15.10.2.5)
pub last_turn : match_of (codes "(z)((a+)?(b+)?(c))*") [] (codes "zaacbbbcac")
    ≡ found 0 10 (span 0 1 ∷ span 8 10 ∷ span 8 9 ∷ None ∷ span 9 10 ∷ [])
unfolding inside_of
last_turn = refl

pub last_turn_cost : cost_of (codes "(z)((a+)?(b+)?(c))*") [] (codes "zaacbbbcac") ≡ Ok 105
unfolding inside_of
last_turn_cost = refl

-- a turn that could have been left out and takes no unit is none, at a cost
pub empty_turns : match_of (codes "(?:){0,5}x") [] (codes "x") ≡ found 0 1 []
unfolding inside_of
empty_turns = refl

pub empty_turns_cost : cost_of (codes "(?:){0,5}x") [] (codes "x") ≡ Ok 7
unfolding inside_of
empty_turns_cost = refl

-- before a line feed `$` holds with `m` alone (15.10.2.6)
pub end_of_text : match_of (codes "a$") [] (97 ∷ 10 ∷ []) ≡ Ok None
unfolding inside_of
end_of_text = refl

pub end_of_line : match_of (codes "a$") (codes "m") (97 ∷ 10 ∷ []) ≡ found 0 1 []
unfolding inside_of
end_of_line = refl

-- a word ends at the end of the text
pub word_at_the_end : match_of (codes "b\\b") [] (codes "ab") ≡ found 1 2 []
unfolding inside_of
word_at_the_end = refl

-- without case a class has the letters in the other case, and no unit beyond ASCII has another case (15.10.2.8)
pub class_without_case : match_of (codes "[a-c]+") (codes "i") (codes "xABCD") ≡ found 1 4 []
unfolding inside_of
class_without_case = refl

pub no_other_case : match_of (codes "\\xe9") (codes "i") (201 ∷ []) ≡ Ok None
unfolding inside_of
no_other_case = refl

-- a reference to a group that is unset matches the empty text (15.10.2.9)
pub unset_reference : match_of (codes "(?:(a)|b)\\1") [] (codes "ab") ≡ found 1 2 (None ∷ [])
unfolding inside_of
unset_reference = refl

pub text_again : match_of (codes "(.*?)a(?:a+)b\\1c") [] (codes "baaabac") ≡ found 1 7 (span 1 2 ∷ [])
unfolding inside_of
text_again = refl

-- each further `a` more than doubles what a search without a match costs
pub doubled_cost : cost_of (codes "(a*)*b") [] (codes "aa") ≡ Ok 79
unfolding inside_of
doubled_cost = refl
