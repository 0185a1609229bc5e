-- Worked calls, computed from the definitions: bodies and flags as they are written, and what they do in a text. Where a
-- value stands in ECMA-262 5.1 its section is named.
use Rattle.std.specs.Prelude.{◌≡◌, ℕ, List, [], ◌∷◌, Option, Some, None, Result, Ok, map, slice_range, refl, codes}
use Rattle.js_pattern.specs.declared.span.Span.{Span}
use Rattle.js_pattern.specs.Pattern.{PatternTree}
use Rattle.js_pattern_reader.specs.declared.answer.PatternAnswer.{PatternAnswer}
use Rattle.js_pattern_reader.specs.Answers.{◌>>=◌}
use Rattle.js_pattern_reader.specs.Reading.{inside_of, pattern_of}
use Rattle.pattern_builtins.specs.Pieces.{wholes}
use Rattle.pattern_builtins.specs.Matches.{all_searches, searches_of}
use Rattle.pattern_builtins.specs.Replacing.{made_text, replaced_from}
use Rattle.pattern_builtins.specs.Splitting.{splits_of}

abbrev by_pattern : {A : Type 0} → List ℕ → List ℕ → (PatternTree → A) → Result A PatternAnswer
by_pattern body flags answer = pattern_of body flags >>= λ p. Ok (answer p)

-- a piece as a script sees it; None is undefined
abbrev text_of : List ℕ → Option Span → Option (List ℕ)
text_of text None = None
text_of text (Some s) = Some (slice_range text s.from s.to)

abbrev match_all : List ℕ → List ℕ → Result (List (Option (List ℕ))) PatternAnswer
match_all body text = by_pattern body (codes "g") (λ p. map (text_of text) (wholes (all_searches p text).found))

abbrev cost_of_all : List ℕ → List ℕ → Result ℕ PatternAnswer
cost_of_all body text = by_pattern body (codes "g") (λ p. (all_searches p text).cost)

abbrev replace : List ℕ → List ℕ → List ℕ → List ℕ → Result (Option (List ℕ)) PatternAnswer
replace body flags text by = by_pattern body flags (λ p. made_text (replaced_from text by 0 (searches_of p text).found))

abbrev split : List ℕ → List ℕ → ℕ → Result (List (Option (List ℕ))) PatternAnswer
split body text limit = by_pattern body [] (λ p. map (text_of text) (splits_of p text limit).pieces)

abbrev cost_of_split : List ℕ → List ℕ → ℕ → Result ℕ PatternAnswer
cost_of_split body text limit = by_pattern body [] (λ p. (splits_of p text limit).cost)

abbrev t : List ℕ → Option (List ℕ)
t us = Some us

-- ---- `match`

-- the second search begins at the end, where the first match ends; the third would begin behind the end
pub end_twice : match_all (codes "$") (codes "ab") ≡ Ok (t [] ∷ t [] ∷ [])
unfolding inside_of
end_twice = refl

-- four places are tried, at two units each
pub end_twice_cost : cost_of_all (codes "$") (codes "ab") ≡ Ok 8
unfolding inside_of
end_twice_cost = refl

-- behind an empty match the next search begins one unit further
pub empty_matches : match_all (codes "a*") (codes "baa") ≡ Ok (t [] ∷ t (codes "aa") ∷ t [] ∷ [])
unfolding inside_of
empty_matches = refl

pub digits : match_all (codes "[0-9]+") (codes "10.1.200") ≡ Ok (t (codes "10") ∷ t (codes "1") ∷ t (codes "200") ∷ [])
unfolding inside_of
digits = refl

-- ---- `replace`

pub each_match : replace (codes "-") (codes "g") (codes "a-b-c") (codes "+") ≡ Ok (t (codes "a+b+c"))
unfolding inside_of
each_match = refl

pub first_match : replace (codes "-") [] (codes "a-b-c") (codes "+") ≡ Ok (t (codes "a+b-c"))
unfolding inside_of
first_match = refl

-- the standard's example (15.5.4.11)
pub dollars : replace (codes "(\\$(\\d))") (codes "g") (codes "$1,$2") (codes "$$1-$1$2") ≡ Ok (t (codes "$1-$11,$1-$22"))
unfolding inside_of
dollars = refl

pub around : replace (codes "b") [] (codes "abc") (codes "[$`|$&|$']") ≡ Ok (t (codes "a[a|b|c]c"))
unfolding inside_of
around = refl

-- a group has one digit; where there is none of its number, or it is 0, the two units stand for themselves
pub one_digit : replace (codes "(b)") [] (codes "abc") (codes "$10$2$0") ≡ Ok (t (codes "ab0$2$0c"))
unfolding inside_of
one_digit = refl

pub unset_group : replace (codes "(x)?b") [] (codes "abc") (codes "<$1>") ≡ Ok (t (codes "a<>c"))
unfolding inside_of
unset_group = refl

pub dollar_at_the_end : replace (codes "b") [] (codes "abc") (codes "$") ≡ Ok (t (codes "a$c"))
unfolding inside_of
dollar_at_the_end = refl

-- ---- `split`, with the standard's examples (15.5.4.14)

pub tags : split (codes "<(\\/)?([^<>]+)>") (codes "A<B>bold</B>and<CODE>coded</CODE>") 100
    ≡ Ok (
    t (codes "A") ∷ None ∷ t (codes "B")
    ∷ t (codes "bold") ∷ t (codes "/") ∷ t (codes "B")
    ∷ t (codes "and") ∷ None ∷ t (codes "CODE")
    ∷ t (codes "coded") ∷ t (codes "/") ∷ t (codes "CODE")
    ∷ t [] ∷ [])
unfolding inside_of
tags = refl

pub lazy_parts : split (codes "a*?") (codes "ab") 100 ≡ Ok (t (codes "a") ∷ t (codes "b") ∷ [])
unfolding inside_of
lazy_parts = refl

pub greedy_parts : split (codes "a*") (codes "ab") 100 ≡ Ok (t [] ∷ t (codes "b") ∷ [])
unfolding inside_of
greedy_parts = refl

-- an empty text is its own piece where the pattern doesn't match it
pub empty_text : split (codes "a") [] 100 ≡ Ok (t [] ∷ [])
unfolding inside_of
empty_text = refl

pub empty_text_matched : split (codes "a*") [] 100 ≡ Ok []
unfolding inside_of
empty_text_matched = refl

-- a limit counts groups too, and nothing is looked for behind it
pub limited : split (codes "(-)") (codes "a-b-c") 2 ≡ Ok (t (codes "a") ∷ t (codes "-") ∷ [])
unfolding inside_of
limited = refl

pub limited_cost : cost_of_split (codes "-") (codes "a-b-c") 1 ≡ Ok 4
unfolding inside_of
limited_cost = refl

pub unlimited_cost : cost_of_split (codes "-") (codes "a-b-c") 100 ≡ Ok 12
unfolding inside_of
unlimited_cost = refl

pub no_piece : cost_of_split (codes "-") (codes "a-b-c") 0 ≡ Ok 0
unfolding inside_of
no_piece = refl
