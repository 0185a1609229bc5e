-- Texts with a separator between them (ECMA-262 5.1, section 15.4.4.5), and the limit of their length.
use Rattle.std.specs.Prelude.{ℕ, List, [], ◌∷◌, ◌++◌, Result, Ok, Err, if◌then◌else◌, nat_lt, length}
use Rattle.std.specs.List.{flat_map}
use Rattle.array_builtins.specs.declared.joining.JoinAnswer.{JoinAnswer}
use Rattle.array_builtins.specs.declared.joining.JoinAnswer.TheVariants.{TooLong}
use Rattle.utf16_text.specs.declared.limits.TheConstants.{LONGEST_TEXT}

-- a text, and behind it others, each behind a separator
abbrev pub joined_behind : List ℕ → List ℕ → List (List ℕ) → List ℕ
joined_behind separator text texts = text ++ flat_map (λ t. separator ++ t) texts

abbrev pub joined : List ℕ → List (List ℕ) → List ℕ
joined separator [] = []
joined separator (t ∷ ts) = joined_behind separator t ts

-- the joined text, where it isn't too long
abbrev pub made_text : List ℕ → Result (List ℕ) JoinAnswer
made_text us = if nat_lt LONGEST_TEXT (length us) then Err TooLong else Ok us

abbrev pub join_result : List ℕ → List (List ℕ) → Result (List ℕ) JoinAnswer
join_result separator texts = made_text (joined separator texts)
