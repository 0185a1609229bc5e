-- Pieces of a text (ECMA-262 5.1, section 15.5.4.14).
use Rattle.std.specs.Prelude.{ℕ, ℤ, List, [], ◌∷◌, Option, Some, None, take}
use Rattle.utf16_text.specs.Split.{pieces_of}
use Rattle.whole_number.specs.Whole.{uint32_of}
use Rattle.text_builtins.specs.declared.call.TextArg.{TextArg}
use Rattle.text_builtins.specs.declared.call.TextArg.TheVariants as arg
use Rattle.text_builtins.specs.declared.call.TextResult.{TextResult}
use Rattle.text_builtins.specs.declared.call.TextResult.TheVariants.{Texts}
use Rattle.text_builtins.specs.Arguments.{first_number_of, second_number_of}

-- the most pieces: modulo 2^32, and 2^32 - 1 where no limit is said
abbrev pub limit_of : Option ℤ → ℕ
limit_of (Some n) = uint32_of n
limit_of None = 4294967295

-- `split`: without a separator the whole text is the one piece (15.5.4.14)
abbrev pub split_of : List ℕ → List TextArg → TextResult
split_of us (arg.Text separator ∷ args) = Texts (pieces_of (limit_of (first_number_of args)) separator us)
split_of us args = Texts (take (limit_of (second_number_of args)) (us ∷ []))
