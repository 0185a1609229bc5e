-- Where a part stands in a text (ECMA-262 5.1, sections 15.5.4.7 and 15.5.4.8).
use Rattle.std.specs.Prelude.{ℕ, pos, negsuc, List, ◌∷◌, Option, Some, None, length}
use Rattle.utf16_text.specs.Search.{place_from, place_up_to}
use Rattle.text_builtins.specs.declared.call.TextArg.{TextArg}
use Rattle.text_builtins.specs.declared.call.TextArg.TheVariants as arg
use Rattle.text_builtins.specs.declared.call.TextResult.{TextResult}
use Rattle.text_builtins.specs.declared.call.TextResult.TheVariants.{Number}
use Rattle.text_builtins.specs.Arguments.{first_number_of}
use Rattle.text_builtins.specs.Parts.{place_or}

-- a place, or -1 where there is none
abbrev pub place_number : Option ℕ → TextResult
place_number (Some at) = Number (pos at)
place_number None = Number (negsuc 0)

-- `indexOf`: from the begin where no position is said (15.5.4.7)
abbrev pub index_of : List ℕ → List TextArg → TextResult
index_of us (arg.Text part ∷ args) = place_number (place_from us part (place_or (length us) 0 (first_number_of args)))
index_of us args = place_number None

-- `lastIndexOf`: from the end where no position is said (15.5.4.8)
abbrev pub last_index_of : List ℕ → List TextArg → TextResult
last_index_of us (arg.Text part ∷ args) =
    place_number (place_up_to us part (place_or (length us) (length us) (first_number_of args)))
last_index_of us args = place_number None
