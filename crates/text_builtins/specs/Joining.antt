-- Texts one after another (ECMA-262 5.1, section 15.5.4.6), and the limit of their length.
use Rattle.std.specs.Prelude.{ℕ, List, [], ◌++◌, if◌then◌else◌, nat_le, length}
use Rattle.std.specs.List.{flat_map}
use Rattle.text_builtins.specs.declared.call.TextArg.{TextArg}
use Rattle.text_builtins.specs.declared.call.TextArg.TheVariants as arg
use Rattle.text_builtins.specs.declared.call.TextResult.{TextResult}
use Rattle.text_builtins.specs.declared.call.TextResult.TheVariants.{Text, TooLong}
use Rattle.utf16_text.specs.declared.limits.TheConstants.{LONGEST_TEXT}

-- the units of an argument; none where it is no text
abbrev pub units_of : TextArg → List ℕ
units_of (arg.Text text) = text
units_of (arg.Number n) = []
units_of arg.Absent = []

abbrev pub joined : List ℕ → List TextArg → List ℕ
joined us args = us ++ flat_map units_of args

-- a text that is made, where it isn't too long
abbrev pub made_text : List ℕ → TextResult
made_text us = if nat_le (length us) LONGEST_TEXT then Text us else TooLong

-- `concat` (15.5.4.6)
abbrev pub concat_of : List ℕ → List TextArg → TextResult
concat_of us args = made_text (joined us args)
