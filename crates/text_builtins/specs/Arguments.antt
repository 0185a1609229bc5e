-- The arguments of a method of texts. One of another kind than the method takes counts as left out.
use Rattle.std.specs.Prelude.{ℤ, List, [], ◌∷◌, Option, Some, None}
use Rattle.text_builtins.specs.declared.call.TextArg.{TextArg}
use Rattle.text_builtins.specs.declared.call.TextArg.TheVariants as arg

-- the first argument, where it is a number
abbrev pub first_number_of : List TextArg → Option ℤ
first_number_of (arg.Number n ∷ args) = Some n
first_number_of args = None

-- the second one, where it is a number
abbrev pub second_number_of : List TextArg → Option ℤ
second_number_of [] = None
second_number_of (a ∷ args) = first_number_of args
