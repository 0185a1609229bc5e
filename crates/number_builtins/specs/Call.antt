-- What a call of a built-in function of numbers gives, on arguments that are converted already.
use Rattle.std.specs.Prelude.{ℤ, List, ◌∷◌, Option, Some, None}
use Rattle.number_builtins.specs.declared.call.NumberArg.{NumberArg}
use Rattle.number_builtins.specs.declared.call.NumberArg.TheVariants as arg
use Rattle.number_builtins.specs.declared.call.NumberMethod.{NumberMethod}
use Rattle.number_builtins.specs.declared.call.NumberMethod.TheVariants as method
use Rattle.number_builtins.specs.declared.call.NumberResult.{NumberResult}
use Rattle.number_builtins.specs.declared.call.NumberResult.TheVariants.{NotANumber}
use Rattle.number_builtins.specs.Math.{absolute_of, itself_of, largest_of, smallest_of}
use Rattle.number_builtins.specs.Numerals.{in_radix, radix_in}
use Rattle.number_builtins.specs.Parsing.{parse_result, radix_or_none}

-- the first argument, where it is a number
abbrev pub number_in : List NumberArg → Option ℤ
number_in (arg.Number n ∷ args) = Some n
number_in args = None

-- `parseInt` of a text, and perhaps a radix
abbrev pub parsed_of : List NumberArg → NumberResult
parsed_of (arg.Text text ∷ args) = parse_result text (radix_or_none (number_in args))
parsed_of args = NotANumber

-- `toString` of a number, and perhaps a radix
abbrev pub written_of : List NumberArg → NumberResult
written_of (arg.Number n ∷ args) = in_radix (radix_in args) n
written_of args = NotANumber

abbrev pub number_result : NumberMethod → List NumberArg → NumberResult
number_result method.Abs args = absolute_of (number_in args)
number_result method.Max args = largest_of args
number_result method.Min args = smallest_of args
number_result method.Floor args = itself_of (number_in args)
number_result method.Ceil args = itself_of (number_in args)
number_result method.Round args = itself_of (number_in args)
number_result method.ParseInt args = parsed_of args
number_result method.ToString args = written_of args
