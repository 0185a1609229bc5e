-- What a call of a method of texts gives, on arguments that are converted already (ECMA-262 5.1, sections 15.5.4 and
-- B.2.3).
use Rattle.std.specs.Prelude.{ℕ, List, map}
use Rattle.utf16_text.specs.Letters.{lower_unit, upper_unit, trimmed}
use Rattle.text_builtins.specs.declared.call.TextArg.{TextArg}
use Rattle.text_builtins.specs.declared.call.TextMethod.{TextMethod}
use Rattle.text_builtins.specs.declared.call.TextMethod.TheVariants as method
use Rattle.text_builtins.specs.declared.call.TextResult.{TextResult}
use Rattle.text_builtins.specs.declared.call.TextResult.TheVariants.{Text}
use Rattle.text_builtins.specs.Joining.{concat_of}
use Rattle.text_builtins.specs.Parts.{char_at_of, char_code_of, slice_of, substr_of, substring_of}
use Rattle.text_builtins.specs.Places.{index_of, last_index_of}
use Rattle.text_builtins.specs.Replacing.{replace_of}
use Rattle.text_builtins.specs.Splitting.{split_of}

-- the change of case is one of ASCII letters alone; a text is its own `toString` and `valueOf`
abbrev pub text_result : TextMethod → List ℕ → List TextArg → TextResult
text_result method.CharAt us args = char_at_of us args
text_result method.CharCodeAt us args = char_code_of us args
text_result method.Concat us args = concat_of us args
text_result method.IndexOf us args = index_of us args
text_result method.LastIndexOf us args = last_index_of us args
text_result method.Replace us args = replace_of us args
text_result method.Slice us args = slice_of us args
text_result method.Split us args = split_of us args
text_result method.Substr us args = substr_of us args
text_result method.Substring us args = substring_of us args
text_result method.ToLowerCase us args = Text (map lower_unit us)
text_result method.ToString us args = Text us
text_result method.ToUpperCase us args = Text (map upper_unit us)
text_result method.Trim us args = Text (trimmed us)
text_result method.ValueOf us args = Text us
