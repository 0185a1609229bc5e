-- A part of a text in place of another (ECMA-262 5.1, section 15.5.4.11, table 22). The units are `$` 36, `&` 38, `'`
-- 39 and `` ` `` 96.
use Rattle.std.specs.Prelude.{◌≡◌, ℕ, ◌+◌, min, List, [], ◌∷◌, ◌++◌, Option, Some, None, if◌then◌else◌, nat_eq, length, take, drop}
use Rattle.utf16_text.specs.Search.{place_from}
use Rattle.text_builtins.specs.declared.call.TextArg.{TextArg}
use Rattle.text_builtins.specs.declared.call.TextArg.TheVariants as arg
use Rattle.text_builtins.specs.declared.call.TextResult.{TextResult}
use Rattle.text_builtins.specs.declared.call.TextResult.TheVariants.{Text}
use Rattle.text_builtins.specs.Joining.{made_text, units_of}
use Rattle.utf16_text.specs.declared.limits.TheConstants.{LONGEST_TEXT}

-- what `$` and the unit c stand for, in front of more; or else what they are themselves
abbrev pub dollar : List ℕ → List ℕ → List ℕ → ℕ → List ℕ → List ℕ → List ℕ
dollar before part behind c more themselves = if nat_eq c 36 then 36 ∷ more
    else if nat_eq c 38 then part ++ more
    else if nat_eq c 96 then before ++ more
    else if nat_eq c 39 then behind ++ more
    else themselves

-- a replacement with `$$`, `$&`, `` $` `` and `$'` put in
abbrev pub expanded : List ℕ → List ℕ → List ℕ → List ℕ → List ℕ
expanded before part behind [] = []
expanded before part behind (u ∷ []) = u ∷ []
expanded before part behind (u ∷ c ∷ us) = if nat_eq u 36
    then dollar before part behind c (expanded before part behind us) (u ∷ expanded before part behind (c ∷ us))
    else u ∷ expanded before part behind (c ∷ us)

-- a replacement has this piece at its front, and behind it what the rest has
abbrev pub BeginsWith : List ℕ → List ℕ → List ℕ → List ℕ → List ℕ → List ℕ → Type 0
BeginsWith before part behind by piece more = expanded before part behind by ≡ piece ++ expanded before part behind more

abbrev pub capped_length : List ℕ → List ℕ → List ℕ → List ℕ → ℕ
capped_length by before part behind = min (length (expanded before part behind by)) (LONGEST_TEXT + 1)

-- the text with a replacement in place of the part that stands at a place
abbrev pub replaced_at : List ℕ → ℕ → List ℕ → List ℕ → TextResult
replaced_at us at part by =
    made_text (take at us ++ expanded (take at us) part (drop (at + length part) us) by ++ drop (at + length part) us)

abbrev pub replaced_in : Option ℕ → List ℕ → List ℕ → List ℕ → TextResult
replaced_in None us part by = Text us
replaced_in (Some at) us part by = replaced_at us at part by

abbrev pub replacement_of : List TextArg → List ℕ
replacement_of [] = []
replacement_of (by ∷ args) = units_of by

-- the first place alone
abbrev pub replaced_first : List ℕ → List ℕ → List ℕ → TextResult
replaced_first us part by = replaced_in (place_from us part 0) us part by

-- `replace` (15.5.4.11)
abbrev pub replace_of : List ℕ → List TextArg → TextResult
replace_of us (arg.Text part ∷ args) = replaced_first us part (replacement_of args)
replace_of us args = Text us
