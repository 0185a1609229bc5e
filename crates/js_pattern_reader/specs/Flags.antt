-- The flags of a pattern (ECMA-262 5.1, section 15.10.4.1).
use Rattle.std.specs.Prelude.{ℕ, true, false, nat_eq, if◌then◌else◌, List, [], ◌∷◌, Result, Ok}
use Rattle.js_pattern.specs.declared.flags.Flags.{Flags}
use Rattle.js_pattern_reader.specs.declared.answer.PatternAnswer.{PatternAnswer}
use Rattle.js_pattern_reader.specs.Answers.{bad, ◌>>=◌}

abbrev pub no_flags : Flags
no_flags = record { global = false; ignore_case = false; multiline = false }

-- one flag more: `g` (103), `i` (105) or `m` (109), which stands once
abbrev pub with_flag : ℕ → Flags → Result Flags PatternAnswer
with_flag u f =
    if nat_eq u 103 then (if f.global then bad else Ok (record f { global = true }))
    else if nat_eq u 105 then (if f.ignore_case then bad else Ok (record f { ignore_case = true }))
    else if nat_eq u 109 then (if f.multiline then bad else Ok (record f { multiline = true }))
    else bad

abbrev pub flags_from : Flags → List ℕ → Result Flags PatternAnswer
flags_from f [] = Ok f
flags_from f (u ∷ us) = with_flag u f >>= λ g. flags_from g us

abbrev pub flags_of : List ℕ → Result Flags PatternAnswer
flags_of us = flags_from no_flags us
