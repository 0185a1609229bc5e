-- Pattern literals behind their first slash (ECMA-262 5.1, sections 7.8.5 and 15.10.4.1).
use Rattle.std.specs.Prelude.{ℕ, ◌+◌, List, [], ◌∷◌, ◌++◌, length, take, drop, Option, Some, None, Result, Ok, Err, Bool, false, ◌&&◌, ◌||◌, not, nat_eq, nat_le, if◌then◌else◌}
use Rattle.std.specs.Option.{option_map}
use Rattle.std.specs.List.{prefix_len}
use Rattle.utf16_text.specs.Letters.{is_break_unit}
use Rattle.utf16_text.specs.Escape.{numbered_unit}
use Rattle.js_pattern.specs.Pattern.{PatternTree}
use Rattle.js_pattern_reader.specs.declared.answer.PatternAnswer.{PatternAnswer}
use Rattle.js_pattern_reader.specs.declared.answer.PatternAnswer.TheVariants as answer
use Rattle.js_pattern_reader.specs.Literal.{Literal}
use Rattle.js_pattern_reader.specs.Reading.{pattern_of}
use Rattle.js_tree.specs.declared.refusal.ReadKind.{ReadKind}
use Rattle.js_tree.specs.declared.refusal.ReadKind.TheVariants.{BadToken, Unsupported}
use Rattle.js_grammar.specs.Reading.{◌>>=◌}
use Rattle.js_grammar.specs.Units.{is_word_part}

-- ---- where a body ends: at a `/` (47) that no `\` (92) escapes and that is in no class, from `[` (91) to `]` (93)

-- whether a unit is a `\` that escapes the one behind it; escaped: whether it is escaped itself
abbrev pub escapes : Bool → ℕ → Bool
escapes escaped u = nat_eq u 92 && not escaped

-- whether what stands behind a unit is in a class; within: whether the unit is
abbrev pub class_behind : Bool → Bool → ℕ → Bool
class_behind escaped within u =
    if escaped then within
    else if within then not (nat_eq u 93)
    else nat_eq u 91

abbrev pub ends_body : Bool → Bool → ℕ → Bool
ends_body escaped within u = nat_eq u 47 && not (escaped || within)

-- how many units there are before the slash; no line ends among them
abbrev pub body_length_from : Bool → Bool → List ℕ → Option ℕ
body_length_from escaped within [] = None
body_length_from escaped within (u ∷ us) =
    if is_break_unit u then None
    else if ends_body escaped within u then Some 0
    else option_map (λ n. n + 1) (body_length_from (escapes escaped u) (class_behind escaped within u) us)

abbrev pub body_length : List ℕ → Option ℕ
body_length us = body_length_from false false us

-- ---- what is kept of a body: ASCII alone, this project's escape

abbrev pub is_plain : ℕ → Bool
is_plain u = nat_le 32 u && nat_le u 126

-- a unit from 32 to 126 as it is, any other by its number
abbrev pub ascii_unit : ℕ → List ℕ
ascii_unit u = if is_plain u then u ∷ [] else numbered_unit u

-- a `\` is kept with the unit that it escapes; one that is kept by its number needs none
abbrev pub kept_unit : Bool → ℕ → List ℕ
kept_unit escaped u =
    if escapes escaped u then []
    else if escaped && is_plain u then 92 ∷ u ∷ []
    else ascii_unit u

abbrev pub kept_from : Bool → List ℕ → List ℕ
kept_from escaped [] = []
kept_from escaped (u ∷ us) = kept_unit escaped u ++ kept_from (escapes escaped u) us

abbrev pub kept : List ℕ → List ℕ
kept us = kept_from false us

-- ---- literals

abbrev pub refusal_of : PatternAnswer → ReadKind
refusal_of answer.Unsupported = Unsupported
refusal_of _ = BadToken

abbrev pub literal_by : Literal → Result PatternTree PatternAnswer → Result Literal ReadKind
literal_by l (Ok p) = Ok l
literal_by l (Err e) = Err (refusal_of e)

-- the literal of a body and flags that are a pattern
unfoldable pub literal_of : List ℕ → List ℕ → Result Literal ReadKind
literal_of body flags = literal_by (record { body = body; flags = flags }) (pattern_of body flags)

-- the word units in front
abbrev pub flags_at : List ℕ → List ℕ
flags_at us = take (prefix_len is_word_part us) us

abbrev pub pattern_by : List ℕ → Option ℕ → Result (Literal × ℕ) ReadKind
pattern_by us None = Err BadToken
pattern_by us (Some n) =
    let flags = flags_at (drop (n + 1) us) in
    literal_of (kept (take n us)) flags >>= λ l. Ok (l, n + 1 + length flags)

-- a literal, and how many units it has behind its first slash
unfoldable pub pattern_at : List ℕ → Result (Literal × ℕ) ReadKind
pattern_at us = pattern_by us (body_length us)
