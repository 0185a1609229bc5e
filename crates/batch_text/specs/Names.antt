-- A file of names: in each line a lookup name, and an address of it or `-`. A name may have a line for each family of
-- addresses.
use Rattle.std.specs.Prelude.{◌≡◌, ℕ, ◌+◌, List, [], ◌∷◌, if◌then◌else◌, Option, Some, is_some, option_map, Result, Ok, Err, bytes_eq, codes}
use Rattle.std.specs.FinMap as map
use Rattle.std.specs.Option.{option_or}
use Rattle.std.specs.Str.{is_utf8}
use Rattle.pac_names.specs.declared.answer.Answer.{Answer}
use Rattle.pac_names.specs.declared.answer.Answer.TheVariants.{Address, Address6, NoAddress}
use Rattle.pac_names.specs.declared.kind.NameKind.{NameKind}
use Rattle.pac_names.specs.declared.kind.NameKind.TheVariants.{V4, V6}
use Rattle.pac_names.specs.Names.{Name, lookup_name_of}
use Rattle.pac_names.specs.Quads.{quad_of}
use Rattle.pac_ext.specs.Reading.{ipv6_of}
use Rattle.js_host.specs.Answers.{AnswerMap}
use Rattle.batch_text.specs.declared.names.NamesKind.{NamesKind}
use Rattle.batch_text.specs.declared.names.NamesKind.TheVariants.{BadLine, Twice}
use Rattle.batch_text.specs.declared.names.NamesAnswer.{NamesAnswer}
use Rattle.batch_text.specs.declared.names.NamesAnswer.TheVariants.{Refused, Memory}
use Rattle.batch_text.specs.Lines.{lines, says_nothing, word_of, rest_of}

-- what a line says
pub data NamesLine : Type 0 where
  Nothing : NamesLine
  Entry : Name → Answer → NamesLine
  Bad : NamesLine

-- the address of a dotted quad or of an IPv6 text
abbrev pub address_of : List ℕ → Option Answer
address_of text = option_or (option_map Address (quad_of text)) (option_map Address6 (ipv6_of text))

-- `-`, or an address
abbrev pub answer_of : List ℕ → Option Answer
answer_of rest = if bytes_eq rest (codes "-") then Some NoAddress else address_of rest

-- the family that an answer is of; `-` is said of IPv4
abbrev pub kind_of : Answer → NameKind
kind_of (Address address) = V4
kind_of (Address6 address) = V6
kind_of NoAddress = V4

-- the answer is that of the name which asks for its family
abbrev pub entry_of : Option Name → Option Answer → NamesLine
entry_of (Some name) (Some answer) = Entry (record name { kind = kind_of answer }) answer
entry_of _ _ = Bad

abbrev pub text_line : List ℕ → NamesLine
text_line line = if says_nothing line then Nothing else entry_of (lookup_name_of (word_of line)) (answer_of (rest_of line))

abbrev pub line_of : List ℕ → NamesLine
line_of line = if is_utf8 line then text_line line else Bad

-- ---- the file

-- the answers, or the first line that is refused, by its number from 1
abbrev pub NamesRead : Type 0
NamesRead = Result AnswerMap (NamesKind × ℕ)

-- a name that stands in an earlier line of the same family is refused
abbrev pub entered : AnswerMap → Name → Answer → ℕ → (AnswerMap → NamesRead) → NamesRead
entered known name answer number next =
    if is_some (map.get known name) then Err (Twice, number) else next (map.insert known name answer)

abbrev pub line_then : AnswerMap → NamesLine → ℕ → (AnswerMap → NamesRead) → NamesRead
line_then known Nothing number next = next known
line_then known (Entry name answer) number next = entered known name answer number next
line_then known Bad number next = Err (BadLine, number)

-- the lines behind so many, where these answers stand in those
abbrev pub names_behind : ℕ → AnswerMap → List (List ℕ) → NamesRead
names_behind number known [] = Ok known
names_behind number known (line ∷ rest) =
    line_then known (line_of line) (number + 1) (λ known. names_behind (number + 1) known rest)

-- what the bytes of a file say
abbrev pub names_in : List ℕ → NamesRead
names_in bytes = names_behind 0 map.empty (lines bytes)

abbrev pub ReadsNames : Result AnswerMap NamesAnswer → NamesRead → Type 0
ReadsNames (Ok known) read = read ≡ Ok known
ReadsNames (Err (Refused kind line)) read = read ≡ Err (kind, line)
ReadsNames (Err Memory) read = Unit {0}
