-- Names that are told whole: who has told a name in one family knows of no address in the other.
use Rattle.std.specs.Prelude.{ℕ, List, ◌++◌, map, is_some, if◌then◌else◌, Ok, Err}
use Rattle.std.specs.FinMap as finite
use Rattle.pac_names.specs.declared.answer.Answer.{Answer}
use Rattle.pac_names.specs.declared.answer.Answer.TheVariants.{NoAddress}
use Rattle.pac_names.specs.declared.kind.NameKind.{NameKind}
use Rattle.pac_names.specs.declared.kind.NameKind.TheVariants.{V4, V6}
use Rattle.pac_names.specs.Names.{Name}
use Rattle.js_host.specs.Answers.{AnswerMap}
use Rattle.batch_text.specs.Names.{NamesLine, Entry, NamesRead, names_in}

abbrev pub other_kind : NameKind → NameKind
other_kind V4 = V6
other_kind V6 = V4

-- the name that asks for the addresses of the other family
abbrev pub in_other_family : Name → Name
in_other_family name = record name { kind = other_kind name.kind }

-- the other family of a name has no address
abbrev pub other_has_none : Name × Answer → Name × Answer
other_has_none entry = (in_other_family entry.0, NoAddress)

-- what is told, and behind it that the other family of each name has no address; the first entry of a name counts
abbrev pub told_whole : AnswerMap → AnswerMap
told_whole told = finite.from_entries (finite.entries told ++ map other_has_none (finite.entries told))

abbrev pub read_whole : NamesRead → NamesRead
read_whole (Ok told) = Ok (told_whole told)
read_whole (Err refused) = Err refused

-- what the bytes of a file tell of the names that stand in it
abbrev pub told_in : List ℕ → NamesRead
told_in bytes = read_whole (names_in bytes)

-- ---- line by line

-- with no address in the other family, unless an answer is there
abbrev pub with_other : AnswerMap → Name → AnswerMap
with_other told name =
    if is_some (finite.get told (in_other_family name)) then told else finite.insert told (in_other_family name) NoAddress

-- the same for the name of a line
abbrev pub with_other_of : AnswerMap → NamesLine → AnswerMap
with_other_of told (Entry name answer) = with_other told name
with_other_of told line = told
