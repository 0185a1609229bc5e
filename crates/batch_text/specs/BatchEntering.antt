-- What the code makes of one line of a batch.
use Rattle.std.specs.Prelude.{◌≡◌, ℕ, ◌+◌, ℤ, List, [], ◌∷◌, ◌++◌, Bool, true, false, ◌||◌, map, Option, Some, None, Result, Ok, Err}
use Rattle.std.specs.Option.{unwrap_or}
use Rattle.batch_text.specs.declared.batch.BatchLine.{BatchLine}
use Rattle.batch_text.specs.declared.batch.Line.{Line}
use Rattle.batch_text.specs.declared.batch.Line.TheVariants as line
use Rattle.batch_text.specs.declared.batch.Reading.{Reading}
use Rattle.batch_text.specs.declared.batch.BatchAnswer.{BatchAnswer}
use Rattle.batch_text.specs.declared.batch.BatchAnswer.TheVariants.{Refused, Memory}
use Rattle.batch_text.specs.Batch.{BatchSaid, Nothing, At, Get, Fail, Good, Bad, BatchEntry, refusal, has_moment, entries_from, entry_seen}
use Rattle.batch_text.specs.View.{view_of}

-- what a line says, as the code has it
abbrev pub said : Line → BatchSaid
said line.Nothing = Nothing
said (line.At moment) = At moment
said (line.Get url) = Get (view_of url.now)
said (line.Fail proxy) = Fail proxy
said (line.Good proxy) = Good proxy
said line.Bad = Bad

-- the moment that is named behind a line
abbrev pub named_after : Option ℤ → BatchSaid → Option ℤ
named_after named (At moment) = Some moment
named_after named line = named

-- the number of URLs behind a line
abbrev pub gets_after : ℕ → BatchSaid → ℕ
gets_after gets (Get seen) = gets + 1
gets_after gets line = gets

-- what the reading has, and what the lines behind it ask and tell
abbrev pub entries_with : Reading → List BatchSaid → List BatchEntry
entries_with reading rest = map entry_seen reading.batch ++ entries_from (unwrap_or reading.named reading.start) rest

-- whether the reading has a line that is at a moment
abbrev pub is_begun : List BatchLine → Bool
is_begun [] = false
is_begun (line ∷ lines) = true

-- the line is taken in; or it is refused
abbrev pub EntersBatch : Reading → BatchSaid → ℕ → Result (Unit {0}) BatchAnswer → Reading → Type 0
EntersBatch before line number (Ok done) after =
    (refusal before.named (is_begun before.batch) before.gets line ≡ None)
    × (after.named ≡ named_after before.named line)
    × (is_begun after.batch ≡ (has_moment line || is_begun before.batch))
    × (after.gets ≡ gets_after before.gets line)
    × ((rest : List BatchSaid) → entries_with before (line ∷ rest) ≡ entries_with after rest)
EntersBatch before line number (Err (Refused kind at)) after =
    (refusal before.named (is_begun before.batch) before.gets line ≡ Some kind) × (at ≡ number)
EntersBatch before line number (Err Memory) after = Unit {0}
