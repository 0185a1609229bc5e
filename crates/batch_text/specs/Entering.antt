-- What the code makes of one line.
use Rattle.std.specs.Prelude.{◌≡◌, ℕ, Result, Ok, Err}
use Rattle.js_host.specs.Answers.{AnswerMap}
use Rattle.batch_text.specs.declared.names.Line.{Line}
use Rattle.batch_text.specs.declared.names.Line.TheVariants as line
use Rattle.batch_text.specs.declared.names.NamesAnswer.{NamesAnswer}
use Rattle.batch_text.specs.declared.names.NamesAnswer.TheVariants.{Refused, Memory}
use Rattle.batch_text.specs.Names.{NamesLine, NamesRead, Nothing, Entry, Bad, line_then}

-- what a line says, as the code has it
abbrev pub said : Line → NamesLine
said line.Nothing = Nothing
said (line.Entry name answer) = Entry name answer
said line.Bad = Bad

-- the line is taken in, and reading goes on; or it is refused, whatever comes behind it
abbrev pub Enters : AnswerMap → NamesLine → ℕ → Result (Unit {0}) NamesAnswer → AnswerMap → Type 0
Enters before line number (Ok done) after = (next : AnswerMap → NamesRead) → line_then before line number next ≡ next after
Enters before line number (Err (Refused kind at)) after = (next : AnswerMap → NamesRead) → line_then before line number next ≡ Err (kind, at)
Enters before line number (Err Memory) after = Unit {0}
