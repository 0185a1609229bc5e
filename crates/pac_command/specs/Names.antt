-- How a command reads a file of names, and what it says of one that isn't read.
use Rattle.std.specs.Prelude.{ℕ, List, codes}
use Rattle.js_host.specs.Answers.{AnswerMap}
use Rattle.batch_text.specs.declared.names.NamesKind.{NamesKind}
use Rattle.batch_text.specs.declared.names.NamesKind.TheVariants as kind
use Rattle.batch_text.specs.Names.{names_in}
use Rattle.pac_plan.specs.Plan.{Output, say, read}
use Rattle.pac_command.specs.Plans.{CommandPlan, if_read}
use Rattle.pac_command.specs.Scripts.{refused_line}

abbrev pub names_kind : NamesKind → List ℕ
names_kind kind.BadLine = codes "BadLine"
names_kind kind.Twice = codes "Twice"

abbrev pub refused_names : NamesKind × ℕ → Output
refused_names refusal = refused_line (codes "names") refusal.1 (names_kind refusal.0)

-- goes on with the answers in a file of these bytes, or says its first refused line
abbrev pub names_then : List ℕ → (AnswerMap → CommandPlan) → CommandPlan
names_then bytes next = if_read (names_in bytes) (λ refusal. say (refused_names refusal)) next

-- reads the file of names
abbrev pub names_from : List ℕ → (AnswerMap → CommandPlan) → CommandPlan
names_from name next = read (codes "names") name (λ bytes. names_then bytes next)
