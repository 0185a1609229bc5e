-- The batch that a command is for, and what it says where it isn't read. One URL is a batch of it alone.
use Rattle.std.specs.Prelude.{ℕ, ℤ, List, [], ◌∷◌, codes}
use Rattle.batch_text.specs.View.{Seen, view_of}
use Rattle.batch_text.specs.declared.batch.BatchKind.{BatchKind}
use Rattle.batch_text.specs.declared.batch.BatchKind.TheVariants as kind
use Rattle.batch_text.specs.Batch.{BatchEntry, Asks, batch_in}
use Rattle.js_evaluation.specs.Evaluation.{Entry}
use Rattle.pac_clocks.specs.Clocks.{moments_at, nearest}
use Rattle.pac_plan.specs.Plan.{Output, say, read}
use Rattle.pac_words.specs.Commands.{Source, batch_file, one_url}
use Rattle.pac_command.specs.declared.given.Given.{Given}
use Rattle.pac_command.specs.Plans.{CommandPlan, if_read, if_there}
use Rattle.pac_command.specs.Scripts.{refused, refused_line}

-- What a run is for: what a script sees of a URL, at a moment in seconds since 1970 in UTC. One that no command may have
-- counts as the nearest that it may have.
abbrev pub entry_at : Given → ℤ → Seen → Entry
entry_at given moment seen = record {
  url = seen.url;
  host = seen.host;
  now = moments_at (nearest moment) given.zone;
  settings = given.settings;
  fuel = given.fuel;
}

-- ---- one URL

-- goes on with the URL at the moment of the command, or refuses it
abbrev pub url_then : Given → List ℕ → (List BatchEntry → CommandPlan) → CommandPlan
url_then given url next =
    if_there (view_of url) (say (refused (codes "url BadUrl"))) (λ seen. next (Asks given.start seen ∷ []))

-- ---- a batch

abbrev pub batch_kind : BatchKind → List ℕ
batch_kind kind.BadLine = codes "BadLine"
batch_kind kind.BadUrl = codes "BadUrl"
batch_kind kind.BackwardTime = codes "BackwardTime"
batch_kind kind.TooMany = codes "TooMany"

abbrev pub refused_batch : BatchKind × ℕ → Output
refused_batch refusal = refused_line (codes "batch") refusal.1 (batch_kind refusal.0)

-- goes on with the batch of these bytes, or says its first refused line
abbrev pub batch_then : Given → List ℕ → (List BatchEntry → CommandPlan) → CommandPlan
batch_then given bytes next =
    if_read (batch_in given.start bytes) (λ refusal. say (refused_batch refusal)) next

-- ---- both

-- goes on with the one URL, or with the batch, which is read
abbrev pub urls_from : Given → Source → (List BatchEntry → CommandPlan) → CommandPlan
urls_from given (one_url url) next = url_then given url next
urls_from given (batch_file file) next = read (codes "batch") file (λ bytes. batch_then given bytes next)

-- ---- the runs

-- what the runs for the URLs of a batch are for
abbrev pub entries_for : Given → List BatchEntry → List Entry
entries_for given [] = []
entries_for given (Asks moment seen ∷ rest) = entry_at given moment seen ∷ entries_for given rest
entries_for given (entry ∷ rest) = entries_for given rest
