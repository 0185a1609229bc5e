-- What a plan comes to over files that tell their contents, where no port fails.
use Rattle.std.specs.Prelude.{◌≡◌, ◌⊎◌, ℕ, ◌+◌, Bool, true, false, nat_le, List, [], Option, Some, None, IfSome, length, if◌then◌else◌}
use Rattle.pac_ports.specs.Faults.{Rose}
use Rattle.pac_ports.specs.Files.{FilesTold, content_of, is_listed, with_read}
use Rattle.pac_ports.specs.Link.{has_move}
use Rattle.pac_ports.specs.Sink.{SinkState, with_bytes, has_room}
use Rattle.pac_ports.specs.declared.link.Move.{Move}
use Rattle.pac_plan.specs.Plan.{Output, Plan, say, run, read, talk, Outside, whole, Talks, read_fault, too_long}
use Rattle.pac_plan.specs.declared.status.Status.{Status}
use Rattle.pac_plan.specs.declared.status.Status.TheVariants as status
use Rattle.utf16_text.specs.declared.limits.TheConstants.{LONGEST_FILE}

-- names with their contents, as files tell them
abbrev pub Contents : Type 0
Contents = List (List ℕ × List ℕ)

-- the choice by a content: absent, longer than the limit, or read
abbrev pub by_content : {A : Type 0} → A → A → (List ℕ → A) → Option (List ℕ) → A
by_content absent long next None = absent
by_content absent long next (Some bytes) = if nat_le (length bytes) LONGEST_FILE then next bytes else long

-- the answer, where the talk has this log
abbrev pub output_at : {T : Type 0} → Plan T → Contents → List Move → Output
output_at (say answer) c log = answer
output_at (run plan) c log = output_at plan c log
output_at (read kind name next) c log = by_content (read_fault kind) (too_long kind) (λ bytes. output_at (next bytes) c log) (content_of name c)
output_at (talk t answer) c log = answer log

-- the talk that it comes to
abbrev pub talk_at : {T : Type 0} → Plan T → Contents → Option T
talk_at (say answer) c = None
talk_at (run plan) c = talk_at plan c
talk_at (read kind name next) c = by_content None None (λ bytes. talk_at (next bytes) c) (content_of name c)
talk_at (talk t answer) c = Some t

-- with one run more
abbrev pub with_run : Outside → Outside
with_run o = record o { runs = o.runs + 1 }

-- with one read more
abbrev pub with_file_read : List ℕ → Bool → Outside → Outside
with_file_read name failed o = record o { files = with_read name failed o.files }

-- the outside after the reads and runs before the talk
abbrev pub reached : {T : Type 0} → Plan T → Contents → Outside → Outside
reached (say answer) c o = o
reached (run plan) c o = reached plan c (with_run o)
reached (read kind name next) c o = by_content (with_file_read name true o) (with_file_read name false o) (λ bytes. reached (next bytes) c (with_file_read name false o)) (content_of name c)
reached (talk t answer) c o = o

-- the talk went to its end, or there is none and nothing else was done
abbrev pub Arrives : {T : Type 0} → Talks T → Option T → Outside → List Move → Outside → Type 0
Arrives K None mid log new = (log ≡ []) × (new ≡ mid)
Arrives K (Some t) mid log new = K.Talked t mid whole log new

-- the answer of the plan at these contents, written whole
pub record Completed {T : Type 0} (K : Talks T) (plan : Plan T) (c : Contents) (old new : Outside) (out out' : SinkState) (given : Status) : Type 0 where
  pub log : List Move
  pub arrived : Arrives K (talk_at plan c) (reached plan c old) log new
  pub status : given ≡ (output_at plan c log).status
  pub written : out' ≡ with_bytes (output_at plan c log).text out

-- files that are sure of these names are sure of each name that the plan may come to read
abbrev pub IsSureOfNames : {T : Type 0} → Option (List (List ℕ)) → Plan T → Type 0
IsSureOfNames sure (say answer) = Unit {0}
IsSureOfNames sure (run plan) = IsSureOfNames sure plan
IsSureOfNames sure (read kind name next) = (is_listed sure name ≡ true) × ((bytes : List ℕ) → IsSureOfNames sure (next bytes))
IsSureOfNames sure (talk t answer) = Unit {0}

-- Where the files tell and no count of faults rose or stands at its last number, the answer is the plan's, or memory
-- ran out. A count doesn't rise where its port is sure: the files of each name, the link of one move more than it tells
-- at the end, the sink of the text that is to be written.
pub record IsComplete {T : Type 0} (K : Talks T) (plan : Plan T) (made : Option Output) (old new : Outside) (out out' : SinkState) (given : Status) : Type 0 where
  pub completed : (told : FilesTold) → old.files.told ≡ Some told
      → (Rose old.files.faults new.files.faults → ⊥) → (Rose old.link.faults new.link.faults → ⊥) → (Rose out.faults out'.faults → ⊥)
      → Completed K plan told.contents old new out out' given ⊎ (given ≡ status.Memory)
  pub sure_files : IsSureOfNames old.files.sure plan → new.files.faults ≡ old.files.faults
  pub sure_link : has_move new.link ≡ true → new.link.faults ≡ old.link.faults
  pub sure_sink : IfSome made (λ answer. has_room out answer.text ≡ true → out'.faults ≡ out.faults)
