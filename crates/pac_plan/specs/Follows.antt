-- What following a plan leaves.
use Rattle.std.specs.Prelude.{◌≡◌, ◌⊎◌, ℕ, ℤ, ◌+◌, List, Option, Some, None, Result, Ok, Err, IfSome}
use Rattle.pac_ports.specs.Files.{FilesState, HasRead}
use Rattle.pac_ports.specs.declared.files.FilesAnswer.{FilesAnswer}
use Rattle.pac_ports.specs.declared.files.FilesAnswer.TheVariants as why
use Rattle.pac_ports.specs.Clock.{with_moment}
use Rattle.pac_ports.specs.Sink.{SinkState, with_bytes, PutFails}
use Rattle.pac_ports.specs.declared.link.Move.{Move}
use Rattle.pac_plan.specs.Plan.{Output, Plan, say, run, read, talk, Program, at_once, timed, Outside, End, whole, faulted, unfinished, Talks, read_fault, too_long, link_fault}
use Rattle.pac_plan.specs.declared.status.Status.{Status}
use Rattle.pac_plan.specs.declared.status.Status.TheVariants as status
use Rattle.utf16_text.specs.declared.limits.TheConstants.{LONGEST_FILE}

-- the answer that was made is this one, unless memory ran out
abbrev pub IsUnlessMemory : Output → Option Output → Type 0
IsUnlessMemory answer made = IfSome made (λ a. a ≡ answer)

-- the answer where a file was not read
abbrev pub Ends : List ℕ → FilesAnswer → Option Output → Type 0
Ends kind why.Failed made = IsUnlessMemory (read_fault kind) made
Ends kind why.TooLong made = IsUnlessMemory (too_long kind) made
Ends kind why.Memory made = made ≡ None

-- what follows a read: with its bytes the next steps, else the end
abbrev pub GoesOn : List ℕ → Result (List ℕ) FilesAnswer → (List ℕ → Outside → Type 0) → Outside → Outside → Option Output → Type 0
GoesOn kind (Ok bytes) next mid new made = next bytes mid
GoesOn kind (Err e) next mid new made = (new ≡ mid) × Ends kind e made

-- the answer by how a talk ended
abbrev pub TalkSays : End → Output → Option Output → Type 0
TalkSays whole answer made = IsUnlessMemory answer made
TalkSays faulted answer made = IsUnlessMemory link_fault made
TalkSays unfinished answer made = made ≡ None

-- The plan was followed from the old outside to the new one, up to this answer, or as far as there was memory.
abbrev pub Follows : {T : Type 0} → Talks T → Plan T → Outside → Outside → Option Output → Type 0
Follows K (say answer) old new made = (new ≡ old) × IsUnlessMemory answer made
Follows K (run plan) old new made = Follows K plan (record old { runs = old.runs + 1 }) new made ⊎ ((new ≡ old) × (made ≡ None))
Follows K (read kind name next) old new made = (found : Result (List ℕ) FilesAnswer) × (files : FilesState) × HasRead old.files name LONGEST_FILE found files
    × GoesOn kind found (λ bytes mid. Follows K (next bytes) mid new made) (record old { files = files }) new made
Follows K (talk t answer) old new made = (end : End) × (log : List Move) × K.Talked t old end log new × TalkSays end (answer log) made

-- a plan at once, or from the moment on that the clock gives; or memory ran out before anything was done
abbrev pub FollowsProgram : {T : Type 0} → Talks T → Program T → Outside → Outside → Option Output → Type 0
FollowsProgram K (at_once plan) old new made = Follows K plan old new made ⊎ ((new ≡ old) × (made ≡ None))
FollowsProgram K (timed next) old new made =
    ((m : ℤ) × Follows K (next m) (record old { clock = with_moment m old.clock }) new made) ⊎ ((new ≡ old) × (made ≡ None))

-- the text is written whole, or a fault of the sink stands in the answer's place with a front of it written; without
-- memory nothing is written
abbrev pub Gives : Option Output → Status → SinkState → SinkState → Type 0
Gives None given out out' = (given ≡ status.Memory) × (out' ≡ out)
Gives (Some answer) given out out' =
    ((given ≡ answer.status) × (out' ≡ with_bytes answer.text out))
    ⊎ ((given ≡ status.WriteFault) × ((n : ℕ) × PutFails out answer.text n out'))
