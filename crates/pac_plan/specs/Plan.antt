-- The plan of a command: what it does with the outside, step by step.
use Rattle.std.specs.Prelude.{◌≡◌, ℕ, ℤ, List, ◌++◌, ◌∷◌, [], Option, codes, false}
use Rattle.pac_ports.specs.Faults.{Rose}
use Rattle.pac_ports.specs.Files.{FilesState}
use Rattle.pac_ports.specs.Link.{LinkState, has_move}
use Rattle.pac_ports.specs.Clock.{ClockTold}
use Rattle.pac_ports.specs.Dice.{DiceTold}
use Rattle.pac_ports.specs.declared.link.Move.{Move}
use Rattle.pac_plan.specs.declared.status.Status.{Status}
use Rattle.pac_plan.specs.declared.status.Status.TheVariants as status

-- a status with the text that is to be written
pub record Output : Type 0 where
  pub status : Status
  pub text : List ℕ

-- The steps of a command. Its talks over the link are described by T.
pub data Plan (T : Type 0) : Type 0 where
  -- the answer
  say : Output → Plan T
  -- one run of a script, and then
  run : Plan T → Plan T
  -- reads the file of this kind and name; with its bytes goes on
  read : List ℕ → List ℕ → (List ℕ → Plan T) → Plan T
  -- talks over the link; the answer by its log
  talk : T → (List Move → Output) → Plan T

-- a plan, at once, or from the moment on that the clock gives
pub data Program (T : Type 0) : Type 0 where
  at_once : Plan T → Program T
  timed : (ℤ → Plan T) → Program T

-- the outside of a command, but for the sink
pub record Outside : Type 0 where
  pub files : FilesState
  pub link : LinkState
  pub clock : Option ClockTold
  pub dice : Option DiceTold
  -- how many runs there were
  pub runs : ℕ

-- the outside with these files
abbrev pub with_files : Outside → FilesState → Outside
with_files o files = record o { files = files }

-- the outside with this link, these dice and this count of runs
abbrev pub around : Outside → LinkState → Option DiceTold → ℕ → Outside
around o link dice runs = record o { link = link; dice = dice; runs = runs }

-- how a talk ended: at its end, by a fault of the link, or by want of memory
pub data End : Type 0 where
  whole : End
  faulted : End
  unfinished : End

-- what a talk does to the link's count of faults: it rose exactly where the talk faulted, and never within the moves
-- that the link is sure of
abbrev pub CountsFaults : End → LinkState → LinkState → Type 0
CountsFaults whole old new = new.faults ≡ old.faults
CountsFaults faulted old new = Rose old.faults new.faults × (has_move new ≡ false)
CountsFaults unfinished old new = new.faults ≡ old.faults

-- What the talks that T describes do: from the old outside to the new one, with an end and a log. Whatever they do,
-- they touch neither files nor clock, count the link's faults, and may end for want of memory before they begin.
pub record Talks (T : Type 0) : Type 1 where
  pub Talked : T → Outside → End → List Move → Outside → Type 0
  pub files_kept : (t : T) (old : Outside) (end : End) (log : List Move) (new : Outside) → Talked t old end log new → new.files ≡ old.files
  pub clock_kept : (t : T) (old : Outside) (end : End) (log : List Move) (new : Outside) → Talked t old end log new → new.clock ≡ old.clock
  pub counted : (t : T) (old : Outside) (end : End) (log : List Move) (new : Outside) → Talked t old end log new → CountsFaults end old.link new.link
  pub not_begun : (t : T) (old : Outside) → Talked t old unfinished [] old

-- a line of text
abbrev pub line : List ℕ → List ℕ
line text = text ++ 10 ∷ []

-- a file of this kind failed
abbrev pub read_fault : List ℕ → Output
read_fault kind = record { status = status.ReadFault; text = line (codes "fault read " ++ kind) }

-- a file of this kind is longer than its limit
abbrev pub too_long : List ℕ → Output
too_long kind = record { status = status.Refused; text = line (codes "refused " ++ kind ++ codes " TooLong") }

abbrev pub link_fault : Output
link_fault = record { status = status.LinkFault; text = line (codes "fault link") }
