-- Nothing is hidden in what comes after a part: each part comes to one end, whatever comes after it.
use Rattle.std.specs.Prelude.{◌≡◌, List, ℕ, Bool, Result}
use Rattle.pac_names.specs.Names.{Name}
use Rattle.js_host.specs.Seen.{Seen}
use Rattle.run_trees.specs.declared.abrupt.Abrupt.{Abrupt}
use Rattle.run_trees.specs.RunTree.{Walked, Ended, Stopped, walk}
use Rattle.run_trees.specs.Runs as runs
use Rattle.run_trees.specs.Runs.{After, Run}

-- What a part over a host comes to: it ends in some way, with a state; or the whole run is at its end; or a name is
-- missing. And the host's record then.
pub data PartEnd (State Stop End A : Type 0) : Type 0 where
  Gives : Result A Stop → State → Seen → PartEnd State Stop End A
  Halts : End → Seen → PartEnd State Stop End A
  Misses : Name → Seen → PartEnd State Stop End A

-- what comes after the end of a part
abbrev pub followed : {State Stop End A : Type 0} → After State Stop End A → PartEnd State Stop End A → Walked End
followed after (Gives result state seen) = walk (after result state) seen
followed after (Halts end seen) = Ended end seen
followed after (Misses name seen) = Stopped name seen

-- What the part comes to is a function of the state and of what the host has seen, and what comes after has no other
-- share in the run than to follow it.
pub record HasOneEnd {State Stop End A : Type 0} (part : Run State Stop End A) : Type 0 where
  pub comes : State → Seen → PartEnd State Stop End A
  pub is : (after : After State Stop End A) (state : State) (seen : Seen)
      → walk (part after state) seen ≡ followed after (comes state seen)

-- Each word makes parts that have one end of parts that do.
pub record WordsHaveOneEnd (State Cause Value Target End A B : Type 0) : Type 0 where
  pub ends : (result : Result A (Abrupt Cause Value Target)) → HasOneEnd {State = State} {End = End} (runs.ends result)
  pub halt : (end : End) → HasOneEnd {State = State} {Stop = Abrupt Cause Value Target} {A = A} (runs.halt end)
  pub next : (part : Run State (Abrupt Cause Value Target) End A) (next : A → Run State (Abrupt Cause Value Target) End B)
      → HasOneEnd part → ((value : A) → HasOneEnd (next value)) → HasOneEnd (runs.◌>>=◌ part next)
  pub with_last : (part : Run State (Abrupt Cause Value Target) End A) (last : Run State (Abrupt Cause Value Target) End B)
      → HasOneEnd part → HasOneEnd last → HasOneEnd (runs.with_last part last)
  pub reading : (part : State → Run State (Abrupt Cause Value Target) End A)
      → ((state : State) → HasOneEnd (part state)) → HasOneEnd (runs.reading part)
  pub changing : (change : State → State) → HasOneEnd {Stop = Abrupt Cause Value Target} {End = End} (runs.changing change)
  pub look_up : (name : Name) → HasOneEnd {State = State} {Stop = Abrupt Cause Value Target} {End = End} (runs.look_up name)
  pub tell : (text : List ℕ) → HasOneEnd {State = State} {Stop = Abrupt Cause Value Target} {End = End} (runs.tell text)
  pub catching : (part : Run State (Abrupt Cause Value Target) End A)
      (handler : Cause → Run State (Abrupt Cause Value Target) End A)
      → HasOneEnd part → ((cause : Cause) → HasOneEnd (handler cause)) → HasOneEnd (runs.catching part handler)
  pub breaking : (nothing : A) (is_here : Target → Bool) (part : Run State (Abrupt Cause Value Target) End A)
      → HasOneEnd part → HasOneEnd (runs.breaking nothing is_here part)
  pub turning : (nothing : A) (is_here : Target → Bool) (body next : Run State (Abrupt Cause Value Target) End A)
      → HasOneEnd body → HasOneEnd next → HasOneEnd (runs.turning nothing is_here body next)
  pub returning : (nothing : Value) (body : Run State (Abrupt Cause Value Target) End Value)
      → HasOneEnd body → HasOneEnd (runs.returning nothing body)
