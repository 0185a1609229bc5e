-- Each word makes parts that ask for lookup names alone of parts that do.
use Rattle.std.proofs.Common.{Bool, true, false, if◌then◌else◌, Result, Ok, Err}
use Rattle.run_trees.specs.declared.abrupt.Abrupt.{Abrupt}
use Rattle.run_trees.specs.declared.abrupt.Abrupt.TheVariants.{Thrown, Returned, Broken, Continued}
use Rattle.run_trees.specs.RunTree.{RunTree, Done, Ask, Tell}
use Rattle.run_trees.specs.Runs.{After, Run, ends, halt, onward, ◌>>=◌, last_then, with_last, reading, changing, caught, catching, broken_at, breaking, turned, turning, returned_to, returning}
use Rattle.js_evaluation.specs.PacNatives.{followed_by}
use Rattle.js_law_evaluation.specs.Laws.{AsksLookupNames}

-- each way to go on asks for lookup names alone
abbrev pub AllAsk : {State Stop End A : Type 0} → After State Stop End A → Type 0
AllAsk {State} {Stop} {End} {A} after = (result : Result A Stop) (state : State) → AsksLookupNames (after result state)

-- A part asks for lookup names alone, where what comes after it does.
abbrev pub KeepsToLookupNames : {State Stop End A : Type 0} → Run State Stop End A → Type 0
KeepsToLookupNames {State} {Stop} {End} {A} part =
    (after : After State Stop End A) → AllAsk after → (state : State) → AsksLookupNames (part after state)

pub asking-ends : {State Stop End A : Type 0} (result : Result A Stop)
    → KeepsToLookupNames {State = State} {End = End} (ends result)
asking-ends result after rest state = rest result state

pub asking-halt : {State Stop End A : Type 0} (end : End) → KeepsToLookupNames {State = State} {Stop = Stop} {A = A} (halt end)
unfolding AsksLookupNames
asking-halt end after rest state = tt

pub asking-reading : {State Stop End A : Type 0} (part : State → Run State Stop End A)
    → ((state : State) → KeepsToLookupNames (part state)) → KeepsToLookupNames (reading part)
asking-reading part keeps after rest state = keeps state after rest state

pub asking-changing : {State Stop End : Type 0} (change : State → State)
    → KeepsToLookupNames {Stop = Stop} {End = End} (changing change)
asking-changing change after rest state = rest (Ok tt) (change state)

-- ---- words that change what comes after

onward-asks : {State Stop End A B : Type 0} (next : A → Run State Stop End B) → ((value : A) → KeepsToLookupNames (next value))
    → (after : After State Stop End B) → AllAsk after → AllAsk (onward next after)
onward-asks next keeps after rest (Ok value) = keeps value after rest
onward-asks next keeps after rest (Err stop) = rest (Err stop)

pub asking-next : {State Stop End A B : Type 0} (part : Run State Stop End A) (next : A → Run State Stop End B)
    → KeepsToLookupNames part → ((value : A) → KeepsToLookupNames (next value)) → KeepsToLookupNames (part >>= next)
asking-next part next before keeps after rest = before (onward next after) (onward-asks next keeps after rest)

pub asking-with_last : {State Stop End A B : Type 0} (part : Run State Stop End A) (last : Run State Stop End B)
    → KeepsToLookupNames part → KeepsToLookupNames last → KeepsToLookupNames (with_last part last)
asking-with_last part last before keeps after rest =
    before (last_then last after)
    (λ result. asking-next last (λ _. ends result) keeps (λ _. asking-ends result) after rest)

-- either way, where the choice is made of what comes after
chosen : {State End : Type 0} (b : Bool) (one other : State → RunTree End)
    → ((state : State) → AsksLookupNames (one state)) → ((state : State) → AsksLookupNames (other state))
    → (state : State) → AsksLookupNames ((if b then one else other) state)
chosen true one other has has_other = has
chosen false one other has has_other = has_other

pub asking-if : {State Stop End A : Type 0} (b : Bool) (one other : Run State Stop End A) → KeepsToLookupNames one
    → KeepsToLookupNames other → KeepsToLookupNames (if b then one else other)
asking-if true one other keeps keeps_other = keeps
asking-if false one other keeps keeps_other = keeps_other

module _ {State Cause Value Target End : Type 0} where
  caught-asks : {A : Type 0} (handler : Cause → Run State (Abrupt Cause Value Target) End A)
      → ((cause : Cause) → KeepsToLookupNames (handler cause))
      → (after : After State (Abrupt Cause Value Target) End A) → AllAsk after → AllAsk (caught handler after)
  caught-asks handler keeps after rest (Ok value) = rest (Ok value)
  caught-asks handler keeps after rest (Err (Thrown cause)) = keeps cause after rest
  caught-asks handler keeps after rest (Err stop) = rest (Err stop)

  pub asking-catching : {A : Type 0} (part : Run State (Abrupt Cause Value Target) End A)
      (handler : Cause → Run State (Abrupt Cause Value Target) End A)
      → KeepsToLookupNames part → ((cause : Cause) → KeepsToLookupNames (handler cause)) → KeepsToLookupNames (catching part handler)
  asking-catching part handler before keeps after rest =
      before (caught handler after) (caught-asks handler keeps after rest)

  broken-asks : {A : Type 0} (nothing : A) (is_here : Target → Bool)
      (after : After State (Abrupt Cause Value Target) End A) → AllAsk after → AllAsk (broken_at nothing is_here after)
  broken-asks nothing is_here after rest (Ok value) = rest (Ok value)
  broken-asks nothing is_here after rest (Err (Broken target)) =
      chosen (is_here target) (after (Ok nothing)) (after (Err (Broken target))) (rest _) (rest _)
  broken-asks nothing is_here after rest (Err stop) = rest (Err stop)

  pub asking-breaking : {A : Type 0} (nothing : A) (is_here : Target → Bool)
      (part : Run State (Abrupt Cause Value Target) End A)
      → KeepsToLookupNames part → KeepsToLookupNames (breaking nothing is_here part)
  asking-breaking nothing is_here part before after rest =
      before (broken_at nothing is_here after) (broken-asks nothing is_here after rest)

  turned-asks : {A : Type 0} (nothing : A) (is_here : Target → Bool)
      (next : Run State (Abrupt Cause Value Target) End A) → KeepsToLookupNames next
      → (after : After State (Abrupt Cause Value Target) End A) → AllAsk after
      → AllAsk (turned nothing is_here next after)
  turned-asks nothing is_here next keeps after rest (Ok value) = keeps after rest
  turned-asks nothing is_here next keeps after rest (Err (Broken target)) =
      chosen (is_here target) (after (Ok nothing)) (after (Err (Broken target))) (rest _) (rest _)
  turned-asks nothing is_here next keeps after rest (Err (Continued target)) =
      chosen (is_here target) (next after) (after (Err (Continued target))) (keeps after rest) (rest _)
  turned-asks nothing is_here next keeps after rest (Err stop) = rest (Err stop)

  pub asking-turning : {A : Type 0} (nothing : A) (is_here : Target → Bool)
      (body next : Run State (Abrupt Cause Value Target) End A)
      → KeepsToLookupNames body → KeepsToLookupNames next → KeepsToLookupNames (turning nothing is_here body next)
  asking-turning nothing is_here body next before keeps after rest =
      before (turned nothing is_here next after) (turned-asks nothing is_here next keeps after rest)

  returned-asks : (nothing : Value) (after : After State (Abrupt Cause Value Target) End Value) → AllAsk after
      → AllAsk (returned_to nothing after)
  returned-asks nothing after rest (Ok value) = rest (Ok nothing)
  returned-asks nothing after rest (Err (Returned value)) = rest (Ok value)
  returned-asks nothing after rest (Err stop) = rest (Err stop)

  pub asking-returning : (nothing : Value) (body : Run State (Abrupt Cause Value Target) End Value)
      → KeepsToLookupNames body → KeepsToLookupNames (returning nothing body)
  asking-returning nothing body before after rest =
      before (returned_to nothing after) (returned-asks nothing after rest)

-- ---- a tree, and what comes after its end

pub asking-followed_by : {A B : Type 0} (tree : RunTree A) (next : A → RunTree B) → AsksLookupNames tree
    → ((end : A) → AsksLookupNames (next end)) → AsksLookupNames (followed_by tree next)
unfolding AsksLookupNames followed_by
asking-followed_by (Done end) next asks rest = rest end
asking-followed_by (Ask name go) next asks rest =
    (asks.0, λ reply. asking-followed_by (go reply) next (asks.1 reply) rest)
asking-followed_by (Tell text tree) next asks rest = asking-followed_by tree next asks rest
