-- Each word makes parts that have one end.
use Rattle.std.proofs.Common.{◌≡◌, ℕ, List, refl, ◌∙◌, Bool, true, false, if◌then◌else◌, Result, Ok, Err}
use Rattle.pac_names.specs.Names.{Name}
use Rattle.js_host.specs.Seen.{Reply, Lookup, Replies, Lacks, looked_up, alerted}
use Rattle.run_trees.specs.declared.abrupt.Abrupt.{Abrupt}
use Rattle.run_trees.specs.declared.abrupt.Abrupt.TheVariants.{Thrown, Returned, Broken, Continued}
use Rattle.run_trees.specs.RunTree.{with_lookup, walk}
use Rattle.run_trees.specs.Runs.{After, Run, ends, halt, onward, ◌>>=◌, last_then, with_last, reading, changing, look_up, tell, caught, catching, broken_at, breaking, turned, turning, returned_to, returning}
use Rattle.run_trees.specs.OneEnd.{PartEnd, Gives, Halts, Misses, followed, HasOneEnd, WordsHaveOneEnd}

pub one_end-ends : {State Stop End A : Type 0} (result : Result A Stop)
    → HasOneEnd {State = State} {End = End} (ends result)
one_end-ends result = record { comes = λ state seen. Gives result state seen; is = λ after state seen. refl }

pub one_end-halt : {State Stop End A : Type 0} (end : End) → HasOneEnd {State = State} {Stop = Stop} {A = A} (halt end)
unfolding walk
one_end-halt end = record { comes = λ state seen. Halts end seen; is = λ after state seen. refl }

pub one_end-reading : {State Stop End A : Type 0} (part : State → Run State Stop End A)
    → ((state : State) → HasOneEnd (part state)) → HasOneEnd (reading part)
one_end-reading part has =
    record { comes = λ state seen. (has state).comes state seen; is = λ after state seen. (has state).is after state seen }

pub one_end-changing : {State Stop End : Type 0} (change : State → State)
    → HasOneEnd {Stop = Stop} {End = End} (changing change)
one_end-changing change =
    record { comes = λ state seen. Gives (Ok tt) (change state) seen; is = λ after state seen. refl }

abbrev looked : {State Stop End : Type 0} → Name → State → Lookup → PartEnd State Stop End Reply
looked name state (Replies reply seen) = Gives (Ok reply) state seen
looked name state (Lacks seen) = Misses name seen

looked-followed : {State Stop End : Type 0} (after : After State Stop End Reply) (name : Name) (state : State)
    (lookup : Lookup)
    → with_lookup name (λ reply. walk (after (Ok reply) state)) lookup ≡ followed after (looked name state lookup)
looked-followed after name state (Replies reply seen) = refl
looked-followed after name state (Lacks seen) = refl

pub one_end-look_up : {State Stop End : Type 0} (name : Name)
    → HasOneEnd {State = State} {Stop = Stop} {End = End} (look_up name)
unfolding walk
one_end-look_up name =
    record { comes = λ state seen. looked name state (looked_up seen name); is = λ after state seen. looked-followed after name state (looked_up seen name) }

pub one_end-tell : {State Stop End : Type 0} (text : List ℕ)
    → HasOneEnd {State = State} {Stop = Stop} {End = End} (tell text)
unfolding walk
one_end-tell text =
    record { comes = λ state seen. Gives (Ok tt) state (alerted seen text); is = λ after state seen. refl }

-- ---- words that change what comes after

module _ {State Stop End A B : Type 0} (change : After State Stop End B → After State Stop End A)
    (has : (result : Result A Stop) → HasOneEnd (λ after. change after result)) where
  abbrev changed : PartEnd State Stop End A → PartEnd State Stop End B
  changed (Gives result state seen) = (has result).comes state seen
  changed (Halts end seen) = Halts end seen
  changed (Misses name seen) = Misses name seen

  changed-followed : (after : After State Stop End B) (end : PartEnd State Stop End A)
      → followed (change after) end ≡ followed after (changed end)
  changed-followed after (Gives result state seen) = (has result).is after state seen
  changed-followed after (Halts end seen) = refl
  changed-followed after (Misses name seen) = refl

  pub one_end-by : (part : Run State Stop End A) → HasOneEnd part → HasOneEnd (λ after. part (change after))
  one_end-by part before =
      record {
        comes = λ state seen. changed (before.comes state seen);
        is = λ after state seen. before.is (change after) state seen ∙ changed-followed after (before.comes state seen);
      }

onward-has : {State Stop End A B : Type 0} (next : A → Run State Stop End B) → ((value : A) → HasOneEnd (next value))
    → (result : Result A Stop) → HasOneEnd (λ after. onward next after result)
onward-has next has (Ok value) = has value
onward-has next has (Err stop) = one_end-ends (Err stop)

pub one_end-next : {State Stop End A B : Type 0} (part : Run State Stop End A) (next : A → Run State Stop End B)
    → HasOneEnd part → ((value : A) → HasOneEnd (next value)) → HasOneEnd (part >>= next)
one_end-next part next before has = one_end-by (onward next) (onward-has next has) part before

pub one_end-with_last : {State Stop End A B : Type 0} (part : Run State Stop End A) (last : Run State Stop End B)
    → HasOneEnd part → HasOneEnd last → HasOneEnd (with_last part last)
one_end-with_last part last before has =
    one_end-by (last_then last)
    (λ result. one_end-next last (λ _. ends result) has (λ _. one_end-ends result)) part before

pub one_end-if : {State Stop End A : Type 0} (b : Bool) (one other : Run State Stop End A) → HasOneEnd one
    → HasOneEnd other → HasOneEnd (if b then one else other)
one_end-if true one other has has_other = has
one_end-if false one other has has_other = has_other

-- either way, where the choice is made of what comes after
chosen : {State Stop End B : Type 0} (b : Bool) (one other : Run State Stop End B) → HasOneEnd one → HasOneEnd other
    → HasOneEnd (λ after. if b then one after else other after)
chosen true one other has has_other = has
chosen false one other has has_other = has_other

module _ {State Cause Value Target End : Type 0} where
  caught-has : {A : Type 0} (handler : Cause → Run State (Abrupt Cause Value Target) End A)
      → ((cause : Cause) → HasOneEnd (handler cause))
      → (result : Result A (Abrupt Cause Value Target)) → HasOneEnd (λ after. caught handler after result)
  caught-has handler has (Ok value) = one_end-ends (Ok value)
  caught-has handler has (Err (Thrown cause)) = has cause
  caught-has handler has (Err (Returned value)) = one_end-ends (Err (Returned value))
  caught-has handler has (Err (Broken target)) = one_end-ends (Err (Broken target))
  caught-has handler has (Err (Continued target)) = one_end-ends (Err (Continued target))

  pub one_end-catching : {A : Type 0} (part : Run State (Abrupt Cause Value Target) End A)
      (handler : Cause → Run State (Abrupt Cause Value Target) End A)
      → HasOneEnd part → ((cause : Cause) → HasOneEnd (handler cause)) → HasOneEnd (catching part handler)
  one_end-catching part handler before has = one_end-by (caught handler) (caught-has handler has) part before

  broken-has : {A : Type 0} (nothing : A) (is_here : Target → Bool) (result : Result A (Abrupt Cause Value Target))
      → HasOneEnd {State = State} {End = End} (λ after. broken_at nothing is_here after result)
  broken-has nothing is_here (Ok value) = one_end-ends (Ok value)
  broken-has nothing is_here (Err (Thrown value)) = one_end-ends (Err (Thrown value))
  broken-has nothing is_here (Err (Returned value)) = one_end-ends (Err (Returned value))
  broken-has nothing is_here (Err (Broken target)) =
      chosen (is_here target) (ends (Ok nothing)) (ends (Err (Broken target))) (one_end-ends _) (one_end-ends _)
  broken-has nothing is_here (Err (Continued target)) = one_end-ends (Err (Continued target))

  pub one_end-breaking : {A : Type 0} (nothing : A) (is_here : Target → Bool)
      (part : Run State (Abrupt Cause Value Target) End A) → HasOneEnd part → HasOneEnd (breaking nothing is_here part)
  one_end-breaking nothing is_here part before =
      one_end-by (broken_at nothing is_here) (broken-has nothing is_here) part before

  turned-has : {A : Type 0} (nothing : A) (is_here : Target → Bool) (next : Run State (Abrupt Cause Value Target) End A)
      → HasOneEnd next
      → (result : Result A (Abrupt Cause Value Target)) → HasOneEnd (λ after. turned nothing is_here next after result)
  turned-has nothing is_here next has (Ok value) = has
  turned-has nothing is_here next has (Err (Thrown value)) = one_end-ends (Err (Thrown value))
  turned-has nothing is_here next has (Err (Returned value)) = one_end-ends (Err (Returned value))
  turned-has nothing is_here next has (Err (Broken target)) =
      chosen (is_here target) (ends (Ok nothing)) (ends (Err (Broken target))) (one_end-ends _) (one_end-ends _)
  turned-has nothing is_here next has (Err (Continued target)) =
      chosen (is_here target) next (ends (Err (Continued target))) has (one_end-ends _)

  pub one_end-turning : {A : Type 0} (nothing : A) (is_here : Target → Bool)
      (body next : Run State (Abrupt Cause Value Target) End A)
      → HasOneEnd body → HasOneEnd next → HasOneEnd (turning nothing is_here body next)
  one_end-turning nothing is_here body next before has =
      one_end-by (turned nothing is_here next) (turned-has nothing is_here next has) body before

  returned-has : (nothing : Value) (result : Result Value (Abrupt Cause Value Target))
      → HasOneEnd {State = State} {End = End} (λ after. returned_to nothing after result)
  returned-has nothing (Ok value) = one_end-ends (Ok nothing)
  returned-has nothing (Err (Thrown value)) = one_end-ends (Err (Thrown value))
  returned-has nothing (Err (Returned value)) = one_end-ends (Ok value)
  returned-has nothing (Err (Broken target)) = one_end-ends (Err (Broken target))
  returned-has nothing (Err (Continued target)) = one_end-ends (Err (Continued target))

  pub one_end-returning : (nothing : Value) (body : Run State (Abrupt Cause Value Target) End Value) → HasOneEnd body
      → HasOneEnd (returning nothing body)
  one_end-returning nothing body before = one_end-by (returned_to nothing) (returned-has nothing) body before

pub words : {State Cause Value Target End A B : Type 0} → WordsHaveOneEnd State Cause Value Target End A B
words =
    record {
      ends = one_end-ends;
      halt = one_end-halt;
      next = one_end-next;
      with_last = one_end-with_last;
      reading = one_end-reading;
      changing = one_end-changing;
      look_up = one_end-look_up;
      tell = one_end-tell;
      catching = one_end-catching;
      breaking = one_end-breaking;
      turning = one_end-turning;
      returning = one_end-returning;
    }
