-- What a part of a run does, with what comes after it: the end of the part is handed to what comes after. `State` is
-- the state of the run, `End` how a whole run ends. An abrupt end passes what would come next (ECMA-262 5.1, section
-- 8.9).
use Rattle.std.specs.Prelude.{ℕ, List, Bool, if◌then◌else◌, Result, Ok, Err}
use Rattle.pac_names.specs.Names.{Name}
use Rattle.js_host.specs.Seen.{Reply}
use Rattle.run_trees.specs.declared.abrupt.Abrupt.{Abrupt}
use Rattle.run_trees.specs.declared.abrupt.Abrupt.TheVariants.{Thrown, Returned, Broken, Continued}
use Rattle.run_trees.specs.RunTree.{RunTree, Done, Ask, Tell}

-- what comes after a part: what is made of each way in which the part may end
abbrev pub After : Type 0 → Type 0 → Type 0 → Type 0 → Type 0
After State Stop End A = Result A Stop → State → RunTree End

-- a part that gives an A, or stops short of it
abbrev pub Run : Type 0 → Type 0 → Type 0 → Type 0 → Type 0
Run State Stop End A = After State Stop End A → State → RunTree End

module _ {State Stop End A : Type 0} where
  -- ends in this way
  abbrev pub ends : Result A Stop → Run State Stop End A
  ends result = λ after. after result

  -- gives a value
  abbrev pub pure : A → Run State Stop End A
  pure value = ends (Ok value)

  -- ends abruptly
  abbrev pub abrupt : Stop → Run State Stop End A
  abrupt stop = ends (Err stop)

  -- ends the whole run at once, whatever comes after
  abbrev pub halt : End → Run State Stop End A
  halt end = λ after state. Done end

-- ---- one part after another

-- a value goes to the next part; an abrupt end passes it
abbrev pub onward : {State Stop End A B : Type 0}
    → (A → Run State Stop End B) → After State Stop End B → After State Stop End A
onward next after (Ok value) = next value after
onward next after (Err stop) = after (Err stop)

infixl 10 ◌>>=◌
abbrev pub ◌>>=◌ : {State Stop End A B : Type 0}
    → Run State Stop End A → (A → Run State Stop End B) → Run State Stop End B
part >>= next = λ after. part (onward next after)

infixl 10 ◌>>◌
abbrev pub ◌>>◌ : {State Stop End A B : Type 0}
    → Run State Stop End A → Run State Stop End B → Run State Stop End B
part >> next = part >>= (λ _. next)

-- The last part comes after each end of the part, which stands unless the last part ends abruptly (12.14). Where the
-- whole run ends at once, no last part comes.
abbrev pub last_then : {State Stop End A B : Type 0}
    → Run State Stop End B → After State Stop End A → After State Stop End A
last_then last after result = (last >> ends result) after

abbrev pub with_last : {State Stop End A B : Type 0}
    → Run State Stop End A → Run State Stop End B → Run State Stop End A
with_last part last = λ after. part (last_then last after)

-- ---- the state and the host

module _ {State Stop End : Type 0} where
  -- goes on by the state
  abbrev pub reading : {A : Type 0} → (State → Run State Stop End A) → Run State Stop End A
  reading part = λ after state. part state after state

  -- changes the state
  abbrev pub changing : (State → State) → Run State Stop End (Unit {0})
  changing change = λ after state. after (Ok tt) (change state)

  -- asks for a name, and gives the reply
  abbrev pub look_up : Name → Run State Stop End Reply
  look_up name = λ after state. Ask name (λ reply. after (Ok reply) state)

  -- tells the host a text
  abbrev pub tell : List ℕ → Run State Stop End (Unit {0})
  tell text = λ after state. Tell text (after (Ok tt) state)

-- ---- what takes an abrupt end

module _ {State Cause Value Target End : Type 0} where
  -- a handler takes what was thrown (12.14)
  abbrev pub caught : {A : Type 0} → (Cause → Run State (Abrupt Cause Value Target) End A)
      → After State (Abrupt Cause Value Target) End A → After State (Abrupt Cause Value Target) End A
  caught handler after (Ok value) = after (Ok value)
  caught handler after (Err (Thrown cause)) = handler cause after
  caught handler after (Err (Returned value)) = after (Err (Returned value))
  caught handler after (Err (Broken target)) = after (Err (Broken target))
  caught handler after (Err (Continued target)) = after (Err (Continued target))

  abbrev pub catching : {A : Type 0} → Run State (Abrupt Cause Value Target) End A
      → (Cause → Run State (Abrupt Cause Value Target) End A) → Run State (Abrupt Cause Value Target) End A
  catching part handler = λ after. part (caught handler after)

  -- a break to one of these targets ends a statement as if it had come to its end, with nothing as its value (12.11,
  -- 12.12)
  abbrev pub broken_at : {A : Type 0} → A → (Target → Bool)
      → After State (Abrupt Cause Value Target) End A → After State (Abrupt Cause Value Target) End A
  broken_at nothing is_here after (Ok value) = after (Ok value)
  broken_at nothing is_here after (Err (Thrown value)) = after (Err (Thrown value))
  broken_at nothing is_here after (Err (Returned value)) = after (Err (Returned value))
  broken_at nothing is_here after (Err (Broken target)) =
      if is_here target then after (Ok nothing) else after (Err (Broken target))
  broken_at nothing is_here after (Err (Continued target)) = after (Err (Continued target))

  abbrev pub breaking : {A : Type 0} → A → (Target → Bool)
      → Run State (Abrupt Cause Value Target) End A → Run State (Abrupt Cause Value Target) End A
  breaking nothing is_here part = λ after. part (broken_at nothing is_here after)

  -- the body of a loop, and then the next turn: a continue to the loop goes on with it, and a break to the loop leaves
  -- (12.6)
  abbrev pub turned : {A : Type 0} → A → (Target → Bool) → Run State (Abrupt Cause Value Target) End A
      → After State (Abrupt Cause Value Target) End A → After State (Abrupt Cause Value Target) End A
  turned nothing is_here next after (Ok value) = next after
  turned nothing is_here next after (Err (Thrown value)) = after (Err (Thrown value))
  turned nothing is_here next after (Err (Returned value)) = after (Err (Returned value))
  turned nothing is_here next after (Err (Broken target)) =
      if is_here target then after (Ok nothing) else after (Err (Broken target))
  turned nothing is_here next after (Err (Continued target)) =
      if is_here target then next after else after (Err (Continued target))

  abbrev pub turning : {A : Type 0} → A → (Target → Bool)
      → Run State (Abrupt Cause Value Target) End A → Run State (Abrupt Cause Value Target) End A
      → Run State (Abrupt Cause Value Target) End A
  turning nothing is_here body next = λ after. body (turned nothing is_here next after)

  -- the body of a function: what it returns is its value, and nothing where it comes to its end (13.2.1)
  abbrev pub returned_to : Value
      → After State (Abrupt Cause Value Target) End Value → After State (Abrupt Cause Value Target) End Value
  returned_to nothing after (Ok value) = after (Ok nothing)
  returned_to nothing after (Err (Thrown value)) = after (Err (Thrown value))
  returned_to nothing after (Err (Returned value)) = after (Ok value)
  returned_to nothing after (Err (Broken target)) = after (Err (Broken target))
  returned_to nothing after (Err (Continued target)) = after (Err (Continued target))

  abbrev pub returning : Value → Run State (Abrupt Cause Value Target) End Value → Run State (Abrupt Cause Value Target) End Value
  returning nothing body = λ after. body (returned_to nothing after)
