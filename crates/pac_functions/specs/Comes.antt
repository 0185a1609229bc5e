-- What the code answers, beside what a call is over the host.
use Rattle.std.specs.Prelude.{◌≡◌, Result, Ok, Err}
use Rattle.heap_values.specs.declared.value.Value.{Value}
use Rattle.js_host.specs.Seen.{Seen}
use Rattle.run_trees.specs.RunTree.{RunTree, Walked, Ended, Stopped, walk}
use Rattle.pac_functions.specs.declared.call.PacAnswer.{PacAnswer}
use Rattle.pac_functions.specs.declared.call.PacAnswer.TheVariants as answer
use Rattle.pac_functions.specs.declared.call.Stop.{Stop}
use Rattle.pac_functions.specs.declared.call.Stop.TheVariants as stop
use Rattle.pac_functions.specs.Addresses.{PacEnd, Gives, AsksTooMany, NeedsClock}

-- a value, a name that the host lacks, one name too many, or a clock that isn't told, each exactly where the call comes to
-- it, with the host's record then; want of memory promises nothing
abbrev pub Answers : Walked PacEnd → PacAnswer → Seen → Type 0
Answers walked (answer.Value v) after = walked ≡ Ended (Gives v) after
Answers walked (answer.Missing name) after = walked ≡ Stopped name after
Answers walked answer.TooMany after = walked ≡ Ended AsksTooMany after
Answers walked answer.NoClock after = walked ≡ Ended NeedsClock after
Answers walked answer.Memory after = Unit {0}

-- the same of a value or why there is none
abbrev pub Comes : Walked PacEnd → Result Value Stop → Seen → Type 0
Comes walked (Ok v) after = walked ≡ Ended (Gives v) after
Comes walked (Err (stop.Missing name)) after = walked ≡ Stopped name after
Comes walked (Err stop.TooMany) after = walked ≡ Ended AsksTooMany after
Comes walked (Err stop.NoClock) after = walked ≡ Ended NeedsClock after
Comes walked (Err stop.Memory) after = Unit {0}

-- The same of an answer, an address or a text, whatever comes after it: with it what comes after goes on, and else it
-- doesn't come.
abbrev pub Resolves : {Found : Type 0} → ((Found → RunTree PacEnd) → RunTree PacEnd) → Seen → Result Found Stop → Seen → Type 0
Resolves {Found} ask before (Ok found) after = (next : Found → RunTree PacEnd) → walk (ask next) before ≡ walk (next found) after
Resolves {Found} ask before (Err (stop.Missing name)) after = (next : Found → RunTree PacEnd) → walk (ask next) before ≡ Stopped name after
Resolves {Found} ask before (Err stop.TooMany) after = (next : Found → RunTree PacEnd) → walk (ask next) before ≡ Ended AsksTooMany after
Resolves {Found} ask before (Err stop.NoClock) after = (next : Found → RunTree PacEnd) → walk (ask next) before ≡ Ended NeedsClock after
Resolves {Found} ask before (Err stop.Memory) after = Unit {0}
