-- A run against a map of all names. Nothing interrupts it.
use Rattle.std.specs.Prelude.{ℕ, List, [], ◌∷◌, if◌then◌else◌}
use Rattle.pac_names.specs.Names.{Name}
use Rattle.pac_names.specs.Comparing.{same_name}
use Rattle.js_host.specs.Answers.{AnswerMap, answer_in}
use Rattle.js_host.specs.Seen.{Reply, Answered, Refused, is_one_too_many, with_name}
use Rattle.run_trees.specs.RunTree.{RunTree, Done, Ask, Tell}

-- how a whole run ends, the distinct names that it asks, in the order of first asking, and all its alerts
pub record WholeRun (End : Type 0) : Type 0 where
  pub end : End
  pub asked : List Name
  pub alerts : List (List ℕ)

-- the reply of a map, where these names were asked before
abbrev pub reply_of : AnswerMap → List Name → Name → Reply
reply_of answers asked name = if is_one_too_many asked name then Refused else Answered (answer_in answers name)

-- the names that were asked then
abbrev pub asked_with : List Name → Name → List Name
asked_with asked name = if is_one_too_many asked name then asked else with_name asked name

-- with one alert more, in front
abbrev pub after_alert : {End : Type 0} → List ℕ → WholeRun End → WholeRun End
after_alert text run = record run { alerts = text ∷ run.alerts }

-- the rest of a run, where these names were asked before
unfoldable pub rest_of_run : {End : Type 0} → AnswerMap → RunTree End → List Name → WholeRun End
rest_of_run answers (Done end) asked = record { end = end; asked = asked; alerts = [] }
rest_of_run answers (Ask name next) asked =
    rest_of_run answers (next (reply_of answers asked name)) (asked_with asked name)
rest_of_run answers (Tell text next) asked = after_alert text (rest_of_run answers next asked)

-- the whole run
abbrev pub whole_run : {End : Type 0} → AnswerMap → RunTree End → WholeRun End
whole_run answers run = rest_of_run answers run []

-- the distinct names that it asks, in the order of first asking
abbrev pub asked_names : {End : Type 0} → AnswerMap → RunTree End → List Name
asked_names answers run = (whole_run answers run).asked

-- the names up to and including the first that is this one
abbrev pub names_to : Name → List Name → List Name
names_to name [] = []
names_to name (first ∷ others) = if same_name name first then first ∷ [] else first ∷ names_to name others
