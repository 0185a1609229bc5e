-- The names that a run asks, whatever answers them, and the first of them that the answers don't hold.
use Rattle.std.specs.Prelude.{List, [], if◌then◌else◌, unwrap_or}
use Rattle.pac_names.specs.declared.answer.Answer.TheVariants.{NoAddress}
use Rattle.pac_names.specs.Names.{Name}
use Rattle.js_host.specs.Seen.{Reply, Answered, Refused, is_one_too_many}
use Rattle.run_trees.specs.RunTree.{RunTree, Done, Ask, Tell}
use Rattle.run_trees.specs.WholeRun.{asked_with}
use Rattle.poll_log.specs.Told.{Map}
use Rattle.poll_log.specs.Jobs.{Job}
use Rattle.poll_log.specs.Laws.{first_lacking}

-- the reply of these answers, where these names were asked before; a name that they don't hold has no address
abbrev pub reply_in : Map → List Name → Name → Reply
reply_in answers asked name =
    if is_one_too_many asked name then Refused else Answered (unwrap_or (answers name) NoAddress)

-- the distinct names that are asked by the end of a run, where these were asked before
unfoldable pub asked_from : {End : Type 0} → Map → RunTree End → List Name → List Name
asked_from answers (Done end) asked = asked
asked_from answers (Ask name next) asked =
    asked_from answers (next (reply_in answers asked name)) (asked_with asked name)
asked_from answers (Tell text next) asked = asked_from answers next asked

-- the distinct names that a run asks, in the order of first asking
abbrev pub asked_in : {End : Type 0} → RunTree End → Map → List Name
asked_in run answers = asked_from answers run []

-- A run is a job that lacks the first name which it asks and the answers don't hold.
abbrev pub job_of : {End : Type 0} → RunTree End → Job
job_of run answers = first_lacking (asked_in run answers) answers
