-- What a poller promises of each event.
use Rattle.std.specs.Prelude.{◌≡◌, ℕ, ◌+◌, ◌≤◌, List, [], Option}
use Rattle.pac_ports.specs.Dice.{DiceTold}
use Rattle.poll_log.specs.Turns.{Outgoing, Turns, Begin, Then, Event}
use Rattle.poll_log.specs.Questions.{questions, firsts, drawn}
use Rattle.poll_log.specs.Jobs.{IsOwed}
use Rattle.pac_plan.specs.Plan.{Outside}
use Rattle.poll_loop.specs.Task.{Task, IsSound}
use Rattle.poll_loop.specs.Numbers.{GaveAll, newly_drawn}

-- An event was treated whole: what is owed after it is what it answered, and it stands for the longer log.
pub record Stepped (Stands : Turns → Type 0) (task : Task) (turns : Turns) (event : Event) (sent : List Outgoing) (dice dice' : Option DiceTold) (runs runs' : ℕ) : Type 0 where
  pub stands : Stands (Then turns event sent)
  pub owed : IsOwed task.terms task.jobs (questions turns) (firsts turns) (Then turns event sent) sent
  -- the names that are sent first carry the numbers of the dice, in order
  pub drew : GaveAll dice (newly_drawn turns sent) dice'
  -- the runs rose as those that the log costs
  pub ran : runs' + task.runs turns ≡ runs + task.runs (Then turns event sent)

-- Memory ran out in the midst of an event.
pub record StepFails (task : Task) (turns : Turns) (event : Event) (dice dice' : Option DiceTold) (runs runs' : ℕ) : Type 0 where
  pub drew : (more : List ℕ) × GaveAll dice more dice'
  pub ran : runs' + task.runs turns ≤ runs + task.runs (Then turns event [])

-- A poller has begun in this outside: it stands for the log in which this was sent and nothing came yet.
pub record Began (Stands : Turns → Type 0) (task : Task) (sent : List Outgoing) (old : Outside) (dice : Option DiceTold) (runs : ℕ) : Type 0 where
  pub sound : IsSound task
  pub stands : Stands (Begin sent)
  pub owed : IsOwed task.terms task.jobs [] [] (Begin sent) sent
  pub drew : GaveAll old.dice (drawn (Begin sent)) dice
  pub ran : runs ≡ old.runs + task.runs (Begin sent)
