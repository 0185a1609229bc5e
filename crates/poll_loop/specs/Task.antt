-- What is polled for.
use Rattle.std.specs.Prelude.{◌≡◌, ℕ, ◌<◌, IsTrue, Some, List}
use Rattle.std.specs.List.{All}
use Rattle.pac_names.specs.Names.{is_lookup_name, Name}
use Rattle.pac_ports.specs.declared.link.Servers.{Servers}
use Rattle.poll_log.specs.declared.terms.Terms.{Terms}
use Rattle.poll_log.specs.Turns.{Outgoing, Turns, with_sent}
use Rattle.poll_log.specs.Told.{Map}
use Rattle.poll_log.specs.Jobs.{Job}
use Rattle.poll_log.specs.Laws.{IsRestartable}
use Rattle.pac_names.specs.declared.limits.TheConstants.{MOST_NAMES}

pub record Task : Type 0 where
  -- when a question is sent again, and when it is given up
  pub terms : Terms
  -- what waits for names
  pub jobs : List Job
  -- how many runs a log costs
  pub runs : Turns → ℕ

-- a task, and the servers that are asked
pub record Talk : Type 0 where
  pub servers : Servers
  pub task : Task

-- the job lacks lookup names alone
abbrev pub AsksLookupNames : Job → Type 0
AsksLookupNames job = (answers : Map) (n : Name) → job answers ≡ Some n → IsTrue (is_lookup_name n)

-- terms that ask and end
pub record AreFinite (terms : Terms) : Type 0 where
  pub waits : 0 < terms.wait
  pub tried : 0 < terms.tries

-- jobs that ask for lookup names, and obey the extension law with at most 32 names a run
pub record IsSound (task : Task) : Type 0 where
  pub terms : AreFinite task.terms
  pub named : All AsksLookupNames task.jobs
  pub restartable : All (IsRestartable MOST_NAMES) task.jobs
  -- what is sent in a turn costs no run
  pub unsent_runs : (turns : Turns) (sent : List Outgoing) → task.runs (with_sent turns sent) ≡ task.runs turns
