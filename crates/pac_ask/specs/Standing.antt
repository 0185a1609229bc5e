-- When what is kept of one name stands for a log.
use Rattle.std.specs.Prelude.{◌≡◌, ℕ, IsTrue, [], ◌∷◌, Option}
use Rattle.pac_names.specs.declared.answer.Answer.{Answer}
use Rattle.pac_names.specs.Names.{is_lookup_name, Name}
use Rattle.poll_log.specs.declared.terms.Terms.{Terms}
use Rattle.poll_log.specs.Sendings.{AreTerms}
use Rattle.poll_log.specs.Turns.{Turns}
use Rattle.poll_log.specs.Questions.{firsts, names_of}
use Rattle.poll_log.specs.Told.{told}
use Rattle.poll_log.specs.Jobs.{SendsOwed}
use Rattle.stub_poller.specs.State.{StubState}
use Rattle.stub_poller.specs.Driven.{driven}
use Rattle.poll_loop.specs.Counting.{HasCounted}
use Rattle.poll_loop.specs.Task.{Task}
use Rattle.pac_ask.specs.Task.{job_of, task_of}

pub record Stands (name : Name) (answer : Option Answer) (terms : Terms) (stub : StubState) (beats : ℕ) (task : Task) (turns : Turns) : Type 0 where
  pub same : task ≡ task_of terms name
  pub ranges : AreTerms terms
  pub named : IsTrue (is_lookup_name name)
  -- no other name was asked
  pub asked : names_of (firsts turns) ≡ name ∷ []
  pub sends : SendsOwed terms (job_of name ∷ []) turns
  pub flying : stub ≡ driven terms turns
  pub answered : answer ≡ told terms turns name
  pub beating : HasCounted beats turns
