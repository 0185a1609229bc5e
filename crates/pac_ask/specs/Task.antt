-- What is polled for where one name is asked: one job, which lacks the name until it is told. It costs no runs.
use Rattle.std.specs.Prelude.{[], ◌∷◌}
use Rattle.pac_names.specs.Names.{Name}
use Rattle.poll_log.specs.declared.terms.Terms.{Terms}
use Rattle.poll_log.specs.Jobs.{Job}
use Rattle.poll_log.specs.Laws.{first_lacking}
use Rattle.poll_loop.specs.Task.{Talk, Task}
use Rattle.poll_loop.specs.declared.looping.Upstream.{Upstream}

abbrev pub job_of : Name → Job
job_of name answers = first_lacking (name ∷ []) answers

abbrev pub task_of : Terms → Name → Task
task_of terms name = record { terms = terms; jobs = job_of name ∷ []; runs = λ turns. 0 }

abbrev pub talk_of : Upstream → Name → Talk
talk_of upstream name = record { servers = upstream.servers; task = task_of upstream.terms name }
