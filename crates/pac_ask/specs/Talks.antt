-- The talks of polling, as plans take them.
use Rattle.pac_plan.specs.Plan.{Talks}
use Rattle.poll_loop.specs.Task.{Talk}
use Rattle.poll_loop.specs.Talks.{Talked}
use Rattle.poll_loop.proofs.Kept.{counted, not_begun}

abbrev pub talks : Talks Talk
talks = record {
  Talked = Talked;
  files_kept = λ talk old end log new talked. talked.files;
  clock_kept = λ talk old end log new talked. talked.clock;
  counted = counted;
  not_begun = not_begun;
}
