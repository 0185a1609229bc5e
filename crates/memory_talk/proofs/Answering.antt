-- The talks over a link in memory, as plans take them.
use Rattle.pac_plan.specs.Plan.{Talks}
use Rattle.memory_talk.specs.Talks.{MemoryTalk, Talked}
use Rattle.memory_talk.proofs.Kept.{clock_kept, counted, files_kept, not_begun}

abbrev pub answering : Talks MemoryTalk
answering = record {
  Talked = Talked;
  files_kept = files_kept;
  clock_kept = clock_kept;
  counted = counted;
  not_begun = not_begun;
}
