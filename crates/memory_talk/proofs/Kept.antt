-- What every talk over a link in memory keeps.
use Rattle.std.proofs.Common.{◌≡◌, List, [], refl, ap, arith}
use Rattle.pac_ports.specs.declared.link.Move.{Move}
use Rattle.poll_log.specs.Flat.{flat_behind}
use Rattle.poll_log.specs.Turns.{with_moves}
use Rattle.pac_plan.specs.Plan.{CountsFaults, End, Outside, whole, faulted, unfinished}
use Rattle.pac_generate.specs.Answered.{IsAnswered}
use Rattle.poll_loop.proofs.Owing.{cut_begin}
use Rattle.memory_talk.specs.Talks.{MemoryTalk, Talked}
use Rattle.memory_talk.proofs.Streams.{streamed_none}

pub files_kept : (talk : MemoryTalk) (old : Outside) (end : End) (log : List Move) (new : Outside) → Talked talk old end log new → new.files ≡ old.files
files_kept talk old whole log new t = ap (λ (o : Outside). o.files) t.ran
files_kept talk old faulted log new t = absurd t
files_kept talk old unfinished log new t = ap (λ (o : Outside). o.files) t.kept

pub clock_kept : (talk : MemoryTalk) (old : Outside) (end : End) (log : List Move) (new : Outside) → Talked talk old end log new → new.clock ≡ old.clock
clock_kept talk old whole log new t = ap (λ (o : Outside). o.clock) t.ran
clock_kept talk old faulted log new t = absurd t
clock_kept talk old unfinished log new t = ap (λ (o : Outside). o.clock) t.kept

pub counted : (talk : MemoryTalk) (old : Outside) (end : End) (log : List Move) (new : Outside) → Talked talk old end log new → CountsFaults end old.link new.link
counted talk old whole log new t = ap (λ (o : Outside). o.link.faults) t.ran
counted talk old faulted log new t = absurd t
counted talk old unfinished log new t = ap (λ (o : Outside). o.link.faults) t.kept

pub not_begun : (talk : MemoryTalk) (old : Outside) → Talked talk old unfinished [] old
unfolding with_moves flat_behind IsAnswered
not_begun talk old =
    record {
      cut = λ sound. cut_begin talk.task.terms talk.task.jobs sound.terms.waits sound.terms.tried sound.named;
      answered = tt;
      streamed = streamed_none talk.task.terms;
      kept = refl;
      ran = omega arith;
    }
