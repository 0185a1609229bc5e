-- Whatever follows a plan and writes its answer keeps the rules of order and completeness.
use Rattle.std.proofs.Common.{◌≡◌, ◌⊎◌, inl, inr, ◌<◌, true, Option, Some, None, IfSome, ap, ◌∙◌, subst, arith}
use Rattle.pac_ports.specs.Faults.{Rose}
use Rattle.pac_ports.specs.Files.{FilesTold}
use Rattle.pac_ports.specs.Link.{has_move}
use Rattle.pac_ports.specs.Sink.{SinkState, has_room, with_bytes}
use Rattle.pac_plan.specs.Plan.{Output, Plan, Program, at_once, timed, Outside, Talks, read_fault, link_fault}
use Rattle.pac_plan.specs.Follows.{Follows, FollowsProgram, Gives, IsUnlessMemory}
use Rattle.pac_plan.specs.Complete.{IsSureOfNames, Completed}
use Rattle.pac_plan.specs.Serves.{HasNoMemory, ServesPlan, Serves}
use Rattle.pac_plan.specs.declared.status.Status.{Status}
use Rattle.pac_plan.specs.declared.status.Status.TheVariants as status
use Rattle.pac_plan.proofs.Counts.{Counted, counted}
use Rattle.pac_plan.proofs.Completes.{ComesTo, Comes, comes}
use Rattle.pac_plan.proofs.Turns.{reads_in_turn}

written : {T : Type 0} (K : Talks T) (plan : Plan T) (told : FilesTold) (old new : Outside) (out out' : SinkState) (given : Status) (a : Output)
    → (Rose out.faults out'.faults → ⊥) → ComesTo K plan told.contents old new a → Gives (Some a) given out out' → Completed K plan told.contents old new out out' given
written K plan told old new out out' given a quiet come (inl all) = record {
  log = come.log;
  arrived = come.arrived;
  status = all.0 ∙ ap (λ (b : Output). b.status) come.is;
  written = all.1 ∙ ap (λ (b : Output). with_bytes b.text out) come.is;
}
written K plan told old new out out' given a quiet come (inr cut) = let fails = cut.1.1 in absurd (quiet fails.rose)

completed : {T : Type 0} (K : Talks T) (plan : Plan T) (told : FilesTold) (old new : Outside) (out out' : SinkState) (given : Status) (made : Option Output)
    → (Rose out.faults out'.faults → ⊥) → Comes K plan told.contents old new made → Gives made given out out' → Completed K plan told.contents old new out out' given ⊎ (given ≡ status.Memory)
completed K plan told old new out out' given None quiet come gave = inr gave.0
completed K plan told old new out out' given (Some a) quiet come gave = inl (written K plan told old new out out' given a quiet come gave)

sure_files : {T : Type 0} (plan : Plan T) (old new : Outside) (made : Option Output) → Counted plan old new made → IsSureOfNames old.files.sure plan → new.files.faults ≡ old.files.faults
sure_files plan old new made (inl quiet) sure = quiet.files
sure_files plan old new made (inr (inl file)) sure = absurd (file.not_sure sure)
sure_files plan old new made (inr (inr link)) sure = link.files

sure_link : {T : Type 0} (plan : Plan T) (old new : Outside) (made : Option Output) → Counted plan old new made → has_move new.link ≡ true → new.link.faults ≡ old.link.faults
sure_link plan old new made (inl quiet) sure = quiet.link
sure_link plan old new made (inr (inl file)) sure = file.link
sure_link plan old new made (inr (inr link)) sure = let none = link.no_move in cc

sure_text : (out out' : SinkState) (given : Status) (a : Output) → Gives (Some a) given out out' → has_room out a.text ≡ true → out'.faults ≡ out.faults
sure_text out out' given a (inl all) room = ap (λ (s : SinkState). s.faults) all.1
sure_text out out' given a (inr cut) room = let fails = cut.1.1 in let none = fails.no_room in cc

sure_sink : (out out' : SinkState) (given : Status) (made : Option Output) → Gives made given out out' → IfSome made (λ a. has_room out a.text ≡ true → out'.faults ≡ out.faults)
sure_sink out out' given None gave = tt
sure_sink out out' given (Some a) gave = sure_text out out' given a gave

sink_first : (out out' : SinkState) (given : Status) (made : Option Output) → Gives made given out out' → out.faults < out'.faults → given ≡ status.WriteFault
sink_first out out' given None gave rose = let same = ap (λ (s : SinkState). s.faults) gave.1 in absurd (omega arith)
sink_first out out' given (Some a) (inl all) rose = let same = ap (λ (s : SinkState). s.faults) all.1 in absurd (omega arith)
sink_first out out' given (Some a) (inr cut) rose = cut.0

-- an answer that was made, or none, is given where the sink doesn't fail
as_made : (out out' : SinkState) (given : Status) (answer : Output) (made : Option Output) → IsUnlessMemory answer made → Gives made given out out' → (Rose out.faults out'.faults → ⊥)
    → (given ≡ answer.status) ⊎ (given ≡ status.Memory)
as_made out out' given answer None says gave quiet = inr gave.0
as_made out out' given answer (Some a) says (inl all) quiet = inl (all.0 ∙ ap (λ (b : Output). b.status) says)
as_made out out' given answer (Some a) says (inr cut) quiet = let fails = cut.1.1 in absurd (quiet fails.rose)

files_next : {T : Type 0} (plan : Plan T) (old new : Outside) (out out' : SinkState) (given : Status) (made : Option Output) → Counted plan old new made → Gives made given out out'
    → old.files.faults < new.files.faults → (Rose out.faults out'.faults → ⊥) → (given ≡ status.ReadFault) ⊎ (given ≡ status.Memory)
files_next plan old new out out' given made (inl count) gave rose quiet = let same = count.files in absurd (omega arith)
files_next plan old new out out' given made (inr (inl file)) gave rose quiet = as_made out out' given (read_fault file.kind) made file.says gave quiet
files_next plan old new out out' given made (inr (inr link)) gave rose quiet = let same = link.files in absurd (omega arith)

link_last : {T : Type 0} (plan : Plan T) (old new : Outside) (out out' : SinkState) (given : Status) (made : Option Output) → Counted plan old new made → Gives made given out out'
    → old.link.faults < new.link.faults → (Rose out.faults out'.faults → ⊥) → (Rose old.files.faults new.files.faults → ⊥) → (given ≡ status.LinkFault) ⊎ (given ≡ status.Memory)
link_last plan old new out out' given made (inl count) gave rose quiet files = let same = count.link in absurd (omega arith)
link_last plan old new out out' given made (inr (inl file)) gave rose quiet files = absurd (files file.rose)
link_last plan old new out out' given made (inr (inr link)) gave rose quiet files = as_made out out' given link_fault made link.says gave quiet

serves_plan : {T : Type 0} (K : Talks T) (plan : Plan T) (old new : Outside) (out out' : SinkState) (given : Status) (made : Option Output)
    → Follows K plan old new made → Gives made given out out' → ServesPlan K plan old new out out' given
serves_plan K plan old new out out' given made followed gave = let count = counted K plan old new made followed in record {
  made = made;
  followed = followed;
  gave = gave;
  complete = record {
    completed = λ told is files link sink. completed K plan told old new out out' given made sink (comes K plan old new made told is files link followed) gave;
    sure_files = sure_files plan old new made count;
    sure_link = sure_link plan old new made count;
    sure_sink = sure_sink out out' given made gave;
  };
  order = record {
    sink = sink_first out out' given made gave;
    files = files_next plan old new out out' given made count gave;
    link = link_last plan old new out out' given made count gave;
    reads = λ told is. reads_in_turn K plan old new made told is followed;
  };
}

no_memory : (old new : Outside) (out out' : SinkState) (given : Status) (made : Option Output) → (new ≡ old) × (made ≡ None) → Gives made given out out' → HasNoMemory old new out out' given
no_memory old new out out' given made h gave =
    let none : Gives None given out out' = subst (λ (o : Option Output). Gives o given out out') h.1 gave in
    record { status = none.0; outside = h.0; sink = none.1 }

-- a call that follows a program and writes its answer serves it
pub serves : {T : Type 0} (K : Talks T) (program : Program T) (old new : Outside) (out out' : SinkState) (given : Status) (made : Option Output)
    → FollowsProgram K program old new made → Gives made given out out' → Serves K program old new out out' given
serves K (at_once plan) old new out out' given made (inl followed) gave = inl (serves_plan K plan old new out out' given made followed gave)
serves K (at_once plan) old new out out' given made (inr h) gave = inr (no_memory old new out out' given made h gave)
serves K (timed next) old new out out' given made (inl h) gave = inl (h.0, serves_plan K (next h.0) _ new out out' given made h.1 gave)
serves K (timed next) old new out out' given made (inr h) gave = inr (no_memory old new out out' given made h gave)
