-- Which counts of faults rise as a plan is followed, and with which answer.
use Rattle.std.proofs.Common.{◌≡◌, ◌⊎◌, inl, inr, ℕ, ◌+◌, Bool, false, List, Option, Result, Ok, Err, ap, sym, ◌∙◌, subst}
use Rattle.pac_ports.specs.Faults.{Rose}
use Rattle.pac_ports.specs.Files.{FilesState, HasRead, with_read}
use Rattle.pac_ports.specs.Link.{has_move}
use Rattle.pac_ports.specs.declared.files.FilesAnswer.{FilesAnswer}
use Rattle.pac_ports.specs.declared.files.FilesAnswer.TheVariants as why
use Rattle.pac_ports.specs.declared.link.Move.{Move}
use Rattle.pac_plan.specs.Plan.{Output, Plan, say, run, read, talk, Outside, End, whole, faulted, unfinished, Talks, CountsFaults, read_fault, link_fault}
use Rattle.pac_plan.specs.Follows.{IsUnlessMemory, GoesOn, TalkSays, Follows}
use Rattle.pac_plan.specs.Complete.{IsSureOfNames}
use Rattle.utf16_text.specs.declared.limits.TheConstants.{LONGEST_FILE}

-- no count rose
pub record IsQuiet (old new : Outside) : Type 0 where
  pub files : new.files.faults ≡ old.files.faults
  pub link : new.link.faults ≡ old.link.faults

-- a file failed, of whose name the files weren't sure
pub record FileFailed {T : Type 0} (plan : Plan T) (old new : Outside) (made : Option Output) : Type 0 where
  pub kind : List ℕ
  pub says : IsUnlessMemory (read_fault kind) made
  pub rose : Rose old.files.faults new.files.faults
  pub link : new.link.faults ≡ old.link.faults
  pub not_sure : IsSureOfNames old.files.sure plan → ⊥

-- the link failed, outside of what it was sure of
pub record LinkFailed (old new : Outside) (made : Option Output) : Type 0 where
  pub says : IsUnlessMemory link_fault made
  pub files : new.files.faults ≡ old.files.faults
  pub rose : Rose old.link.faults new.link.faults
  pub no_move : has_move new.link ≡ false

abbrev pub Counted : {T : Type 0} → Plan T → Outside → Outside → Option Output → Type 0
Counted plan old new made = IsQuiet old new ⊎ (FileFailed plan old new made ⊎ LinkFailed old new made)

stood : {T : Type 0} (plan : Plan T) (old new : Outside) (made : Option Output) → new ≡ old → Counted plan old new made
stood plan old new made is = inl (record { files = ap (λ (o : Outside). o.files.faults) is; link = ap (λ (o : Outside). o.link.faults) is })

-- a read that leaves the count, and then the rest
after_read : {T : Type 0} (kind name bytes : List ℕ) (next : List ℕ → Plan T) (old new : Outside) (made : Option Output) (failed : Bool)
    → Counted (next bytes) (record old { files = with_read name failed old.files }) new made → Counted (read kind name next) old new made
after_read kind name bytes next old new made failed (inl quiet) = inl (record { files = quiet.files; link = quiet.link })
after_read kind name bytes next old new made failed (inr (inl file)) =
    inr (inl (record { kind = file.kind; says = file.says; rose = file.rose; link = file.link; not_sure = λ sure. file.not_sure (sure.1 bytes) }))
after_read kind name bytes next old new made failed (inr (inr link)) = inr (inr (record { says = link.says; files = link.files; rose = link.rose; no_move = link.no_move }))

counted_read : {T : Type 0} (K : Talks T) (kind name : List ℕ) (next : List ℕ → Plan T) (old new : Outside) (made : Option Output) (found : Result (List ℕ) FilesAnswer) (files : FilesState)
    → ((bytes : List ℕ) (mid : Outside) → Follows K (next bytes) mid new made → Counted (next bytes) mid new made)
    → HasRead old.files name LONGEST_FILE found files
    → GoesOn kind found (λ bytes mid. Follows K (next bytes) mid new made) (record old { files = files }) new made
    → Counted (read kind name next) old new made
counted_read K kind name next old new made (Ok bytes) files rest h goes =
    let on : Follows K (next bytes) (record old { files = with_read name false old.files }) new made =
    subst (λ (f : FilesState). Follows K (next bytes) (record old { files = f }) new made) h.state goes in
    after_read kind name bytes next old new made false (rest bytes (record old { files = with_read name false old.files }) on)
counted_read K kind name next old new made (Err why.Failed) files rest h goes = inr (inl (record {
  kind = kind;
  says = goes.1;
  rose = subst (λ (o : Outside). Rose old.files.faults o.files.faults) (sym goes.0) h.rose;
  link = ap (λ (o : Outside). o.link.faults) goes.0;
  not_sure = λ sure. let listed = sure.0 in let not = h.not_sure in cc;
}))
counted_read K kind name next old new made (Err why.TooLong) files rest h goes = inl (record {
  files = ap (λ (o : Outside). o.files.faults) goes.0 ∙ ap (λ (f : FilesState). f.faults) h.state;
  link = ap (λ (o : Outside). o.link.faults) goes.0;
})
counted_read K kind name next old new made (Err why.Memory) files rest h goes = inl (record {
  files = ap (λ (o : Outside). o.files.faults) goes.0 ∙ ap (λ (f : FilesState). f.faults) h;
  link = ap (λ (o : Outside). o.link.faults) goes.0;
})

after_run : {T : Type 0} (plan : Plan T) (old new : Outside) (made : Option Output) → Counted plan (record old { runs = old.runs + 1 }) new made → Counted (run plan) old new made
after_run plan old new made (inl quiet) = inl (record { files = quiet.files; link = quiet.link })
after_run plan old new made (inr (inl file)) =
    inr (inl (record { kind = file.kind; says = file.says; rose = file.rose; link = file.link; not_sure = file.not_sure }))
after_run plan old new made (inr (inr link)) = inr (inr (record { says = link.says; files = link.files; rose = link.rose; no_move = link.no_move }))

counted_talk : {T : Type 0} (K : Talks T) (t : T) (answer : List Move → Output) (old new : Outside) (made : Option Output) (end : End) (log : List Move)
    → new.files ≡ old.files → CountsFaults end old.link new.link → TalkSays end (answer log) made → Counted (talk t answer) old new made
counted_talk K t answer old new made whole log files counts says = inl (record { files = ap (λ (f : FilesState). f.faults) files; link = counts })
counted_talk K t answer old new made faulted log files counts says =
    inr (inr (record { says = says; files = ap (λ (f : FilesState). f.faults) files; rose = counts.0; no_move = counts.1 }))
counted_talk K t answer old new made unfinished log files counts says = inl (record { files = ap (λ (f : FilesState). f.faults) files; link = counts })

pub counted : {T : Type 0} (K : Talks T) (plan : Plan T) (old new : Outside) (made : Option Output) → Follows K plan old new made → Counted plan old new made
counted K (say answer) old new made h = stood (say answer) old new made h.0
counted K (run plan) old new made (inl h) = after_run plan old new made (counted K plan (record old { runs = old.runs + 1 }) new made h)
counted K (run plan) old new made (inr h) = stood (run plan) old new made h.0
counted K (read kind name next) old new made h =
    counted_read K kind name next old new made h.0 h.1 (λ bytes mid g. counted K (next bytes) mid new made g) h.2 h.3
counted K (talk t answer) old new made h =
    counted_talk K t answer old new made h.0 h.1 (K.files_kept t old h.0 h.1 new h.2) (K.counted t old h.0 h.1 new h.2) h.3
