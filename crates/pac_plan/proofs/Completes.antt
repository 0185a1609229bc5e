-- What a plan comes to over files that tell, where no count of faults rose.
use Rattle.std.proofs.Common.{◌≡◌, ℕ, ◌≤◌, ◌<◌, true, false, nat_le, List, [], ◌∷◌, ◌++◌, length, Option, Some, None, Result, Ok, Err, IfSome, IsSomeAnd, refl, ap, sym, ◌∙◌, subst, arith, option_map, inl, inr}
use Rattle.std.proofs.lemmas.Bool.Decides.{nat_tests}
use Rattle.pac_ports.specs.Faults.{Rose}
use Rattle.pac_ports.specs.Files.{FilesState, FilesTold, content_of, HasRead}
use Rattle.pac_ports.specs.declared.files.FilesAnswer.{FilesAnswer}
use Rattle.pac_ports.specs.declared.files.FilesAnswer.TheVariants as why
use Rattle.pac_ports.specs.declared.link.Move.{Move}
use Rattle.pac_plan.specs.Plan.{Output, Plan, say, run, read, talk, Outside, End, whole, faulted, unfinished, Talks, read_fault, too_long}
use Rattle.pac_plan.specs.Follows.{IsUnlessMemory, GoesOn, TalkSays, Follows}
use Rattle.pac_plan.specs.Complete.{Contents, by_content, output_at, talk_at, reached, with_run, with_file_read, Arrives}
use Rattle.utf16_text.specs.declared.limits.TheConstants.{LONGEST_FILE}

-- the plan's answer at these contents, with a log to which it came
pub record ComesTo {T : Type 0} (K : Talks T) (plan : Plan T) (c : Contents) (old new : Outside) (answer : Output) : Type 0 where
  pub log : List Move
  pub arrived : Arrives K (talk_at plan c) (reached plan c old) log new
  pub is : answer ≡ output_at plan c log

abbrev pub Comes : {T : Type 0} → Talks T → Plan T → Contents → Outside → Outside → Option Output → Type 0
Comes K plan c old new made = IfSome made (ComesTo K plan c old new)

if_some : {P Q : Output → Type 0} (made : Option Output) → ((a : Output) → P a → Q a) → IfSome made P → IfSome made Q
if_some None f h = tt
if_some (Some a) f h = f a h

none_made : {T : Type 0} (K : Talks T) (plan : Plan T) (c : Contents) (old new : Outside) (made : Option Output) → made ≡ None → Comes K plan c old new made
none_made K plan c old new made none = rw none tt

-- what is told of a name's content
told_content : (told : Option FilesTold) (t : FilesTold) (name : List ℕ) (P : Option (List ℕ) → Type 0) → told ≡ Some t
    → IfSome told (λ f. P (content_of name f.contents)) → P (content_of name t.contents)
told_content told t name P is h = subst (λ (o : Option FilesTold). IfSome o (λ f. P (content_of name f.contents))) is h

-- the choice at a content that is read
pub choice_read : {A : Type 0} (absent long : A) (next : List ℕ → A) (o : Option (List ℕ)) (bytes : List ℕ) → o ≡ Some bytes → length bytes ≤ LONGEST_FILE → by_content absent long next o ≡ next bytes
choice_read absent long next o bytes is fits =
    let test : nat_le (length bytes) LONGEST_FILE ≡ true = grind (arith, nat_tests) in
    rw (is, test) refl

-- and at one that is too long
pub choice_long : {A : Type 0} (absent long : A) (next : List ℕ → A) (o : Option (List ℕ)) → IsSomeAnd o (λ content. LONGEST_FILE < length content) → by_content absent long next o ≡ long
choice_long absent long next None h = absurd h
choice_long absent long next (Some bytes) h =
    let test : nat_le (length bytes) LONGEST_FILE ≡ false = grind (arith, nat_tests) in
    rw test refl

-- the end without a talk
ends : {T : Type 0} (K : Talks T) (plan : Plan T) (c : Contents) (old mid new : Outside) (answer : Output) (made : Option Output)
    → talk_at plan c ≡ None → reached plan c old ≡ mid → ((log : List Move) → output_at plan c log ≡ answer) → new ≡ mid → IsUnlessMemory answer made → Comes K plan c old new made
ends K plan c old mid new answer made none there at is says = if_some made (λ a e. record {
  log = [];
  arrived = subst (λ (o : Option _). Arrives K o (reached plan c old) [] new) (sym none) (refl, is ∙ sym there);
  is = e ∙ sym (at []);
}) says

comes_read : {T : Type 0} (K : Talks T) (kind name : List ℕ) (next : List ℕ → Plan T) (old new : Outside) (made : Option Output) (told : FilesTold) (found : Result (List ℕ) FilesAnswer) (files : FilesState)
    → ((bytes : List ℕ) (mid : Outside) (now : FilesTold) → mid.files.told ≡ Some now → (Rose mid.files.faults new.files.faults → ⊥) → (Rose mid.link.faults new.link.faults → ⊥) → Follows K (next bytes) mid new made → Comes K (next bytes) now.contents mid new made)
    → old.files.told ≡ Some told → (Rose old.files.faults new.files.faults → ⊥) → (Rose old.link.faults new.link.faults → ⊥)
    → HasRead old.files name LONGEST_FILE found files
    → GoesOn kind found (λ bytes mid. Follows K (next bytes) mid new made) (record old { files = files }) new made
    → Comes K (read kind name next) told.contents old new made
comes_read K kind name next old new made told (Err why.Failed) files rest is quiet_files quiet_link h goes =
    absurd (quiet_files (subst (λ (o : Outside). Rose old.files.faults o.files.faults) (sym goes.0) h.rose))
comes_read K kind name next old new made told (Err why.TooLong) files rest is quiet_files quiet_link h goes =
    let longer = told_content old.files.told told name (λ o. IsSomeAnd o (λ content. LONGEST_FILE < length content)) is h.longer in
    let o = content_of name told.contents in
    ends K (read kind name next) told.contents old (with_file_read name false old) new (too_long kind) made
    (choice_long None None (λ bytes. talk_at (next bytes) told.contents) o longer)
    (choice_long (with_file_read name true old) (with_file_read name false old) (λ bytes. reached (next bytes) told.contents (with_file_read name false old)) o longer)
    (λ log. choice_long (read_fault kind) (too_long kind) (λ bytes. output_at (next bytes) told.contents log) o longer)
    (goes.0 ∙ ap (λ (f : FilesState). record old { files = f }) h.state) goes.1
comes_read K kind name next old new made told (Err why.Memory) files rest is quiet_files quiet_link h goes = none_made K (read kind name next) told.contents old new made goes.1
comes_read K kind name next old new made told (Ok bytes) files rest is quiet_files quiet_link h goes =
    let o = content_of name told.contents in
    let at : o ≡ Some bytes = told_content old.files.told told name (λ o. o ≡ Some bytes) is h.content in
    let on : Follows K (next bytes) (with_file_read name false old) new made =
    subst (λ (f : FilesState). Follows K (next bytes) (record old { files = f }) new made) h.state goes in
    let now : FilesTold = record told { reads = told.reads ++ record { name = name; failed = false } ∷ [] } in
    let telling : (with_file_read name false old).files.told ≡ Some now =
    ap (option_map {T = FilesTold} (λ t. record t { reads = t.reads ++ record { name = name; failed = false } ∷ [] })) is in
    if_some made (λ a e. record {
      log = e.log;
      arrived =
          let talks = choice_read None None (λ bytes. talk_at (next bytes) told.contents) o bytes at h.fits in
          let there = choice_read (with_file_read name true old) (with_file_read name false old) (λ bytes. reached (next bytes) told.contents (with_file_read name false old)) o bytes at h.fits in
          subst (λ (t : Option _). Arrives K t (reached (read kind name next) told.contents old) e.log new) (sym talks)
          (subst (λ (mid : Outside). Arrives K (talk_at (next bytes) told.contents) mid e.log new) (sym there) e.arrived);
      is = e.is ∙ sym (choice_read (read_fault kind) (too_long kind) (λ bytes. output_at (next bytes) told.contents e.log) o bytes at h.fits);
    }) (rest bytes (with_file_read name false old) now telling quiet_files quiet_link on)

comes_talk : {T : Type 0} (K : Talks T) (t : T) (answer : List Move → Output) (old new : Outside) (made : Option Output) (c : Contents) (end : End) (log : List Move)
    → (Rose old.link.faults new.link.faults → ⊥) → K.Talked t old end log new → TalkSays end (answer log) made → Comes K (talk t answer) c old new made
comes_talk K t answer old new made c whole log quiet talked says = if_some made (λ a e. record { log = log; arrived = talked; is = e }) says
comes_talk K t answer old new made c faulted log quiet talked says = let counts = K.counted t old faulted log new talked in absurd (quiet counts.0)
comes_talk K t answer old new made c unfinished log quiet talked says = none_made K (talk t answer) c old new made says

pub comes : {T : Type 0} (K : Talks T) (plan : Plan T) (old new : Outside) (made : Option Output) (told : FilesTold) → old.files.told ≡ Some told
    → (Rose old.files.faults new.files.faults → ⊥) → (Rose old.link.faults new.link.faults → ⊥) → Follows K plan old new made → Comes K plan told.contents old new made
comes K (say answer) old new made told is quiet_files quiet_link h = ends K (say answer) told.contents old old new answer made refl refl (λ log. refl) h.0 h.1
comes K (run plan) old new made told is quiet_files quiet_link (inl h) =
    if_some made (λ a e. record { log = e.log; arrived = e.arrived; is = e.is }) (comes K plan (with_run old) new made told is quiet_files quiet_link h)
comes K (run plan) old new made told is quiet_files quiet_link (inr h) = none_made K (run plan) told.contents old new made h.1
comes K (read kind name next) old new made told is quiet_files quiet_link h =
    comes_read K kind name next old new made told h.0 h.1
    (λ bytes mid now now_is files_quiet link_quiet g. comes K (next bytes) mid new made now now_is files_quiet link_quiet g) is quiet_files quiet_link h.2 h.3
comes K (talk t answer) old new made told is quiet_files quiet_link h = comes_talk K t answer old new made told.contents h.0 h.1 quiet_link h.2 h.3
