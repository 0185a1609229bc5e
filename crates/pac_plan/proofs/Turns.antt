-- The reads of a plan over files that tell.
use Rattle.std.proofs.Common.{◌≡◌, ℕ, ◌+◌, true, false, List, [], ◌∷◌, ◌++◌, Bool, Option, Some, IfSome, Result, Ok, Err, refl, ap, sym, ◌∙◌, subst, append_assoc, append-nil, option_map, inl, inr}
use Rattle.pac_ports.specs.Files.{FilesState, FilesTold, Read, content_of, with_read, HasRead}
use Rattle.pac_ports.specs.declared.files.FilesAnswer.{FilesAnswer}
use Rattle.pac_ports.specs.declared.files.FilesAnswer.TheVariants as why
use Rattle.pac_plan.specs.Plan.{Output, Plan, say, run, read, talk, Outside, Talks}
use Rattle.pac_plan.specs.Follows.{GoesOn, Follows}
use Rattle.pac_plan.specs.Order.{names_at, FailsAtTheLast, ReadsInTurn}
use Rattle.pac_plan.proofs.Completes.{choice_read}
use Rattle.utf16_text.specs.declared.limits.TheConstants.{LONGEST_FILE}

-- no read more
none_more : (names : List (List ℕ)) (told : FilesTold) (now : Option FilesTold) → now ≡ Some told → ReadsInTurn names told now
none_more names told now is = record {
  reads = [];
  now_told = is ∙ ap (λ (rs : List Read). Some (record told { reads = rs })) (sym (append-nil told.reads));
  left = names;
  front = refl;
  last = tt;
}

-- one read more, and it is the last
one_more : (name : List ℕ) (names : List (List ℕ)) (failed : Bool) (told : FilesTold) (now : Option FilesTold)
    → now ≡ Some (record told { reads = told.reads ++ record { name = name; failed = failed } ∷ [] }) → ReadsInTurn (name ∷ names) told now
one_more name names failed told now is = record { reads = record { name = name; failed = failed } ∷ []; now_told = is; left = names; front = refl; last = tt }

goes_well : (name : List ℕ) (reads : List Read) → FailsAtTheLast reads → FailsAtTheLast (record { name = name; failed = false } ∷ reads)
goes_well name [] last = tt
goes_well name (r ∷ rs) last = (refl, last)

-- one read, and then others
then_more : (name : List ℕ) (names others : List (List ℕ)) (told : FilesTold) (now : Option FilesTold) → others ≡ names
    → ReadsInTurn names (record told { reads = told.reads ++ record { name = name; failed = false } ∷ [] }) now → ReadsInTurn (name ∷ others) told now
then_more name names others told now same t = record {
  reads = record { name = name; failed = false } ∷ t.reads;
  now_told = t.now_told ∙ ap (λ (rs : List Read). Some (record told { reads = rs })) (append_assoc told.reads (record { name = name; failed = false } ∷ []) t.reads);
  left = t.left;
  front = ap (λ l. name ∷ l) (t.front ∙ sym same);
  last = goes_well name t.reads t.last;
}

-- what the files tell after a read
told_after : (files : FilesState) (told : FilesTold) (name : List ℕ) (failed : Bool) → files.told ≡ Some told
    → (with_read name failed files).told ≡ Some (record told { reads = told.reads ++ record { name = name; failed = failed } ∷ [] })
told_after files told name failed is = ap (option_map {T = FilesTold} (λ t. record t { reads = t.reads ++ record { name = name; failed = failed } ∷ [] })) is

content_read : (files : Option FilesTold) (told : FilesTold) (name bytes : List ℕ) → files ≡ Some told → IfSome files (λ f. content_of name f.contents ≡ Some bytes) → content_of name told.contents ≡ Some bytes
content_read files told name bytes is h = subst (λ (o : Option FilesTold). IfSome o (λ f. content_of name f.contents ≡ Some bytes)) is h

read_turn : {T : Type 0} (K : Talks T) (kind name : List ℕ) (next : List ℕ → Plan T) (old new : Outside) (made : Option Output) (told : FilesTold) (found : Result (List ℕ) FilesAnswer) (files : FilesState)
    → ((bytes : List ℕ) (mid : Outside) (now : FilesTold) → mid.files.told ≡ Some now → Follows K (next bytes) mid new made → ReadsInTurn (names_at (next bytes) now.contents) now new.files.told)
    → old.files.told ≡ Some told → HasRead old.files name LONGEST_FILE found files
    → GoesOn kind found (λ bytes mid. Follows K (next bytes) mid new made) (record old { files = files }) new made
    → ReadsInTurn (names_at (read kind name next) told.contents) told new.files.told
read_turn K kind name next old new made told (Ok bytes) files rest is h goes =
    let on : Follows K (next bytes) (record old { files = with_read name false old.files }) new made =
    subst (λ (f : FilesState). Follows K (next bytes) (record old { files = f }) new made) h.state goes in
    let at : content_of name told.contents ≡ Some bytes = content_read old.files.told told name bytes is h.content in
    then_more name (names_at (next bytes) told.contents) _ told new.files.told
    (choice_read [] [] (λ bytes. names_at (next bytes) told.contents) (content_of name told.contents) bytes at h.fits)
    (rest bytes (record old { files = with_read name false old.files }) (record told { reads = told.reads ++ record { name = name; failed = false } ∷ [] }) (told_after old.files told name false is) on)
read_turn K kind name next old new made told (Err why.Failed) files rest is h goes =
    one_more name _ true told new.files.told (ap (λ (o : Outside). o.files.told) goes.0 ∙ h.told ∙ told_after old.files told name true is)
read_turn K kind name next old new made told (Err why.TooLong) files rest is h goes =
    one_more name _ false told new.files.told (ap (λ (o : Outside). o.files.told) goes.0 ∙ ap (λ (f : FilesState). f.told) h.state ∙ told_after old.files told name false is)
read_turn K kind name next old new made told (Err why.Memory) files rest is h goes =
    none_more _ told new.files.told (ap (λ (o : Outside). o.files.told) goes.0 ∙ ap (λ (f : FilesState). f.told) h ∙ is)

pub reads_in_turn : {T : Type 0} (K : Talks T) (plan : Plan T) (old new : Outside) (made : Option Output) (told : FilesTold) → old.files.told ≡ Some told
    → Follows K plan old new made → ReadsInTurn (names_at plan told.contents) told new.files.told
reads_in_turn K (say answer) old new made told is h = none_more [] told new.files.told (ap (λ (o : Outside). o.files.told) h.0 ∙ is)
reads_in_turn K (run plan) old new made told is (inl h) = reads_in_turn K plan (record old { runs = old.runs + 1 }) new made told is h
reads_in_turn K (run plan) old new made told is (inr h) = none_more _ told new.files.told (ap (λ (o : Outside). o.files.told) h.0 ∙ is)
reads_in_turn K (read kind name next) old new made told is h =
    read_turn K kind name next old new made told h.0 h.1 (λ bytes mid now now_is g. reads_in_turn K (next bytes) mid new made now now_is g) is h.2 h.3
reads_in_turn K (talk t answer) old new made told is h =
    none_more [] told new.files.told (ap (λ (f : FilesState). f.told) (K.files_kept t old h.0 h.1 new h.2) ∙ is)
