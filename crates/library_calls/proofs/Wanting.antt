-- A name that is wanted was not told.
use Rattle.std.proofs.Common.{◌≡◌, ◌∙◌, ℕ, ℤ, List, [], ◌∷◌, Bool, true, false, Option, Some, None, Result, Ok, Err, ap, refl, subst, sym}
use Rattle.std.specs.Prelude.{cond, find, if◌then◌else◌, is_none, nat_lt, length}
use Rattle.std.specs.FinMap as finite
use Rattle.std.specs.Str.{is_utf8}
use Rattle.utf16_text.specs.Decode.{decoded_units}
use Rattle.utf16_text.specs.declared.limits.TheConstants.{LONGEST_FILE}
use Rattle.pac_names.specs.declared.answer.Answer.{Answer}
use Rattle.pac_names.specs.declared.kind.NameKind.{NameKind}
use Rattle.pac_names.specs.Names.{Name}
use Rattle.js_host.specs.Answers.{AnswerMap, known_answer, or_no_address, partly}
use Rattle.js_tree.specs.Tree.{StatementTree}
use Rattle.js_grammar.specs.Statements.{script_of_text}
use Rattle.run_trees.specs.WholeRun.{asked_names}
use Rattle.batch_text.specs.Names as names
use Rattle.batch_text.specs.Told.{told_in, told_whole, read_whole}
use Rattle.batch_text.specs.View.{Seen, view_of}
use Rattle.batch_text.proofs.Telling.{untold}
use Rattle.library_calls.specs.declared.settings.Settings.{Settings}
use Rattle.library_calls.specs.declared.told.Status.TheVariants as status
use Rattle.library_calls.specs.Settings.{are_in_range, bad_settings, zone_in}
use Rattle.library_calls.specs.Told.{Told, read_as, read_then}
use Rattle.library_calls.specs.Inputs.{names_in, or_told, refused_names, refused_script, refused_url, script_in, seen_or_told, too_long, url_in}
use Rattle.library_calls.specs.Finding.{Asked, asked_for, asked_in, first_wanted, found_proxy, mapped_text, report_told, told_by, told_of_run}
use Rattle.library_calls.specs.Laws.{WantedIsUntold}

-- ---- what is refused wants no name

abbrev WantsNone : Told → Type 0
WantsNone told = told.status ≡ status.NameWanted → ⊥

abbrev Refuses : {A : Type 0} → Result A Told → Type 0
Refuses (Ok a) = Unit {0}
Refuses (Err told) = WantsNone told

too_long_wants : WantsNone too_long
too_long_wants wants = cc

settings_refuse : (settings : Settings) → Refuses (zone_in settings)
settings_refuse settings = by (are_in_range settings) _
  where
    by : (b : Bool) (zone : ℤ) → Refuses (if b then Ok zone else Err bad_settings)
    by true zone = tt
    by false zone = λ wants. cc

told_refuse : {A E : Type 0} (read : Result A E) (refused : E → Told) → ((e : E) → WantsNone (refused e)) → Refuses (or_told read refused)
told_refuse (Ok a) refused never = tt
told_refuse (Err e) refused never = never e

short_refuse : {A : Type 0} (b : Bool) (read : Result A Told) → Refuses read → Refuses (if b then Err too_long else read)
short_refuse true read refuses = too_long_wants
short_refuse false read refuses = refuses

script_refuses : (bytes : List ℕ) → Refuses (script_in bytes)
script_refuses bytes =
    short_refuse (nat_lt LONGEST_FILE (length bytes)) _
    (told_refuse (script_of_text (decoded_units bytes)) refused_script (λ refusal wants. cc))

names_refuse : (bytes : List ℕ) → Refuses (names_in bytes)
names_refuse bytes =
    short_refuse (nat_lt LONGEST_FILE (length bytes)) _ (told_refuse (told_in bytes) refused_names (λ refusal wants. cc))

url_wants : WantsNone refused_url
url_wants wants = cc

seen_refuses : (seen : Option Seen) → Refuses (seen_or_told seen)
seen_refuses (Some seen) = tt
seen_refuses None = url_wants

url_refuses : (bytes : List ℕ) → Refuses (url_in bytes)
url_refuses bytes = by (is_utf8 bytes)
  where
    by : (b : Bool) → Refuses (if b then seen_or_told (view_of bytes) else Err refused_url)
    by true = seen_refuses (view_of bytes)
    by false = url_wants

read_as_refuses : {A B : Type 0} (view : A → B) (read : Result A Told) → Refuses read → Refuses (read_as view read)
read_as_refuses view (Ok a) refuses = tt
read_as_refuses view (Err told) refuses = refuses

asked_refuse : (settings : Settings) (zone : ℤ) (script : List StatementTree) (url : List ℕ) → Refuses (asked_in settings zone script url)
asked_refuse settings zone script url = read_as_refuses (asked_for settings zone script) (url_in url) (url_refuses url)

-- what holds of each told text that wants none, and of what comes behind, holds of the whole
keeps : {A : Type 0} (P : Told → Type 0) (read : Result A Told) (next : A → Told) → ((told : Told) → WantsNone told → P told)
    → Refuses read → ((a : A) → read ≡ Ok a → P (next a)) → P (read_then read next)
keeps P (Ok a) next holds refuses more = more a refl
keeps P (Err told) next holds refuses more = holds told refuses

-- ---- what is wanted has no answer

found_passes : {A : Type 0} (test : A → Bool) (xs : List A) (a : A) → find test xs ≡ Some a → test a ≡ true
found_passes test [] a found = cc
found_passes test (x ∷ xs) a found =
    elim (test x) as (λ b. test x ≡ b → cond b (Some x) (find test xs) ≡ Some a → test a ≡ true) [
      | true ↦ λ passes is. cc
      | false ↦ λ _ is. found_passes test xs a is
    ] refl found

lacks : (found : Option Answer) → is_none (or_no_address false found) ≡ true → found ≡ None
lacks None is = refl
lacks (Some answer) is = cc

abbrev is_read : AnswerMap → Result AnswerMap Told
is_read known = Ok known

abbrev is_told : AnswerMap → names.NamesRead
is_told known = Ok known

-- the names are told whole
told_names : (told : List ℕ) (known answers : AnswerMap) → names_in told ≡ is_read known → names.names_in told ≡ is_told answers
    → told_whole answers ≡ known
told_names told known answers read named =
    by (nat_lt LONGEST_FILE (length told))
    (ap (λ (r : names.NamesRead). if nat_lt LONGEST_FILE (length told) then Err too_long else or_told r refused_names)
    (sym (ap read_whole named)) ∙ read)
  where
    by : (b : Bool) → (if b then Err too_long else is_read (told_whole answers)) ≡ is_read known → told_whole answers ≡ known
    by true is = cc
    by false is = cc

-- ---- the law

module _ (told : List ℕ) (answers : AnswerMap) (named : names.names_in told ≡ is_told answers) (kind : NameKind) where
  abbrev IsUntold : Told → Type 0
  IsUntold t = t.status ≡ status.NameWanted → finite.get answers (record { kind = kind; text = t.bytes }) ≡ None

  wants_none : (t : Told) → WantsNone t → IsUntold t
  wants_none t none wants = absurd (none wants)

  run_wants : (all known : AnswerMap) (asked : Asked) → names_in told ≡ is_read known → IsUntold (told_of_run all known asked)
  run_wants all known asked read = by (first_wanted all known asked) refl
    where
      by : (wanted : Option Name) → first_wanted all known asked ≡ wanted → IsUntold (told_by wanted (mapped_text all asked))
      by None is = λ wants. cc
      by (Some name) is = λ _.
          let none : finite.get known name ≡ None =
          lacks (finite.get known name)
          (found_passes (λ n. is_none (known_answer (partly known) n)) (asked_names all (asked.script asked.entry)) name is) in
          untold answers name kind
          (ap (λ (m : AnswerMap). finite.get m name) (told_names told known answers read named) ∙ none)

  found_wants : (all : AnswerMap) (script url : List ℕ) (settings : Settings) → IsUntold (found_proxy all script url told settings)
  found_wants all script url settings =
      keeps IsUntold (zone_in settings) _ wants_none (settings_refuse settings) (λ zone _.
      keeps IsUntold (script_in script) _ wants_none (script_refuses script) (λ tree _.
      keeps IsUntold (names_in told) _ wants_none (names_refuse told) (λ known read.
      keeps IsUntold (asked_in settings zone tree url) _ wants_none (asked_refuse settings zone tree url) (λ asked _.
      run_wants all known asked read))))

pub wanted_is_untold : WantedIsUntold
wanted_is_untold all answers script url told settings kind wants named =
    found_wants told answers named kind all script url settings wants
