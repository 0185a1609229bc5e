-- For each log there is a map of all names that agrees with it, and each that agrees may be taken.
use Rattle.std.proofs.Common.{◌≡◌, List, [], ◌∷◌, Bool, true, false, cond, Option, Some, None, refl, sym, ◌∙◌, ap}
use Rattle.std.specs.Ordering.{eq_by_cmp}
use Rattle.std.specs.FinMap as map
use Rattle.pac_names.specs.declared.answer.Answer.{Answer}
use Rattle.pac_names.specs.Names.{Name}
use Rattle.pac_names.specs.Comparing.{compare_names, names_total, names_apart}
use Rattle.js_host.specs.Answers.{AnswerMap}
use Rattle.poll_log.specs.declared.terms.Terms.{Terms}
use Rattle.poll_log.specs.Turns.{Turns}
use Rattle.poll_log.specs.Told.{or_else, told}
use Rattle.session_log.specs.Sessions.{Holds}
use Rattle.session_log.proofs.Ends.{told_finite}
use Rattle.url_runs.specs.Resolving.{Completion}
use Rattle.url_runs.specs.Laws.{EachMapIsTaken}

-- that of the names that the log tells
pub completion : Completion
completion = record {
  answers = λ terms turns. (told_finite terms turns).all;
  agrees = λ terms turns n x told. (told_finite terms turns).same n ∙ told;
}

-- ---- a map, but for the names that a log tells

-- these pairs in place of those of the map
over : AnswerMap → List (Name × Answer) → AnswerMap
over all [] = all
over all (e ∷ es) = map.insert (over all es) e.0 e.1

found_or : (b : Bool) (x : Answer) (o p : Option Answer) → cond b (Some x) (or_else o p) ≡ or_else (cond b (Some x) o) p
found_or true x o p = refl
found_or false x o p = refl

over-get : (all : AnswerMap) (es : List (Name × Answer)) (n : Name)
    → map.get (over all es) n ≡ or_else (map.find compare_names n es) (map.get all n)
unfolding over
over-get all [] n = refl
over-get all (e ∷ es) n =
    map.get-insert names_total (over all es) e.0 e.1 n
    ∙ ap (λ o. cond (eq_by_cmp compare_names n e.0) (Some e.1) o) (over-get all es n)
    ∙ found_or (eq_by_cmp compare_names n e.0) e.1 (map.find compare_names n es) (map.get all n)

module _ (all : AnswerMap) (terms : Terms) (turns : Turns) where
  abbrev with_told : AnswerMap
  with_told = over all (map.entries (told_finite terms turns).all)

  with_told-get : (n : Name) → map.get with_told n ≡ or_else (told terms turns n) (map.get all n)
  with_told-get n =
      over-get all (map.entries (told_finite terms turns).all) n
      ∙ ap (λ o. or_else o (map.get all n)) (sym (map.get-entries (told_finite terms turns).all n) ∙ (told_finite terms turns).same n)

  with_told-holds : Holds with_told (told terms turns)
  with_told-holds n x e = with_told-get n ∙ ap (λ o. or_else o (map.get all n)) e

  -- where the map holds what is told, nothing is in another's place
  module _ (holds : Holds all (told terms turns)) where
    same_answer : (n : Name) (o : Option Answer) → told terms turns n ≡ o → or_else o (map.get all n) ≡ map.get all n
    same_answer n None e = refl
    same_answer n (Some x) e = sym (holds n x e)

    with_told-same : with_told ≡ all
    with_told-same = map.same_map names_total names_apart with_told all (λ n.
        with_told-get n ∙ same_answer n (told terms turns n) refl)

pub each_map_is_taken : EachMapIsTaken
each_map_is_taken terms turns all holds = (
  record { answers = with_told all; agrees = with_told-holds all },
  with_told-same all terms turns holds,
)
