-- What a run over a host says of the whole run, from any point on.
use Rattle.std.proofs.Common.{◌≡◌, ℕ, refl, ap, sym, ◌∙◌, subst, List, [], ◌∷◌, ◌++◌, Bool, true, false, if◌then◌else◌, Option, Some, None, append_assoc, append-nil}
use Rattle.std.specs.Prelude.{unwrap_or, is_none}
use Rattle.std.specs.FinMap as map
use Rattle.pac_names.specs.declared.answer.Answer.{Answer}
use Rattle.pac_names.specs.declared.answer.Answer.TheVariants.{NoAddress}
use Rattle.pac_names.specs.Names.{Name}
use Rattle.js_host.specs.Answers.{AnswerMap, Knowledge, Completes, answer_in, known_answer, or_no_address, first_missing}
use Rattle.js_host.specs.Seen.{Seen, Reply, Answered, Refused, Replies, was_asked, with_name, is_one_too_many, lookup_by, with_alert, kept_alerts}
use Rattle.run_trees.specs.RunTree.{RunTree, Done, Ask, Tell, Walked, Ended, Stopped, with_lookup, walk}
use Rattle.run_trees.specs.WholeRun.{WholeRun, rest_of_run, reply_of, asked_with, names_to, after_alert}
use Rattle.run_trees.proofs.Names.{lacks, first_missing-last, first_missing-front, first_missing-with_name, was_asked-missing, names_to-append}
use Rattle.run_trees.proofs.Kept.{with_alert-kept}

-- ---- the names of the rest of a run stand behind those before

with_name-more : (asked : List Name) (name : Name) → (more : List Name) × (with_name asked name ≡ asked ++ more)
with_name-more asked name =
    elim (was_asked asked name) as (λ b. (more : List Name) × ((if b then asked else asked ++ name ∷ []) ≡ asked ++ more)) [
      | true ↦ ([], sym (append-nil asked))
      | false ↦ (name ∷ [], refl)
    ]

asked_with-more : (asked : List Name) (name : Name) → (more : List Name) × (asked_with asked name ≡ asked ++ more)
asked_with-more asked name =
    elim (is_one_too_many asked name) as (λ b. (more : List Name) × ((if b then asked else with_name asked name) ≡ asked ++ more)) [
      | true ↦ ([], sym (append-nil asked))
      | false ↦ with_name-more asked name
    ]

pub asked-more : {End : Type 0} (all : AnswerMap) (run : RunTree End) (asked : List Name)
    → (more : List Name) × ((rest_of_run all run asked).asked ≡ asked ++ more)
unfolding rest_of_run
asked-more all (Done end) asked = ([], sym (append-nil asked))
asked-more all (Tell text next) asked = asked-more all next asked
asked-more all (Ask name next) asked =
    let first = asked_with-more asked name in
    let others = asked-more all (next (reply_of all asked name)) (asked_with asked name) in
    (first.0 ++ others.0, others.1 ∙ ap (λ names. names ++ others.0) first.1 ∙ append_assoc asked first.0 others.0)

-- ---- what a run over a host says of the rest of a whole run, where these alerts were told before

pub record Reaches {End : Type 0} (known : Knowledge) (told : List (List ℕ)) (rest : WholeRun End) (end : End)
    (after : Seen) : Type 0 where
  pub end_is : rest.end ≡ end
  pub asked_is : rest.asked ≡ after.asked
  pub alerts_are : kept_alerts (told ++ rest.alerts) ≡ after.alerts
  pub known_is : after.known ≡ known
  pub none_missing : first_missing known after.asked ≡ None

pub record StopsAt {End : Type 0} (known : Knowledge) (rest : WholeRun End) (name : Name) (after : Seen) : Type 0 where
  pub asked_is : names_to name rest.asked ≡ after.asked
  pub known_is : after.known ≡ known
  pub first_is : first_missing known rest.asked ≡ Some name

abbrev pub Says : {End : Type 0} → Knowledge → List (List ℕ) → WholeRun End → Walked End → Type 0
Says known told rest (Ended end after) = Reaches known told rest end after
Says known told rest (Stopped name after) = StopsAt known rest name after

-- one alert more
told_more : {End : Type 0} (known : Knowledge) (told : List (List ℕ)) (text : List ℕ) (rest : WholeRun End)
    (walked : Walked End)
    → Says known (told ++ text ∷ []) rest walked → Says known told (after_alert text rest) walked
told_more known told text rest (Ended end after) says =
    record {
      end_is = says.end_is;
      asked_is = says.asked_is;
      alerts_are = ap kept_alerts (sym (append_assoc told (text ∷ []) rest.alerts)) ∙ says.alerts_are;
      known_is = says.known_is;
      none_missing = says.none_missing;
    }
told_more known told text rest (Stopped name after) says =
    record { asked_is = says.asked_is; known_is = says.known_is; first_is = says.first_is }

-- a map that completes what is known gives the answers that are known
known_in : (all : AnswerMap) (known : Knowledge) (name : Name) (answer : Answer) → Completes all known
    → (held : Option Answer) → map.get known.answers name ≡ held → (is_whole : Bool) → known.is_whole ≡ is_whole
    → or_no_address is_whole held ≡ Some answer → answer_in all name ≡ answer
known_in all known name answer completes (Some held) e is_whole w h =
    let same : held ≡ answer = cc in
    ap (λ o. unwrap_or o NoAddress) (completes.extends name held e) ∙ same
known_in all known name answer completes None e true w h =
    let same : NoAddress ≡ answer = cc in
    ap (λ m. answer_in m name) (completes.alone w) ∙ ap (λ o. unwrap_or o NoAddress) e ∙ same
known_in all known name answer completes None e false w h = cc

pub answer_in-known : (all : AnswerMap) (known : Knowledge) (name : Name) (answer : Answer) → Completes all known
    → known_answer known name ≡ Some answer → answer_in all name ≡ answer
answer_in-known all known name answer completes h =
    known_in all known name answer completes (map.get known.answers name) refl known.is_whole refl h

-- ---- the run from any point on

-- what was seen: what is known, these names, and what is kept of these alerts
abbrev seen_of : Knowledge → List Name → List (List ℕ) → Seen
seen_of known asked told = record { known = known; asked = asked; alerts = kept_alerts told }

module _ {End : Type 0} (all : AnswerMap) (known : Knowledge) (completes : Completes all known) where
  -- at a question whose reply and answer are these
  at_question : (name : Name) (next : Reply → RunTree End) (asked : List Name) (told : List (List ℕ))
      → first_missing known asked ≡ None
      → ((reply : Reply) (asked : List Name) → first_missing known asked ≡ None → Says known told (rest_of_run all (next reply) asked) (walk (next reply) (seen_of known asked told)))
      → (b : Bool) → is_one_too_many asked name ≡ b → (o : Option Answer) → known_answer known name ≡ o
      → Says known told (rest_of_run all (next (if b then Refused else Answered (answer_in all name))) (if b then asked else with_name asked name))
      (with_lookup name (λ reply. walk (next reply)) (if b then Replies Refused (seen_of known asked told) else lookup_by o (seen_of known (with_name asked name) told)))
  at_question name next asked told none rest true e o h = rest Refused asked none
  at_question name next asked told none rest false e (Some answer) h =
      let here : lacks known name ≡ false = ap is_none h in
      let same : answer_in all name ≡ answer = answer_in-known all known name answer completes h in
      subst (λ (a : Answer). Says known told (rest_of_run all (next (Answered a)) (with_name asked name)) (walk (next (Answered answer)) (seen_of known (with_name asked name) told))) (sym same)
      (rest (Answered answer) (with_name asked name) (first_missing-with_name known asked name none here))
  at_question name next asked told none rest false e None h =
      let missing : lacks known name ≡ true = ap is_none h in
      let new : was_asked asked name ≡ false = was_asked-missing known asked name none missing in
      let asked_is : with_name asked name ≡ asked ++ name ∷ [] = rw new refl in
      let more = asked-more all (next (Answered (answer_in all name))) (with_name asked name) in
      let names :
      (rest_of_run all (next (Answered (answer_in all name))) (with_name asked name)).asked ≡ asked ++ name ∷ more.0 =
      more.1 ∙ ap (λ names. names ++ more.0) asked_is ∙ append_assoc asked (name ∷ []) more.0 in
      record {
        asked_is = ap (names_to name) names ∙ names_to-append asked more.0 name new ∙ sym asked_is;
        known_is = refl;
        first_is =
            ap (first_missing known) (more.1 ∙ ap (λ names. names ++ more.0) asked_is)
            ∙ first_missing-front known (asked ++ name ∷ []) more.0 name
            (first_missing-last known asked name none missing);
      }

  pub says : (run : RunTree End) (asked : List Name) (told : List (List ℕ)) → first_missing known asked ≡ None
      → Says known told (rest_of_run all run asked) (walk run (seen_of known asked told))
  unfolding rest_of_run walk
  says (Done end) asked told none = record { end_is = refl; asked_is = refl; alerts_are = ap kept_alerts (append-nil told); known_is = refl; none_missing = none }
  says (Tell text next) asked told none =
      told_more known told text (rest_of_run all next asked)
      (walk next (record (seen_of known asked told) { alerts = with_alert (kept_alerts told) text }))
      (subst (λ (alerts : List (List ℕ)). Says known (told ++ text ∷ []) (rest_of_run all next asked) (walk next (record (seen_of known asked told) { alerts = alerts })))
      (sym (with_alert-kept told text)) (says next asked (told ++ text ∷ []) none))
  says (Ask name next) asked told none =
      at_question name next asked told none (λ reply names first. says (next reply) names told first)
      (is_one_too_many asked name) refl (known_answer known name) refl
