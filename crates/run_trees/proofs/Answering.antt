-- Maps that give the same answers to the names that a run asks.
use Rattle.std.proofs.Common.{◌≡◌, refl, ap, sym, ◌∙◌, subst, List, [], ◌∷◌, ◌++◌, true, false, ◌||◌, if◌then◌else◌, Option, Some, None, arith}
use Rattle.std.specs.Prelude.{unwrap_or, is_none}
use Rattle.std.specs.FinMap as map
use Rattle.std.specs.List.{All}
use Rattle.std.proofs.lemmas.List.Elements.{All-head, All-tail, All-cons}
use Rattle.pac_names.specs.declared.answer.Answer.{Answer}
use Rattle.pac_names.specs.declared.answer.Answer.TheVariants.{NoAddress}
use Rattle.pac_names.specs.Names.{Name}
use Rattle.pac_names.specs.Comparing.{same_name, one_name}
use Rattle.js_host.specs.Answers.{AnswerMap, Extends, answer_in, known_answer, or_no_address, first_missing, partly}
use Rattle.js_host.specs.Seen.{Answered, Refused, was_asked, with_name, is_one_too_many}
use Rattle.run_trees.specs.RunTree.{RunTree, Done, Ask, Tell}
use Rattle.run_trees.specs.WholeRun.{rest_of_run, reply_of, asked_with, after_alert}
use Rattle.run_trees.proofs.Names.{none_in_front}
use Rattle.run_trees.proofs.Walking.{asked-more}

-- ---- what holds of each name

-- of those in front
All-front : (P : Name → Type 0) (xs ys : List Name) → All P (xs ++ ys) → All P xs
All-front P [] ys all = λ k d short. absurd (omega arith)
All-front P (x ∷ xs) ys all =
    All-cons P x xs (All-head P x (xs ++ ys) all) (All-front P xs ys (All-tail P x (xs ++ ys) all))

-- of the last
All-last : (P : Name → Type 0) (xs : List Name) (name : Name) → All P (xs ++ name ∷ []) → P name
All-last P [] name all = All-head P name [] all
All-last P (x ∷ xs) name all = All-last P xs name (All-tail P x (xs ++ name ∷ []) all)

-- of one that was asked
All-asked : (P : Name → Type 0) (xs : List Name) (name : Name) → was_asked xs name ≡ true → All P xs → P name
All-asked P [] name here all = cc
All-asked P (x ∷ xs) name here all =
    elim (same_name name x) as (λ b. same_name name x ≡ b → (b || was_asked xs name) ≡ true → P name) [
      | true ↦ λ same _. subst P (sym ((one_name name x).0 same)) (All-head P x xs all)
      | false ↦ λ apart others. All-asked P xs name others (All-tail P x xs all)
    ] refl here

All-with_name : (P : Name → Type 0) (xs : List Name) (name : Name) → All P (with_name xs name) → P name
All-with_name P xs name all =
    elim (was_asked xs name) as (λ b. was_asked xs name ≡ b → All P (if b then xs else xs ++ name ∷ []) → P name) [
      | true ↦ λ here all. All-asked P xs name here all
      | false ↦ λ new all. All-last P xs name all
    ] refl all

-- ---- the same run

module _ (one other : AnswerMap) where
  -- they give the same answer
  abbrev Agree : Name → Type 0
  Agree name = answer_in one name ≡ answer_in other name

  reply-same : (asked : List Name) (name : Name) → All Agree (asked_with asked name)
      → reply_of one asked name ≡ reply_of other asked name
  reply-same asked name all =
      elim (is_one_too_many asked name) as (λ b. All Agree (if b then asked else with_name asked name)
      → (if b then Refused else Answered (answer_in one name))
      ≡ (if b then Refused else Answered (answer_in other name))) [
        | true ↦ λ all. refl
        | false ↦ λ all. let same : answer_in one name ≡ answer_in other name =
            All-with_name Agree asked name all in ap Answered same
      ] all

  pub rest-same : {End : Type 0} (run : RunTree End) (asked : List Name) → All Agree (rest_of_run one run asked).asked
      → rest_of_run one run asked ≡ rest_of_run other run asked
  unfolding rest_of_run
  rest-same (Done end) asked all = refl
  rest-same (Tell text next) asked all = ap (after_alert text) (rest-same next asked all)
  rest-same (Ask name next) asked all =
      let more = asked-more one (next (reply_of one asked name)) (asked_with asked name) in
      let agree : All Agree (asked_with asked name) =
      All-front Agree (asked_with asked name) more.0 (subst (All Agree) more.1 all) in
      rest-same (next (reply_of one asked name)) (asked_with asked name) all
      ∙ ap (λ reply. rest_of_run other (next reply) (asked_with asked name)) (reply-same asked name agree)

-- ---- a larger map

got_by : (known : Option Answer) → is_none (or_no_address false known) ≡ false
    → (answer : Answer) × (known ≡ Some answer)
got_by (Some answer) e = (answer, refl)
got_by None e = cc

-- a name that a map holds has the same answer in a larger one
agrees : (before after : AnswerMap) (name : Name) → Extends after before
    → is_none (known_answer (partly before) name) ≡ false → answer_in before name ≡ answer_in after name
agrees before after name extends here =
    let got = got_by (map.get before name) here in
    ap (λ o. unwrap_or o NoAddress) (got.1 ∙ sym (extends name got.0 got.1))

pub all_agree : (before after : AnswerMap) (names : List Name) → Extends after before
    → first_missing (partly before) names ≡ None
    → All (λ name. answer_in before name ≡ answer_in after name) names
all_agree before after [] extends none = λ k d short. absurd (omega arith)
all_agree before after (name ∷ names) extends none =
    let parts =
    none_in_front (is_none (known_answer (partly before) name)) name (first_missing (partly before) names) none in
    All-cons (λ name. answer_in before name ≡ answer_in after name) name names
    (agrees before after name extends parts.0) (all_agree before after names extends parts.1)
