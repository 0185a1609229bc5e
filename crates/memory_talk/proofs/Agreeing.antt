-- The whole runs of a log that is answered from a map are those against the map.
use Rattle.std.proofs.Common.{◌≡◌, List, [], ◌∷◌, None, Some, sym, ◌∙◌, ap, subst}
use Rattle.std.specs.Prelude.{unwrap_or}
use Rattle.std.specs.List.{All}
use Rattle.std.proofs.lemmas.List.Elements.{All-cons, All-nil}
use Rattle.pac_names.specs.declared.answer.Answer.{Answer}
use Rattle.pac_names.specs.declared.answer.Answer.TheVariants.{NoAddress}
use Rattle.pac_names.specs.Names.{Name}
use Rattle.js_host.specs.Answers.{AnswerMap, answer_in}
use Rattle.run_trees.proofs.Answering.{rest-same}
use Rattle.poll_log.specs.Told.{Map, told}
use Rattle.poll_log.specs.Laws.{first_lacking}
use Rattle.session_log.specs.Asked.{asked_in}
use Rattle.session_log.specs.Sessions.{Holds}
use Rattle.session_log.proofs.Asking.{held_parts}
use Rattle.session_log.proofs.Ends.{costs}
use Rattle.memory_talk.specs.Laws.{AgreesWithTheMap}
use Rattle.memory_talk.proofs.Told.{told_is_maps}

-- names that are told have the map's answers in each map that holds them
same_answers : (known : Map) (all answers : AnswerMap) → Holds all known → ((n : Name) (x : Answer) → known n ≡ Some x → answer_in answers n ≡ x)
    → (names : List Name) → first_lacking names known ≡ None → All (λ n. answer_in all n ≡ answer_in answers n) names
same_answers known all answers holds is [] held = All-nil (λ n. answer_in all n ≡ answer_in answers n)
same_answers known all answers holds is (n ∷ names) held =
    let parts = held_parts known n names held in
    All-cons (λ m. answer_in all m ≡ answer_in answers m) n names
    (ap (λ r. unwrap_or r NoAddress) (holds n parts.0.0 parts.0.1) ∙ sym (is n parts.0.0 parts.0.1))
    (same_answers known all answers holds is names parts.1)

pub agrees : {End : Type 0} → AgreesWithTheMap End
agrees answers terms turns run small answered finished all holds =
    rest-same all answers run []
    (subst (All (λ n. answer_in all n ≡ answer_in answers n)) (sym ((costs terms turns run).whole finished all holds))
    (same_answers (told terms turns) all answers holds (told_is_maps answers terms turns small answered) (asked_in run (told terms turns)) finished))
