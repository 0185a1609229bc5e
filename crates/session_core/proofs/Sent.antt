-- The questions in what is sent.
use Rattle.std.proofs.Common.{◌≡◌, List, [], ◌∷◌, ◌++◌, map, refl, sym, ◌∙◌, ap, subst}
use Rattle.std.specs.List.{All, AllByRecursion, cons_option}
use Rattle.std.proofs.lemmas.List.{map-append}
use Rattle.std.proofs.lemmas.List.Elements.{All-append, recursion_from_All}
use Rattle.poll_log.specs.declared.question.Question.{Question}
use Rattle.poll_log.specs.declared.sending.Sending.{Sending}
use Rattle.poll_log.specs.Questions.{IsQuestion, asked_in, first_sending, new_among, outgoing_of}
use Rattle.poll_log.proofs.Asking.{asked_by-octets_of}
use Rattle.poll_log.proofs.Names.{AllNew, AllSeen, new_among-new}
use Rattle.poll_log.proofs.Outgoing.{questions_of}

-- the questions of sendings are read from what is sent
asked_in-sendings : (ss : List Sending) → AllByRecursion IsQuestion (questions_of ss) → asked_in (map outgoing_of ss) ≡ questions_of ss
asked_in-sendings [] p = refl
asked_in-sendings (s ∷ ss) p =
    ap (λ r. cons_option r (asked_in (map outgoing_of ss))) (asked_by-octets_of s.question p.0) ∙ ap (λ l. s.question ∷ l) (asked_in-sendings ss p.1)

firsts_back : (qs : List Question) → questions_of (map first_sending qs) ≡ qs
firsts_back [] = refl
firsts_back (q ∷ qs) = ap (λ l. q ∷ l) (firsts_back qs)

-- new are those that are sent first
pub newly_sent : (seen asked : List Question) (again : List Sending) → All IsQuestion asked → All IsQuestion (questions_of again) → AllNew seen asked → AllSeen (seen ++ asked) (questions_of again) → new_among seen (asked_in (map outgoing_of (map first_sending asked ++ again))) ≡ asked
newly_sent seen asked again p r new old =
    let both : questions_of (map first_sending asked ++ again) ≡ asked ++ questions_of again = map-append (λ (s : Sending). s.question) (map first_sending asked) again ∙ ap (λ l. l ++ questions_of again) (firsts_back asked) in
    ap (new_among seen) (asked_in-sendings (map first_sending asked ++ again) (subst (AllByRecursion IsQuestion) (sym both) (recursion_from_All IsQuestion (asked ++ questions_of again) (All-append IsQuestion asked (questions_of again) p r))) ∙ both)
    ∙ new_among-new seen asked (questions_of again) new old
