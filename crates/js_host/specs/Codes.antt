-- The codes of what hosts are seen as, by which a proof tells such values apart.
use Rattle.std.specs.Prelude.{refl}
use Rattle.std.specs.Coded.{Coded, code_by, coded×, coded_list, coded_ℕ, coded_bool}
use Rattle.std.specs.FinMap as map
use Rattle.pac_names.specs.contracts.answer.Answer as answer
use Rattle.pac_names.specs.Codes.{name_code}
use Rattle.js_host.specs.Answers.{AnswerMap, Knowledge}
use Rattle.js_host.specs.Seen.{Seen}

abbrev pub answer_map_code : Coded AnswerMap
answer_map_code = map.code name_code answer.the_row.coded

abbrev pub knowledge_code : Coded Knowledge
knowledge_code =
    code_by _ (coded× answer_map_code coded_bool)
    (λ k. (k.answers, k.is_whole)) (λ p. record { answers = p.0; is_whole = p.1 }) (λ _. refl)

abbrev pub seen_code : Coded Seen
seen_code =
    code_by _ (coded× knowledge_code (coded× (coded_list name_code) (coded_list (coded_list coded_ℕ))))
    (λ s. (s.known, (s.asked, s.alerts))) (λ p. record { known = p.0; asked = p.1.0; alerts = p.1.1 }) (λ _. refl)
