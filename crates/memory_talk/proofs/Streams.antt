-- No frame is owed behind a log that is answered from a map.
use Rattle.std.proofs.Common.{◌≡◌, List, [], Option, None, refl, sym, ◌∙◌, ap, subst}
use Rattle.js_host.specs.Answers.{AnswerMap}
use Rattle.pac_ports.specs.declared.link.Move.{Move}
use Rattle.poll_log.specs.declared.question.Question.{Question}
use Rattle.poll_log.specs.declared.terms.Terms.{Terms}
use Rattle.poll_log.specs.Turns.{turns_of}
use Rattle.poll_log.specs.Rounds.{Opening, moves_of, turns_in}
use Rattle.poll_log.specs.Streamed.{AreFramed, IsStreamed}
use Rattle.poll_log.proofs.Rounds.{turns_of_rounds}
use Rattle.pac_generate.specs.Answered.{IsAnswered}
use Rattle.memory_talk.proofs.Unframed.{none_sent}

-- a log without moves
pub streamed_none : (t : Terms) → IsStreamed t None []
unfolding moves_of AreFramed
streamed_none t = record { rounds = Opening []; moves = refl; framed = refl }

pub none_owed : (answers : AnswerMap) (t : Terms) (owed : Option Question) (log : List Move) → IsStreamed t owed log → IsAnswered answers (turns_of log) → IsStreamed t None log
none_owed answers t owed log s answered =
    let turns : turns_of log ≡ turns_in s.rounds = ap turns_of (sym s.moves) ∙ turns_of_rounds s.rounds in
    let none = (none_sent answers t owed s.rounds (subst (IsAnswered answers) turns answered) s.framed).1 in
    subst (λ (o : Option Question). IsStreamed t o log) none s
