-- The link has room for all moves of a log where names are few.
use Rattle.std.proofs.Common.{◌≡◌, ℕ, suc, ◌+◌, true, List, [], ◌∷◌, ◌++◌, length, map, Option, refl, sym, ◌∙◌, ap, subst, arith}
use Rattle.std.specs.List.{list_any}
use Rattle.std.proofs.lemmas.List.{length-append, length-map, length_push}
use Rattle.std.proofs.lemmas.List.Elements.{All-nil}
use Rattle.js_host.specs.Answers.{AnswerMap}
use Rattle.pac_ports.specs.declared.link.Move.{Move}
use Rattle.poll_log.specs.declared.question.Question.{Question}
use Rattle.poll_log.specs.declared.terms.Terms.{Terms}
use Rattle.poll_log.specs.Turns.{Outgoing, Turns, Begin, Then, sends, turns_of, with_sent}
use Rattle.poll_log.specs.Questions.{IsQuestion, asked_in, firsts, outgoing_from, questions}
use Rattle.poll_log.specs.Told.{Map, is_dead, told}
use Rattle.poll_log.specs.Jobs.{IsOwed, Job, SendsOwed, WaitsBefore, waits_unless}
use Rattle.poll_log.specs.Rounds.{Framing, Opening, Round, Rounds, arrival_move, event_at, framing_moves, moves_of, sent_move, turns_in, unfinished}
use Rattle.poll_log.specs.Streamed.{IsStreamed}
use Rattle.poll_log.proofs.Dues.{asked_now, firsts_proper}
use Rattle.poll_log.proofs.Rounds.{turns_of_rounds}
use Rattle.poll_log.proofs.TurnLaws.{questions-begin, questions-then}
use Rattle.pac_generate.specs.Answered.{IsAnswered}
use Rattle.pac_generate.proofs.LogLaws.{answered_sent}
use Rattle.memory_talk.specs.Laws.{AreUnframed, LinkHasRoom, SoundJobsAskFew, events_of, reply_event}
use Rattle.memory_talk.proofs.Few.{all_sent, few_names}
use Rattle.memory_talk.proofs.Prompt.{awaited, next_due}
use Rattle.memory_talk.proofs.Replied.{laws, prompt, room}
use Rattle.memory_talk.proofs.Unframed.{none_sent}

pub sound_few : SoundJobsAskFew
sound_few task sound low waits =
    record {
      restartable = sound.restartable;
      answered = omega (arith, low);
      early = omega (arith, low, waits);
      tried = sound.terms.tried;
    }

-- ---- how many moves a log has

abbrev size : Turns → ℕ
size h = length (sends h) + length (events_of h)

size_rounds : (rounds : Rounds) → AreUnframed rounds → size (turns_in rounds) ≡ length (moves_of rounds)
unfolding moves_of turns_in AreUnframed sends events_of
size_rounds (Opening sent) none = let long = length-map sent sent_move in omega (arith, long)
size_rounds (Round before arrival sent framing) none =
    let rest = size_rounds before none.0 in
    let framed : length (framing_moves framing) ≡ 0 = ap (λ (f : Option Framing). length (framing_moves f)) none.1 in
    let long = length-map sent sent_move in
    let behind = length-append (map sent_move sent) (framing_moves framing) in
    let moves = length-append (moves_of before) (arrival_move arrival ∷ (map sent_move sent ++ framing_moves framing)) in
    let sendings = length-append (sends (turns_in before)) sent in
    let came = length_push (events_of (turns_in before)) (event_at (unfinished before) arrival) in
    omega (arith, rest, framed, long, behind, moves, sendings, came)

size_of : (answers : AnswerMap) (t : Terms) (owed : Option Question) (log : List Move) → IsStreamed t owed log → IsAnswered answers (turns_of log) → size (turns_of log) ≡ length log
size_of answers t owed log s answered =
    let turns : turns_of log ≡ turns_in s.rounds = ap turns_of (sym s.moves) ∙ turns_of_rounds s.rounds in
    let none = none_sent answers t owed s.rounds (subst (IsAnswered answers) turns answered) s.framed in
    ap size turns ∙ size_rounds s.rounds none.0 ∙ ap length s.moves

-- so many questions are so many datagrams
length_out : (earlier qs : List Question) → length (outgoing_from earlier qs) ≡ length qs
unfolding outgoing_from
length_out earlier [] = refl
length_out earlier (q ∷ qs) = ap suc (length_out (earlier ++ q ∷ []) qs)

-- each send of a log with the sends that are owed is a question
module _ (t : Terms) (jobs : List Job) where
  turn_asks : (earlier before : List Question) (turns : Turns) (sent : List Outgoing) → (o : IsOwed t jobs earlier before turns sent) → asked_in sent ≡ o.fresh ++ o.again → length sent ≡ length (asked_in sent)
  turn_asks earlier before turns sent o asked = ap length o.out ∙ length_out earlier (o.fresh ++ o.again) ∙ ap length (sym asked)

  sends_ask : (h : Turns) → SendsOwed t jobs h → length (sends h) ≡ length (questions h)
  unfolding sends
  sends_ask (Begin sent) o = turn_asks [] [] (Begin sent) sent o (asked_now t jobs [] [] (Begin sent) sent o (All-nil IsQuestion)) ∙ ap length (sym (questions-begin sent))
  sends_ask (Then h e sent) o =
      let before = sends_ask h o.0 in
      let now = turn_asks (questions h) (firsts h) (Then h e sent) sent o.1 (asked_now t jobs (questions h) (firsts h) (Then h e sent) sent o.1 (firsts_proper t jobs h o.0)) in
      let all : length (questions (Then h e sent)) ≡ length (questions h) + length (asked_in sent) = ap length (questions-then h e sent) ∙ length-append (questions h) (asked_in sent) in
      let long = length-append (sends h) sent in
      omega (arith, before, now, all, long)

-- ---- more sends in the last turn

told_sent : (t : Terms) (h : Turns) (more : List Outgoing) → told t (with_sent h more) ≡ told t h
unfolding told
told_sent t (Begin sent) more = refl
told_sent t (Then h e sent) more = refl

pub waits_sent : (t : Terms) (jobs : List Job) (h : Turns) (more : List Outgoing) → WaitsBefore t jobs h → WaitsBefore t jobs (with_sent h more)
waits_sent t jobs (Begin sent) more w = w
waits_sent t jobs (Then h e sent) more w = w

size_sent : (h : Turns) (more : List Outgoing) → size (with_sent h more) ≡ size h + length more
unfolding sends events_of
size_sent (Begin sent) more = let all = length-append sent more in omega (arith, all)
size_sent (Then h e sent) more =
    let all = length-append sent more in
    let old = length-append (sends h) sent in
    let new = length-append (sends h) (sent ++ more) in
    omega (arith, all, old, new)

pub has_room : LinkHasRoom
has_room most answers t jobs owed log small few streamed cut answered waits =
    let h : Turns = turns_of log in
    let whole : Turns = with_sent h cut.unsent in
    let p = prompt most answers small t jobs few whole cut.sends (waits_sent t jobs h cut.unsent cut.waits) (answered_sent answers h cut.unsent answered) in
    let lacks : list_any (λ (job : Job). waits_unless (is_dead t h) (job (told t whole))) jobs ≡ true =
    ap (λ (M : Map). list_any (λ (job : Job). waits_unless (is_dead t h) (job M)) jobs) (told_sent t h cut.unsent) ∙ waits in
    let next = next_due answers t whole p (awaited most t whole (is_dead t h) jobs (laws most answers small t jobs few) (all_sent t jobs whole cut.sends) lacks) in
    let one = room most answers small t jobs few whole cut.sends p next.question next.rest next.parts in
    let named = few_names most t jobs (laws most answers small t jobs few) whole cut.sends in
    let asked : length (sends whole) ≡ length (firsts whole) = sends_ask t jobs whole cut.sends ∙ ap length (p.once ∙ sym p.names) in
    let came : length (events_of whole) ≡ length p.done = ap length p.came ∙ length-map p.done (reply_event answers) in
    let all = few.answered in
    let log_size = size_of answers t owed log streamed answered in
    let whole_size = size_sent h cut.unsent in
    omega (arith, one, named, asked, came, all, log_size, whole_size)
