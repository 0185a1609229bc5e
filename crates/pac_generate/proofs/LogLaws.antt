-- What the next move does to the replies of a log.
use Rattle.std.proofs.Common.{◌≡◌, ℕ, zero, suc, ◌+◌, ◌<◌, ◌≤◌, List, [], ◌∷◌, ◌++◌, map, take, length, Option, Some, None, refl, sym, ◌∙◌, ap, arith}
use Rattle.std.specs.Prelude.{slice_get, drop}
use Rattle.std.proofs.lemmas.List.{append_assoc, append-nil, map-append, take_all, take_at, length-append}
use Rattle.std.proofs.lemmas.Option.{slice_get_past}
use Rattle.std.specs.List.{cons_option, filter_map}
use Rattle.js_host.specs.Answers.{AnswerMap}
use Rattle.pac_ports.specs.declared.link.Move.{Move}
use Rattle.pac_ports.specs.declared.link.Move.TheVariants as move
use Rattle.pac_ports.specs.declared.link.Servers.{Servers}
use Rattle.pac_ports.specs.declared.link.Which.{Which}
use Rattle.pac_ports.specs.declared.link.Got.{Got}
use Rattle.pac_ports.specs.declared.link.Got.TheVariants as got
use Rattle.poll_log.specs.declared.question.Question.{Question}
use Rattle.poll_log.specs.Flat.{flat_behind}
use Rattle.poll_log.specs.Turns.{Outgoing, Turns, Begin, Then, Event, Given, Tick, with_sent, with_moves, turns_of}
use Rattle.poll_log.specs.Questions.{asked_by, asked_in, questions}
use Rattle.poll_log.proofs.Asking.{asked_in-append}
use Rattle.poll_log.proofs.Grows.{turns_of-append}
use Rattle.pac_generate.specs.Answered.{IsAnswered, reply_from, replies, given, due_reply, event_by}
use Rattle.pac_generate.specs.declared.limits.TheConstants.{MOST_MOVES, MOST_QUESTIONS}
use Rattle.pac_generate.specs.MapLink.{IsKept, MapLinkState, ReceivesDue, event_got, event_move, filled, replies_with}

turns_sent : (log : List Move) (d : Outgoing) → turns_of (log ++ move.Sent d.to d.octets ∷ []) ≡ with_sent (turns_of log) (d ∷ [])
unfolding with_moves flat_behind
turns_sent log d = turns_of-append log (move.Sent d.to d.octets ∷ [])

turns_given : (log : List Move) (octets : List ℕ) → turns_of (log ++ move.Given octets ∷ []) ≡ Then (turns_of log) (Given octets) []
unfolding with_moves flat_behind
turns_given log octets = turns_of-append log (move.Given octets ∷ [])

turns_tick : (log : List Move) → turns_of (log ++ move.Tick ∷ []) ≡ Then (turns_of log) Tick []
unfolding with_moves flat_behind
turns_tick log = turns_of-append log (move.Tick ∷ [])

-- a stream that ended leaves the turns
turns_failed : (log : List Move) (octets : List ℕ) → turns_of (log ++ move.StreamFailed octets ∷ []) ≡ turns_of log
unfolding with_moves flat_behind
turns_failed log octets = turns_of-append log (move.StreamFailed octets ∷ [])

-- ---- a datagram is sent

questions_sent : (h : Turns) (d : Outgoing) → questions (with_sent h (d ∷ [])) ≡ questions h ++ asked_in (d ∷ [])
unfolding questions
questions_sent (Begin sent) d = asked_in-append sent (d ∷ [])
questions_sent (Then before event sent) d =
    ap (λ qs. questions before ++ qs) (asked_in-append sent (d ∷ [])) ∙ sym (append_assoc (questions before) (asked_in sent) (asked_in (d ∷ [])))

front_first : {A : Type 0} (n : ℕ) (xs ys : List A) → take n (take n xs ++ ys) ≡ take n (xs ++ ys)
front_first zero xs ys = refl
front_first (suc n) [] ys = refl
front_first (suc n) (x ∷ xs) ys = ap (λ l. x ∷ l) (front_first n xs ys)

replies_sent : (answers : AnswerMap) (h : Turns) (d : Outgoing) → replies answers (with_sent h (d ∷ [])) ≡ replies_with answers (replies answers h) d.octets
unfolding replies
replies_sent answers h d =
    ap (λ qs. take MOST_QUESTIONS (map (reply_from answers) qs)) (questions_sent h d)
    ∙ ap (take MOST_QUESTIONS) (map-append (reply_from answers) (questions h) (asked_in (d ∷ [])))
    ∙ sym (front_first MOST_QUESTIONS (map (reply_from answers) (questions h)) (map (reply_from answers) (asked_in (d ∷ []))))

given_sent : (h : Turns) (more : List Outgoing) → given (with_sent h more) ≡ given h
unfolding given
given_sent (Begin sent) more = refl
given_sent (Then before (Given datagram) sent) more = refl
given_sent (Then before Tick sent) more = refl

pub answered_sent : (answers : AnswerMap) (h : Turns) (more : List Outgoing) → IsAnswered answers h → IsAnswered answers (with_sent h more)
unfolding IsAnswered
answered_sent answers (Begin sent) more a = tt
answered_sent answers (Then before event sent) more a = a

pub kept_sent : (answers known : AnswerMap) (log : List Move) (kept kept' : List (List ℕ)) (count : ℕ) (to : Which) (octets : List ℕ) → IsKept answers known log kept count
    → kept' ≡ replies_with known kept octets → IsKept answers known (log ++ move.Sent to octets ∷ []) kept' count
kept_sent answers known log kept kept' count to octets k e =
    let d : Outgoing = record { to = to; octets = octets } in
    let turns = turns_sent log d in
    record {
      same = k.same;
      replies =
          e ∙ ap (λ (m : AnswerMap). replies_with m kept octets) k.same ∙ ap (λ (l : List (List ℕ)). replies_with answers l octets) k.replies
          ∙ sym (replies_sent answers (turns_of log) d) ∙ ap (replies answers) (sym turns);
      given = k.given ∙ sym (given_sent (turns_of log) (d ∷ [])) ∙ ap given (sym turns);
      answered = rw turns (answered_sent answers (turns_of log) (d ∷ []) k.answered);
    }

-- ---- an event

replies_then : (answers : AnswerMap) (h : Turns) (event : Event) → replies answers (Then h event []) ≡ replies answers h
unfolding replies questions
replies_then answers h event = ap (λ qs. take MOST_QUESTIONS (map (reply_from answers) qs)) (append-nil (questions h))

-- what is due is kept
pub kept_due : (answers known : AnswerMap) (log : List Move) (kept : List (List ℕ)) (count : ℕ) → IsKept answers known log kept count → due_reply answers (turns_of log) ≡ slice_get kept count
unfolding due_reply
kept_due answers known log kept count k =
    ap (λ (l : List (List ℕ)). slice_get l (given (turns_of log))) (sym k.replies) ∙ ap (slice_get kept) (sym k.given)

answered_then : (answers : AnswerMap) (h : Turns) (event : Event) → IsAnswered answers h → event ≡ event_by (due_reply answers h) → IsAnswered answers (Then h event [])
unfolding IsAnswered
answered_then answers h event a e = (a, e)

given_given : (h : Turns) (octets : List ℕ) → given (Then h (Given octets) []) ≡ given h + 1
unfolding given
given_given h octets = refl

given_tick : (h : Turns) → given (Then h Tick []) ≡ given h
unfolding given
given_tick h = refl

pub kept_given : (answers known : AnswerMap) (log : List Move) (kept : List (List ℕ)) (count : ℕ) (octets : List ℕ) → IsKept answers known log kept count
    → slice_get kept count ≡ Some octets → IsKept answers known (log ++ move.Given octets ∷ []) kept (count + 1)
kept_given answers known log kept count octets k due =
    let turns = turns_given log octets in
    record {
      same = k.same;
      replies = k.replies ∙ sym (replies_then answers (turns_of log) (Given octets)) ∙ ap (replies answers) (sym turns);
      given = ap (λ (n : ℕ). n + 1) k.given ∙ sym (given_given (turns_of log) octets) ∙ ap given (sym turns);
      answered = rw turns (answered_then answers (turns_of log) (Given octets) k.answered (ap event_by (sym (kept_due answers known log kept count k ∙ due))));
    }

pub kept_tick : (answers known : AnswerMap) (log : List Move) (kept : List (List ℕ)) (count : ℕ) → IsKept answers known log kept count
    → slice_get kept count ≡ None → IsKept answers known (log ++ move.Tick ∷ []) kept count
kept_tick answers known log kept count k none =
    let turns = turns_tick log in
    record {
      same = k.same;
      replies = k.replies ∙ sym (replies_then answers (turns_of log) Tick) ∙ ap (replies answers) (sym turns);
      given = k.given ∙ sym (given_tick (turns_of log)) ∙ ap given (sym turns);
      answered = rw turns (answered_then answers (turns_of log) Tick k.answered (ap event_by (sym (kept_due answers known log kept count k ∙ none))));
    }

-- ---- the stream ends

pub kept_failed : (answers known : AnswerMap) (log : List Move) (kept : List (List ℕ)) (count : ℕ) (octets : List ℕ) → IsKept answers known log kept count
    → IsKept answers known (log ++ move.StreamFailed octets ∷ []) kept count
kept_failed answers known log kept count octets k =
    let turns = turns_failed log octets in
    record {
      same = k.same;
      replies = k.replies ∙ ap (replies answers) (sym turns);
      given = k.given ∙ ap given (sym turns);
      answered = rw turns k.answered;
    }

-- ---- a log without moves, and what a datagram adds to the replies

pub kept_new : (answers known : AnswerMap) → known ≡ answers → IsKept answers known [] [] 0
unfolding with_moves flat_behind replies questions given IsAnswered
kept_new answers known same = record { same = same; replies = refl; given = refl; answered = tt }

pub replies_full : (answers : AnswerMap) (kept : List (List ℕ)) (octets : List ℕ) → length kept ≡ MOST_QUESTIONS → kept ≡ replies_with answers kept octets
replies_full answers kept octets full = sym (take_at kept (map (reply_from answers) (filter_map asked_by (octets ∷ []))) MOST_QUESTIONS full)

pub replies_more : (answers : AnswerMap) (kept : List (List ℕ)) (octets : List ℕ) (q : Question) → asked_by octets ≡ Some q → length kept < MOST_QUESTIONS
    → kept ++ reply_from answers q ∷ [] ≡ replies_with answers kept octets
replies_more answers kept octets q asked room =
    sym (take_all MOST_QUESTIONS (kept ++ reply_from answers q ∷ []) (omega (arith, length-append kept (reply_from answers q ∷ []))))
    ∙ ap (λ (r : Option Question). take MOST_QUESTIONS (kept ++ map (reply_from answers) (cons_option r []))) (sym asked)

pub replies_same : (answers : AnswerMap) (kept : List (List ℕ)) (octets : List ℕ) → asked_by octets ≡ None → length kept ≤ MOST_QUESTIONS → kept ≡ replies_with answers kept octets
replies_same answers kept octets none room =
    sym (ap (take MOST_QUESTIONS) (append-nil kept) ∙ take_all MOST_QUESTIONS kept room)
    ∙ ap (λ (r : Option Question). take MOST_QUESTIONS (kept ++ map (reply_from answers) (cons_option r []))) (sym none)

-- ---- what is received

received : (due : Option (List ℕ)) (old new : MapLinkState) (buffer buffer' : List ℕ) (given : Got) (event : Option (List ℕ)) → due ≡ event → length old.log < MOST_MOVES → given ≡ event_got event
    → buffer' ≡ filled event buffer → new ≡ record old { log = old.log ++ event_move event ∷ [] } → ReceivesDue due old buffer given buffer' new
received due old new buffer buffer' given event is allowed answer octets state = rw is (record { allowed = allowed; answer = answer; octets = octets; state = state })

pub received_tick : (answers known : AnswerMap) (old : MapLinkState) (log log' : List Move) (opens : ℕ) (servers : Option Servers) (faults stream_faults : ℕ) (kept : List (List ℕ)) (count : ℕ) (buffer : List ℕ)
    → (record { log = log; opens = opens; servers = servers; faults = faults; stream_faults = stream_faults }) ≡ old → log' ≡ log ++ move.Tick ∷ [] → length log < MOST_MOVES
    → IsKept answers known log kept count → length kept ≤ count
    → ReceivesDue (due_reply answers (turns_of old.log)) old buffer got.Tick buffer (record { log = log'; opens = opens; servers = servers; faults = faults; stream_faults = stream_faults })
received_tick answers known old log log' opens servers faults stream_faults kept count buffer view more allowed k none =
    rw (← view, more)
    (received _ (record { log = log; opens = opens; servers = servers; faults = faults; stream_faults = stream_faults }) _ buffer buffer got.Tick None (kept_due answers known log kept count k ∙ slice_get_past kept count none) allowed refl refl refl)

pub received_reply : (answers known : AnswerMap) (old : MapLinkState) (log log' : List Move) (opens : ℕ) (servers : Option Servers) (faults stream_faults : ℕ) (kept : List (List ℕ)) (count : ℕ) (buffer buffer' octets : List ℕ)
    → (record { log = log; opens = opens; servers = servers; faults = faults; stream_faults = stream_faults }) ≡ old → log' ≡ log ++ move.Given octets ∷ [] → length log < MOST_MOVES
    → IsKept answers known log kept count → slice_get kept count ≡ Some octets → buffer' ≡ octets ++ drop (length octets) buffer
    → ReceivesDue (due_reply answers (turns_of old.log)) old buffer (got.Datagram (length octets)) buffer' (record { log = log'; opens = opens; servers = servers; faults = faults; stream_faults = stream_faults })
received_reply answers known old log log' opens servers faults stream_faults kept count buffer buffer' octets view more allowed k due front =
    rw (← view, more)
    (received _ (record { log = log; opens = opens; servers = servers; faults = faults; stream_faults = stream_faults }) _ buffer buffer' (got.Datagram (length octets)) (Some octets) (kept_due answers known log kept count k ∙ due) allowed refl front refl)
