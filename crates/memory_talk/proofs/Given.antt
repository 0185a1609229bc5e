-- Each datagram that is given replies to a question that was sent.
use Rattle.std.proofs.Common.{◌≡◌, ℕ, zero, suc, List, [], ◌∷◌, ◌++◌, map, take, Option, Some, None, refl}
use Rattle.std.specs.Prelude.{slice_get}
use Rattle.std.specs.List.{AllByRecursion, cons_option}
use Rattle.js_host.specs.Answers.{AnswerMap}
use Rattle.poll_log.specs.declared.question.Question.{Question}
use Rattle.poll_log.specs.Turns.{Outgoing, Turns, Begin, Then, Given, Tick}
use Rattle.poll_log.specs.Questions.{IsQuestion, asked_by, asked_in, questions}
use Rattle.poll_log.proofs.Asking.{asked_name_is}
use Rattle.poll_log.proofs.Names.{none_some}
use Rattle.pac_generate.specs.Answered.{due_reply, event_by, given, replies, reply_from}
use Rattle.pac_generate.proofs.Asked.{asked_number}
use Rattle.pac_generate.specs.declared.limits.TheConstants.{MOST_QUESTIONS}

-- ---- what is read as a question is one

asked_proper : (sent : List Outgoing) → AllByRecursion IsQuestion (asked_in sent)
asked_proper [] = tt
asked_proper (d ∷ sent) = go (asked_by d.octets) refl (asked_proper sent)
  where
    go : (r : Option Question) → asked_by d.octets ≡ r → AllByRecursion IsQuestion (asked_in sent) → AllByRecursion IsQuestion (cons_option r (asked_in sent))
    go None e rest = rest
    go (Some q) e rest = (record { number = asked_number d.octets q e; name = asked_name_is d.octets q e }, rest)

both_proper : (xs ys : List Question) → AllByRecursion IsQuestion xs → AllByRecursion IsQuestion ys → AllByRecursion IsQuestion (xs ++ ys)
both_proper [] ys h k = k
both_proper (x ∷ xs) ys h k = (h.0, both_proper xs ys h.1 k)

pub questions_proper : (turns : Turns) → AllByRecursion IsQuestion (questions turns)
unfolding questions
questions_proper (Begin sent) = asked_proper sent
questions_proper (Then before event sent) = both_proper (questions before) (asked_in sent) (questions_proper before) (asked_proper sent)

-- ---- what is given

-- a datagram is the reply to a question
pub record IsReplyFrom (answers : AnswerMap) (datagram : List ℕ) : Type 0 where
  pub question : Question
  pub proper : IsQuestion question
  pub octets : datagram ≡ reply_from answers question

reply_among : (answers : AnswerMap) (qs : List Question) → AllByRecursion IsQuestion qs → (i : ℕ) (datagram : List ℕ) → slice_get (map (reply_from answers) qs) i ≡ Some datagram → IsReplyFrom answers datagram
reply_among answers [] proper i datagram e = none_some datagram e
reply_among answers (q ∷ qs) proper zero datagram e = record { question = q; proper = proper.0; octets = cc }
reply_among answers (q ∷ qs) proper (suc i) datagram e = reply_among answers qs proper.1 i datagram e

in_front : {A : Type 0} (n : ℕ) (xs : List A) (i : ℕ) (x : A) → slice_get (take n xs) i ≡ Some x → slice_get xs i ≡ Some x
in_front zero xs i x e = none_some x e
in_front (suc n) [] i x e = none_some x e
in_front (suc n) (y ∷ ys) zero x e = e
in_front (suc n) (y ∷ ys) (suc i) x e = in_front n ys i x e

due_is_reply : (answers : AnswerMap) (turns : Turns) (datagram : List ℕ) → due_reply answers turns ≡ Some datagram → IsReplyFrom answers datagram
unfolding due_reply replies
due_is_reply answers turns datagram e =
    reply_among answers (questions turns) (questions_proper turns) (given turns) datagram (in_front MOST_QUESTIONS (map (reply_from answers) (questions turns)) (given turns) datagram e)

given_was_due : (due : Option (List ℕ)) (datagram : List ℕ) → Given datagram ≡ event_by due → due ≡ Some datagram
given_was_due (Some octets) datagram e =
    let same : Given datagram ≡ Given octets = e in
    cc
given_was_due None datagram e =
    let same : Given datagram ≡ Tick = e in
    cc

pub given_is_reply : (answers : AnswerMap) (turns : Turns) (datagram : List ℕ) → Given datagram ≡ event_by (due_reply answers turns) → IsReplyFrom answers datagram
given_is_reply answers turns datagram e = due_is_reply answers turns datagram (given_was_due (due_reply answers turns) datagram e)
