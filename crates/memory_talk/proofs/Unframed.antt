-- No reply from a map is truncated, so no frame is due in a log that is answered from it.
use Rattle.std.proofs.Common.{◌≡◌, ℕ, Bool, false, List, [], ◌∷◌, ◌++◌, Option, Some, None, cond, refl, sym, ◌∙◌, ap, subst}
use Rattle.std.specs.Prelude.{option_map}
use Rattle.std.specs.Option.{option_to_list}
use Rattle.std.proofs.lemmas.Bool.{and_left, and_right}
use Rattle.std.proofs.lemmas.List.{append-nil}
use Rattle.pac_names.specs.declared.answer.Answer.{Answer}
use Rattle.pac_names.specs.declared.answer.Answer.TheVariants.{Address, Address6, NoAddress}
use Rattle.pac_names.specs.Names.{Name}
use Rattle.js_host.specs.Answers.{AnswerMap}
use Rattle.dns_message.specs.Header.{header_of}
use Rattle.dns_message.specs.Reply.{answer_for, reply_octets, telling}
use Rattle.dns_message.specs.Truncation.{is_truncated}
use Rattle.poll_log.specs.declared.flight.Flight.{Flight}
use Rattle.poll_log.specs.declared.question.Question.{Question}
use Rattle.poll_log.specs.declared.terms.Terms.{Terms}
use Rattle.poll_log.specs.Moment.{flights_of}
use Rattle.poll_log.specs.Turns.{Turns, Given}
use Rattle.poll_log.specs.Rounds.{Arrival, Datagram, End, Framing, Opening, Piece, Round, Rounds, Silence, event_at, turns_in, unfinished}
use Rattle.poll_log.specs.Streamed.{AreFramed, IsFramed, due_among, due_frame, framed, octets_in, frame_of, truncated_in, unless_among}
use Rattle.pac_generate.specs.Answered.{IsAnswered, due_reply, event_by}
use Rattle.memory_talk.specs.Laws.{AreUnframed, NoFrameIsDue, NoFrameIsSent}
use Rattle.memory_talk.proofs.Given.{given_is_reply}

-- ---- a reply is whole

-- its TC bit is 0
told_flags : (id : ℕ) (name : Name) (answer : Answer) → (header_of (telling id name answer)).tc ≡ false
told_flags id name (Address address) = refl
told_flags id name (Address6 address) = refl
told_flags id name NoAddress = refl

whole_flags : (id : ℕ) (name : Name) (answer : Answer) → (header_of (reply_octets id name answer)).tc ≡ false
unfolding reply_octets
whole_flags id name answer = told_flags id name (answer_for name.kind answer)

without_bit : (datagram : List ℕ) → (header_of datagram).tc ≡ false → (id : ℕ) (name : Name) → is_truncated datagram id name ≡ false
unfolding is_truncated
without_bit datagram e id name = and_left _ _ (and_right _ _ (and_left _ _ (and_right _ _ e)))

-- the datagram is truncated for no question
abbrev IsWhole : List ℕ → Type 0
IsWhole datagram = (id : ℕ) (name : Name) → is_truncated datagram id name ≡ false

given_whole : (answers : AnswerMap) (turns : Turns) (datagram : List ℕ) → Given datagram ≡ event_by (due_reply answers turns) → IsWhole datagram
given_whole answers turns datagram due =
    let from = given_is_reply answers turns datagram due in
    subst IsWhole (sym from.octets) (without_bit _ (whole_flags from.question.id from.question.name _))

-- ---- so no frame is due

none_truncated : (flights : List Flight) (datagram : List ℕ) → IsWhole datagram → truncated_in flights datagram ≡ None
none_truncated [] datagram whole = refl
none_truncated (f ∷ flights) datagram whole =
    ap (λ (b : Bool). cond b (Some f.question) (truncated_in flights datagram)) (whole f.question.id f.question.name) ∙ none_truncated flights datagram whole

module _ (answers : AnswerMap) (terms : Terms) where
  none_among : (turns : Turns) (rest : List ℕ) (seen : List Question) (arrival : Arrival) → event_at rest arrival ≡ event_by (due_reply answers turns)
      → due_among (flights_of terms turns) seen arrival ≡ None
  none_among turns rest seen (Datagram octets) due =
      ap (unless_among seen) (none_truncated (flights_of terms turns) octets (given_whole answers turns octets due))
  none_among turns rest seen Silence due = refl
  none_among turns rest seen (Piece octets) due = refl
  none_among turns rest seen End due = refl

  none_next : (before : Rounds) (arrival : Arrival) → event_at (unfinished before) arrival ≡ event_by (due_reply answers (turns_in before))
      → due_frame terms before arrival ≡ None
  none_next before arrival due = none_among (turns_in before) (unfinished before) (framed terms before) arrival due

  none_framed : (rounds : Rounds) → IsAnswered answers (turns_in rounds) → framed terms rounds ≡ []
  unfolding framed turns_in IsAnswered
  none_framed (Opening sent) answered = refl
  none_framed (Round before arrival sent framing) answered =
      ap (λ (due : Option Question). framed terms before ++ option_to_list due) (none_next before arrival answered.1)
      ∙ append-nil (framed terms before) ∙ none_framed before answered.0

  -- and none is sent
  nothing : (due owed : Option Question) (framing : Option Framing) → due ≡ None → IsFramed due owed framing → (framing ≡ None) × (owed ≡ None)
  nothing due owed None none is = (refl, is ∙ none)
  nothing due None (Some framing) none is = let both : None ≡ Some (octets_in framing) = ap (option_map frame_of) (sym none) ∙ is in cc
  nothing due (Some q) (Some framing) none is = absurd is

  none_over : (owed : Option Question) (rounds : Rounds) → IsAnswered answers (turns_in rounds) → AreFramed terms owed rounds → AreUnframed rounds × (owed ≡ None)
  unfolding AreFramed AreUnframed turns_in IsAnswered
  none_over owed (Opening sent) answered framings = (tt, framings)
  none_over owed (Round before arrival sent framing) answered framings =
      let rest = none_over None before answered.0 framings.0 in
      let now = nothing (due_frame terms before arrival) owed framing (none_next before arrival answered.1) framings.1 in
      ((rest.0, now.0), now.1)

pub none_due : NoFrameIsDue
none_due answers terms rounds answered = none_framed answers terms rounds answered

pub none_sent : NoFrameIsSent
none_sent answers terms owed rounds answered framings = none_over answers terms owed rounds answered framings
