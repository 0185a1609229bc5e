-- What a log that is answered from a map tells is the map's.
use Rattle.std.proofs.Common.{◌≡◌, ℕ, Bool, true, false, cond, not, ◌&&◌, ◌||◌, length, List, [], ◌∷◌, Option, Some, None, refl, sym, ◌∙◌, ap, subst}
use Rattle.std.specs.Prelude.{IsTrue, is_some, nat_le, unwrap_or}
use Rattle.std.specs.FinMap as map
use Rattle.std.specs.List.{AllByRecursion}
use Rattle.pac_names.specs.Names.{is_lookup_name, Name}
use Rattle.pac_names.specs.declared.answer.Answer.{Answer}
use Rattle.pac_names.specs.declared.answer.Answer.TheVariants.{Address, Address6, NoAddress}
use Rattle.pac_names.specs.declared.kind.NameKind.{NameKind}
use Rattle.pac_names.specs.declared.kind.NameKind.TheVariants.{V4, V6}
use Rattle.pac_names.specs.Comparing.{same_name}
use Rattle.js_host.specs.Answers.{AnswerMap, answer_in}
use Rattle.dns_message.specs.Header.{header_of, is_response_to}
use Rattle.dns_message.specs.Question.{question_end}
use Rattle.dns_message.specs.Reply.{answer_behind, answer_for, reply_octets, reply_of}
use Rattle.dns_message.proofs.QueryLaws.{one_name_law}
use Rattle.dns_message.proofs.RoundTrip.{Fits, proper, told_answer}
use Rattle.poll_log.specs.declared.question.Question.{Question}
use Rattle.poll_log.specs.declared.terms.Terms.{Terms}
use Rattle.poll_log.specs.Turns.{Turns, Begin, Then, Event, Given, Tick}
use Rattle.poll_log.specs.Questions.{IsQuestion, firsts, has_name, number_in, was_sent}
use Rattle.poll_log.specs.Sendings.{limit}
use Rattle.poll_log.specs.Told.{accepted, accepted_in, age, or_else, reply_to, told}
use Rattle.poll_log.proofs.Asking.{HasLookupName, firsts_named}
use Rattle.poll_log.proofs.Names.{none_some, same_is, true_false}
use Rattle.poll_log.proofs.TurnLaws.{told-begin, told_next}
use Rattle.pac_generate.specs.Answered.{IsAnswered, due_reply, event_by, reply_from}
use Rattle.memory_talk.specs.Laws.{AreAddresses, IsAddressOf, ToldIsTheMaps}
use Rattle.memory_talk.proofs.Given.{given_is_reply}

-- ---- the reply to a question tells the map's answer

answer_fits : (answers : AnswerMap) → AreAddresses answers → (name : Name) → IsAddressOf (answer_in answers name) name.kind
answer_fits answers all name = go (map.get answers name) refl
  where
    go : (r : Option Answer) → map.get answers name ≡ r → IsAddressOf (unwrap_or r NoAddress) name.kind
    go (Some answer) k = all name answer k
    go None k = tt

-- an address of the family that is asked for is told whole
told_whole : (answer : Answer) (kind : NameKind) → IsAddressOf answer kind → Fits (answer_for kind answer) × (answer_for kind answer ≡ answer)
told_whole (Address address) V4 fits = (fits, refl)
told_whole (Address address) V6 fits = absurd fits
told_whole (Address6 address) V4 fits = absurd fits
told_whole (Address6 address) V6 fits = (fits, refl)
told_whole NoAddress V4 fits = (tt, refl)
told_whole NoAddress V6 fits = (tt, refl)

answer_told : (q : Question) → IsQuestion q → (answer : Answer) → IsAddressOf answer q.name.kind → reply_of (reply_octets q.id q.name answer) q.id q.name ≡ Some answer
answer_told q is answer fits =
    let whole = told_whole answer q.name.kind fits in
    told_answer q.id q.name answer is.number whole.0 (proper q.name is.name) ∙ ap Some whole.1

pub reply_told : (answers : AnswerMap) → AreAddresses answers → (q : Question) → IsQuestion q → reply_of (reply_from answers q) q.id q.name ≡ Some (answer_in answers q.name)
reply_told answers small q is = answer_told q is (answer_in answers q.name) (answer_fits answers small q.name)

-- ---- a datagram tells a name one answer, whatever the number

both_are : (a b : Answer) (r : Option Answer) (c d : Bool) → cond c r None ≡ Some a → cond d r None ≡ Some b → a ≡ b
both_are a b r true true e f = let same : Some a ≡ Some b = sym e ∙ f in cc
both_are a b r true false e f = none_some b f
both_are a b r false d e f = none_some a e

one_answer : (datagram : List ℕ) (id other : ℕ) (name : Name) (a b : Answer) → reply_of datagram id name ≡ Some a → reply_of datagram other name ≡ Some b → a ≡ b
unfolding reply_of
one_answer datagram id other name a b e f = both_are a b (answer_behind datagram name (question_end datagram name))
    (nat_le 12 (length datagram) && is_response_to (header_of datagram) id) (nat_le 12 (length datagram) && is_response_to (header_of datagram) other) e f

-- ---- what was accepted

-- a name was sent, and this datagram has a reply to it
pub record IsAccepted (turns : Turns) (datagram : List ℕ) (name : Name) (answer : Answer) : Type 0 where
  pub sent : was_sent turns name ≡ true
  pub number : ℕ
  pub reply : reply_of datagram number name ≡ Some answer

pub accepted_parts : (terms : Terms) (turns : Turns) (datagram : List ℕ) (name : Name) (answer : Answer) → accepted terms turns (Given datagram) name ≡ Some answer → IsAccepted turns datagram name answer
unfolding accepted accepted_in
accepted_parts terms turns datagram name answer e =
    go (has_name name (firsts turns)) refl (not (nat_le (limit terms) (age turns name))) (number_in (firsts turns) name) e
  where
    go : (b : Bool) → has_name name (firsts turns) ≡ b → (c : Bool) (r : Option ℕ) → cond (b && c) (reply_to r datagram name) None ≡ Some answer → IsAccepted turns datagram name answer
    go true s true (Some id) f = record { sent = s; number = id; reply = f }
    go true s true None f = none_some answer f
    go true s false r f = none_some answer f
    go false s c r f = none_some answer f

pub named : (qs : List Question) (name : Name) → AllByRecursion HasLookupName qs → has_name name qs ≡ true → IsTrue (is_lookup_name name)
named [] name h e = true_false (sym e)
named (q ∷ qs) name h e = go (same_name q.name name) refl e (named qs name h.1)
  where
    go : (b : Bool) → same_name q.name name ≡ b → (b || has_name name qs) ≡ true → (has_name name qs ≡ true → IsTrue (is_lookup_name name)) → IsTrue (is_lookup_name name)
    go true same f rest = subst (λ (n : Name). IsTrue (is_lookup_name n)) (same_is q.name name same) h.0
    go false same f rest = rest f

accepted_is_maps : (answers : AnswerMap) (terms : Terms) (turns : Turns) → AreAddresses answers → (event : Event) → event ≡ event_by (due_reply answers turns)
    → (name : Name) (answer : Answer) → accepted terms turns event name ≡ Some answer → answer_in answers name ≡ answer
unfolding accepted
accepted_is_maps answers terms turns small Tick due name answer e = none_some answer e
accepted_is_maps answers terms turns small (Given datagram) due name answer e =
    let from = given_is_reply answers turns datagram due in
    let parts = accepted_parts terms turns datagram name answer e in
    let q : Question = from.question in
    let own : reply_of datagram q.id q.name ≡ Some (answer_in answers q.name) = ap (λ (octets : List ℕ). reply_of octets q.id q.name) from.octets ∙ reply_told answers small q from.proper in
    let same : q.name ≡ name =
    one_name_law datagram q.id parts.number q.name name from.proper.name (named (firsts turns) name (firsts_named turns) parts.sent) (ap is_some own) (ap is_some parts.reply) in
    one_answer datagram q.id parts.number name (answer_in answers name) answer
    (subst (λ (n : Name). reply_of datagram q.id n ≡ Some (answer_in answers n)) same own) parts.reply

pub told_is_maps : ToldIsTheMaps
unfolding IsAnswered
told_is_maps answers terms (Begin sent) small answered name answer e = none_some answer (sym (told-begin terms sent name) ∙ e)
told_is_maps answers terms (Then before event sent) small answered name answer e =
    go (told terms before name) refl (accepted terms before event name) refl (sym (told_next terms before event sent name) ∙ e)
    (told_is_maps answers terms before small answered.0 name answer) (accepted_is_maps answers terms before small event answered.1 name answer)
  where
    go : (r : Option Answer) → told terms before name ≡ r → (s : Option Answer) → accepted terms before event name ≡ s → or_else r s ≡ Some answer
        → (told terms before name ≡ Some answer → answer_in answers name ≡ answer) → (accepted terms before event name ≡ Some answer → answer_in answers name ≡ answer)
        → answer_in answers name ≡ answer
    go (Some x) k s h f old new = old (k ∙ f)
    go None k s h f old new = new (h ∙ f)
