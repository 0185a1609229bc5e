-- One name: what is told of it and what it is owed, from event to event.
use Rattle.std.proofs.Common.{◌≡◌, ℕ, ◌<◌, Bool, true, false, cond, ◌||◌, ◌&&◌, not, List, [], ◌∷◌, ◌++◌, map, Option, Some, None, is_none, refl, sym, ◌∙◌, ap, subst, arith, nat_lt, nat_le}
use Rattle.std.specs.List.{cons_option, filter_map}
use Rattle.std.proofs.lemmas.Bool.Decides.{nat_tests}
use Rattle.std.proofs.lemmas.List.{append-nil}
use Rattle.std.proofs.lemmas.List.Elements.{All-nil}
use mathlib.Core.Path.{fun_ext}
use Rattle.pac_names.specs.declared.answer.Answer.{Answer}
use Rattle.pac_names.specs.Names.{Name}
use Rattle.dns_message.specs.Reply.{reply_of}
use Rattle.poll_log.specs.declared.question.Question.{Question}
use Rattle.poll_log.specs.declared.sending.Sending.{Sending}
use Rattle.poll_log.specs.declared.terms.Terms.{Terms}
use Rattle.poll_log.specs.Turns.{Outgoing, Turns, Then, Event, Given, Tick}
use Rattle.poll_log.specs.Beats.{is_beat}
use Rattle.poll_log.specs.Questions.{IsQuestion, asked_in, outgoing_of, firsts, questions, names_of, new_among, number_in}
use Rattle.poll_log.specs.Sendings.{limit}
use Rattle.poll_log.specs.Told.{Map, accepted, accepted_in, age, or_else, reply_to, told}
use Rattle.poll_log.specs.Moment.{flies, flight_at, flights_in}
use Rattle.poll_log.specs.Jobs.{IsOwed, SendsOwed, once, wanted}
use Rattle.poll_log.specs.Laws.{lacking_or}
use Rattle.poll_log.proofs.Names.{cons_parts, once-none, once-seen, same_itself}
use Rattle.poll_log.proofs.Asking.{firsts_named}
use Rattle.poll_log.proofs.Dues.{firsts_next, firsts_proper, new_now, owed_then}
use Rattle.poll_log.proofs.TurnLaws.{distinct, falls_due, told_next}
use Rattle.stub_poller.specs.State.{StubState, answered_by, given, named_or}
use Rattle.stub_poller.specs.Shows.{Shows}
use Rattle.stub_poller.specs.Driven.{asking_all, beaten_if, driven, receiving}
use Rattle.stub_poller.proofs.Ages.{lasts}
use Rattle.stub_poller.proofs.Showing.{flights_cons, flights_nil, given_shows, told_by}
use Rattle.stub_poller.proofs.Driving.{driven_shows, driven_terms}
use Rattle.stub_poller.proofs.Falling.{again_falls, again_if}
use Rattle.pac_ask.specs.Task.{job_of}
use Rattle.pac_ask.specs.OneName.{found_or}

names_none : (qs : List Question) → names_of qs ≡ [] → qs ≡ []
names_none [] e = refl
names_none (q ∷ qs) e = cc

-- the one question
record One (name : Name) (qs : List Question) : Type 0 where
  pub question : Question
  pub alone : qs ≡ question ∷ []
  pub named : question.name ≡ name

one_of : (name : Name) (qs : List Question) → names_of qs ≡ name ∷ [] → One name qs
one_of name [] e = cc
one_of name (q ∷ []) e = record { question = q; alone = refl; named = (cons_parts _ _ _ _ e).0 }
one_of name (q ∷ r ∷ qs) e = let f = (cons_parts _ _ _ _ e).1 in cc

-- What a datagram answers to it.
module _ (name : Name) (L : ℕ) (M : Map) (a : Name → ℕ) (q : Question) (d : List ℕ) where
  answer_here : found_or (answered_by d (flights_in L M a (q ∷ []))) (M q.name) ≡ or_else (M q.name) (accepted_in L a (q ∷ []) d q.name)
  unfolding accepted_in number_in
  answer_here =
      ap (λ fs. found_or (answered_by d fs) (M q.name)) (flights_cons L M a q [] ∙ ap (λ fs. cond (flies L M a q.name) (flight_at a q ∷ fs) fs) (flights_nil L M a))
      ∙ go (M q.name) (nat_le L (a q.name)) refl
      ∙ ap (λ b. or_else (M q.name) (cond ((b || false) && not (nat_le L (a q.name))) (reply_to (cond b (Some q.id) None) d q.name) None)) (sym (same_itself q.name))
    where
      below : nat_le L (a q.name) ≡ false → nat_lt (a q.name) L ≡ true
      below e = grind (arith, nat_tests)

      above : nat_le L (a q.name) ≡ true → nat_lt (a q.name) L ≡ false
      above e = grind (arith, nat_tests)

      found : (r : Option Answer) → found_or (named_or q.name r None) None ≡ r
      found None = refl
      found (Some x) = refl

      go : (m : Option Answer) (b : Bool) → nat_le L (a q.name) ≡ b → found_or (answered_by d (cond (is_none m && nat_lt (a q.name) L) (flight_at a q ∷ []) [])) m ≡ or_else m (cond (not b) (reply_of d q.id q.name) None)
      go (Some x) b e = refl
      go None true e = ap (λ c. found_or (answered_by d (cond c (flight_at a q ∷ []) [])) None) (above e)
      go None false e = ap (λ c. found_or (answered_by d (cond c (flight_at a q ∷ []) [])) None) (below e) ∙ found (reply_of d q.id q.name)

or_else_none : (r : Option Answer) → or_else r None ≡ r
or_else_none None = refl
or_else_none (Some x) = refl

-- what is heard at an event
abbrev pub heard : Event → StubState → Option Answer → Option Answer
heard (Given d) stub answer = found_or (answered_by d stub.flights) answer
heard Tick stub answer = answer

-- what is sent at an event, where it is a beat and where not
abbrev pub again_at : Bool → Event → StubState → List Sending
again_at b e stub = again_if b (receiving e stub)

module _ (t : Terms) (name : Name) (w : 0 < t.wait) (r : 0 < t.tries) (h : Turns) (asked : names_of (firsts h) ≡ name ∷ []) where
  one : One name (firsts h)
  one = one_of name (firsts h) asked

  shown : Shows (driven t h) (told t h) (age h) (firsts h)
  shown = driven_shows t h (lasts t w r)

  pub heard_is_told : (e : Event) (sent : List Outgoing) → heard e (driven t h) (told t h name) ≡ told t (Then h e sent) name
  unfolding accepted
  heard_is_told (Given d) sent =
      ap (λ fs. found_or (answered_by d fs) (told t h name)) (shown.flying ∙ ap (λ x. flights_in (limit x) (told t h) (age h) (firsts h)) (driven_terms t h) ∙ ap (flights_in (limit t) (told t h) (age h)) one.alone)
      ∙ ap (λ n. found_or (answered_by d (flights_in (limit t) (told t h) (age h) (one.question ∷ []))) (told t h n)) (sym one.named)
      ∙ answer_here name (limit t) (told t h) (age h) one.question d
      ∙ ap (λ n. or_else (told t h n) (accepted_in (limit t) (age h) (one.question ∷ []) d n)) one.named
      ∙ ap (λ qs. or_else (told t h name) (accepted_in (limit t) (age h) qs d name)) (sym one.alone)
      ∙ sym (told_next t h (Given d) sent name)
  heard_is_told Tick sent = sym (told_next t h Tick sent name ∙ or_else_none (told t h name))

  -- the stub shows what is told after an event
  receiving_shows : (e : Event) → Shows (receiving e (driven t h)) (told t (Then h e [])) (age h) (firsts h)
  unfolding accepted
  receiving_shows (Given d) =
      subst (λ M. Shows (given d (driven t h)) M (age h) (firsts h))
      (ap (λ x. told_by (limit x) (told t h) (age h) (firsts h) d) (driven_terms t h) ∙ fun_ext (λ n. sym (told_next t h (Given d) [] n)))
      (given_shows (driven t h) (told t h) (age h) (firsts h) d shown (distinct h) (firsts_named h))
  receiving_shows Tick = subst (λ M. Shows (driven t h) M (age h) (firsts h)) (fun_ext (λ n. sym (told_next t h Tick [] n ∙ or_else_none (told t h n)))) shown

  receiving_terms : (e : Event) → (receiving e (driven t h)).terms ≡ t
  receiving_terms (Given d) = driven_terms t h
  receiving_terms Tick = driven_terms t h

  falling : (e : Event) (b : Bool) → is_beat h e ≡ b → again_at b e (driven t h) ≡ filter_map (falls_due t h e) (firsts h)
  falling e b k = again_falls t h e (firsts h) (receiving e (driven t h)) (receiving_terms e) (receiving_shows e) b k

  -- no other name is wanted
  nothing_new : (M : Map) → [] ≡ once (names_of (firsts h)) (wanted (job_of name ∷ []) M)
  nothing_new M = go (M name)
    where
      go : (m : Option Answer) → [] ≡ once (names_of (firsts h)) (cons_option (lacking_or name m None) [])
      go (Some x) = sym (once-none (names_of (firsts h)))
      go None = sym (ap (λ l. once l (name ∷ [])) asked ∙ once-seen (name ∷ []) name (ap (λ b. b || false) (same_itself name)))

  module _ (sends : SendsOwed t (job_of name ∷ []) h) (e : Event) where
    abbrev pub now : List Outgoing
    now = map outgoing_of (again_at (is_beat h e) e (driven t h))

    pub owed : IsOwed t (job_of name ∷ []) (questions h) (firsts h) (Then h e now) now
    owed =
        owed_then t (job_of name ∷ []) w r h e [] (again_at (is_beat h e) e (driven t h)) sends (nothing_new (told t (Then h e []))) (All-nil IsQuestion)
        (falling e (is_beat h e) refl ∙ ap (filter_map (falls_due t h e)) (sym (append-nil (firsts h))))

    fresh_none : owed.fresh ≡ []
    fresh_none = names_none owed.fresh (owed.asks ∙ sym (nothing_new (told t (Then h e now))))

    pub none_drawn : new_among (firsts h) (asked_in now) ≡ []
    none_drawn = new_now t (job_of name ∷ []) (questions h) (firsts h) (Then h e now) now owed (firsts_proper t (job_of name ∷ []) h sends) ∙ fresh_none

    pub still_asked : names_of (firsts (Then h e now)) ≡ name ∷ []
    still_asked = ap names_of (firsts_next t (job_of name ∷ []) h e now sends owed ∙ ap (λ l. firsts h ++ l) fresh_none ∙ append-nil (firsts h)) ∙ asked

    pub flying_on : beaten_if (is_beat h e) (receiving e (driven t h)) ≡ driven t (Then h e now)
    unfolding driven
    flying_on = ap (λ qs. beaten_if (is_beat h e) (asking_all qs (receiving e (driven t h)))) (sym none_drawn)
