-- A stub that is driven by a log shows it.
use Rattle.std.proofs.Common.{◌≡◌, ℕ, ◌+◌, ◌<◌, Bool, true, false, cond, List, [], ◌∷◌, ◌++◌, Option, Some, None, refl, sym, ◌∙◌, ap, subst, arith, append_assoc}
use Rattle.std.proofs.lemmas.List.{append-nil}
use mathlib.Core.Path.{fun_ext}
use Rattle.pac_names.specs.declared.answer.Answer.{Answer}
use Rattle.pac_names.specs.Names.{Name}
use Rattle.poll_log.specs.declared.question.Question.{Question}
use Rattle.poll_log.specs.declared.terms.Terms.{Terms}
use Rattle.poll_log.specs.Turns.{Outgoing, Turns, Begin, Then, Event, Given, Tick}
use Rattle.poll_log.specs.Beats.{is_beat}
use Rattle.poll_log.specs.Questions.{asked_in, firsts, has_name, new_among, was_sent}
use Rattle.poll_log.specs.Sendings.{limit}
use Rattle.poll_log.specs.Told.{Map, accepted, age, or_else, told}
use Rattle.poll_log.specs.Moment.{dead_in, flights_in, flights_of, older}
use Rattle.poll_log.proofs.Names.{AllNew, has_name-append, new_among-is_new, or-left}
use Rattle.poll_log.proofs.Asking.{firsts_named}
use Rattle.poll_log.proofs.TurnLaws.{accepted_unsent, age-begin, age_next, age_unsent, distinct, firsts-begin, firsts-then, told-begin, told_next, told_unsent, unsent_before}
use Rattle.stub_poller.specs.State.{StubState, asking, beaten, given, new_stub}
use Rattle.stub_poller.specs.Shows.{Shows}
use Rattle.stub_poller.specs.Driven.{DrivenShows, asking_all, beaten_if, driven, receiving}
use Rattle.stub_poller.proofs.Showing.{asked_shows, beaten_shows, flights_nil, given_shows, older_age, older_none, told_by}

-- names are asked, none of which was asked before or is told
pub asked_all_show : (qs : List Question) (stub : StubState) (M : Map) (a : Name → ℕ) (F : List Question) → Shows stub M a F → AllNew F qs → ((n : Name) → has_name n F ≡ false → M n ≡ None) → Shows (asking_all qs stub) M a (F ++ qs)
asked_all_show [] stub M a F s new untold = subst (Shows stub M a) (sym (append-nil F)) s
asked_all_show (q ∷ qs) stub M a F s new untold =
    subst (Shows (asking_all qs (asking q stub)) M a) (append_assoc F (q ∷ []) qs)
    (asked_all_show qs (asking q stub) M a (F ++ q ∷ []) (asked_shows stub M a F q s new.0 (untold q.name new.0)) new.1 (λ n k. untold n (or-left _ _ (sym (has_name-append n F (q ∷ [])) ∙ k))))

-- the terms stay
asking_all_terms : (qs : List Question) (stub : StubState) → (asking_all qs stub).terms ≡ stub.terms
asking_all_terms [] stub = refl
asking_all_terms (q ∷ qs) stub = asking_all_terms qs (asking q stub)

receiving_terms : (e : Event) (stub : StubState) → (receiving e stub).terms ≡ stub.terms
receiving_terms (Given d) stub = refl
receiving_terms Tick stub = refl

beaten_if_terms : (b : Bool) (stub : StubState) → (beaten_if b stub).terms ≡ stub.terms
beaten_if_terms true stub = refl
beaten_if_terms false stub = refl

pub driven_terms : (t : Terms) (h : Turns) → (driven t h).terms ≡ t
unfolding driven
driven_terms t (Begin sent) = asking_all_terms (new_among [] (asked_in sent)) (new_stub t)
driven_terms t (Then h e sent) =
    beaten_if_terms (is_beat h e) (asking_all (new_among (firsts h) (asked_in sent)) (receiving e (driven t h)))
    ∙ asking_all_terms (new_among (firsts h) (asked_in sent)) (receiving e (driven t h))
    ∙ receiving_terms e (driven t h)
    ∙ driven_terms t h

begun : (t : Terms) (sent : List Outgoing) → 0 < limit t → Shows (new_stub t) (told t (Begin sent)) (age (Begin sent)) []
unfolding dead_in
begun t sent p =
    record {
      flying = sym (flights_nil (limit t) (told t (Begin sent)) (age (Begin sent)));
      dying = λ n. refl;
      young = λ n k. age-begin sent n;
      lasting = p;
    }

or_else_none : (r : Option Answer) → or_else r None ≡ r
or_else_none None = refl
or_else_none (Some x) = refl

told_given : (t : Terms) (h : Turns) (d : List ℕ) (sent : List Outgoing) → told_by (limit t) (told t h) (age h) (firsts h) d ≡ told t (Then h (Given d) sent)
unfolding accepted
told_given t h d sent = fun_ext (λ n. sym (told_next t h (Given d) sent n))

told_tick : (t : Terms) (h : Turns) (sent : List Outgoing) → told t h ≡ told t (Then h Tick sent)
unfolding accepted
told_tick t h sent = fun_ext (λ n. sym (told_next t h Tick sent n ∙ or_else_none (told t h n)))

-- what is told after an event
received : (t : Terms) (h : Turns) (e : Event) (sent : List Outgoing) (stub : StubState) → stub.terms ≡ t → Shows stub (told t h) (age h) (firsts h) → Shows (receiving e stub) (told t (Then h e sent)) (age h) (firsts h)
received t h (Given d) sent stub same s =
    subst (λ M. Shows (given d stub) M (age h) (firsts h)) (ap (λ x. told_by (limit x) (told t h) (age h) (firsts h) d) same ∙ told_given t h d sent)
    (given_shows stub (told t h) (age h) (firsts h) d s (distinct h) (firsts_named h))
received t h Tick sent stub same s = subst (λ M. Shows stub M (age h) (firsts h)) (told_tick t h sent) s

untold_next : (t : Terms) (h : Turns) (e : Event) (sent : List Outgoing) (n : Name) → was_sent h n ≡ false → told t (Then h e sent) n ≡ None
untold_next t h e sent n k = told_next t h e sent n ∙ ap (λ r. or_else r (accepted t h e n)) (told_unsent t h n k) ∙ accepted_unsent t h e n k

-- the ages after an event
module _ (h : Turns) (e : Event) (sent : List Outgoing) where
  aged_by_beat : is_beat h e ≡ true → older (firsts (Then h e sent)) (age h) ≡ age (Then h e sent)
  aged_by_beat b = fun_ext (λ n. go n (was_sent (Then h e sent) n) refl)
    where
      go : (n : Name) (s : Bool) → was_sent (Then h e sent) n ≡ s → older (firsts (Then h e sent)) (age h) n ≡ age (Then h e sent) n
      go n true s = older_age (firsts (Then h e sent)) (age h) n s ∙ sym (age_next h e sent n s ∙ ap (λ c. age h n + cond c 1 0) b)
      go n false s = older_none (firsts (Then h e sent)) (age h) n s ∙ sym (age_unsent (Then h e sent) n s)

  aged_by_none : is_beat h e ≡ false → age h ≡ age (Then h e sent)
  aged_by_none b = fun_ext (λ n. go n (was_sent (Then h e sent) n) refl)
    where
      go : (n : Name) (s : Bool) → was_sent (Then h e sent) n ≡ s → age h n ≡ age (Then h e sent) n
      go n true s = sym (age_next h e sent n s ∙ ap (λ c. age h n + cond c 1 0) b ∙ (let z : age h n + 0 ≡ age h n = omega arith in z))
      go n false s = age_unsent h n (unsent_before h e sent n s) ∙ sym (age_unsent (Then h e sent) n s)

  beat : (b : Bool) → is_beat h e ≡ b → (stub : StubState) (M : Map) → Shows stub M (age h) (firsts (Then h e sent)) → Shows (beaten_if b stub) M (age (Then h e sent)) (firsts (Then h e sent))
  beat true b stub M s = subst (λ a. Shows (beaten stub) M a (firsts (Then h e sent))) (aged_by_beat b) (beaten_shows stub M (age h) (firsts (Then h e sent)) s)
  beat false b stub M s = subst (λ a. Shows stub M a (firsts (Then h e sent))) (aged_by_none b) s

pub driven_shows : DrivenShows
unfolding driven
driven_shows t (Begin sent) p =
    subst (Shows (asking_all (new_among [] (asked_in sent)) (new_stub t)) (told t (Begin sent)) (age (Begin sent))) (sym (firsts-begin sent))
    (asked_all_show (new_among [] (asked_in sent)) (new_stub t) (told t (Begin sent)) (age (Begin sent)) [] (begun t sent p) (new_among-is_new [] (asked_in sent)) (λ n k. told-begin t sent n))
driven_shows t (Then h e sent) p =
    let shown = received t h e sent (driven t h) (driven_terms t h) (driven_shows t h p) in
    let asked = asked_all_show (new_among (firsts h) (asked_in sent)) (receiving e (driven t h)) (told t (Then h e sent)) (age h) (firsts h) shown (new_among-is_new (firsts h) (asked_in sent)) (untold_next t h e sent) in
    beat h e sent (is_beat h e) refl (asking_all (new_among (firsts h) (asked_in sent)) (receiving e (driven t h))) (told t (Then h e sent))
    (subst (Shows (asking_all (new_among (firsts h) (asked_in sent)) (receiving e (driven t h))) (told t (Then h e sent)) (age h)) (sym (firsts-then h e sent)) asked)

-- what is in flight for it is what is in flight after the log
pub driven_flights : (t : Terms) (h : Turns) → 0 < limit t → (driven t h).flights ≡ flights_of t h
driven_flights t h p = (driven_shows t h p).flying ∙ ap (λ x. flights_in (limit x) (told t h) (age h) (firsts h)) (driven_terms t h)
