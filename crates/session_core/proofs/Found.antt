-- What is told and known after an event, before anything is sent.
use Rattle.std.proofs.Common.{◌≡◌, ℕ, ◌<◌, Bool, true, false, cond, ◌||◌, ◌&&◌, not, List, [], ◌∷◌, Option, Some, None, is_some, is_none, refl, sym, ◌∙◌, ap, subst, nat_lt, nat_le}
use Rattle.std.specs.FinMap as map
use Rattle.std.specs.Ordering.{eq_by_cmp}
use Rattle.std.specs.List.{list_any}
use mathlib.Core.Path.{fun_ext}
use Rattle.pac_names.specs.declared.answer.Answer.{Answer}
use Rattle.pac_names.specs.Names.{Name}
use Rattle.pac_names.specs.Comparing.{same_name, compare_names, names_total, names_tie}
use Rattle.js_host.specs.Answers.{AnswerMap}
use Rattle.poll_log.specs.declared.flight.Flight.{Flight}
use Rattle.poll_log.specs.declared.question.Question.{Question}
use Rattle.poll_log.specs.declared.terms.Terms.{Terms}
use Rattle.poll_log.specs.Turns.{Turns, Then, Event, Given, Tick}
use Rattle.poll_log.specs.Questions.{firsts, has_name, names_of}
use Rattle.poll_log.specs.Sendings.{limit}
use Rattle.poll_log.specs.Told.{Map, accepted, accepted_in, age, or_else, told}
use Rattle.poll_log.specs.Moment.{dead_in, flies, flight_at, flights_in}
use Rattle.poll_log.proofs.Asking.{firsts_named}
use Rattle.poll_log.proofs.Bounds.{extends_next}
use Rattle.poll_log.proofs.Names.{and-false, has-names, none_some, same_is, true_false}
use Rattle.poll_log.proofs.TurnLaws.{distinct, told_next}
use Rattle.stub_poller.specs.State.{StubState, answered_by, flies_in, given}
use Rattle.stub_poller.specs.Shows.{Shows}
use Rattle.stub_poller.specs.Driven.{driven, receiving}
use Rattle.stub_poller.proofs.Driving.{driven_shows, driven_terms}
use Rattle.stub_poller.proofs.FlightLists.{over_or_young}
use Rattle.stub_poller.proofs.Showing.{flights_cons, flights_nil, given_shows, told_by}
use Rattle.session_core.specs.Sessions.{dead_of}
use Rattle.session_core.specs.Cascade.{KnowsThese}
use Rattle.session_core.specs.Lookups.{found_at, told_name, with_answer, with_found}
use Rattle.session_core.proofs.Telling.{Found, found_is, none_is}
use Rattle.session_core.proofs.Tells.{Tells}

-- ---- what a stub knows

any_flies : (L : ℕ) (M : Map) (a : Name → ℕ) (F : List Question) (n : Name) → list_any (λ f. same_name f.question.name n) (flights_in L M a F) ≡ (has_name n F && flies L M a n)
any_flies L M a [] n = ap (list_any (λ (f : Flight). same_name f.question.name n)) (flights_nil L M a)
any_flies L M a (q ∷ F) n =
    ap (list_any (λ (f : Flight). same_name f.question.name n)) (flights_cons L M a q F)
    ∙ pick (flies L M a q.name)
    ∙ go (flies L M a q.name) (same_name q.name n) refl (any_flies L M a F n)
  where
    rest : Bool
    rest = list_any (λ (f : Flight). same_name f.question.name n) (flights_in L M a F)

    pick : (b : Bool) → list_any (λ (f : Flight). same_name f.question.name n) (cond b (flight_at a q ∷ flights_in L M a F) (flights_in L M a F)) ≡ cond b (same_name q.name n || rest) rest
    pick true = refl
    pick false = refl

    both : (b : Bool) (h x : Bool) → x ≡ (h && b) → cond b true x ≡ b
    both true h x e = refl
    both false h x e = e ∙ and-false h

    apart : (b : Bool) (x : Bool) → cond b x x ≡ x
    apart true x = refl
    apart false x = refl

    go : (b c : Bool) → same_name q.name n ≡ c → rest ≡ (has_name n F && flies L M a n) → cond (flies L M a q.name) (same_name q.name n || rest) rest ≡ ((same_name q.name n || has_name n F) && flies L M a n)
    go b true same ih =
        let one : flies L M a q.name ≡ flies L M a n = ap (flies L M a) (same_is _ _ same) in
        ap (λ c. cond (flies L M a q.name) (c || rest) rest) same
        ∙ ap (λ f. cond f true rest) one
        ∙ both (flies L M a n) (has_name n F) rest ih
        ∙ sym (ap (λ c. (c || has_name n F) && flies L M a n) same)
    go b false off ih =
        ap (λ c. cond (flies L M a q.name) (c || rest) rest) off
        ∙ apart (flies L M a q.name) rest
        ∙ ih
        ∙ sym (ap (λ c. (c || has_name n F) && flies L M a n) off)

-- a stub that shows a moment knows what was sent, among the names that are not told
pub shown_knows : (stub : StubState) (M : Map) (a : Name → ℕ) (F : List Question) → Shows stub M a F → KnowsThese stub M (names_of F)
unfolding dead_in
shown_knows stub M a F s n u =
    ap (λ b. b || flies_in n stub) (s.dying n)
    ∙ ap (λ b. dead_in (limit stub.terms) M a F n || b) (ap (list_any (λ (f : Flight). same_name f.question.name n)) s.flying ∙ any_flies (limit stub.terms) M a F n)
    ∙ ap (λ r. ((has_name n F && is_none r) && nat_le (limit stub.terms) (a n)) || (has_name n F && (is_none r && nat_lt (a n) (limit stub.terms)))) u
    ∙ ap (λ b. ((has_name n F && true) && b) || (has_name n F && (true && nat_lt (a n) (limit stub.terms)))) (over_or_young (limit stub.terms) (a n))
    ∙ either (has_name n F) (nat_lt (a n) (limit stub.terms))
    ∙ sym (has-names n F)
  where
    either : (h y : Bool) → (((h && true) && not y) || (h && (true && y))) ≡ h
    either true true = refl
    either true false = refl
    either false y = refl

-- ---- the table

or_else_none : (r : Option Answer) → or_else r None ≡ r
or_else_none None = refl
or_else_none (Some x) = refl

keeps : (table : AnswerMap) (name n : Name) (answer x : Answer) → map.get table n ≡ Some x → map.get (with_answer name answer table) n ≡ Some x
keeps table name n answer x e = go (map.get table name) refl
  where
    apart : map.get table name ≡ None → eq_by_cmp compare_names n name ≡ false
    apart u = off (same_name n name) refl
      where
        off : (b : Bool) → same_name n name ≡ b → eq_by_cmp compare_names n name ≡ false
        off true same = none_some x (sym u ∙ ap (map.get table) (sym (same_is _ _ same)) ∙ e)
        off false d = sym (names_tie n name) ∙ d

    go : (r : Option Answer) → map.get table name ≡ r → map.get (cond (is_some r) table (map.insert table name answer)) n ≡ Some x
    go (Some y) u = e
    go None u =
        map.get-insert names_total table name answer n
        ∙ ap (λ b. cond b (Some answer) (map.get table n)) (apart u)
        ∙ e

puts : (table : AnswerMap) (name n : Name) (answer : Answer) → map.get table name ≡ None → map.get table n ≡ None → map.get (with_answer name answer table) n ≡ cond (same_name n name) (Some answer) None
puts table name n answer u v =
    ap (λ r. map.get (cond (is_some r) table (map.insert table name answer)) n) u
    ∙ map.get-insert names_total table name answer n
    ∙ ap (λ r. cond (eq_by_cmp compare_names n name) (Some answer) r) v
    ∙ ap (λ b. cond b (Some answer) None) (sym (names_tie n name))

-- ---- what is found, if anything

module _ (t : Terms) (h : Turns) (lasts : 0 < limit t) (stub : StubState) (flying : stub ≡ driven t h) (table : AnswerMap) (told_is : (n : Name) → map.get table n ≡ told t h n) where
  shown : Shows stub (told t h) (age h) (firsts h)
  shown = subst (λ s. Shows s (told t h) (age h) (firsts h)) (sym flying) (driven_shows t h lasts)

  same_terms : stub.terms ≡ t
  same_terms = ap (λ (s : StubState). s.terms) flying ∙ driven_terms t h

  same_flights : stub.flights ≡ flights_in (limit t) (told t h) (age h) (firsts h)
  same_flights = shown.flying ∙ ap (λ x. flights_in (limit x) (told t h) (age h) (firsts h)) same_terms

  -- the stub after the event shows what is told then
  pub receiving_shows : (e : Event) → Shows (receiving e stub) (told t (Then h e [])) (age h) (firsts h)
  unfolding accepted
  receiving_shows (Given d) =
      subst (λ M. Shows (given d stub) M (age h) (firsts h))
      (ap (λ x. told_by (limit x) (told t h) (age h) (firsts h) d) same_terms ∙ fun_ext (λ n. sym (told_next t h (Given d) [] n)))
      (given_shows stub (told t h) (age h) (firsts h) d shown (distinct h) (firsts_named h))
  receiving_shows Tick = subst (λ M. Shows stub M (age h) (firsts h)) (fun_ext (λ n. sym (told_next t h Tick [] n ∙ or_else_none (told t h n)))) shown

  pub known : (e : Event) → KnowsThese (receiving e stub) (told t (Then h e [])) (names_of (firsts h))
  known e = shown_knows (receiving e stub) (told t (Then h e [])) (age h) (firsts h) (receiving_shows e)

  accepted_given : (d : List ℕ) (n : Name) → told t (Then h (Given d) []) n ≡ or_else (told t h n) (accepted_in (limit t) (age h) (firsts h) d n)
  unfolding accepted
  accepted_given d n = told_next t h (Given d) [] n

  told_tick : (n : Name) → told t (Then h Tick []) n ≡ told t h n
  unfolding accepted
  told_tick n = told_next t h Tick [] n ∙ or_else_none (told t h n)

  alive_if_young : (n : Name) → not (nat_le (limit t) (age h n)) ≡ true → dead_of stub n ≡ false
  unfolding dead_in
  alive_if_young n y =
      shown.dying n
      ∙ ap (λ x. (has_name n (firsts h) && is_none (told t h n)) && nat_le (limit x) (age h n)) same_terms
      ∙ ap (λ b. (has_name n (firsts h) && is_none (told t h n)) && b) (flip (nat_le (limit t) (age h n)) y)
      ∙ and-false _
    where
      flip : (b : Bool) → not b ≡ true → b ≡ false
      flip true e = true_false (sym e)
      flip false e = refl

  module _ (d : List ℕ) where
    answered : answered_by d stub.flights ≡ answered_by d (flights_in (limit t) (told t h) (age h) (firsts h))
    answered = ap (answered_by d) same_flights

    -- nothing was found
    none_accepted : answered_by d stub.flights ≡ None → (n : Name) → told t h n ≡ None → told t (Then h (Given d) []) n ≡ None
    none_accepted e n u =
        accepted_given d n
        ∙ ap (λ r. or_else r (accepted_in (limit t) (age h) (firsts h) d n)) u
        ∙ none_is (limit t) (told t h) (age h) d (firsts h) (sym answered ∙ e) n u

    -- this was found
    module _ (name : Name) (answer : Answer) (e : answered_by d stub.flights ≡ Some (name, answer)) where
      what : Found (limit t) (told t h) (age h) d (firsts h) name answer
      what = found_is (limit t) (told t h) (age h) d [] (firsts h) (distinct h) (firsts_named h) name answer (sym answered ∙ e)

      found_told : (n : Name) → told t h n ≡ None → told t (Then h (Given d) []) n ≡ cond (same_name n name) (Some answer) None
      found_told n u = accepted_given d n ∙ ap (λ r. or_else r (accepted_in (limit t) (age h) (firsts h) d n)) u ∙ what.here n u

      found_here : (n : Name) → same_name n name ≡ true → is_some (told t (Then h (Given d) []) n) ≡ true
      found_here n w = ap is_some (found_told n (ap (told t h) (same_is _ _ w) ∙ what.untold)) ∙ ap (λ b. is_some (cond b (Some answer) None)) w

      some_tells : Tells (Some name) (told t h) (told t (Then h (Given d) [])) (dead_of stub)
      some_tells =
          record {
            extends = extends_next t h (Given d) [];
            others = λ n u w. found_told n u ∙ ap (λ b. cond b (Some answer) None) w;
            here = found_here;
            alive = λ n w. ap (dead_of stub) (same_is _ _ w) ∙ alive_if_young name what.young;
          }

      some_table : (n : Name) → map.get (with_answer name answer table) n ≡ told t (Then h (Given d) []) n
      some_table n = go (told t h n) refl
        where
          go : (r : Option Answer) → told t h n ≡ r → map.get (with_answer name answer table) n ≡ told t (Then h (Given d) []) n
          go (Some x) u = keeps table name n answer x (told_is n ∙ u) ∙ sym (extends_next t h (Given d) [] n x u)
          go None u = puts table name n answer (told_is name ∙ what.untold) (told_is n ∙ u) ∙ sym (found_told n u)

    none_tells : answered_by d stub.flights ≡ None → Tells None (told t h) (told t (Then h (Given d) [])) (dead_of stub)
    none_tells e =
        record {
          extends = extends_next t h (Given d) [];
          others = λ n u w. none_accepted e n u;
          here = λ n w. true_false (sym w);
          alive = λ n w. true_false (sym w);
        }

    none_table : answered_by d stub.flights ≡ None → (n : Name) → map.get table n ≡ told t (Then h (Given d) []) n
    none_table e n = go (told t h n) refl
      where
        go : (r : Option Answer) → told t h n ≡ r → map.get table n ≡ told t (Then h (Given d) []) n
        go (Some x) u = told_is n ∙ u ∙ sym (extends_next t h (Given d) [] n x u)
        go None u = told_is n ∙ u ∙ sym (none_accepted e n u)

    given_tells : (r : Option (Name × Answer)) → answered_by d stub.flights ≡ r → Tells (told_name r) (told t h) (told t (Then h (Given d) [])) (dead_of stub)
    given_tells None e = none_tells e
    given_tells (Some found) e = some_tells found.0 found.1 e

    given_table : (r : Option (Name × Answer)) → answered_by d stub.flights ≡ r → (n : Name) → map.get (with_found r table) n ≡ told t (Then h (Given d) []) n
    given_table None e n = none_table e n
    given_table (Some found) e n = some_table found.0 found.1 e n

  -- what an event tells, and the table then
  pub tells : (e : Event) → Tells (told_name (found_at e stub)) (told t h) (told t (Then h e [])) (dead_of stub)
  tells (Given d) = given_tells d (answered_by d stub.flights) refl
  tells Tick =
      record {
        extends = extends_next t h Tick [];
        others = λ n u w. told_tick n ∙ u;
        here = λ n w. true_false (sym w);
        alive = λ n w. true_false (sym w);
      }

  pub table_told : (e : Event) (n : Name) → map.get (with_found (found_at e stub) table) n ≡ told t (Then h e []) n
  table_told (Given d) n = given_table d (answered_by d stub.flights) refl n
  table_told Tick n = told_is n ∙ sym (told_tick n)
