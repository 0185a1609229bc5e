-- One name after an event stands for the longer log.
use Rattle.std.proofs.Common.{◌≡◌, ℕ, ◌+◌, Bool, true, false, not, ◌||◌, Some, None, List, [], map, Option, refl, sym, ◌∙◌, ap, subst, ◌≤◌, arith}
use Rattle.pac_names.specs.declared.answer.Answer.{Answer}
use Rattle.pac_ports.specs.Dice.{DiceTold}
use Rattle.poll_log.specs.declared.sending.Sending.{Sending}
use Rattle.poll_log.specs.declared.terms.Terms.{Terms}
use Rattle.poll_log.specs.Turns.{Outgoing, Turns, Then, Event, Given, Tick}
use Rattle.poll_log.specs.Beats.{is_beat}
use Rattle.poll_log.specs.Questions.{outgoing_of, firsts, questions}
use Rattle.poll_log.specs.Jobs.{IsOwed, some_wait, waits_unless}
use Rattle.poll_log.specs.Laws.{lacking_or}
use Rattle.poll_log.specs.Moment.{dead_in, flights_of}
use Rattle.poll_log.specs.Sendings.{limit}
use Rattle.poll_log.specs.Told.{age, is_dead, told}
use Rattle.poll_log.proofs.Names.{true_false}
use Rattle.stub_poller.proofs.Ages.{lasts}
use Rattle.stub_poller.proofs.Driving.{driven_flights, driven_shows, driven_terms}
use Rattle.std.specs.Prelude.{is_some, if◌then◌else◌}
use Rattle.pac_names.specs.Names.{Name}
use Rattle.stub_poller.specs.State.{StubState, beaten, given, is_dead_in, resent}
use Rattle.stub_poller.specs.Driven.{beaten_if, driven, receiving}
use Rattle.poll_loop.specs.Counting.{HasCounted}
use Rattle.poll_loop.specs.Task.{Task}
use Rattle.poll_loop.specs.Numbers.{GaveAll}
use Rattle.poll_loop.specs.Steps.{Stepped, StepFails}
use Rattle.pac_ask.specs.Standing.{Stands}
use Rattle.pac_ask.specs.OneName.{StandsFor, hearing}
use Rattle.pac_ask.specs.declared.one_name.OneName.{OneName}
use Rattle.pac_ask.proofs.Asked.{again_at, flying_on, heard, heard_is_told, none_drawn, now, owed, still_asked}

module _ (name : Name) (answer : Option Answer) (t : Terms) (stub : StubState) (n : ℕ) (task : Task) (h : Turns) (s : Stands name answer t stub n task h) (e : Event) (dice : Option DiceTold) (runs : ℕ) where
  module _ (b : Bool) (beat : b ≡ is_beat h e) (n' : ℕ) (counts : (sent : List Outgoing) → HasCounted n' (Then h e sent)) where
    whole : Stepped (λ turns. Stands name (heard e stub answer) t (beaten_if b (receiving e stub)) n' task turns) task h e (now t name s.ranges.waits s.ranges.tried h s.asked s.sends e) dice dice runs runs
    whole =
        let w = s.ranges.waits in
        let r = s.ranges.tried in
        let out = now t name w r h s.asked s.sends e in
        record {
          stands = record {
            same = s.same;
            ranges = s.ranges;
            named = s.named;
            asked = still_asked t name w r h s.asked s.sends e;
            sends = (s.sends, owed t name w r h s.asked s.sends e);
            flying = ap (λ b. beaten_if b (receiving e stub)) beat ∙ ap (λ x. beaten_if (is_beat h e) (receiving e x)) s.flying ∙ flying_on t name w r h s.asked s.sends e;
            answered = ap (λ x. heard e x answer) s.flying ∙ ap (heard e (driven t h)) s.answered ∙ heard_is_told t name w r h s.asked e out;
            beating = counts out;
          };
          owed = subst (λ (x : Task). IsOwed x.terms x.jobs (questions h) (firsts h) (Then h e out) out) (sym s.same) (owed t name w r h s.asked s.sends e);
          drew = subst (λ l. GaveAll dice (map (λ q. q.id) l) dice) (sym (none_drawn t name w r h s.asked s.sends e)) refl;
          ran = subst (λ (x : Task). runs + x.runs h ≡ runs + x.runs (Then h e out)) (sym s.same) refl;
        }

    pub stepped : (answer' : Option Answer) (stub' : StubState) (sent : List Sending) → answer' ≡ heard e stub answer → stub' ≡ beaten_if b (receiving e stub) → sent ≡ again_at b e stub → Stepped (λ turns. Stands name answer' t stub' n' task turns) task h e (map outgoing_of sent) dice dice runs runs
    stepped answer' stub' sent ea es eq =
        let here : sent ≡ again_at (is_beat h e) e (driven t h) = eq ∙ ap (λ b. again_at b e stub) beat ∙ ap (again_at (is_beat h e) e) s.flying in
        subst (λ out. Stepped (λ turns. Stands name answer' t stub' n' task turns) task h e out dice dice runs runs) (ap (map outgoing_of) (sym here))
        (subst (λ a. Stepped (λ turns. Stands name a t stub' n' task turns) task h e (now t name s.ranges.waits s.ranges.tried h s.asked s.sends e) dice dice runs runs) (sym ea)
        (subst (λ x. Stepped (λ turns. Stands name (heard e stub answer) t x n' task turns) task h e (now t name s.ranges.waits s.ranges.tried h s.asked s.sends e) dice dice runs runs) (sym es) whole))

  pub step_fails : StepFails task h e dice dice runs runs
  step_fails =
      record {
        drew = ([], refl);
        ran = subst (λ (x : Task). runs + x.runs h ≤ runs + x.runs (Then h e [])) (sym s.same) (omega arith);
      }

-- what is in flight, and whether nobody waits
module _ (name : Name) (answer : Option Answer) (t : Terms) (stub : StubState) (n : ℕ) (task : Task) (h : Turns) (s : Stands name answer t stub n task h) where
  dead_here : is_dead_in name stub ≡ is_dead t h name
  unfolding is_dead dead_in
  dead_here =
      ap (is_dead_in name) s.flying
      ∙ (driven_shows t h (lasts t s.ranges.waits s.ranges.tried)).dying name
      ∙ ap (λ x. dead_in (limit x) (told t h) (age h) (firsts h) name) (driven_terms t h)

  pub flights_here : stub.flights ≡ flights_of task.terms h
  flights_here =
      ap (λ (x : StubState). x.flights) s.flying
      ∙ driven_flights t h (lasts t s.ranges.waits s.ranges.tried)
      ∙ sym (ap (λ (x : Task). flights_of x.terms h) s.same)

  waits_here : (m : Option Answer) → told t h name ≡ m → some_wait task.terms task.jobs h ≡ (waits_unless (is_dead t h) (lacking_or name m None) || false)
  waits_here m e = ap (λ (x : Task). some_wait x.terms x.jobs h) s.same ∙ ap (λ m. waits_unless (is_dead t h) (lacking_or name m None) || false) e

  pub ended_found : is_some answer ≡ true → true ≡ not (some_wait task.terms task.jobs h)
  ended_found e = go (told t h name) refl (ap is_some (sym s.answered) ∙ e)
    where
      go : (m : Option Answer) → told t h name ≡ m → is_some m ≡ true → true ≡ not (some_wait task.terms task.jobs h)
      go None k e = true_false (sym e)
      go (Some x) k e = ap not (sym (waits_here (Some x) k))

  pub ended_dead : is_some answer ≡ false → is_dead_in name stub ≡ not (some_wait task.terms task.jobs h)
  ended_dead e = go (told t h name) refl (ap is_some (sym s.answered) ∙ e)
    where
      twice : (b : Bool) → b ≡ not (not b || false)
      twice true = refl
      twice false = refl

      go : (m : Option Answer) → told t h name ≡ m → is_some m ≡ false → is_dead_in name stub ≡ not (some_wait task.terms task.jobs h)
      go None k e = dead_here ∙ twice (is_dead t h name) ∙ ap not (sym (waits_here None k))
      go (Some x) k e = true_false e

-- The same of the code's own record.
module _ (one heard' : OneName) (e : Event) (hears : heard' ≡ hearing e one) (task : Task) (h : Turns) (s : StandsFor one task h) (dice : Option DiceTold) (runs : ℕ) (b : Bool) (beat : b ≡ is_beat h e) (n' : ℕ) (counts : (sent : List Outgoing) → HasCounted n' (Then h e sent)) (one' : OneName) (sent : List Sending) where
  -- with what the event left of it
  abbrev Left : OneName → Type 0
  Left x = one' ≡ record x { beats = n'; stub = beaten_if b x.stub }

  abbrev Sent : OneName → Type 0
  Sent x = sent ≡ (if b then resent x.stub else [])

  turned : (e' : Event) → e ≡ e' → Left (hearing e' one) → Sent (hearing e' one) → Stepped (StandsFor one' task) task h e (map outgoing_of sent) dice dice runs runs
  turned (Given d) k f q =
      subst (λ x. Stepped (StandsFor x task) task h e (map outgoing_of sent) dice dice runs runs) (sym f)
      (stepped one.name one.answer one.terms one.stub one.beats task h s e dice runs b beat n' counts _ _ sent (ap (λ x. heard x one.stub one.answer) (sym k)) (ap (λ x. beaten_if b (receiving x one.stub)) (sym k)) (q ∙ again b ∙ ap (λ x. again_at b x one.stub) (sym k)))
    where
      again : (c : Bool) → (if c then resent (given d one.stub) else []) ≡ again_at c (Given d) one.stub
      again true = refl
      again false = refl
  turned Tick k f q =
      subst (λ x. Stepped (StandsFor x task) task h e (map outgoing_of sent) dice dice runs runs) (sym f)
      (stepped one.name one.answer one.terms one.stub one.beats task h s e dice runs b beat n' counts _ _ sent (ap (λ x. heard x one.stub one.answer) (sym k)) (ap (λ x. beaten_if b (receiving x one.stub)) (sym k)) (q ∙ again b ∙ ap (λ x. again_at b x one.stub) (sym k)))
    where
      again : (c : Bool) → (if c then resent one.stub else []) ≡ again_at c Tick one.stub
      again true = refl
      again false = refl

  pub turn : Left heard' → Sent heard' → Stepped (StandsFor one' task) task h e (map outgoing_of sent) dice dice runs runs
  turn f q = turned e refl (subst Left hears f) (subst Sent hears q)

-- The same from call to call: a beat, and no beat.
module _ (one heard' : OneName) (e : Event) (hears : heard' ≡ hearing e one) (b : Bool) (n' : ℕ) (tests : (turns : Turns) → HasCounted heard'.beats turns → b ≡ is_beat turns e) (counts : (turns : Turns) (sent : List Outgoing) → HasCounted heard'.beats turns → HasCounted n' (Then turns e sent)) (task : Task) (h : Turns) (s : StandsFor one task h) (dice : Option DiceTold) (runs : ℕ) where
  kept : (e : Event) → (hearing e one).beats ≡ one.beats
  kept (Given d) = refl
  kept Tick = refl

  here : HasCounted heard'.beats h
  here = ap (λ (x : OneName). x.beats) hears ∙ kept e ∙ s.beating

  pub again_turn : b ≡ true → (one' : OneName) (sent : List Sending) → one' ≡ record heard' { beats = n'; stub = beaten heard'.stub } → sent ≡ resent heard'.stub → Stepped (StandsFor one' task) task h e (map outgoing_of sent) dice dice runs runs
  again_turn k one' sent f q = turn one heard' e hears task h s dice runs true (sym k ∙ tests h here) n' (λ sent. counts h sent here) one' sent f q

  pub none_turn : b ≡ false → (one' : OneName) (sent : List Sending) → one' ≡ record heard' { beats = n' } → sent ≡ [] → Stepped (StandsFor one' task) task h e (map outgoing_of sent) dice dice runs runs
  none_turn k one' sent f q = turn one heard' e hears task h s dice runs false (sym k ∙ tests h here) n' (λ sent. counts h sent here) one' sent f q
