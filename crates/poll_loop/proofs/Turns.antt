-- From one turn to the next.
use Rattle.std.proofs.Common.{◌≡◌, ◌⊎◌, inl, inr, ℕ, ◌+◌, ◌<◌, ◌≤◌, Bool, true, false, not, ◌||◌, List, [], ◌∷◌, ◌++◌, map, take, drop, length, Option, Some, None, Err, IsSome, refl, sym, ◌∙◌, ap, subst, arith}
use Rattle.std.specs.List.{list_any}
use Rattle.std.specs.Prelude.{Vec, Ok, Result, option_map}
use Rattle.std.specs.Option.{option_to_list}
use Rattle.std.specs.declared.alloc.Global.{Global}
use Rattle.std.proofs.lemmas.List.{append-nil, take-append-drop, length-append}
use Rattle.pac_ports.specs.Dice.{DiceTold}
use Rattle.pac_ports.specs.Link.{LinkFails, LinkState, has_move, with_moves as adding, with_open}
use Rattle.pac_ports.specs.declared.link.Move.{Move}
use Rattle.pac_ports.specs.Faults.{Rose}
use Rattle.poll_log.specs.Flat.{flat_behind}
use Rattle.poll_log.specs.Turns.{with_moves}
use Rattle.poll_log.specs.Turns.{Outgoing, Turns, Begin, Then, Event, turns_of, with_sent}
use Rattle.poll_log.specs.declared.terms.Terms.{Terms}
use Rattle.poll_log.specs.declared.question.Question.{Question}
use Rattle.poll_log.specs.declared.sending.Sending.{Sending}
use Rattle.poll_log.specs.Beats.{events}
use Rattle.poll_log.specs.Questions.{drawn, firsts, names_of, new_among, outgoing_from, outgoing_of}
use Rattle.poll_log.specs.Told.{told}
use Rattle.poll_log.specs.Jobs.{IsCut, IsPolled, Job, SendsOwed, WaitsBefore, some_wait, once, wanted}
use Rattle.poll_log.proofs.BeatLaws.{events-begin, events-then}
use Rattle.poll_log.proofs.Bounds.{bounded, cut_few}
use Rattle.poll_log.proofs.Names.{once-cons, true_false}
use Rattle.pac_plan.specs.Plan.{Outside, around, whole, faulted, unfinished}
use Rattle.poll_log.specs.Moment.{flights_of}
use Rattle.poll_log.specs.Rounds.{Arrival, Framed, Failed, Framing, Opening, Round, Rounds, arrival_move, event_at, framing_moves, moves_of, rest_at, sent_move, turns_in, unfinished as rest_of}
use Rattle.poll_log.specs.Streamed.{AreFramed, IsFramed, due_among, due_frame, frame_of, framed, octets_in}
use Rattle.poll_log.proofs.Rounds.{turns_of_rounds}
use Rattle.dns_stream.specs.Reading.{Reading}
use Rattle.poll_loop.specs.Streams.{Breaks, CountsStreams, Goes, HasFramed, HasTaken, IsNew, event_read, with_stream_faults}
use Rattle.poll_loop.specs.declared.stream.Stream.{Stream}
use Rattle.poll_loop.specs.Task.{IsSound, Talk}
use Rattle.poll_loop.specs.Numbers.{GaveAll, newly_drawn}
use Rattle.poll_loop.specs.Sending.{SendFails}
use Rattle.poll_loop.specs.Steps.{Began, Stepped, StepFails}
use Rattle.poll_loop.specs.Talks.{Talked, linked, most_events}
use Rattle.poll_loop.specs.Turning.{Polled, Reached, Turned}
use Rattle.poll_loop.specs.declared.looping.PollError.{PollError}
use Rattle.poll_loop.specs.declared.looping.PollError.TheVariants as error
use Rattle.poll_loop.proofs.Logs.{drawn-then, gave-append, linked_by, nothing_drawn, sent_none}
use Rattle.poll_loop.proofs.Made.{Made, adding_none, made_breaks, made_goes, made_none, made_round, made_sent}
use Rattle.poll_loop.proofs.Reading.{event_taken, read_taken}
use Rattle.poll_loop.proofs.Kept.{few_none}
use Rattle.poll_loop.proofs.Owing.{cut_then}
use Rattle.std.specs.List.{cons_option}
use Rattle.poll_log.specs.Told.{is_dead}
use Rattle.poll_log.specs.Jobs.{is_waiting, waits_unless}
use Rattle.std.proofs.lemmas.List.{length-map}
use Rattle.poll_loop.proofs.Waiting.{waits_begin, waits_then}
use Rattle.pac_names.specs.declared.limits.TheConstants.{MOST_NAMES}
use Rattle.pac_names.specs.Names.{Name}

-- a link that failed is unsure as before
still_unsure : (a b : LinkState) → LinkFails a b → has_move a ≡ false → has_move b ≡ false
still_unsure a b f u =
    ap (λ t. let x : LinkState = record b { told = t } in has_move x) f.told
    ∙ ap (λ n. let x : LinkState = record b { told = a.told; sure = n } in has_move x) f.sure
    ∙ u

-- ---- how a talk ends by rounds

module _ (talk : Talk) (old : Outside) (rounds : Rounds) (h : Turns) (is : turns_in rounds ≡ h) (base mid : LinkState) (opened : base ≡ with_open talk.servers old.link) (made : Made (moves_of rounds) base mid) where
  these : turns_of (moves_of rounds) ≡ h
  these = turns_of_rounds rounds ∙ is

  -- the link as it was opened, with these moves and some count
  abbrev after : ℕ → LinkState
  after faults = with_stream_faults faults (adding (moves_of rounds) (with_open talk.servers old.link))

  mid_is : mid ≡ after mid.stream_faults
  mid_is = made.link ∙ ap (λ s. with_stream_faults mid.stream_faults (adding (moves_of rounds) s)) opened

  its_streams : CountsStreams (moves_of rounds) old.link.stream_faults mid.stream_faults
  its_streams = subst (λ (s : LinkState). CountsStreams (moves_of rounds) s.stream_faults mid.stream_faults) opened made.streams

  -- a fault cut it short
  pub faulted_by : (link : LinkState) (dice : Option DiceTold) (runs : ℕ) → IsSound talk.task → (unsent : List Outgoing) → SendsOwed talk.task.terms talk.task.jobs (with_sent h unsent) → WaitsBefore talk.task.terms talk.task.jobs h → (owed : Option Question) → AreFramed talk.task.terms owed rounds → (some_wait talk.task.terms talk.task.jobs h ≡ true) ⊎ IsSome owed → LinkFails mid link → has_move mid ≡ false → GaveAll old.dice (drawn (with_sent h unsent)) dice → runs ≡ old.runs + talk.task.runs (with_sent h unsent) → (log : List Move) × Talked talk old faulted log (around old link dice runs)
  faulted_by link dice runs sound unsent sends before owed frames waits fails unsure drew ran =
      let e = these in
      let cut : IsCut talk.task.terms talk.task.jobs (turns_of (moves_of rounds)) = record {
        unsent = unsent;
        sends = subst (λ x. SendsOwed talk.task.terms talk.task.jobs (with_sent x unsent)) (sym e) sends;
        waits = subst (WaitsBefore talk.task.terms talk.task.jobs) (sym e) before;
      } in (
        moves_of rounds,
        record {
          files = refl;
          clock = refl;
          few = cut_few MOST_NAMES talk.task.terms talk.task.jobs (turns_of (moves_of rounds)) sound.restartable cut;
          streams = subst (CountsStreams (moves_of rounds) old.link.stream_faults) (sym fails.streams) its_streams;
          ends = record {
            cut = cut;
            owed = owed;
            streamed = record { rounds = rounds; moves = refl; framed = frames };
            waits = go waits;
            link = record {
              told = fails.told ∙ ap (λ (s : LinkState). s.told) mid_is;
              sure = fails.sure ∙ ap (λ (s : LinkState). s.sure) mid_is;
              rose = subst (λ (s : LinkState). Rose s.faults link.faults) mid_is fails.rose;
              streams = refl;
            };
            unsure = still_unsure mid link fails unsure;
            drew = subst (λ x. GaveAll old.dice (drawn (with_sent x unsent)) dice) (sym e) drew;
            ran = ran ∙ ap (λ x. old.runs + x) (sound.unsent_runs h unsent) ∙ ap (λ x. old.runs + talk.task.runs x) (sym e);
          };
        },
      )
    where
      go : (some_wait talk.task.terms talk.task.jobs h ≡ true) ⊎ IsSome owed → (some_wait talk.task.terms talk.task.jobs (turns_of (moves_of rounds)) ≡ true) ⊎ IsSome owed
      go (inl w) = inl (ap (some_wait talk.task.terms talk.task.jobs) these ∙ w)
      go (inr s) = inr s

  -- memory ran out
  pub short_by : (dice : Option DiceTold) (runs : ℕ) → IsSound talk.task → IsCut talk.task.terms talk.task.jobs h → (owed : Option Question) → AreFramed talk.task.terms owed rounds → adding (moves_of rounds) (with_open talk.servers old.link) ≡ linked talk.servers (moves_of rounds) old.link → (more : List ℕ) → GaveAll old.dice (drawn h ++ more) dice → runs ≤ old.runs + talk.task.runs h → (log : List Move) × Talked talk old unfinished log (around old mid dice runs)
  short_by dice runs sound cut owed frames linked_is more drew ran =
      let e = these in
      let there : IsCut talk.task.terms talk.task.jobs (turns_of (moves_of rounds)) = subst (IsCut talk.task.terms talk.task.jobs) (sym e) cut in (
        moves_of rounds,
        record {
          files = refl;
          clock = refl;
          few = cut_few MOST_NAMES talk.task.terms talk.task.jobs (turns_of (moves_of rounds)) sound.restartable there;
          streams = its_streams;
          ends = inl (record {
            cut = there;
            owed = owed;
            streamed = record { rounds = rounds; moves = refl; framed = frames };
            link = mid_is ∙ ap (with_stream_faults mid.stream_faults) linked_is;
            drew = (more, subst (λ x. GaveAll old.dice (drawn x ++ more) dice) (sym e) drew);
            ran = subst (λ x. runs ≤ old.runs + talk.task.runs x) (sym e) ran;
          });
        },
      )

all_done : (t : Terms) (jobs : List Job) → wanted jobs (told t (Begin [])) ≡ [] → list_any (is_waiting t (Begin [])) jobs ≡ false
all_done t [] e = refl
all_done t (job ∷ jobs) e = go (job (told t (Begin []))) (λ k. all_done t jobs k) e
  where
    go : (r : Option Name) → (wanted jobs (told t (Begin [])) ≡ [] → list_any (is_waiting t (Begin [])) jobs ≡ false) → cons_option r (wanted jobs (told t (Begin []))) ≡ [] → (waits_unless (is_dead t (Begin [])) r || list_any (is_waiting t (Begin [])) jobs) ≡ false
    go None ih e = ih e
    go (Some n) ih e = cc

-- where nothing is owed at the start nobody waits
none_wait : (t : Terms) (jobs : List Job) → SendsOwed t jobs (Begin []) → some_wait t jobs (Begin []) ≡ false
unfolding outgoing_from
none_wait t jobs o = all_done t jobs (wanted_none _ (sym o.asks ∙ ap names_of (fresh_none o.fresh o.again o.out)))
  where
    fresh_none : (fresh again : List Question) → [] ≡ outgoing_from [] (fresh ++ again) → fresh ≡ []
    fresh_none [] again e = refl
    fresh_none (q ∷ fresh) again e = cc

    wanted_none : (ns : List Name) → once [] ns ≡ [] → ns ≡ []
    wanted_none [] e = refl
    wanted_none (n ∷ ns) e = let f : n ∷ once (n ∷ []) ns ≡ [] = sym (once-cons [] n ns) ∙ e in cc

module _ (talk : Talk) (Stands : Turns → Type 0) (old : Outside) (sent : List Outgoing) (dice : Option DiceTold) (runs : ℕ) (b : Began Stands talk.task sent old dice runs) where
  opening_made : (some : List Outgoing) (link : LinkState) → link ≡ adding (map sent_move some) (with_open talk.servers old.link) → Made (moves_of (Opening some)) (with_open talk.servers old.link) link
  unfolding moves_of
  opening_made some link l = made_sent some (with_open talk.servers old.link) link l

  -- the first questions were sent
  pub reached_begin : (stream : Stream) (link : LinkState) → IsNew stream → 0 < length sent → link ≡ adding (map sent_move sent) (with_open talk.servers old.link) → Reached talk Stands old stream link dice runs 0
  unfolding moves_of turns_in rest_of framed AreFramed
  reached_begin stream link new some l =
      let made = opening_made sent link l in
      record {
        sound = b.sound;
        rounds = Opening sent;
        begun = (let a = length-map sent sent_move in omega arith);
        stands = b.stands;
        sends = b.owed;
        waits = tt;
        counted = events-begin sent;
        frames = refl;
        read = ap (λ (r : Reading). r.unfinished) new.0;
        known = new.1;
        link_now = made.link;
        streams = made.streams;
        drew = b.drew;
        ran = b.ran;
      }

  -- the link failed at the first questions
  pub faulted_begin : (n : ℕ) (link : LinkState) → SendFails (with_open talk.servers old.link) sent n link → (log : List Move) × Talked talk old faulted log (around old link dice runs)
  unfolding moves_of turns_in AreFramed
  faulted_begin n link f =
      let whole_turn : take n sent ++ drop n sent ≡ sent = take-append-drop n sent in
      faulted_by talk old (Opening (take n sent)) (Begin (take n sent)) refl (with_open talk.servers old.link) _ refl
      (opening_made (take n sent) (adding (map sent_move (take n sent)) (with_open talk.servers old.link)) refl) link dice runs b.sound (drop n sent)
      (subst (λ l. SendsOwed talk.task.terms talk.task.jobs (Begin l)) (sym whole_turn) b.owed)
      tt None refl
      (inl (waits_begin talk.task.terms talk.task.jobs b.sound.terms.waits b.sound.terms.tried b.sound.restartable sent b.owed n f.few))
      f.link f.unsure
      (subst (λ l. GaveAll old.dice (drawn (Begin l)) dice) (sym whole_turn) b.drew)
      (subst (λ l. runs ≡ old.runs + talk.task.runs (Begin l)) (sym whole_turn) b.ran)

  -- no room was had for a stream
  pub short_begin : (link : LinkState) → link ≡ old.link → (log : List Move) × Talked talk old unfinished log (around old link dice runs)
  unfolding with_moves flat_behind moves_of AreFramed firsts new_among
  short_begin link l =
      let cut : IsCut talk.task.terms talk.task.jobs (Begin []) = record { unsent = sent; sends = b.owed; waits = tt } in (
        [],
        record {
          files = refl;
          clock = refl;
          few = few_none talk.task.terms;
          streams = ap (λ (s : LinkState). s.stream_faults) l;
          ends = inl (record {
            cut = cut;
            owed = None;
            streamed = record { rounds = Opening []; moves = refl; framed = refl };
            link = l ∙ ap (λ n. with_stream_faults n old.link) (sym (ap (λ (s : LinkState). s.stream_faults) l));
            drew = (drawn (Begin sent), b.drew);
            ran = (let a = b.ran in (let c : talk.task.runs (Begin sent) ≡ talk.task.runs (Begin []) = b.sound.unsent_runs (Begin []) sent in omega arith));
          });
        },
      )

  -- there was nothing to send
  pub nothing_begin : (link : LinkState) → link ≡ old.link → sent ≡ [] → (log : List Move) × Talked talk old whole log (around old link dice runs) × Stands (turns_of log)
  unfolding with_moves flat_behind moves_of AreFramed
  nothing_begin link l e = (
    [],
    record {
      files = refl;
      clock = refl;
      few = few_none talk.task.terms;
      streams = ap (λ (s : LinkState). s.stream_faults) l;
      ends = record {
        polled = record { sends = subst (λ x. SendsOwed talk.task.terms talk.task.jobs (Begin x)) e b.owed; waits = tt; ended = none_wait talk.task.terms talk.task.jobs (subst (λ x. SendsOwed talk.task.terms talk.task.jobs (Begin x)) e b.owed) };
        streamed = record { rounds = Opening []; moves = refl; framed = refl };
        link = l ∙ ap (λ n. with_stream_faults n old.link) (sym (ap (λ (s : LinkState). s.stream_faults) l));
        drew = subst (λ x. GaveAll old.dice (drawn (Begin x)) dice) e b.drew;
        ran = b.ran ∙ ap (λ x. old.runs + talk.task.runs (Begin x)) e;
      };
    },
    subst (λ x. Stands (Begin x)) e b.stands,
  )

module _ (talk : Talk) (Stands : Turns → Type 0) (old : Outside) (stream : Stream) (link : LinkState) (dice : Option DiceTold) (runs count : ℕ) (r : Reached talk Stands old stream link dice runs count) where
  -- the link as it was opened
  abbrev base : LinkState
  base = with_open talk.servers old.link

  its_moves : Made (moves_of r.rounds) base link
  its_moves = record { link = r.link_now; streams = r.streams }

  linked_now : (rounds : Rounds) → 0 < length (moves_of rounds) → adding (moves_of rounds) base ≡ linked talk.servers (moves_of rounds) old.link
  linked_now rounds some = linked_by talk.servers (moves_of rounds) old.link some

  -- the link failed where an event was to come
  pub faulted_receive : (link' : LinkState) → some_wait talk.task.terms talk.task.jobs (turns_in r.rounds) ≡ true → LinkFails link link' → has_move link ≡ false → (log : List Move) × Talked talk old faulted log (around old link' dice runs)
  faulted_receive link' w l u =
      let h = turns_in r.rounds in
      faulted_by talk old r.rounds h refl base link refl its_moves link' dice runs r.sound []
      (subst (SendsOwed talk.task.terms talk.task.jobs) (sent_none h) r.sends)
      r.waits None r.frames (inl w) l u
      (subst (λ h. GaveAll old.dice (drawn h) dice) (sent_none h) r.drew)
      (r.ran ∙ ap (λ h. old.runs + talk.task.runs h) (sent_none h))

  -- nobody waits any more
  pub ended_whole : some_wait talk.task.terms talk.task.jobs (turns_in r.rounds) ≡ false → (log : List Move) × Talked talk old whole log (around old link dice runs) × Stands (turns_of log)
  ended_whole w =
      let e = sym (turns_of_rounds r.rounds) in (
        moves_of r.rounds,
        record {
          files = refl;
          clock = refl;
          few = subst (λ h. events h ≤ most_events talk.task.terms) e (bounded MOST_NAMES talk.task.terms talk.task.jobs (turns_in r.rounds) r.sound.restartable r.sends r.waits).few_events;
          streams = r.streams;
          ends = record {
            polled = subst (IsPolled talk.task.terms talk.task.jobs) e (record { sends = r.sends; waits = r.waits; ended = w });
            streamed = record { rounds = r.rounds; moves = refl; framed = r.frames };
            link = r.link_now ∙ ap (with_stream_faults link.stream_faults) (linked_now r.rounds r.begun);
            drew = subst (λ h. GaveAll old.dice (drawn h) dice) e r.drew;
            ran = subst (λ h. runs ≡ old.runs + talk.task.runs h) e r.ran;
          };
        },
        subst Stands e r.stands,
      )

  -- after so many events nobody waits
  pub ended_by_bound : most_events talk.task.terms ≤ count → (log : List Move) × Talked talk old whole log (around old link dice runs) × Stands (turns_of log)
  ended_by_bound high = ended_whole (go (some_wait talk.task.terms talk.task.jobs (turns_in r.rounds)) refl)
    where
      go : (b : Bool) → some_wait talk.task.terms talk.task.jobs (turns_in r.rounds) ≡ b → b ≡ false
      go true w =
          let few = (bounded MOST_NAMES talk.task.terms talk.task.jobs (turns_in r.rounds) r.sound.restartable r.sends r.waits).waiting w in
          absurd (let c = r.counted in omega arith)
      go false w = refl

  -- ---- an event came

  module _ (arrival : Arrival) (mid : LinkState) (came : Made (arrival_move arrival ∷ []) link mid) (taken : Stream) (took : HasTaken arrival stream.reader taken.reader) (kept : taken.framed ≡ stream.framed) (event : Event) (heard : event ≡ event_read taken.reader arrival) (due : Option Question) (asked : due ≡ due_among (flights_of talk.task.terms (turns_in r.rounds)) taken.framed.items arrival) (w : some_wait talk.task.terms talk.task.jobs (turns_in r.rounds) ≡ true) where
    abbrev h : Turns
    h = turns_in r.rounds

    abbrev e : Event
    e = event_at (rest_of r.rounds) arrival

    event_is : event ≡ e
    event_is = heard ∙ event_taken arrival stream.reader taken.reader (rest_of r.rounds) took r.read

    due_is : due ≡ due_frame talk.task.terms r.rounds arrival
    due_is =
        asked
        ∙ ap (λ (framed : Vec Question Global). due_among (flights_of talk.task.terms h) framed.items arrival) kept
        ∙ ap (λ seen. due_among (flights_of talk.task.terms h) seen arrival) r.known

    some_moves : (sent : List Outgoing) (framing : Option Framing) → 0 < length (moves_of (Round r.rounds arrival sent framing))
    unfolding moves_of
    some_moves sent framing =
        let a = length-append (moves_of r.rounds) (arrival_move arrival ∷ (map sent_move sent ++ framing_moves framing)) in
        let b = r.begun in omega arith

    -- the round in which this was sent to the servers
    sent_round : (sent : List Outgoing) (now : LinkState) → now ≡ adding (map sent_move sent) mid → Made (moves_of (Round r.rounds arrival sent None)) base now
    sent_round sent now l = made_round r.rounds arrival sent None base link mid now now its_moves came (made_sent sent mid now l) (made_none now)

    drew_more : (sent : List Outgoing) (dice' : Option DiceTold) → GaveAll dice (newly_drawn h sent) dice' → GaveAll old.dice (drawn (Then h e sent)) dice'
    drew_more sent dice' g =
        subst (λ l. GaveAll old.dice l dice') (sym (drawn-then h e sent))
        (gave-append (drawn h) (newly_drawn h sent) old.dice dice dice' r.drew g)

    ran_more : (sent : List Outgoing) (runs' : ℕ) → runs' + talk.task.runs h ≡ runs + talk.task.runs (Then h e sent) → runs' ≡ old.runs + talk.task.runs (Then h e sent)
    ran_more sent runs' x = let a = r.ran in omega arith

    framed_owed : (sent : List Outgoing) → AreFramed talk.task.terms due (Round r.rounds arrival sent None)
    unfolding AreFramed
    framed_owed sent = (r.frames, owed due due_is)
      where
        owed : (q : Option Question) → q ≡ due_frame talk.task.terms r.rounds arrival → IsFramed (due_frame talk.task.terms r.rounds arrival) q None
        owed None k = k
        owed (Some q) k = k

    -- memory ran out at it
    pub ended_memory : (dice' : Option DiceTold) (runs' : ℕ) → StepFails talk.task h event dice dice' runs runs' → (log : List Move) × Talked talk old unfinished log (around old mid dice' runs')
    unfolding turns_in
    ended_memory dice' runs' s' =
        let s : StepFails talk.task h e dice dice' runs runs' = subst (λ x. StepFails talk.task h x dice dice' runs runs') event_is s' in
        short_by talk old (Round r.rounds arrival [] None) (Then h e []) refl base mid refl (sent_round [] mid (sym (adding_none mid))) dice' runs' r.sound
        (cut_then talk.task.terms talk.task.jobs r.sound.terms.waits r.sound.terms.tried r.sound.named h e r.sends (r.waits, w))
        due (framed_owed []) (linked_now (Round r.rounds arrival [] None) (some_moves [] None)) s.drew.0
        (subst (λ d. GaveAll old.dice (d ++ s.drew.0) dice') (sym (nothing_drawn h e)) (gave-append (drawn h) s.drew.0 old.dice dice dice' r.drew s.drew.1))
        (let a = r.ran in (let b = s.ran in omega arith))

    module _ (Stands' : Turns → Type 0) (sent : List Outgoing) (dice' : Option DiceTold) (runs' : ℕ) (s' : Stepped Stands' talk.task h event sent dice dice' runs runs') where
      s : Stepped Stands' talk.task h e sent dice dice' runs runs'
      s = subst (λ x. Stepped Stands' talk.task h x sent dice dice' runs runs') event_is s'

      -- the link failed where something was to be sent
      pub faulted_send : (n : ℕ) (link' : LinkState) → SendFails mid sent n link' → (log : List Move) × Talked talk old faulted log (around old link' dice' runs')
      unfolding turns_in
      faulted_send n link' f =
          let whole_turn : take n sent ++ drop n sent ≡ sent = take-append-drop n sent in
          faulted_by talk old (Round r.rounds arrival (take n sent) None) (Then h e (take n sent)) refl base _ refl
          (sent_round (take n sent) (adding (map sent_move (take n sent)) mid) refl) link' dice' runs' r.sound (drop n sent)
          (subst (λ l. SendsOwed talk.task.terms talk.task.jobs (Then h e l)) (sym whole_turn) (r.sends, s.owed))
          (r.waits, w) due (framed_owed (take n sent))
          (inl (waits_then talk.task.terms talk.task.jobs r.sound.terms.waits r.sound.terms.tried r.sound.restartable h e sent r.sends s.owed n f.few))
          f.link f.unsure
          (subst (λ l. GaveAll old.dice (drawn (Then h e l)) dice') (sym whole_turn) (drew_more sent dice' s.drew))
          (subst (λ l. runs' ≡ old.runs + talk.task.runs (Then h e l)) (sym whole_turn) (ran_more sent runs' s.ran))

      -- all was sent
      module _ (link' : LinkState) (l : link' ≡ adding (map sent_move sent) mid) where
        reached_by : (framing : Option Framing) (last : Stream) (now : LinkState) → AreFramed talk.task.terms None (Round r.rounds arrival sent framing) → last.reader.unfinished ≡ rest_of (Round r.rounds arrival sent framing) → last.framed.items ≡ framed talk.task.terms (Round r.rounds arrival sent framing) → Made (moves_of (Round r.rounds arrival sent framing)) base now → Reached talk Stands' old last now dice' runs' (count + 1)
        unfolding turns_in
        reached_by framing last now frames read known made =
            record {
              sound = r.sound;
              rounds = Round r.rounds arrival sent framing;
              begun = some_moves sent framing;
              stands = s.stands;
              sends = (r.sends, s.owed);
              waits = (r.waits, w);
              counted = events-then h e sent ∙ ap (λ x. x + 1) r.counted;
              frames = frames;
              read = read;
              known = known;
              link_now = made.link;
              streams = made.streams;
              drew = drew_more sent dice' s.drew;
              ran = ran_more sent runs' s.ran;
            }

        taken_known : taken.framed.items ≡ framed talk.task.terms r.rounds
        taken_known = ap (λ (framed : Vec Question Global). framed.items) kept ∙ r.known

        taken_read : taken.reader.unfinished ≡ rest_at (rest_of r.rounds) arrival
        taken_read = read_taken arrival stream.reader taken.reader (rest_of r.rounds) took r.read

        -- and no frame is due
        pub reached_more : due ≡ None → Reached talk Stands' old taken link' dice' runs' (count + 1)
        unfolding framed rest_of
        reached_more none =
            reached_by None taken link' (subst (λ q. AreFramed talk.task.terms q (Round r.rounds arrival sent None)) none (framed_owed sent)) taken_read
            (taken_known ∙ sym (append-nil (framed talk.task.terms r.rounds)) ∙ ap (λ q. framed talk.task.terms r.rounds ++ option_to_list q) (sym none ∙ due_is))
            (sent_round sent link' l)

        -- or the frame of a question
        module _ (q : Question) (is_due : due ≡ Some q) where
          due_q : Some q ≡ due_frame talk.task.terms r.rounds arrival
          due_q = sym is_due ∙ due_is

          framed_by : (framing : Framing) → octets_in framing ≡ frame_of q → AreFramed talk.task.terms None (Round r.rounds arrival sent (Some framing))
          unfolding AreFramed
          framed_by framing o = (r.frames, ap (option_map frame_of) (sym due_q) ∙ ap Some (sym o))

          known_more : (last : Stream) (framing : Framing) → last.framed.items ≡ taken.framed.items ++ q ∷ [] → last.framed.items ≡ framed talk.task.terms (Round r.rounds arrival sent (Some framing))
          unfolding framed
          known_more last framing k =
              k ∙ ap (λ l. l ++ q ∷ []) taken_known ∙ ap (λ x. framed talk.task.terms r.rounds ++ option_to_list x) due_q

          reached_frame : (last : Stream) (now : LinkState) → HasFramed q taken last link' (Ok tt) now → Reached talk Stands' old last now dice' runs' (count + 1)
          unfolding rest_of
          reached_frame last now f = go f.1
            where
              go : Goes q taken.reader last.reader link' now ⊎ Breaks q last.reader link' now → Reached talk Stands' old last now dice' runs' (count + 1)
              go (inl g) =
                  reached_by (Some (Framed (frame_of q))) last now (framed_by (Framed (frame_of q)) refl)
                  (ap (λ (x : Reading). x.unfinished) g.read ∙ taken_read) (known_more last (Framed (frame_of q)) f.0)
                  (made_round r.rounds arrival sent (Some (Framed (frame_of q))) base link mid link' now its_moves came (made_sent sent mid link' l) (made_goes q taken.reader last.reader link' now g))
              go (inr g) =
                  reached_by (Some (Failed (frame_of q))) last now (framed_by (Failed (frame_of q)) refl)
                  (ap (λ (x : Reading). x.unfinished) g.read) (known_more last (Failed (frame_of q)) f.0)
                  (made_round r.rounds arrival sent (Some (Failed (frame_of q))) base link mid link' now its_moves came (made_sent sent mid link' l) (made_breaks q last.reader link' now g))

          -- where the link failed, or memory ran out, it is still owed
          sent_all : SendsOwed talk.task.terms talk.task.jobs (Then h e sent)
          sent_all = (r.sends, s.owed)

          faulted_frame : (now : LinkState) → LinkFails link' now → has_move link' ≡ false → (log : List Move) × Talked talk old faulted log (around old now dice' runs')
          unfolding turns_in
          faulted_frame now f u =
              faulted_by talk old (Round r.rounds arrival sent None) (Then h e sent) refl base link' refl (sent_round sent link' l) now dice' runs' r.sound []
              (subst (SendsOwed talk.task.terms talk.task.jobs) (sent_none (Then h e sent)) sent_all)
              (r.waits, w) due (framed_owed sent) (inr (subst IsSome (sym is_due) refl)) f u
              (subst (λ h. GaveAll old.dice (drawn h) dice') (sent_none (Then h e sent)) (drew_more sent dice' s.drew))
              (ran_more sent runs' s.ran ∙ ap (λ h. old.runs + talk.task.runs h) (sent_none (Then h e sent)))

          short_frame : (now : LinkState) → now ≡ link' → (log : List Move) × Talked talk old unfinished log (around old now dice' runs')
          unfolding turns_in
          short_frame now same =
              let cut : IsCut talk.task.terms talk.task.jobs (Then h e sent) = record {
                unsent = [];
                sends = subst (SendsOwed talk.task.terms talk.task.jobs) (sent_none (Then h e sent)) sent_all;
                waits = (r.waits, w);
              } in
              short_by talk old (Round r.rounds arrival sent None) (Then h e sent) refl base now refl (sent_round sent now (same ∙ l)) dice' runs' r.sound cut
              due (framed_owed sent) (linked_now (Round r.rounds arrival sent None) (some_moves sent None)) []
              (subst (λ d. GaveAll old.dice d dice') (sym (append-nil (drawn (Then h e sent)))) (drew_more sent dice' s.drew))
              (let a = ran_more sent runs' s.ran in omega arith)

          pub turned_frame : (last : Stream) (now : LinkState) (result : Result (Unit {0}) PollError) → HasFramed q taken last link' result now → Turned talk Stands' old result last now dice' runs' (count + 1)
          turned_frame last now (Ok u) f = reached_frame last now f
          turned_frame last now (Err error.Link) f = faulted_frame now f.0 f.1
          turned_frame last now (Err error.Memory) f = short_frame now f

-- from a turn to the whole
pub stopped : (talk : Talk) (Stands : Turns → Type 0) (old : Outside) (why : PollError) (stream : Stream) (link : LinkState) (dice : Option DiceTold) (runs count : ℕ) → Turned talk Stands old (Err why) stream link dice runs count → Polled talk Stands old (Err why) (around old link dice runs)
stopped talk Stands old error.Link stream link dice runs count t = t
stopped talk Stands old error.Memory stream link dice runs count t = t

pub waits_if_not : (b w : Bool) → b ≡ not w → b ≡ false → w ≡ true
waits_if_not b true e f = refl
waits_if_not b false e f = true_false (sym e ∙ f)

pub ended_if : (b w : Bool) → b ≡ not w → b ≡ true → w ≡ false
ended_if b true e f = true_false (sym f ∙ e)
ended_if b false e f = refl

pub none_sent : (qs : List Sending) → length qs ≡ 0 → map outgoing_of qs ≡ []
none_sent [] e = refl
none_sent (q ∷ qs) e = absurd (omega arith)
