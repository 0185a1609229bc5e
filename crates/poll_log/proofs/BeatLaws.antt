-- Which events are beats, and how many events there are between them.
use Rattle.std.proofs.Common.{◌≡◌, ◌≢◌, ℕ, ◌+◌, ◌-◌, ◌*◌, ◌/◌, ◌%◌, ◌<◌, ◌≤◌, Bool, true, false, cond, List, [], ◌∷◌, length, refl, sym, ◌∙◌, ap, arith, ◌==◌}
use Rattle.std.proofs.lemmas.Bool.{eqb-true, eqb-false, eq-eqb}
use Rattle.poll_log.specs.declared.terms.TheConstants.{FLOOD}
use Rattle.poll_log.specs.Turns.{Outgoing, Turns, Begin, Then, Event, Given, Tick}
use Rattle.poll_log.specs.Beats.{ticks, stretches, last_stretch, one_more, first_or_none, floods, beats, is_beat, events, beat_of}

pub last_stretch-tick : (h : Turns) (sent : List Outgoing) → last_stretch (Then h Tick sent) ≡ 0
unfolding last_stretch stretches
last_stretch-tick h sent = refl

abbrev pub rest : List ℕ → List ℕ
rest [] = []
rest (g ∷ gs) = gs

pub stretches_cons : (h : Turns) → stretches h ≡ last_stretch h ∷ rest (stretches h)
unfolding last_stretch stretches
stretches_cons (Begin sent) = refl
stretches_cons (Then h Tick sent) = refl
stretches_cons (Then h (Given d) sent) = go (stretches h) (stretches_cons h)
  where
    go : (l : List ℕ) → l ≡ first_or_none l ∷ rest l → one_more l ≡ first_or_none (one_more l) ∷ rest (one_more l)
    go [] e = cc
    go (g ∷ gs) e = refl

pub last_stretch-given : (h : Turns) (d : List ℕ) (sent : List Outgoing) → last_stretch (Then h (Given d) sent) ≡ last_stretch h + 1
unfolding last_stretch stretches
last_stretch-given h d sent = go (stretches h) (stretches_cons h)
  where
    go : (l : List ℕ) → l ≡ first_or_none (stretches h) ∷ rest (stretches h) → first_or_none (one_more l) ≡ first_or_none l + 1
    go [] e = cc
    go (g ∷ gs) e = refl

pub tick_is_beat : (h : Turns) → is_beat h Tick ≡ true
unfolding is_beat beats ticks stretches
tick_is_beat h = eq-eqb _ _ (omega arith)

abbrev others : Turns → ℕ
others h = floods (rest (stretches h))

beats_split : (h : Turns) → beats h ≡ ticks h + (last_stretch h / FLOOD + others h)
unfolding beats
beats_split h = ap (λ l. ticks h + floods l) (stretches_cons h)

given_split : (h : Turns) (d : List ℕ) (sent : List Outgoing) → beats (Then h (Given d) sent) ≡ ticks h + ((last_stretch h + 1) / FLOOD + others h)
unfolding beats ticks stretches
given_split h d sent = ap (λ l. ticks h + floods (one_more l)) (stretches_cons h)

-- both tests on plain numbers
flooded : (t g s b c : ℕ) → b ≡ t + (g / FLOOD + s) → c ≡ t + ((g + 1) / FLOOD + s) → (c == b + 1) ≡ (g % FLOOD + 1 == FLOOD)
flooded t g s b c e f = go (c == b + 1) (g % FLOOD + 1 == FLOOD) refl refl
  where
    go : (x y : Bool) → (c == b + 1) ≡ x → (g % FLOOD + 1 == FLOOD) ≡ y → x ≡ y
    go true true h k = refl
    go true false h k = (let p : c ≡ b + 1 = eqb-true _ _ h in absurd (eqb-false _ _ k (omega arith)))
    go false true h k = (let p : g % FLOOD + 1 ≡ FLOOD = eqb-true _ _ k in absurd (eqb-false _ _ h (omega arith)))
    go false false h k = refl

-- a datagram is a beat where a flood came since the last one
pub given_is_beat : (h : Turns) (d : List ℕ) → is_beat h (Given d) ≡ (last_stretch h % FLOOD + 1 == FLOOD)
unfolding is_beat
given_is_beat h d = flooded (ticks h) (last_stretch h) (others h) (beats h) (beats (Then h (Given d) [])) (beats_split h) (given_split h d [])

raised : (t g s b c : ℕ) → b ≡ t + (g / FLOOD + s) → c ≡ t + ((g + 1) / FLOOD + s) → c ≡ b + cond (g % FLOOD + 1 == FLOOD) 1 0
raised t g s b c e f = go (g % FLOOD + 1 == FLOOD) refl
  where
    go : (y : Bool) → (g % FLOOD + 1 == FLOOD) ≡ y → c ≡ b + cond y 1 0
    go true k = (let p : g % FLOOD + 1 ≡ FLOOD = eqb-true _ _ k in omega arith)
    go false k = (let p : g % FLOOD + 1 ≢ FLOOD = eqb-false _ _ k in omega arith)

tick_beats : (h : Turns) (sent : List Outgoing) → beats (Then h Tick sent) ≡ beats h + 1
unfolding beats ticks stretches
tick_beats h sent = omega arith

-- a beat raises the number of beats by one, and another event leaves it
pub beats_more : (h : Turns) (e : Event) (sent : List Outgoing) → beats (Then h e sent) ≡ beats h + beat_of h e
beats_more h Tick sent = tick_beats h sent ∙ ap (λ b. beats h + cond b 1 0) (sym (tick_is_beat h))
beats_more h (Given d) sent = raised (ticks h) (last_stretch h) (others h) (beats h) (beats (Then h (Given d) sent)) (beats_split h) (given_split h d sent) ∙ ap (λ b. beats h + cond b 1 0) (sym (given_is_beat h d))

pub beats-begin : (sent : List Outgoing) → beats (Begin sent) ≡ 0
unfolding beats ticks stretches
beats-begin sent = refl

pub events-begin : (sent : List Outgoing) → events (Begin sent) ≡ 0
unfolding events
events-begin sent = refl

pub events-then : (h : Turns) (e : Event) (sent : List Outgoing) → events (Then h e sent) ≡ events h + 1
unfolding events
events-then h e sent = refl

total : List ℕ → ℕ
total [] = 0
total (g ∷ gs) = g + total gs

-- each stretch has fewer than a flood more than its beats
total_floods : (gs : List ℕ) → total gs ≤ FLOOD * floods gs + (FLOOD - 1) * length gs
unfolding total
total_floods [] = omega arith
total_floods (g ∷ gs) = let ih = total_floods gs in omega arith

counted : (h : Turns) → (events h ≡ ticks h + total (stretches h)) × (length (stretches h) ≡ ticks h + 1)
unfolding events ticks stretches total
counted (Begin sent) = (refl, refl)
counted (Then h Tick sent) = let ih = counted h in (omega arith, omega arith)
counted (Then h (Given d) sent) = go (stretches h) (counted h)
  where
    go : (l : List ℕ) → (events h ≡ ticks h + total l) × (length l ≡ ticks h + 1) → (events h + 1 ≡ ticks h + total (one_more l)) × (length (one_more l) ≡ ticks h + 1)
    go [] c = absurd (omega arith)
    go (g ∷ gs) c = (omega arith, omega arith)

-- fewer events than a flood for each beat and one more
pub events_by_beats : (h : Turns) → events h < FLOOD * (beats h + 1)
unfolding beats
events_by_beats h = let c = counted h in (let t = total_floods (stretches h) in omega arith)
