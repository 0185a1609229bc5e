-- How many beats and events there are while a job waits.
use Rattle.std.proofs.Common.{◌≡◌, ℕ, zero, suc, ◌+◌, ◌*◌, ◌<◌, ◌≤◌, Bool, true, false, cond, ◌||◌, ◌&&◌, not, List, [], ◌∷◌, ◌++◌, length, get_or, Option, Some, None, is_none, refl, sym, ◌∙◌, ap, subst, arith, nat_le}
use Rattle.std.specs.List.{list_any, All, cons_option}
use Rattle.std.proofs.lemmas.List.{map-append}
use Rattle.std.proofs.lemmas.Bool.Decides.{nat_tests}
use Rattle.std.proofs.Math.Nat.{mul-le-mul_left}
use Rattle.pac_names.specs.declared.answer.Answer.{Answer}
use Rattle.pac_names.specs.Comparing.{same_name}
use Rattle.pac_names.specs.Names.{Name}
use Rattle.poll_log.specs.declared.question.Question.{Question}
use Rattle.poll_log.specs.declared.terms.TheConstants.{FLOOD}
use Rattle.poll_log.specs.declared.terms.Terms.{Terms}
use Rattle.poll_log.specs.Turns.{Outgoing, Turns, Begin, Then, Event}
use Rattle.poll_log.specs.Beats.{beats, events, beat_of, is_beat}
use Rattle.poll_log.specs.Questions.{firsts, was_sent, names_of}
use Rattle.poll_log.specs.Sendings.{limit}
use Rattle.poll_log.specs.Told.{Map, age, accepted, told, or_else, is_dead}
use Rattle.poll_log.specs.Jobs.{Job, waits_unless, is_waiting, some_wait, told_to, runs_of, IsCut, SendsOwed, WaitsBefore, wanted}
use Rattle.poll_log.specs.Laws.{Extends, IsRestartable, IsBounded}
use Rattle.poll_log.proofs.Names.{has, has-names, once-covers, none_some, true_false, or-true, same_itself}
use Rattle.poll_log.proofs.BeatLaws.{beats_more, beats-begin, events-begin, events-then, events_by_beats}
use Rattle.poll_log.proofs.TurnLaws.{told_stays, told_next, age_next, accepted_young, sent_before}
use Rattle.poll_log.proofs.Dues.{firsts_of_begin, firsts_next}

pub extends_next : (t : Terms) (h : Turns) (e : Event) (sent : List Outgoing) → Extends (told t (Then h e sent)) (told t h)
extends_next t h e sent n x k = told_stays t h e sent n x k

-- what a job lacks is wanted
pub wants : (jobs : List Job) (M : Map) (k : ℕ) (d : Job) (n : Name) → k < length jobs → get_or jobs k d M ≡ Some n → has n (wanted jobs M) ≡ true
wants [] M k d n l e = absurd (omega arith)
wants (j ∷ js) M zero d n l e = ap (λ r. has n (cons_option r (wanted js M))) e ∙ ap (λ b. b || has n (wanted js M)) (same_itself n)
wants (j ∷ js) M (suc k) d n l e = go (j M) (wants js M k d n (omega arith) e)
  where
    go : (r : Option Name) → has n (wanted js M) ≡ true → has n (cons_option r (wanted js M)) ≡ true
    go None h = h
    go (Some m) h = ap (λ b. same_name m n || b) h ∙ or-true (same_name m n)

names-append : (xs ys : List Question) → names_of (xs ++ ys) ≡ names_of xs ++ names_of ys
names-append xs ys = map-append (λ (q : Question). q.name) xs ys

-- each name that a job lacks was sent
pub want_sent : (t : Terms) (jobs : List Job) (h : Turns) → SendsOwed t jobs h → (k : ℕ) (d : Job) (n : Name) → k < length jobs → get_or jobs k d (told t h) ≡ Some n → was_sent h n ≡ true
want_sent t jobs (Begin sent) o k d n low e =
    sym (has-names n (firsts (Begin sent)))
    ∙ ap (has n) (ap names_of (firsts_of_begin t jobs sent o) ∙ o.asks)
    ∙ once-covers [] (wanted jobs (told t (Begin sent))) n (wants jobs (told t (Begin sent)) k d n low e)
want_sent t jobs (Then h e sent) o k d n low f =
    sym (has-names n (firsts (Then h e sent)))
    ∙ ap (has n) (ap names_of (firsts_next t jobs h e sent o.0 o.1) ∙ names-append (firsts h) o.1.fresh ∙ ap (λ l. names_of (firsts h) ++ l) o.1.asks)
    ∙ once-covers (names_of (firsts h)) (wanted jobs (told t (Then h e sent))) n (wants jobs (told t (Then h e sent)) k d n low f)

-- sent, not told and not dead is below the limit
pub young_if_alive : (t : Terms) (h : Turns) (n : Name) → was_sent h n ≡ true → told t h n ≡ None → is_dead t h n ≡ false → age h n < limit t
unfolding is_dead
young_if_alive t h n s u d = below (nat_le (limit t) (age h n)) refl (sym (ap (λ b. (b && is_none (told t h n)) && nat_le (limit t) (age h n)) s ∙ ap (λ r. is_none r && nat_le (limit t) (age h n)) u) ∙ d)
  where
    below : (b : Bool) → nat_le (limit t) (age h n) ≡ b → nat_le (limit t) (age h n) ≡ false → age h n < limit t
    below b e f = grind (arith, nat_tests)

pub alive_if_young : (t : Terms) (h : Turns) (n : Name) → age h n < limit t → is_dead t h n ≡ false
unfolding is_dead
alive_if_young t h n y = off (was_sent h n && is_none (told t h n)) (nat_le (limit t) (age h n)) (grind (arith, nat_tests))
  where
    off : (x y : Bool) → y ≡ false → (x && y) ≡ false
    off true y e = e
    off false y e = refl

-- of the first names of the job so many as its depth are told, and each was waited for below the limit
pub beats_bound : (most : ℕ) (t : Terms) (jobs : List Job) (h : Turns) → SendsOwed t jobs h → (k : ℕ) (d : Job) (law : IsRestartable most (get_or jobs k d)) (n : Name) → k < length jobs → get_or jobs k d (told t h) ≡ Some n → is_dead t h n ≡ false → beats h ≤ limit t * law.depth (told t h) + age h n
beats_bound most t jobs (Begin sent) o k d law n low f a = let z = beats-begin sent in omega arith
beats_bound most t jobs (Then h e sent) o k d law n low f a = by_first (job M) refl (λ m w b. beats_bound most t jobs h o.0 k d law m low w b)
  where
    L : ℕ
    L = limit t

    job : Job
    job = get_or jobs k d

    M : Map
    M = told t h

    N : Map
    N = told t (Then h e sent)

    now : Turns
    now = Then h e sent

    raised : beats now ≤ beats h + 1
    raised = one (is_beat h e) (beats_more h e sent)
      where
        one : (b : Bool) → beats now ≡ beats h + cond b 1 0 → beats now ≤ beats h + 1
        one true i = omega arith
        one false i = omega arith

    told_now : (m : Name) (x : Answer) → job M ≡ Some m → N m ≡ Some x → (is_dead t h m ≡ false → beats h ≤ L * law.depth M + age h m) → beats now ≤ L * law.depth N + age now n
    told_now m x w y ih =
        let untold : M m ≡ None = law.lacks M m w in
        let got : accepted t h e m ≡ Some x = sym (ap (λ r. or_else r (accepted t h e m)) untold) ∙ sym (told_next t h e sent m) ∙ y in
        let young : age h m < L = accepted_young t h e m x got in
        let bound : beats h ≤ L * law.depth M + age h m = ih (alive_if_young t h m young) in
        let more : law.depth M + 1 ≤ law.depth N = law.deeper N M m x (extends_next t h e sent) w y in
        let mono : L * (law.depth M + 1) ≤ L * law.depth N = mul-le-mul_left L more in
        let r = raised in
        omega arith

    still : (m : Name) → job M ≡ Some m → N m ≡ None → (is_dead t h m ≡ false → beats h ≤ L * law.depth M + age h m) → beats now ≤ L * law.depth N + age now n
    still m w y ih =
        let again : job N ≡ Some m = law.waits N M m (extends_next t h e sent) w y in
        let same : n ≡ m = (cc (f, again)) in
        let here : was_sent now m ≡ true = sent_before h e sent m (want_sent t jobs h o.0 k d m low w) in
        let alive : is_dead t now m ≡ false = ap (is_dead t now) (sym same) ∙ a in
        let aged : age now m ≡ age h m + beat_of h e = age_next h e sent m here in
        let aged_n : age now n ≡ age now m = ap (age now) same in
        let young : age now m < L = young_if_alive t now m here y alive in
        let bound : beats h ≤ L * law.depth M + age h m = ih (alive_if_young t h m (omega arith)) in
        let deep : law.depth M ≤ law.depth N = law.grows N M (extends_next t h e sent) in
        let deep_l : L * law.depth M ≤ L * law.depth N = mul-le-mul_left L deep in
        let more : beats now ≡ beats h + beat_of h e = beats_more h e sent in
        omega arith

    by_told : (m : Name) → job M ≡ Some m → (is_dead t h m ≡ false → beats h ≤ L * law.depth M + age h m) → (r : Option Answer) → N m ≡ r → beats now ≤ L * law.depth N + age now n
    by_told m w ih None y = still m w y ih
    by_told m w ih (Some x) y = told_now m x w y ih

    by_first : (r : Option Name) → job M ≡ r → ((m : Name) → job M ≡ Some m → is_dead t h m ≡ false → beats h ≤ L * law.depth M + age h m) → beats now ≤ L * law.depth N + age now n
    by_first None w ih = none_some n (sym (law.done N M (extends_next t h e sent) w) ∙ f)
    by_first (Some m) w ih = by_told m w (ih m w) (N m) refl

-- some element passes
any_at : {X : Type 0} (p : X → Bool) (xs : List X) (d : X) → list_any p xs ≡ true → (k : ℕ) × (k < length xs) × (p (get_or xs k d) ≡ true)
any_at p [] d e = true_false (sym e)
any_at p (x ∷ xs) d e = go (p x) refl e (any_at p xs d)
  where
    go : (b : Bool) → p x ≡ b → (b || list_any p xs) ≡ true → (list_any p xs ≡ true → (k : ℕ) × (k < length xs) × (p (get_or xs k d) ≡ true)) → (k : ℕ) × (k < length (x ∷ xs)) × (p (get_or (x ∷ xs) k d) ≡ true)
    go true f e ih = (0, omega arith, f)
    go false f e ih = let r = ih e in (suc r.0, omega arith, r.2)

waits_for : (dead : Name → Bool) (r : Option Name) → waits_unless dead r ≡ true → (n : Name) × (r ≡ Some n) × (dead n ≡ false)
waits_for dead None e = true_false (sym e)
waits_for dead (Some n) e = (n, refl, off (dead n) e)
  where
    off : (b : Bool) → not b ≡ true → b ≡ false
    off true e = true_false (sym e)
    off false e = refl

-- while some job waits there are fewer beats than the bound
pub beats_waiting : (most : ℕ) (t : Terms) (jobs : List Job) (h : Turns) → All (IsRestartable most) jobs → SendsOwed t jobs h → some_wait t jobs h ≡ true → beats h + 1 ≤ most * limit t
beats_waiting most t jobs h laws o e =
    let none : Job = λ M. None in
    let at = any_at (is_waiting t h) jobs none e in
    let k : ℕ = at.0 in
    let job : Job = get_or jobs k none in
    let law : IsRestartable most job = laws k none at.1 in
    let w = waits_for (is_dead t h) (job (told t h)) at.2 in
    let alive : is_dead t h w.0 ≡ false = w.2 in
    let young : age h w.0 < limit t = young_if_alive t h w.0 (want_sent t jobs h o k none w.0 at.1 w.1) (law.lacks (told t h) w.0 w.1) alive in
    let bound : beats h ≤ limit t * law.depth (told t h) + age h w.0 = beats_bound most t jobs h o k none law w.0 at.1 w.1 alive in
    let deep : law.depth (told t h) + 1 ≤ most = law.before (told t h) w.0 w.1 in
    let mono : limit t * (law.depth (told t h) + 1) ≤ limit t * most = mul-le-mul_left (limit t) deep in
    let turn : limit t * most ≡ most * limit t = omega arith in
    omega arith

events_below : (most : ℕ) (t : Terms) (h : Turns) → beats h + 1 ≤ most * limit t → events h < FLOOD * (most * limit t)
events_below most t h b =
    let e : events h < FLOOD * (beats h + 1) = events_by_beats h in
    let m : FLOOD * (beats h + 1) ≤ FLOOD * (most * limit t) = mul-le-mul_left FLOOD b in
    omega arith

pub bounded : (most : ℕ) (t : Terms) (jobs : List Job) (h : Turns) → All (IsRestartable most) jobs → SendsOwed t jobs h → WaitsBefore t jobs h → IsBounded most t jobs h
bounded most t jobs (Begin sent) laws o w =
    record {
      few_beats = let z = beats-begin sent in omega arith;
      few_events = let z = events-begin sent in omega arith;
      waiting = λ e. events_below most t (Begin sent) (beats_waiting most t jobs (Begin sent) laws o e);
    }
bounded most t jobs (Then h e sent) laws o w =
    let before : beats h + 1 ≤ most * limit t = beats_waiting most t jobs h laws o.0 w.1 in
    record {
      few_beats = one (is_beat h e) (beats_more h e sent) before;
      few_events = let f : events h < FLOOD * (most * limit t) = events_below most t h before in (let n = events-then h e sent in omega arith);
      waiting = λ k. events_below most t (Then h e sent) (beats_waiting most t jobs (Then h e sent) laws o k);
    }
  where
    one : (b : Bool) → beats (Then h e sent) ≡ beats h + cond b 1 0 → beats h + 1 ≤ most * limit t → beats (Then h e sent) ≤ most * limit t
    one true i k = omega arith
    one false i k = omega arith

-- a log that is cut short has no more events
pub cut_few : (most : ℕ) (t : Terms) (jobs : List Job) (h : Turns) → All (IsRestartable most) jobs → IsCut t jobs h → events h ≤ FLOOD * (most * limit t)
unfolding events
cut_few most t jobs (Begin sent) laws cut = omega arith
cut_few most t jobs (Then h e sent) laws cut = (bounded most t jobs (Then h e (sent ++ cut.unsent)) laws cut.sends cut.waits).few_events

-- the run bound
pub runs_bound : (most : ℕ) (t : Terms) (h : Turns) (job : Job) (law : IsRestartable most job) → runs_of t h job ≤ law.depth (told t h) + 1
unfolding runs_of
runs_bound most t (Begin sent) job law = omega arith
runs_bound most t (Then h e sent) job law = go (job (told t h)) refl (runs_bound most t h job law)
  where
    M : Map
    M = told t h

    N : Map
    N = told t (Then h e sent)

    x : Extends N M
    x = extends_next t h e sent

    grown : runs_of t h job ≤ law.depth M + 1 → runs_of t h job + 0 ≤ law.depth N + 1
    grown ih = let g = law.grows N M x in omega arith

    by_told : (n : Name) → job M ≡ Some n → runs_of t h job ≤ law.depth M + 1 → (r : Option Answer) → N n ≡ r → runs_of t h job + told_to (Some n) N ≤ law.depth N + 1
    by_told n w ih None y = subst (λ m. runs_of t h job + m ≤ law.depth N + 1) (sym (none_counts y)) (grown ih)
      where
        none_counts : N n ≡ None → told_to (Some n) N ≡ 0
        none_counts y = rw y refl
    by_told n w ih (Some a) y = subst (λ m. runs_of t h job + m ≤ law.depth N + 1) (sym (some_counts y)) (let g = law.deeper N M n a x w y in omega arith)
      where
        some_counts : N n ≡ Some a → told_to (Some n) N ≡ 1
        some_counts y = rw y refl

    go : (r : Option Name) → job M ≡ r → runs_of t h job ≤ law.depth M + 1 → runs_of t h job + told_to r N ≤ law.depth N + 1
    go None w ih = grown ih
    go (Some n) w ih = by_told n w ih (N n) refl
