-- From one moment to the next: a question is asked, a datagram comes, a beat passes.
use Rattle.std.proofs.Common.{◌≡◌, ℕ, ◌+◌, ◌<◌, Bool, true, false, cond, ◌||◌, ◌&&◌, not, List, [], ◌∷◌, ◌++◌, map, Option, Some, None, is_none, option_map, refl, sym, ◌∙◌, ap, subst, arith, nat_lt, nat_le}
use Rattle.std.specs.Prelude.{IsSome, is_some}
use Rattle.std.specs.List.{AllByRecursion, cons_option, filter, filter_map}
use Rattle.std.proofs.lemmas.Bool.{ltb-false}
use Rattle.std.proofs.lemmas.Bool.Decides.{nat_tests}
use Rattle.std.proofs.lemmas.List.{map-append}
use Rattle.std.proofs.lemmas.List.Elements.{filter-append}
use Rattle.pac_names.specs.declared.answer.Answer.{Answer}
use Rattle.pac_names.specs.Comparing.{same_name}
use Rattle.pac_names.specs.Names.{Name}
use Rattle.dns_message.specs.Reply.{reply_of}
use Rattle.dns_message.proofs.QueryLaws.{one_name_law}
use Rattle.poll_log.specs.declared.flight.Flight.{Flight}
use Rattle.poll_log.specs.declared.question.Question.{Question}
use Rattle.poll_log.specs.declared.sending.Sending.{Sending}
use Rattle.poll_log.specs.declared.terms.Terms.{Terms}
use Rattle.poll_log.specs.Questions.{has_name, number_in, numbered_sending}
use Rattle.poll_log.specs.Sendings.{limit, sending_at}
use Rattle.poll_log.specs.Told.{Map, accepted_in, or_else, reply_to}
use Rattle.poll_log.specs.Moment.{dead_in, flies, flight_at, flights_in, older, sent_again}
use Rattle.poll_log.proofs.Names.{AllNew, and-false, and-true, has, has-append, has_name-append, or-first, or-left, or-right, or-true, same_is, same_itself, true_false}
use Rattle.poll_log.proofs.Counts.{has_itself}
use Rattle.poll_log.proofs.Asking.{HasLookupName}
use Rattle.poll_log.proofs.TurnLaws.{late_none}
use Rattle.stub_poller.specs.State.{StubState, aged, answer_to, asking, beaten, dying, given, is_over, is_young, left_unless, name_of, resent, sending_of, unanswered_by}
use Rattle.stub_poller.specs.Shows.{Shows}
use Rattle.stub_poller.proofs.Ages.{has_tries, has_wait}
use Rattle.stub_poller.proofs.FlightLists.{over_or_young}

pub flights_cons : (L : ℕ) (M : Map) (a : Name → ℕ) (q : Question) (F : List Question) → flights_in L M a (q ∷ F) ≡ cond (flies L M a q.name) (flight_at a q ∷ flights_in L M a F) (flights_in L M a F)
unfolding flights_in
flights_cons L M a q F = go (flies L M a q.name)
  where
    go : (b : Bool) → map (flight_at a) (cond b (q ∷ filter (λ p. flies L M a p.name) F) (filter (λ p. flies L M a p.name) F)) ≡ cond b (flight_at a q ∷ map (flight_at a) (filter (λ p. flies L M a p.name) F)) (map (flight_at a) (filter (λ p. flies L M a p.name) F))
    go true = refl
    go false = refl

pub flights_nil : (L : ℕ) (M : Map) (a : Name → ℕ) → flights_in L M a [] ≡ []
unfolding flights_in
flights_nil L M a = refl

pub flights-append : (L : ℕ) (M : Map) (a : Name → ℕ) (F G : List Question) → flights_in L M a (F ++ G) ≡ flights_in L M a F ++ flights_in L M a G
unfolding flights_in
flights-append L M a F G = ap (map (flight_at a)) (filter-append (λ (q : Question). flies L M a q.name) F G) ∙ map-append (flight_at a) (filter (λ q. flies L M a q.name) F) (filter (λ q. flies L M a q.name) G)

-- A question is asked.
young_at_first : (L : ℕ) → 0 < L → nat_lt 0 L ≡ true
young_at_first L p = grind (arith, nat_tests)

not_over_at_first : (L : ℕ) → 0 < L → nat_le L 0 ≡ false
not_over_at_first L p = grind (arith, nat_tests)

young_flies : (L : ℕ) (M : Map) (a : Name → ℕ) (n : Name) → M n ≡ None → a n ≡ 0 → 0 < L → flies L M a n ≡ true
young_flies L M a n u z p = ap (λ r. is_none r && nat_lt (a n) L) u ∙ ap (λ x. nat_lt x L) z ∙ young_at_first L p

pub asked_shows : (stub : StubState) (M : Map) (a : Name → ℕ) (F : List Question) (q : Question) → Shows stub M a F → has_name q.name F ≡ false → M q.name ≡ None → Shows (asking q stub) M a (F ++ q ∷ [])
unfolding dead_in
asked_shows stub M a F q s new u =
    record {
      flying =
          ap (λ l. l ++ record { question = q; age = 0 } ∷ []) s.flying
          ∙ ap (λ l. flights_in L M a F ++ l) (sym alone)
          ∙ sym (flights-append L M a F (q ∷ []));
      dying = λ n. s.dying n ∙ ap (λ b. (b && is_none (M n)) && nat_le L (a n)) (widened n (same_name q.name n) refl) ∙ dead n (same_name q.name n) refl;
      young = λ n k. s.young n (or-left _ _ (sym (has_name-append n F (q ∷ [])) ∙ k));
      lasting = s.lasting;
    }
  where
    L : ℕ
    L = limit stub.terms

    alone : flights_in L M a (q ∷ []) ≡ record { question = q; age = 0 } ∷ []
    alone =
        flights_cons L M a q []
        ∙ ap (λ b. cond b (flight_at a q ∷ flights_in L M a []) (flights_in L M a [])) (young_flies L M a q.name u (s.young q.name new) s.lasting)
        ∙ ap (λ l. flight_at a q ∷ l) (flights_nil L M a)
        ∙ ap (λ (x : ℕ). let f : Flight = record { question = q; age = x } in f ∷ []) (s.young q.name new)

    widened : (n : Name) (b : Bool) → same_name q.name n ≡ b → has_name n F ≡ (has_name n F && (not b || has_name n F))
    widened n true e = self (has_name n F)
      where
        self : (x : Bool) → x ≡ (x && (false || x))
        self true = refl
        self false = refl
    widened n false e = self (has_name n F)
      where
        self : (x : Bool) → x ≡ (x && true)
        self true = refl
        self false = refl

    dead : (n : Name) (b : Bool) → same_name q.name n ≡ b → (((has_name n F && (not b || has_name n F)) && is_none (M n)) && nat_le L (a n)) ≡ ((has_name n (F ++ q ∷ []) && is_none (M n)) && nat_le L (a n))
    dead n false e = ap (λ b. (b && is_none (M n)) && nat_le L (a n)) (and-true (has_name n F) ∙ sym (has_name-append n F (q ∷ []) ∙ ap (λ b. has_name n F || (b || false)) e ∙ plain (has_name n F)))
      where
        plain : (x : Bool) → (x || false) ≡ x
        plain true = refl
        plain false = refl
    dead n true e =
        let here : a n ≡ 0 = ap a (sym (same_is _ _ e)) ∙ s.young q.name new in
        ap (λ x. ((has_name n F && (false || has_name n F)) && is_none (M n)) && nat_le L x) here
        ∙ ap (λ b. ((has_name n F && (false || has_name n F)) && is_none (M n)) && b) (not_over_at_first L s.lasting)
        ∙ and-false _
        ∙ sym (ap (λ x. (has_name n (F ++ q ∷ []) && is_none (M n)) && nat_le L x) here ∙ ap (λ b. (has_name n (F ++ q ∷ []) && is_none (M n)) && b) (not_over_at_first L s.lasting) ∙ and-false _)

-- A datagram comes.
-- at most one of the flights is answered
abbrev AtMostOne : List ℕ → List Flight → Type 0
AtMostOne d [] = Unit {0}
AtMostOne d (f ∷ fs) = (IsSome (answer_to d f) → AllByRecursion (λ g. answer_to d g ≡ None) fs) × AtMostOne d fs

abbrev is_left : List ℕ → Flight → Bool
is_left d f = is_none (answer_to d f)

all_left : (d : List ℕ) (fs : List Flight) → AllByRecursion (λ g. answer_to d g ≡ None) fs → filter (is_left d) fs ≡ fs
all_left d [] h = refl
all_left d (f ∷ fs) h = ap (λ r. cond (is_none r) (f ∷ filter (is_left d) fs) (filter (is_left d) fs)) h.0 ∙ ap (λ l. f ∷ l) (all_left d fs h.1)

unanswered-filter : (d : List ℕ) (fs : List Flight) → AtMostOne d fs → unanswered_by d fs ≡ filter (is_left d) fs
unanswered-filter d [] h = refl
unanswered-filter d (f ∷ fs) h = go (answer_to d f) refl (unanswered-filter d fs h.1)
  where
    go : (r : Option Answer) → answer_to d f ≡ r → unanswered_by d fs ≡ filter (is_left d) fs → left_unless r f fs (unanswered_by d fs) ≡ cond (is_none r) (f ∷ filter (is_left d) fs) (filter (is_left d) fs)
    go None e ih = ap (λ l. f ∷ l) ih
    go (Some x) e ih = sym (all_left d fs (h.0 (ap is_some e)))

module _ (L : ℕ) (M : Map) (a : Name → ℕ) (d : List ℕ) where
  -- a name other than the one that is answered is not
  not_others : (pre : List Question) (q : Question) (G : List Question) → has_name q.name pre ≡ true → HasLookupName q → AllNew pre G → AllByRecursion HasLookupName G → IsSome (reply_of d q.id q.name) → AllByRecursion (λ g. answer_to d g ≡ None) (flights_in L M a G)
  not_others pre q [] seen named new names s = subst (AllByRecursion (λ g. answer_to d g ≡ None)) (sym (flights_nil L M a)) tt
  not_others pre q (r ∷ G) seen named new names s =
      subst (AllByRecursion (λ g. answer_to d g ≡ None)) (sym (flights_cons L M a r G)) (go (flies L M a r.name) (not_others (pre ++ r ∷ []) q G (has_name-append q.name pre (r ∷ []) ∙ or-first _ _ seen) named new.1 names.1 s))
    where
      unanswered : (x : Option Answer) → reply_of d r.id r.name ≡ x → x ≡ None
      unanswered None e = refl
      unanswered (Some x) e =
          let same : q.name ≡ r.name = one_name_law d q.id r.id q.name r.name named names.0 s (ap is_some e) in
          true_false (sym seen ∙ ap (λ n. has_name n pre) same ∙ new.0)

      go : (b : Bool) → AllByRecursion (λ g. answer_to d g ≡ None) (flights_in L M a G) → AllByRecursion (λ g. answer_to d g ≡ None) (cond b (flight_at a r ∷ flights_in L M a G) (flights_in L M a G))
      go true h = (unanswered (reply_of d r.id r.name) refl, h)
      go false h = h

  at_most_one : (pre G : List Question) → AllNew pre G → AllByRecursion HasLookupName G → AtMostOne d (flights_in L M a G)
  at_most_one pre [] new names = subst (AtMostOne d) (sym (flights_nil L M a)) tt
  at_most_one pre (q ∷ G) new names =
      subst (AtMostOne d) (sym (flights_cons L M a q G)) (go (flies L M a q.name) (at_most_one (pre ++ q ∷ []) G new.1 names.1))
    where
      go : (b : Bool) → AtMostOne d (flights_in L M a G) → AtMostOne d (cond b (flight_at a q ∷ flights_in L M a G) (flights_in L M a G))
      go true h = (λ s. not_others (pre ++ q ∷ []) q G (has_itself pre q q.name (same_itself q.name)) names.0 new.1 names.1 s, h)
      go false h = h

-- the number of a name among distinct names
number_here : (pre : List Question) (q : Question) (G : List Question) → has_name q.name pre ≡ false → number_in (pre ++ q ∷ G) q.name ≡ Some q.id
unfolding number_in
number_here [] q G h = ap (λ b. cond b (Some q.id) (number_in G q.name)) (same_itself q.name)
number_here (p ∷ pre) q G h =
    ap (λ b. cond b (Some p.id) (number_in (pre ++ q ∷ G) q.name)) (or-left (same_name p.name q.name) (has_name q.name pre) h) ∙ number_here pre q G (or-right _ _ h)

has_here : (pre : List Question) (q : Question) (G : List Question) → has_name q.name (pre ++ q ∷ G) ≡ true
has_here pre q G = has_name-append q.name pre (q ∷ G) ∙ ap (λ b. has_name q.name pre || (b || has_name q.name G)) (same_itself q.name) ∙ or-true (has_name q.name pre)

-- the answers with what a datagram tells
abbrev pub told_by : ℕ → Map → (Name → ℕ) → List Question → List ℕ → Map
told_by L M a F d n = or_else (M n) (accepted_in L a F d n)

module _ (L : ℕ) (M : Map) (a : Name → ℕ) (d : List ℕ) where
  -- a question still flies where it did and is not answered
  still_flies : (pre : List Question) (q : Question) (G : List Question) → has_name q.name pre ≡ false → flies L (told_by L M a (pre ++ q ∷ G) d) a q.name ≡ (flies L M a q.name && is_none (reply_of d q.id q.name))
  unfolding accepted_in
  still_flies pre q G h =
      ap (λ b. is_none (or_else (M q.name) (cond (b && not (nat_le L (a q.name))) (reply_to (number_in (pre ++ q ∷ G) q.name) d q.name) None)) && nat_lt (a q.name) L) (has_here pre q G)
      ∙ ap (λ i. is_none (or_else (M q.name) (cond (not (nat_le L (a q.name))) (reply_to i d q.name) None)) && nat_lt (a q.name) L) (number_here pre q G h)
      ∙ go (M q.name) (nat_le L (a q.name)) refl (reply_of d q.id q.name)
    where
      below : nat_le L (a q.name) ≡ false → nat_lt (a q.name) L ≡ true
      below e = grind (arith, nat_tests)

      above : nat_le L (a q.name) ≡ true → nat_lt (a q.name) L ≡ false
      above e = grind (arith, nat_tests)

      go : (m : Option Answer) (b : Bool) → nat_le L (a q.name) ≡ b → (r : Option Answer) → (is_none (or_else m (cond (not b) r None)) && nat_lt (a q.name) L) ≡ ((is_none m && nat_lt (a q.name) L) && is_none r)
      go (Some x) b e r = refl
      go None true e r = above e ∙ sym (ap (λ c. c && is_none r) (above e))
      go None false e None = sym (and-true _)
      go None false e (Some y) = sym (ap (λ c. c && false) (below e))

  -- so the flights are those that are left
  left_flights : (pre G : List Question) → AllNew pre G → filter (is_left d) (flights_in L M a G) ≡ flights_in L (told_by L M a (pre ++ G) d) a G
  left_flights pre [] new = ap (filter (is_left d)) (flights_nil L M a) ∙ sym (flights_nil L (told_by L M a (pre ++ []) d) a)
  left_flights pre (q ∷ G) new =
      ap (filter (is_left d)) (flights_cons L M a q G)
      ∙ go (flies L M a q.name)
      ∙ ap (λ l. cond (flies L M a q.name && is_none (reply_of d q.id q.name)) (flight_at a q ∷ l) l) (left_flights (pre ++ q ∷ []) G new.1 ∙ ap (λ l. flights_in L (told_by L M a l d) a G) (assoc pre q G))
      ∙ ap (λ b. cond b (flight_at a q ∷ flights_in L N a G) (flights_in L N a G)) (sym (still_flies pre q G new.0))
      ∙ sym (flights_cons L N a q G)
    where
      N : Map
      N = told_by L M a (pre ++ q ∷ G) d

      assoc : (pre : List Question) (q : Question) (G : List Question) → (pre ++ q ∷ []) ++ G ≡ pre ++ q ∷ G
      assoc [] q G = refl
      assoc (p ∷ pre) q G = ap (λ l. p ∷ l) (assoc pre q G)

      go : (b : Bool) → filter (is_left d) (cond b (flight_at a q ∷ flights_in L M a G) (flights_in L M a G)) ≡ cond (b && is_none (reply_of d q.id q.name)) (flight_at a q ∷ filter (is_left d) (flights_in L M a G)) (filter (is_left d) (flights_in L M a G))
      go true = refl
      go false = refl

pub given_shows : (stub : StubState) (M : Map) (a : Name → ℕ) (F : List Question) (d : List ℕ) → Shows stub M a F → AllNew [] F → AllByRecursion HasLookupName F → Shows (given d stub) (told_by (limit stub.terms) M a F d) a F
unfolding dead_in accepted_in
given_shows stub M a F d s new names =
    record {
      flying =
          ap (unanswered_by d) s.flying
          ∙ unanswered-filter d (flights_in L M a F) (at_most_one L M a d [] F new names)
          ∙ left_flights L M a d [] F new;
      dying = λ n. s.dying n ∙ dead n (has_name n F) (M n) (nat_le L (a n));
      young = s.young;
      lasting = s.lasting;
    }
  where
    L : ℕ
    L = limit stub.terms

    dead : (n : Name) (h : Bool) (m : Option Answer) (o : Bool) → ((h && is_none m) && o) ≡ ((h && is_none (or_else m (cond (h && not o) (reply_to (number_in F n) d n) None))) && o)
    dead n true (Some x) o = refl
    dead n true None true = refl
    dead n true None false = sym (and-false _)
    dead n false m o = refl

-- A beat passes.
abbrev Aged : List Question → (Name → ℕ) → (Name → ℕ) → Type 0
Aged G a b = (n : Name) → has_name n G ≡ true → b n ≡ a n + 1

aged_head : (q : Question) (G : List Question) (a b : Name → ℕ) → Aged (q ∷ G) a b → b q.name ≡ a q.name + 1
aged_head q G a b h = h q.name (ap (λ c. c || has_name q.name G) (same_itself q.name))

aged_tail : (q : Question) (G : List Question) (a b : Name → ℕ) → Aged (q ∷ G) a b → Aged G a b
aged_tail q G a b h n e = h n (second (same_name q.name n) (has_name n G) e)
  where
    second : (x y : Bool) → y ≡ true → (x || y) ≡ true
    second true y e = refl
    second false y e = e

module _ (L : ℕ) (M : Map) (a b : Name → ℕ) where
  flies_aged : (n : Name) → b n ≡ a n + 1 → flies L M b n ≡ (flies L M a n && nat_lt (a n + 1) L)
  flies_aged n e = ap (λ x. is_none (M n) && nat_lt x L) e ∙ go (is_none (M n)) (nat_lt (a n) L) (nat_lt (a n + 1) L) (λ f. grind (arith, nat_tests))
    where
      go : (m x y : Bool) → (y ≡ true → x ≡ true) → (m && y) ≡ ((m && x) && y)
      go true true y h = refl
      go true false true h = sym (h refl)
      go true false false h = refl
      go false x y h = refl

  young_flights : (G : List Question) → Aged G a b → filter (is_young L) (map aged (flights_in L M a G)) ≡ flights_in L M b G
  young_flights [] h = ap (λ l. filter (is_young L) (map aged l)) (flights_nil L M a) ∙ sym (flights_nil L M b)
  young_flights (q ∷ G) h =
      ap (λ l. filter (is_young L) (map aged l)) (flights_cons L M a q G)
      ∙ go (flies L M a q.name) (aged_head q G a b h)
      ∙ ap (λ l. cond (flies L M a q.name && nat_lt (a q.name + 1) L) (flight_at b q ∷ l) l) (young_flights G (aged_tail q G a b h))
      ∙ ap (λ c. cond c (flight_at b q ∷ flights_in L M b G) (flights_in L M b G)) (sym (flies_aged q.name (aged_head q G a b h)))
      ∙ sym (flights_cons L M b q G)
    where
      rest : List Flight
      rest = filter (is_young L) (map aged (flights_in L M a G))

      go : (c : Bool) → b q.name ≡ a q.name + 1 → filter (is_young L) (map aged (cond c (flight_at a q ∷ flights_in L M a G) (flights_in L M a G))) ≡ cond (c && nat_lt (a q.name + 1) L) (flight_at b q ∷ filter (is_young L) (map aged (flights_in L M a G))) (filter (is_young L) (map aged (flights_in L M a G)))
      go true k = ap (λ (x : ℕ). let f : Flight = record { question = q; age = x } in cond (nat_lt (a q.name + 1) L) (f ∷ rest) rest) (sym k)
      go false k = refl

  deaths : (G : List Question) (n : Name) → has n (map name_of (filter (is_over L) (map aged (flights_in L M a G)))) ≡ ((has_name n G && flies L M a n) && not (nat_lt (a n + 1) L))
  deaths [] n = ap (λ l. has n (map name_of (filter (is_over L) (map aged l)))) (flights_nil L M a)
  deaths (q ∷ G) n =
      ap (λ l. has n (map name_of (filter (is_over L) (map aged l)))) (flights_cons L M a q G)
      ∙ go (flies L M a q.name)
      ∙ bools (flies L M a q.name) (nat_lt (a q.name + 1) L) (same_name q.name n) refl _ (has_name n G) (flies L M a n) (nat_lt (a n + 1) L) (deaths G n) (λ e. let f : q.name ≡ n = same_is _ _ e in (ap (flies L M a) f, ap (λ m. nat_lt (a m + 1) L) f))
    where
      rest : List Flight
      rest = filter (is_over L) (map aged (flights_in L M a G))

      pick : (x : Bool) → has n (map name_of (cond x (aged (flight_at a q) ∷ rest) rest)) ≡ cond x (same_name q.name n || has n (map name_of rest)) (has n (map name_of rest))
      pick true = refl
      pick false = refl

      go : (c : Bool) → has n (map name_of (filter (is_over L) (map aged (cond c (flight_at a q ∷ flights_in L M a G) (flights_in L M a G))))) ≡ cond (c && not (nat_lt (a q.name + 1) L)) (same_name q.name n || has n (map name_of (filter (is_over L) (map aged (flights_in L M a G))))) (has n (map name_of (filter (is_over L) (map aged (flights_in L M a G)))))
      go true = pick (nat_le L (a q.name + 1)) ∙ ap (λ x. cond x (same_name q.name n || has n (map name_of rest)) (has n (map name_of rest))) (over_or_young L (a q.name + 1))
      go false = refl

      bools : (c e k : Bool) → same_name q.name n ≡ k → (x y f l : Bool) → x ≡ ((y && f) && not l) → (k ≡ true → (c ≡ f) × (e ≡ l)) → cond (c && not e) (same_name q.name n || x) x ≡ (((same_name q.name n || y) && f) && not l)
      bools c e true s x y f l i h = ap (λ k. cond (c && not e) (k || x) x) s ∙ on c e x y f l i (h refl) ∙ sym (ap (λ k. ((k || y) && f) && not l) s)
        where
          on : (c e x y f l : Bool) → x ≡ ((y && f) && not l) → (c ≡ f) × (e ≡ l) → cond (c && not e) true x ≡ (f && not l)
          on true false x y f l i p = ap (λ c. c && true) p.0 ∙ ap (λ e. f && not e) p.1
          on true true x y f l i p = i ∙ ap (λ e. (y && f) && not e) (sym p.1) ∙ and-false _ ∙ sym (ap (λ e. f && not e) (sym p.1) ∙ and-false f)
          on false e x y f l i p = i ∙ ap (λ c. (y && c) && not l) (sym p.0) ∙ ap (λ c. c && not l) (and-false y) ∙ ap (λ c. c && not l) p.0
      bools c e false s x y f l i h = ap (λ k. cond (c && not e) (k || x) x) s ∙ same (c && not e) ∙ i ∙ sym (ap (λ k. ((k || y) && f) && not l) s)
        where
          same : (b : Bool) → cond b x x ≡ x
          same true = refl
          same false = refl

-- what falls due of the flights, one beat older
module _ (t : Terms) (lasting : 0 < limit t) (M : Map) (a b : Name → ℕ) where
  abbrev due : Question → ℕ → Option Sending
  due q age = option_map (numbered_sending q) (sending_at t age)

  due_young : (q : Question) (age : ℕ) (c l : Bool) → nat_lt age (limit t) ≡ l → cond (c && l) (due q age) None ≡ cond c (due q age) None
  due_young q age false l e = refl
  due_young q age true true e = refl
  due_young q age true false e = sym (ap (option_map (numbered_sending q)) (late_none t (has_wait t lasting) (has_tries t lasting) age (ltb-false age (limit t) e)))

  due_aged : (q : Question) → b q.name ≡ a q.name + 1 → sent_again t M b q ≡ cond (flies (limit t) M a q.name) (due q (a q.name + 1)) None
  due_aged q e =
      ap (λ c. cond c (due q (b q.name)) None) (flies_aged (limit t) M a b q.name e)
      ∙ ap (λ x. cond (flies (limit t) M a q.name && nat_lt (a q.name + 1) (limit t)) (due q x) None) e
      ∙ due_young q (a q.name + 1) (flies (limit t) M a q.name) (nat_lt (a q.name + 1) (limit t)) refl

  again_flights : (G : List Question) → Aged G a b → filter_map (sending_of t) (map aged (flights_in (limit t) M a G)) ≡ filter_map (sent_again t M b) G
  again_flights [] h = ap (λ l. filter_map (sending_of t) (map aged l)) (flights_nil (limit t) M a)
  again_flights (q ∷ G) h =
      ap (λ l. filter_map (sending_of t) (map aged l)) (flights_cons (limit t) M a q G)
      ∙ go (flies (limit t) M a q.name)
      ∙ ap (cons_option (cond (flies (limit t) M a q.name) (due q (a q.name + 1)) None)) (again_flights G (aged_tail q G a b h))
      ∙ ap (λ r. cons_option r (filter_map (sent_again t M b) G)) (sym (due_aged q (aged_head q G a b h)))
    where
      go : (c : Bool) → filter_map (sending_of t) (map aged (cond c (flight_at a q ∷ flights_in (limit t) M a G) (flights_in (limit t) M a G))) ≡ cons_option (cond c (due q (a q.name + 1)) None) (filter_map (sending_of t) (map aged (flights_in (limit t) M a G)))
      go true = refl
      go false = refl

pub older_age : (F : List Question) (a : Name → ℕ) (n : Name) → has_name n F ≡ true → older F a n ≡ a n + 1
unfolding older
older_age F a n e = ap (λ b. cond b (a n + 1) 0) e

pub older_none : (F : List Question) (a : Name → ℕ) (n : Name) → has_name n F ≡ false → older F a n ≡ 0
unfolding older
older_none F a n e = ap (λ b. cond b (a n + 1) 0) e

dies_older : (L x : ℕ) → (nat_le L x || (nat_lt x L && not (nat_lt (x + 1) L))) ≡ nat_le L (x + 1)
dies_older L x = grind (arith, nat_tests)

pub beaten_shows : (stub : StubState) (M : Map) (a : Name → ℕ) (F : List Question) → Shows stub M a F → Shows (beaten stub) M (older F a) F
unfolding dead_in
beaten_shows stub M a F s =
    record {
      flying = ap (λ l. filter (is_young L) (map aged l)) s.flying ∙ young_flights L M a (older F a) F (older_age F a);
      dying = λ n.
          has-append n stub.dead (dying stub)
          ∙ ap (λ b. b || has n (dying stub)) (s.dying n)
          ∙ ap (λ b. dead_in L M a F n || b) (ap (λ l. has n (map name_of (filter (is_over L) (map aged l)))) s.flying ∙ deaths L M a (older F a) F n)
          ∙ go n (has_name n F) refl (is_none (M n));
      young = older_none F a;
      lasting = s.lasting;
    }
  where
    L : ℕ
    L = limit stub.terms

    go : (n : Name) (b : Bool) → has_name n F ≡ b → (m : Bool) → (((b && m) && nat_le L (a n)) || ((b && (m && nat_lt (a n) L)) && not (nat_lt (a n + 1) L))) ≡ ((b && m) && nat_le L (older F a n))
    go n true h true = dies_older L (a n) ∙ ap (nat_le L) (sym (older_age F a n h))
    go n true h false = refl
    go n false h m = refl

-- what a beat sends again
pub resent_shows : (stub : StubState) (M : Map) (a : Name → ℕ) (F : List Question) → Shows stub M a F → resent stub ≡ filter_map (sent_again stub.terms M (older F a)) F
resent_shows stub M a F s = ap (λ l. filter_map (sending_of stub.terms) (map aged l)) s.flying ∙ again_flights stub.terms s.lasting M a (older F a) F (older_age F a)
