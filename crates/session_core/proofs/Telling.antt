-- The answer that is found in a datagram is the one that the log tells.
use Rattle.std.proofs.Common.{◌≡◌, ℕ, Bool, true, false, cond, ◌||◌, ◌&&◌, not, List, [], ◌∷◌, ◌++◌, Option, Some, None, is_none, refl, sym, ◌∙◌, ap, arith, nat_lt, nat_le}
use Rattle.std.specs.Prelude.{IsSome, is_some}
use Rattle.std.specs.List.{AllByRecursion}
use Rattle.std.proofs.lemmas.Bool.Decides.{nat_tests}
use Rattle.pac_names.specs.declared.answer.Answer.{Answer}
use Rattle.dns_message.specs.Reply.{reply_of}
use Rattle.dns_message.proofs.QueryLaws.{one_name_law}
use Rattle.pac_names.specs.Names.{Name}
use Rattle.pac_names.specs.Comparing.{same_name}
use Rattle.poll_log.specs.declared.question.Question.{Question}
use Rattle.poll_log.specs.Questions.{has_name, number_in}
use Rattle.poll_log.specs.Told.{Map, accepted_in, reply_to}
use Rattle.poll_log.specs.Moment.{flies, flight_at, flights_in}
use Rattle.poll_log.proofs.Asking.{HasLookupName}
use Rattle.poll_log.proofs.Counts.{has_itself, new_not_seen}
use Rattle.poll_log.proofs.Names.{AllNew, none_some, same_is, same_itself, true_false}
use Rattle.stub_poller.specs.State.{answered_by, named_or}
use Rattle.stub_poller.proofs.Showing.{flights_cons, flights_nil}

accepted-cons : (L : ℕ) (a : Name → ℕ) (q : Question) (G : List Question) (d : List ℕ) (n : Name) → accepted_in L a (q ∷ G) d n ≡ cond (same_name q.name n) (cond (not (nat_le L (a n))) (reply_of d q.id n) None) (accepted_in L a G d n)
unfolding accepted_in number_in
accepted-cons L a q G d n = go (same_name q.name n)
  where
    go : (b : Bool) → cond ((b || has_name n G) && not (nat_le L (a n))) (reply_to (cond b (Some q.id) (number_in G n)) d n) None ≡ cond b (cond (not (nat_le L (a n))) (reply_of d q.id n) None) (cond (has_name n G && not (nat_le L (a n))) (reply_to (number_in G n) d n) None)
    go true = refl
    go false = refl

accepted-nil : (L : ℕ) (a : Name → ℕ) (d : List ℕ) (n : Name) → accepted_in L a [] d n ≡ None
unfolding accepted_in
accepted-nil L a d n = refl

abbrev name_or : Name → Option (Name × Answer) → Name
name_or other None = other
name_or other (Some found) = found.0

abbrev answer_or : Answer → Option (Name × Answer) → Answer
answer_or other None = other
answer_or other (Some found) = found.1

nothing : (b : Bool) → cond {A = Option Answer} b None None ≡ None
nothing true = refl
nothing false = refl

-- Where a datagram is a reply to a question, it is none to other names.
other_none : (L : ℕ) (a : Name → ℕ) (d : List ℕ) (q : Question) → HasLookupName q → IsSome (reply_of d q.id q.name) → (G : List Question) → AllByRecursion HasLookupName G → (n : Name) → same_name q.name n ≡ false → accepted_in L a G d n ≡ None
other_none L a d q named s [] names n apart = accepted-nil L a d n
other_none L a d q named s (g ∷ G) names n apart = accepted-cons L a g G d n ∙ go (same_name g.name n) refl (other_none L a d q named s G names.1 n apart)
  where
    unanswered : same_name g.name n ≡ true → (r : Option Answer) → reply_of d g.id n ≡ r → r ≡ None
    unanswered same None e = refl
    unanswered same (Some x) e =
        let here : g.name ≡ n = same_is g.name n same in
        let answered : IsSome (reply_of d g.id g.name) = ap is_some (ap (reply_of d g.id) here ∙ e) in
        let one : q.name ≡ g.name = one_name_law d q.id g.id q.name g.name named names.0 s answered in
        true_false (sym (ap (same_name q.name) (sym (one ∙ here)) ∙ same_itself q.name) ∙ apart)

    go : (b : Bool) → same_name g.name n ≡ b → accepted_in L a G d n ≡ None → cond b (cond (not (nat_le L (a n))) (reply_of d g.id n) None) (accepted_in L a G d n) ≡ None
    go true same ih = ap (λ r. cond (not (nat_le L (a n))) r None) (unanswered same (reply_of d g.id n) refl) ∙ nothing (not (nat_le L (a n)))
    go false apart' ih = ih

module _ (L : ℕ) (M : Map) (a : Name → ℕ) (d : List ℕ) where
  answered-cons : (q : Question) (G : List Question) → answered_by d (flights_in L M a (q ∷ G)) ≡ cond (flies L M a q.name) (named_or q.name (reply_of d q.id q.name) (answered_by d (flights_in L M a G))) (answered_by d (flights_in L M a G))
  answered-cons q G = ap (answered_by d) (flights_cons L M a q G) ∙ go (flies L M a q.name)
    where
      go : (b : Bool) → answered_by d (cond b (flight_at a q ∷ flights_in L M a G) (flights_in L M a G)) ≡ cond b (named_or q.name (reply_of d q.id q.name) (answered_by d (flights_in L M a G))) (answered_by d (flights_in L M a G))
      go true = refl
      go false = refl

  -- a name that flies is young, and one that doesn't and is not told is old
  young_flies : (n : Name) → flies L M a n ≡ true → (M n ≡ None) × (not (nat_le L (a n)) ≡ true)
  young_flies n e = go (M n) refl e
    where
      young : nat_lt (a n) L ≡ true → not (nat_le L (a n)) ≡ true
      young e = grind (arith, nat_tests)

      go : (r : Option Answer) → M n ≡ r → (is_none r && nat_lt (a n) L) ≡ true → (M n ≡ None) × (not (nat_le L (a n)) ≡ true)
      go None u e = (u, young e)
      go (Some x) u e = true_false (sym e)

  old_lies : (n : Name) → M n ≡ None → flies L M a n ≡ false → not (nat_le L (a n)) ≡ false
  old_lies n u e = old (sym (ap (λ r. is_none r && nat_lt (a n) L) u) ∙ e)
    where
      old : nat_lt (a n) L ≡ false → not (nat_le L (a n)) ≡ false
      old e = grind (arith, nat_tests)

  -- This name and answer were found.
  pub record Found (F : List Question) (name : Name) (answer : Answer) : Type 0 where
    pub here : (n : Name) → M n ≡ None → accepted_in L a F d n ≡ cond (same_name n name) (Some answer) None
    pub among : has_name name F ≡ true
    pub untold : M name ≡ None
    pub young : not (nat_le L (a name)) ≡ true

  apart_from : (pre G : List Question) (q : Question) (name n : Name) → AllNew (pre ++ q ∷ []) G → has_name name G ≡ true → same_name q.name n ≡ true → same_name n name ≡ false
  apart_from pre G q name n new among same = go (same_name n name) refl
    where
      go : (b : Bool) → same_name n name ≡ b → b ≡ false
      go false e = refl
      go true e =
          let one : q.name ≡ name = same_is _ _ same ∙ same_is _ _ e in
          true_false (sym among ∙ ap (λ m. has_name m G) (sym one) ∙ new_not_seen (pre ++ q ∷ []) G q.name new (has_itself pre q q.name (same_itself q.name)))

  pub found_is : (pre F : List Question) → AllNew pre F → AllByRecursion HasLookupName F → (name : Name) (answer : Answer) → answered_by d (flights_in L M a F) ≡ Some (name, answer) → Found F name answer
  found_is pre [] new names name answer e = none_some _ (sym (ap (answered_by d) (flights_nil L M a)) ∙ e)
  found_is pre (q ∷ G) new names name answer e =
      go (flies L M a q.name) refl (reply_of d q.id q.name) refl (sym (answered-cons q G) ∙ e) (λ k. found_is (pre ++ q ∷ []) G new.1 names.1 name answer k)
    where
      rest : Option (Name × Answer)
      rest = answered_by d (flights_in L M a G)

      behind : ((n : Name) → M n ≡ None → same_name q.name n ≡ true → cond (not (nat_le L (a n))) (reply_of d q.id n) None ≡ None) → Found G name answer → Found (q ∷ G) name answer
      behind silent f =
          record {
            here = λ n u. accepted-cons L a q G d n ∙ at n u (same_name q.name n) refl;
            among = seen (same_name q.name name);
            untold = f.untold;
            young = f.young;
          }
        where
          seen : (b : Bool) → (b || has_name name G) ≡ true
          seen true = refl
          seen false = f.among

          at : (n : Name) → M n ≡ None → (b : Bool) → same_name q.name n ≡ b → cond b (cond (not (nat_le L (a n))) (reply_of d q.id n) None) (accepted_in L a G d n) ≡ cond (same_name n name) (Some answer) None
          at n u true same = silent n u same ∙ sym (ap (λ b. cond b (Some answer) None) (apart_from pre G q name n new.1 f.among same))
          at n u false apart = f.here n u

      first : flies L M a q.name ≡ true → (y : Answer) → reply_of d q.id q.name ≡ Some y → (q.name ≡ name) × (y ≡ answer) → Found (q ∷ G) name answer
      first b y r p =
          let fly = young_flies q.name b in
          record {
            here = λ n u. accepted-cons L a q G d n ∙ at n (same_name q.name n) refl;
            among = ap (λ c. c || has_name name G) (ap (same_name q.name) (sym p.0) ∙ same_itself q.name);
            untold = ap M (sym p.0) ∙ fly.0;
            young = ap (λ m. not (nat_le L (a m))) (sym p.0) ∙ fly.1;
          }
        where
          at : (n : Name) (c : Bool) → same_name q.name n ≡ c → cond c (cond (not (nat_le L (a n))) (reply_of d q.id n) None) (accepted_in L a G d n) ≡ cond (same_name n name) (Some answer) None
          at n true same =
              let here : q.name ≡ n = same_is _ _ same in
              let fly = young_flies q.name b in
              ap (λ m. cond (not (nat_le L (a m))) (reply_of d q.id m) None) (sym here)
              ∙ ap (λ c. cond c (reply_of d q.id q.name) None) fly.1
              ∙ r ∙ ap Some p.1
              ∙ sym (ap (λ c. cond c (Some answer) None) (ap (λ m. same_name m name) (sym here ∙ p.0) ∙ same_itself name))
          at n false apart =
              other_none L a d q names.0 (ap is_some r) G names.1 n apart
              ∙ sym (ap (λ c. cond c (Some answer) None) (other (same_name n name) refl))
            where
              other : (c : Bool) → same_name n name ≡ c → c ≡ false
              other false e = refl
              other true e = true_false (sym (ap (same_name q.name) (same_is _ _ e ∙ sym p.0) ∙ same_itself q.name) ∙ apart)

      go : (b : Bool) → flies L M a q.name ≡ b → (r : Option Answer) → reply_of d q.id q.name ≡ r → cond b (named_or q.name r rest) rest ≡ Some (name, answer) → (rest ≡ Some (name, answer) → Found G name answer) → Found (q ∷ G) name answer
      go true b (Some y) r e ih = first b y r (ap (name_or q.name) e, ap (answer_or y) e)
      go true b None r e ih = behind (λ n u same. ap (λ x. cond (not (nat_le L (a n))) x None) (ap (reply_of d q.id) (sym (same_is _ _ same)) ∙ r) ∙ nothing (not (nat_le L (a n)))) (ih e)
      go false b r k e ih = behind (λ n u same. ap (λ c. cond c (reply_of d q.id n) None) (old_lies n u (ap (flies L M a) (sym (same_is _ _ same)) ∙ b))) (ih e)

  pub none_is : (F : List Question) → answered_by d (flights_in L M a F) ≡ None → (n : Name) → M n ≡ None → accepted_in L a F d n ≡ None
  none_is [] e n u = accepted-nil L a d n
  none_is (q ∷ G) e n u = accepted-cons L a q G d n ∙ go (flies L M a q.name) refl (reply_of d q.id q.name) refl (sym (answered-cons q G) ∙ e) (λ k. none_is G k n u)
    where
      rest : Option (Name × Answer)
      rest = answered_by d (flights_in L M a G)

      with_rest : (same_name q.name n ≡ true → cond (not (nat_le L (a n))) (reply_of d q.id n) None ≡ None) → accepted_in L a G d n ≡ None → (c : Bool) → same_name q.name n ≡ c → cond c (cond (not (nat_le L (a n))) (reply_of d q.id n) None) (accepted_in L a G d n) ≡ None
      with_rest silent ih true same = silent same
      with_rest silent ih false apart = ih

      go : (b : Bool) → flies L M a q.name ≡ b → (r : Option Answer) → reply_of d q.id q.name ≡ r → cond b (named_or q.name r rest) rest ≡ None → (rest ≡ None → accepted_in L a G d n ≡ None) → cond (same_name q.name n) (cond (not (nat_le L (a n))) (reply_of d q.id n) None) (accepted_in L a G d n) ≡ None
      go true b (Some y) r e ih = none_some _ (sym e)
      go true b None r e ih = with_rest (λ same. ap (λ x. cond (not (nat_le L (a n))) x None) (ap (reply_of d q.id) (sym (same_is _ _ same)) ∙ r) ∙ nothing (not (nat_le L (a n)))) (ih e) (same_name q.name n) refl
      go false b r k e ih = with_rest (λ same. ap (λ c. cond c (reply_of d q.id n) None) (old_lies n u (ap (flies L M a) (sym (same_is _ _ same)) ∙ b))) (ih e) (same_name q.name n) refl
