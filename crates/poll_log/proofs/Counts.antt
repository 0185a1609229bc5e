-- How often a name stands in a list of questions.
use Rattle.std.proofs.Common.{◌≡◌, ◌+◌, Bool, true, false, cond, ◌||◌, ◌&&◌, List, [], ◌∷◌, ◌++◌, refl, sym, ◌∙◌, ap, subst, arith, append_assoc}
use Rattle.std.specs.List.{filter}
use Rattle.pac_names.specs.Comparing.{same_name}
use Rattle.pac_names.specs.Names.{Name}
use Rattle.poll_log.specs.declared.question.Question.{Question}
use Rattle.poll_log.specs.Questions.{has_name, times}
use Rattle.poll_log.proofs.Names.{AllNew, AllSeen, true_false, same_itself, same_is, or-left, or-right, or-first, or-true, has_name-append}

pub times-append : (xs ys : List Question) (n : Name) → times (xs ++ ys) n ≡ times xs n + times ys n
times-append [] ys n = omega arith
times-append (q ∷ xs) ys n = let ih = times-append xs ys n in omega arith

-- a name that was seen isn't new
pub new_not_seen : (pre F : List Question) (n : Name) → AllNew pre F → has_name n pre ≡ true → has_name n F ≡ false
new_not_seen pre [] n h k = refl
new_not_seen pre (q ∷ F) n h k = go (same_name q.name n) refl (new_not_seen (pre ++ q ∷ []) F n h.1 (has_name-append n pre (q ∷ []) ∙ or-first _ _ k))
  where
    go : (c : Bool) → same_name q.name n ≡ c → has_name n F ≡ false → (c || has_name n F) ≡ false
    go true e ih = true_false (sym k ∙ ap (λ m. has_name m pre) (sym (same_is _ _ e)) ∙ h.0)
    go false e ih = ih

pub has_itself : (pre : List Question) (q : Question) (n : Name) → same_name q.name n ≡ true → has_name n (pre ++ q ∷ []) ≡ true
has_itself pre q n e = has_name-append n pre (q ∷ []) ∙ ap (λ b. has_name n pre || (b || false)) e ∙ or-true (has_name n pre)

pub times_none : (p : Question → Bool) (F : List Question) (n : Name) → has_name n F ≡ false → times (filter p F) n ≡ 0
times_none p [] n h = refl
times_none p (q ∷ F) n h = go (p q) (times_none p F n (or-right _ _ h))
  where
    go : (b : Bool) → times (filter p F) n ≡ 0 → times (cond b (q ∷ filter p F) (filter p F)) n ≡ 0
    go true ih = ap (λ b. cond b 1 0 + times (filter p F) n) (or-left (same_name q.name n) (has_name n F) h) ∙ ap (λ m. 0 + m) ih
    go false ih = ih

pub unsent_times : (F : List Question) (n : Name) → has_name n F ≡ false → times F n ≡ 0
unsent_times [] n h = refl
unsent_times (q ∷ F) n h = ap (λ b. cond b 1 0 + times F n) (or-left (same_name q.name n) (has_name n F) h) ∙ ap (λ m. 0 + m) (unsent_times F n (or-right _ _ h))

-- of distinct names each stands once where it passes
pub times_filter : (r : Name → Bool) (pre F : List Question) (n : Name) → AllNew pre F → times (filter (λ q. r q.name) F) n ≡ cond (has_name n F && r n) 1 0
times_filter r pre [] n h = refl
times_filter r pre (q ∷ F) n h = go (same_name q.name n) refl (r q.name) refl (times_filter r (pre ++ q ∷ []) F n h.1)
  where
    none : same_name q.name n ≡ true → times (filter (λ (x : Question). r x.name) F) n ≡ 0
    none e = times_none (λ x. r x.name) F n (new_not_seen (pre ++ q ∷ []) F n h.1 (has_itself pre q n e))

    go : (c : Bool) → same_name q.name n ≡ c → (b : Bool) → r q.name ≡ b → times (filter (λ x. r x.name) F) n ≡ cond (has_name n F && r n) 1 0 → times (cond b (q ∷ filter (λ x. r x.name) F) (filter (λ x. r x.name) F)) n ≡ cond ((c || has_name n F) && r n) 1 0
    go true e true k ih =
        let rn : r n ≡ true = ap r (sym (same_is _ _ e)) ∙ k in
        ap (λ b. cond b 1 0 + times (filter (λ (x : Question). r x.name) F) n) e ∙ ap (λ m. 1 + m) (none e) ∙ ap (λ b. cond b 1 0) (sym rn)
    go true e false k ih =
        let rn : r n ≡ false = ap r (sym (same_is _ _ e)) ∙ k in
        none e ∙ ap (λ b. cond b 1 0) (sym rn)
    go false e true k ih = ap (λ b. cond b 1 0 + times (filter (λ (x : Question). r x.name) F) n) e ∙ (let z : 0 + times (filter (λ (x : Question). r x.name) F) n ≡ times (filter (λ (x : Question). r x.name) F) n = omega arith in z) ∙ ih
    go false e false k ih = ih

pub times_new : (pre F : List Question) (n : Name) → AllNew pre F → times F n ≡ cond (has_name n F) 1 0
times_new pre [] n h = refl
times_new pre (q ∷ F) n h = go (same_name q.name n) refl (times_new (pre ++ q ∷ []) F n h.1)
  where
    go : (c : Bool) → same_name q.name n ≡ c → times F n ≡ cond (has_name n F) 1 0 → cond c 1 0 + times F n ≡ cond (c || has_name n F) 1 0
    go true e ih = let none : times F n ≡ 0 = unsent_times F n (new_not_seen (pre ++ q ∷ []) F n h.1 (has_itself pre q n e)) in omega arith
    go false e ih = omega arith

pub seen_here : (pre : List Question) (q : Question) (G : List Question) → has_name q.name (pre ++ q ∷ G) ≡ true
seen_here pre q G = has_name-append q.name pre (q ∷ G) ∙ ap (λ b. has_name q.name pre || (b || has_name q.name G)) (same_itself q.name) ∙ or-true (has_name q.name pre)

pub seen_filter : (p : Question → Bool) (pre G : List Question) → AllSeen (pre ++ G) (filter p G)
seen_filter p pre [] = tt
seen_filter p pre (q ∷ G) = go (p q) (subst (λ l. AllSeen l (filter p G)) (append_assoc pre (q ∷ []) G) (seen_filter p (pre ++ q ∷ []) G))
  where
    go : (b : Bool) → AllSeen (pre ++ q ∷ G) (filter p G) → AllSeen (pre ++ q ∷ G) (cond b (q ∷ filter p G) (filter p G))
    go true ih = (seen_here pre q G, ih)
    go false ih = ih

pub filter_alike : (p r : Question → Bool) (pre G : List Question) → ((q : Question) → has_name q.name (pre ++ G) ≡ true → p q ≡ r q) → filter p G ≡ filter r G
filter_alike p r pre [] h = refl
filter_alike p r pre (q ∷ G) h =
    ap (λ b. cond b (q ∷ filter p G) (filter p G)) (h q (seen_here pre q G))
    ∙ ap (λ l. cond (r q) (q ∷ l) l) (filter_alike p r (pre ++ q ∷ []) G (λ x k. h x (subst (λ l. has_name x.name l ≡ true) (append_assoc pre (q ∷ []) G) k)))
