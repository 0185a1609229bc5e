-- Names in lists of questions.
use Rattle.std.proofs.Common.{◌≡◌, Bool, true, false, ◌||◌, ◌&&◌, List, [], ◌∷◌, ◌++◌, Some, None, refl, sym, ◌∙◌, ap, subst, append_assoc}
use Rattle.std.specs.Prelude.{is_some}
use Rattle.std.specs.List.{list_any}
use Rattle.std.proofs.lemmas.Bool.{false≢true}
use Rattle.std.proofs.lemmas.List.{append-nil, map-append}
use Rattle.pac_names.specs.Comparing.{same_name, one_name}
use Rattle.pac_names.specs.Names.{Name}
use Rattle.poll_log.specs.declared.question.Question.{Question}
use Rattle.poll_log.specs.Questions.{has_name, names_of, new_among, onto_unless}
use Rattle.poll_log.specs.Jobs.{once, onto_new}

pub true_false : {A : Type 0} → true ≡ false → A
true_false e = absurd (false≢true (sym e))

pub none_some : {A B : Type 0} (x : B) → None ≡ Some x → A
none_some x e = absurd (false≢true (ap is_some e))

pub same_itself : (n : Name) → same_name n n ≡ true
same_itself n = (one_name n n).1 refl

pub same_is : (m n : Name) → same_name m n ≡ true → m ≡ n
same_is m n e = (one_name m n).0 e

pub or-assoc : (a b c : Bool) → ((a || b) || c) ≡ (a || (b || c))
or-assoc true b c = refl
or-assoc false b c = refl

pub or-true : (a : Bool) → (a || true) ≡ true
or-true true = refl
or-true false = refl

pub or-left : (x y : Bool) → (x || y) ≡ false → x ≡ false
or-left true y e = e
or-left false y e = refl

pub or-right : (x y : Bool) → (x || y) ≡ false → y ≡ false
or-right true y e = true_false e
or-right false y e = e

pub or-first : (x y : Bool) → x ≡ true → (x || y) ≡ true
or-first true y e = refl
or-first false y e = true_false (sym e)

pub or-second : (x y : Bool) → y ≡ true → (x || y) ≡ true
or-second true y e = refl
or-second false y e = e

pub and-false : (x : Bool) → (x && false) ≡ false
and-false true = refl
and-false false = refl

pub and-true : (x : Bool) → (x && true) ≡ x
and-true true = refl
and-true false = refl

pub has_name-append : (n : Name) (xs ys : List Question) → has_name n (xs ++ ys) ≡ (has_name n xs || has_name n ys)
has_name-append n [] ys = refl
has_name-append n (x ∷ xs) ys = ap (λ b. same_name x.name n || b) (has_name-append n xs ys) ∙ sym (or-assoc (same_name x.name n) (has_name n xs) (has_name n ys))

-- the same of names alone
abbrev pub has : Name → List Name → Bool
has n ns = list_any (λ m. same_name m n) ns

pub has-names : (n : Name) (qs : List Question) → has n (names_of qs) ≡ has_name n qs
has-names n [] = refl
has-names n (q ∷ qs) = ap (λ b. same_name q.name n || b) (has-names n qs)

pub has-append : (n : Name) (xs ys : List Name) → has n (xs ++ ys) ≡ (has n xs || has n ys)
has-append n [] ys = refl
has-append n (x ∷ xs) ys = ap (λ b. same_name x n || b) (has-append n xs ys) ∙ sym (or-assoc (same_name x n) (has n xs) (has n ys))

-- no name stands twice, and none was seen
abbrev pub AllNew : List Question → List Question → Type 0
AllNew seen [] = Unit {0}
AllNew seen (q ∷ qs) = (has_name q.name seen ≡ false) × AllNew (seen ++ q ∷ []) qs

-- each name was seen
abbrev pub AllSeen : List Question → List Question → Type 0
AllSeen seen [] = Unit {0}
AllSeen seen (q ∷ qs) = (has_name q.name seen ≡ true) × AllSeen seen qs

pub new_among-cons : (seen : List Question) (q : Question) (qs : List Question) → new_among seen (q ∷ qs) ≡ onto_unless (has_name q.name seen) q (new_among seen qs) (new_among (seen ++ q ∷ []) qs)
unfolding new_among
new_among-cons seen q qs = refl

pub new_among-seen : (seen qs : List Question) → AllSeen seen qs → new_among seen qs ≡ []
unfolding new_among
new_among-seen seen [] h = refl
new_among-seen seen (q ∷ qs) h = ap (λ b. onto_unless b q (new_among seen qs) (new_among (seen ++ q ∷ []) qs)) h.0 ∙ new_among-seen seen qs h.1

pub new_among-new : (seen fresh again : List Question) → AllNew seen fresh → AllSeen (seen ++ fresh) again → new_among seen (fresh ++ again) ≡ fresh
unfolding new_among
new_among-new seen [] again h k = new_among-seen seen again (subst (λ l. AllSeen l again) (append-nil seen) k)
new_among-new seen (q ∷ fresh) again h k =
    ap (λ b. onto_unless b q (new_among seen (fresh ++ again)) (new_among (seen ++ q ∷ []) (fresh ++ again))) h.0
    ∙ ap (λ qs. q ∷ qs) (new_among-new (seen ++ q ∷ []) fresh again h.1 (subst (λ l. AllSeen l again) (sym (append_assoc seen (q ∷ []) fresh)) k))

-- what is found new is new
pub new_among-is_new : (seen qs : List Question) → AllNew seen (new_among seen qs)
unfolding new_among
new_among-is_new seen [] = tt
new_among-is_new seen (q ∷ qs) = go (has_name q.name seen) refl (new_among-is_new seen qs) (new_among-is_new (seen ++ q ∷ []) qs)
  where
    go : (b : Bool) → has_name q.name seen ≡ b → AllNew seen (new_among seen qs) → AllNew (seen ++ q ∷ []) (new_among (seen ++ q ∷ []) qs) → AllNew seen (onto_unless b q (new_among seen qs) (new_among (seen ++ q ∷ []) qs))
    go true h left behind = left
    go false h left behind = (h, behind)

pub new_among-append : (seen xs ys : List Question) → new_among seen (xs ++ ys) ≡ new_among seen xs ++ new_among (seen ++ new_among seen xs) ys
unfolding new_among
new_among-append seen [] ys = ap (λ l. new_among l ys) (sym (append-nil seen))
new_among-append seen (q ∷ xs) ys = go (has_name q.name seen) (new_among-append seen xs ys) (new_among-append (seen ++ q ∷ []) xs ys)
  where
    go : (b : Bool) → new_among seen (xs ++ ys) ≡ new_among seen xs ++ new_among (seen ++ new_among seen xs) ys → new_among (seen ++ q ∷ []) (xs ++ ys) ≡ new_among (seen ++ q ∷ []) xs ++ new_among ((seen ++ q ∷ []) ++ new_among (seen ++ q ∷ []) xs) ys → onto_unless b q (new_among seen (xs ++ ys)) (new_among (seen ++ q ∷ []) (xs ++ ys)) ≡ onto_unless b q (new_among seen xs) (new_among (seen ++ q ∷ []) xs) ++ new_among (seen ++ onto_unless b q (new_among seen xs) (new_among (seen ++ q ∷ []) xs)) ys
    go true left behind = left
    go false left behind = ap (λ l. q ∷ l) (behind ∙ ap (λ l. new_among (seen ++ q ∷ []) xs ++ new_among l ys) (append_assoc seen (q ∷ []) (new_among (seen ++ q ∷ []) xs)))

pub AllNew-append : (seen xs ys : List Question) → AllNew seen xs → AllNew (seen ++ xs) ys → AllNew seen (xs ++ ys)
AllNew-append seen [] ys h k = subst (λ l. AllNew l ys) (append-nil seen) k
AllNew-append seen (x ∷ xs) ys h k = (h.0, AllNew-append (seen ++ x ∷ []) xs ys h.1 (subst (λ l. AllNew l ys) (sym (append_assoc seen (x ∷ []) xs)) k))

pub cons_parts : {A : Type 0} (x y : A) (xs ys : List A) → x ∷ xs ≡ y ∷ ys → (x ≡ y) × (xs ≡ ys)
cons_parts x y xs ys e = (cc, cc)

pub once-cons : (seen : List Name) (n : Name) (ns : List Name) → once seen (n ∷ ns) ≡ onto_new (has n seen) n (once seen ns) (once (seen ++ n ∷ []) ns)
unfolding once
once-cons seen n ns = refl

pub once-none : (seen : List Name) → once seen [] ≡ []
unfolding once
once-none seen = refl

-- names taken once are new
once_step : (seen : List Question) (n : Name) (ns : List Name) → ((s r : List Question) → names_of r ≡ once (names_of s) ns → AllNew s r) → (b : Bool) → has n (names_of seen) ≡ b → (qs : List Question) → names_of qs ≡ onto_new b n (once (names_of seen) ns) (once (names_of seen ++ n ∷ []) ns) → AllNew seen qs
once_step seen n ns rec true h qs e = rec seen qs e
once_step seen n ns rec false h [] e = tt
once_step seen n ns rec false h (q ∷ qs) e =
    let p = cons_parts _ _ _ _ e in (
      sym (has-names q.name seen) ∙ ap (λ m. has m (names_of seen)) p.0 ∙ h,
      rec (seen ++ q ∷ []) qs (p.1 ∙ ap (λ m. once (names_of seen ++ m ∷ []) ns) (sym p.0) ∙ ap (λ l. once l ns) (sym (map-append (λ (x : Question). x.name) seen (q ∷ [])))),
    )

pub new_from-once : (seen qs : List Question) (ns : List Name) → names_of qs ≡ once (names_of seen) ns → AllNew seen qs
unfolding once
new_from-once seen [] [] e = tt
new_from-once seen (q ∷ qs) [] e = cc
new_from-once seen qs (n ∷ ns) e = once_step seen n ns (λ s r k. new_from-once s r ns k) (has n (names_of seen)) refl qs e

-- each name was seen, or is taken
once_covers_step : (seen : List Name) (n : Name) (ns : List Name) (m : Name) → ((s : List Name) → has m ns ≡ true → has m (s ++ once s ns) ≡ true) → (b : Bool) → has n seen ≡ b → (c : Bool) → same_name n m ≡ c → (c || has m ns) ≡ true → has m (seen ++ onto_new b n (once seen ns) (once (seen ++ n ∷ []) ns)) ≡ true
once_covers_step seen n ns m rec true h true k u =
    has-append m seen (once seen ns) ∙ ap (λ b. b || has m (once seen ns)) (ap (λ x. has x seen) (sym (same_is n m k)) ∙ h)
once_covers_step seen n ns m rec true h false k u = rec seen u
once_covers_step seen n ns m rec false h true k u =
    has-append m seen (n ∷ once (seen ++ n ∷ []) ns) ∙ ap (λ b. has m seen || (b || has m (once (seen ++ n ∷ []) ns))) k ∙ or-true (has m seen)
once_covers_step seen n ns m rec false h false k u =
    ap (has m) (sym (append_assoc seen (n ∷ []) (once (seen ++ n ∷ []) ns))) ∙ rec (seen ++ n ∷ []) u

pub once-covers : (seen ns : List Name) (m : Name) → has m ns ≡ true → has m (seen ++ once seen ns) ≡ true
unfolding once
once-covers seen [] m h = true_false (sym h)
once-covers seen (n ∷ ns) m h = once_covers_step seen n ns m (λ s k. once-covers s ns m k) (has n seen) refl (same_name n m) refl h

once_append_step : (seen : List Name) (n : Name) (xs ys : List Name) → ((s : List Name) → once s (xs ++ ys) ≡ once s xs ++ once (s ++ once s xs) ys) → (b : Bool) → has n seen ≡ b → onto_new b n (once seen (xs ++ ys)) (once (seen ++ n ∷ []) (xs ++ ys)) ≡ onto_new b n (once seen xs) (once (seen ++ n ∷ []) xs) ++ once (seen ++ onto_new b n (once seen xs) (once (seen ++ n ∷ []) xs)) ys
once_append_step seen n xs ys rec true h = rec seen
once_append_step seen n xs ys rec false h =
    ap (λ l. n ∷ l) (rec (seen ++ n ∷ []) ∙ ap (λ l. once (seen ++ n ∷ []) xs ++ once l ys) (append_assoc seen (n ∷ []) (once (seen ++ n ∷ []) xs)))

pub once-append : (seen xs ys : List Name) → once seen (xs ++ ys) ≡ once seen xs ++ once (seen ++ once seen xs) ys
unfolding once
once-append seen [] ys = ap (λ l. once l ys) (sym (append-nil seen))
once-append seen (n ∷ xs) ys = once_append_step seen n xs ys (λ s. once-append s xs ys) (has n seen) refl

-- a name that was seen leaves nothing
pub once-seen : (seen : List Name) (n : Name) → has n seen ≡ true → once seen (n ∷ []) ≡ []
once-seen seen n h = once-cons seen n [] ∙ ap (λ b. onto_new b n (once seen []) (once (seen ++ n ∷ []) [])) h ∙ once-none seen

pub once-new : (seen : List Name) (n : Name) → has n seen ≡ false → once seen (n ∷ []) ≡ n ∷ []
once-new seen n h = once-cons seen n [] ∙ ap (λ b. onto_new b n (once seen []) (once (seen ++ n ∷ []) [])) h ∙ ap (λ l. n ∷ l) (once-none (seen ++ n ∷ []))
