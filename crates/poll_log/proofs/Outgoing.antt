-- To which server each question goes.
use Rattle.std.proofs.Common.{◌≡◌, ℕ, zero, suc, length, take, ◌+◌, true, false, cond, List, [], ◌∷◌, ◌++◌, map, Option, Some, None, refl, sym, ◌∙◌, ap, subst, arith, append_assoc}
use Rattle.std.specs.List.{cons_option, filter_map}
use Rattle.std.proofs.lemmas.List.{append-nil}
use Rattle.pac_names.specs.Comparing.{same_name}
use Rattle.pac_names.specs.Names.{Name}
use Rattle.poll_log.specs.declared.question.Question.{Question}
use Rattle.poll_log.specs.declared.sending.Sending.{Sending}
use Rattle.poll_log.specs.Sendings.{server_of}
use Rattle.poll_log.specs.Questions.{has_name, numbered_sending, first_sending, first_sent, outgoing, outgoing_of, outgoing_from, times}
use Rattle.poll_log.proofs.Counts.{seen_here, times-append}
use Rattle.poll_log.proofs.Names.{AllNew, has_name-append, or-left, or-right}

-- the questions of sendings
abbrev pub questions_of : List Sending → List Question
questions_of sendings = map (λ s. s.question) sendings

pub outgoing_from-append : (earlier xs ys : List Question) → outgoing_from earlier (xs ++ ys) ≡ outgoing_from earlier xs ++ outgoing_from (earlier ++ xs) ys
unfolding outgoing_from
outgoing_from-append earlier [] ys = ap (λ l. outgoing_from l ys) (sym (append-nil earlier))
outgoing_from-append earlier (q ∷ xs) ys =
    ap (λ l. outgoing (server_of (times earlier q.name)) q ∷ l)
    (outgoing_from-append (earlier ++ q ∷ []) xs ys ∙ ap (λ l. outgoing_from (earlier ++ q ∷ []) xs ++ outgoing_from l ys) (append_assoc earlier (q ∷ []) xs))

-- The sendings of distinct names, each with the number that says how often its name was sent before, go where they say.
pub in_turn : (D : Name → ℕ) (falls : Question → Option Sending) (earlier seen qs : List Question) → AllNew seen qs
    → ((n : Name) → has_name n seen ≡ false → times earlier n ≡ D n)
    → ((q : Question) (s : Sending) → has_name q.name (seen ++ qs) ≡ true → falls q ≡ Some s → s ≡ numbered_sending q (D q.name))
    → outgoing_from earlier (questions_of (filter_map falls qs)) ≡ map outgoing_of (filter_map falls qs)
unfolding outgoing_from
in_turn D falls earlier seen [] new counted numbered = refl
in_turn D falls earlier seen (q ∷ qs) new counted numbered =
    go (falls q) refl (λ later known. in_turn D falls later (seen ++ q ∷ []) qs new.1 known (λ x s k f. numbered x s (subst (λ l. has_name x.name l ≡ true) (append_assoc seen (q ∷ []) qs) k) f))
  where
    Rest : List Question → Type 0
    Rest later = ((n : Name) → has_name n (seen ++ q ∷ []) ≡ false → times later n ≡ D n) → outgoing_from later (questions_of (filter_map falls qs)) ≡ map outgoing_of (filter_map falls qs)

    unseen : (n : Name) → has_name n (seen ++ q ∷ []) ≡ false → has_name n seen ≡ false
    unseen n k = or-left _ _ (sym (has_name-append n seen (q ∷ [])) ∙ k)

    other : (n : Name) → has_name n (seen ++ q ∷ []) ≡ false → same_name q.name n ≡ false
    other n k = or-left _ false (or-right (has_name n seen) _ (sym (has_name-append n seen (q ∷ [])) ∙ k))

    sent_once : (n : Name) → has_name n (seen ++ q ∷ []) ≡ false → times (earlier ++ q ∷ []) n ≡ D n
    sent_once n k = times-append earlier (q ∷ []) n ∙ ap (λ b. times earlier n + (cond b 1 0 + 0)) (other n k) ∙ (let e = counted n (unseen n k) in omega arith)

    placed : (s : Sending) → s ≡ numbered_sending q (D q.name) → outgoing (server_of (times earlier s.question.name)) s.question ≡ outgoing_of s
    placed s e =
        ap (λ (x : Sending). outgoing (server_of (times earlier x.question.name)) x.question) e
        ∙ ap (λ n. outgoing (server_of n) q) (counted q.name new.0)
        ∙ ap outgoing_of (sym e)

    asked : (s : Sending) → s ≡ numbered_sending q (D q.name) → s.question ≡ q
    asked s e = ap (λ (x : Sending). x.question) e

    go : (r : Option Sending) → falls q ≡ r → ((later : List Question) → Rest later) → outgoing_from earlier (questions_of (cons_option r (filter_map falls qs))) ≡ map outgoing_of (cons_option r (filter_map falls qs))
    go None f rest = rest earlier (λ n k. counted n (unseen n k))
    go (Some s) f rest =
        let it : s ≡ numbered_sending q (D q.name) = numbered q s (seen_here seen q qs) f in
        ap (λ o. o ∷ outgoing_from (earlier ++ s.question ∷ []) (questions_of (filter_map falls qs))) (placed s it)
        ∙ ap (λ x. outgoing_of s ∷ outgoing_from (earlier ++ x ∷ []) (questions_of (filter_map falls qs))) (asked s it)
        ∙ ap (λ l. outgoing_of s ∷ l) (rest (earlier ++ q ∷ []) sent_once)

always : Question → Option Sending
always q = Some (first_sending q)

each_first : (qs : List Question) → filter_map always qs ≡ map first_sending qs
unfolding always
each_first [] = refl
each_first (q ∷ qs) = ap (λ l. first_sending q ∷ l) (each_first qs)

first_questions : (qs : List Question) → questions_of (map first_sending qs) ≡ qs
first_questions [] = refl
first_questions (q ∷ qs) = ap (λ l. q ∷ l) (first_questions qs)

-- questions for names that were not sent before go to the first server
pub new_to_first : (earlier seen qs : List Question) → AllNew seen qs → ((n : Name) → has_name n seen ≡ false → times earlier n ≡ 0) → outgoing_from earlier qs ≡ first_sent qs
unfolding always
new_to_first earlier seen qs new unsent =
    ap (outgoing_from earlier) (sym (first_questions qs))
    ∙ ap (λ l. outgoing_from earlier (questions_of l)) (sym (each_first qs))
    ∙ in_turn (λ n. 0) always earlier seen qs new unsent (λ q s k f. cc)
    ∙ ap (map outgoing_of) (each_first qs)

pub length-outgoing : (earlier qs : List Question) → length (outgoing_from earlier qs) ≡ length qs
unfolding outgoing_from
length-outgoing earlier [] = refl
length-outgoing earlier (q ∷ qs) = ap suc (length-outgoing (earlier ++ q ∷ []) qs)

-- the first so many sends are those of the first so many questions
pub take-outgoing : (k : ℕ) (earlier qs : List Question) → take k (outgoing_from earlier qs) ≡ outgoing_from earlier (take k qs)
unfolding outgoing_from
take-outgoing zero earlier qs = refl
take-outgoing (suc k) earlier [] = refl
take-outgoing (suc k) earlier (q ∷ qs) = ap (λ l. outgoing (server_of (times earlier q.name)) q ∷ l) (take-outgoing k (earlier ++ q ∷ []) qs)
