-- Where names are few, each event is the reply to the next question.
use Rattle.std.proofs.Common.{◌≡◌, ℕ, zero, suc, ◌+◌, ◌<◌, ◌≤◌, Bool, true, false, cond, inl, inr, List, [], ◌∷◌, ◌++◌, map, take, length, Option, Some, None, is_some, refl, sym, ◌∙◌, ap, subst, arith, append_assoc}
use Rattle.std.specs.Prelude.{slice_get}
use Rattle.std.specs.List.{AllByRecursion, filter, list_any}
use Rattle.std.proofs.lemmas.Bool.{or_cases, or_parts}
use Rattle.std.proofs.lemmas.List.{append-nil, length-append}
use Rattle.pac_names.specs.Comparing.{same_name}
use Rattle.pac_names.specs.Names.{Name}
use Rattle.js_host.specs.Answers.{AnswerMap, answer_in}
use Rattle.poll_log.specs.declared.question.Question.{Question}
use Rattle.poll_log.specs.declared.terms.Terms.{Terms}
use Rattle.poll_log.specs.Turns.{Turns}
use Rattle.poll_log.specs.Beats.{stretches, ticks}
use Rattle.poll_log.specs.Questions.{firsts, has_name, questions, was_sent}
use Rattle.poll_log.specs.Told.{told}
use Rattle.poll_log.specs.Jobs.{Job, waits_unless}
use Rattle.poll_log.specs.Laws.{IsRestartable}
use Rattle.poll_log.proofs.Names.{AllNew, has_name-append, same_is, true_false}
use Rattle.pac_generate.specs.Answered.{given}
use Rattle.memory_talk.specs.Laws.{events_of, reply_event}
use Rattle.memory_talk.proofs.Few.{LacksSent}

-- ---- lists

pub each : {A : Type 0} (P : A → Type 0) → ((x : A) → P x) → (xs : List A) → AllByRecursion P xs
each P p [] = tt
each P p (x ∷ xs) = (p x, each P p xs)

pub both : {A : Type 0} (P : A → Type 0) (xs ys : List A) → AllByRecursion P xs → AllByRecursion P ys → AllByRecursion P (xs ++ ys)
both P [] ys h k = k
both P (x ∷ xs) ys h k = (h.0, both P xs ys h.1 k)

pub behind : {A : Type 0} (P : A → Type 0) (xs ys : List A) → AllByRecursion P (xs ++ ys) → AllByRecursion P ys
behind P [] ys h = h
behind P (x ∷ xs) ys h = behind P xs ys h.1

pub none_kept : (p : Question → Bool) → ((q : Question) → p q ≡ false) → (qs : List Question) → filter p qs ≡ []
none_kept p off [] = refl
none_kept p off (q ∷ qs) = ap (λ (b : Bool). cond b (q ∷ filter p qs) (filter p qs)) (off q) ∙ none_kept p off qs

pub at_due : (f : Question → List ℕ) (n : ℕ) (done rest : List Question) (q : Question) → length done < n → slice_get (take n (map f (done ++ q ∷ rest))) (length done) ≡ Some (f q)
at_due f zero done rest q low = absurd (omega arith)
at_due f (suc n) [] rest q low = refl
at_due f (suc n) (x ∷ done) rest q low = at_due f n done rest q (omega arith)

-- ---- names that differ

pub behind_new : (seen xs ys : List Question) → AllNew seen (xs ++ ys) → AllNew (seen ++ xs) ys
behind_new seen [] ys new = subst (λ (l : List Question). AllNew l ys) (sym (append-nil seen)) new
behind_new seen (x ∷ xs) ys new = subst (λ (l : List Question). AllNew l ys) (append_assoc seen (x ∷ []) xs) (behind_new (seen ++ x ∷ []) xs ys new.1)

abbrev pub IsUnseen : List Question → Question → Type 0
IsUnseen seen q = has_name q.name seen ≡ false

all_unseen : (seen front qs : List Question) → AllNew (seen ++ front) qs → AllByRecursion (IsUnseen seen) qs
all_unseen seen front [] new = tt
all_unseen seen front (q ∷ qs) new = (
  (or_parts (has_name q.name seen) (has_name q.name front) (sym (has_name-append q.name seen front) ∙ new.0)).0,
  all_unseen seen (front ++ q ∷ []) qs (subst (λ (l : List Question). AllNew l qs) (append_assoc seen front (q ∷ [])) new.1),
)

pub unseen_by : (seen qs : List Question) → AllNew seen qs → AllByRecursion (IsUnseen seen) qs
unseen_by seen qs new = all_unseen seen [] qs (subst (λ (l : List Question). AllNew l qs) (sym (append-nil seen)) new)

-- ---- a job that waits

pub record IsAwaited (t : Terms) (h : Turns) : Type 0 where
  pub name : Name
  pub sent : was_sent h name ≡ true
  pub untold : told t h name ≡ None

pub awaited : (most : ℕ) (t : Terms) (h : Turns) (dead : Name → Bool) (jobs : List Job) → AllByRecursion (IsRestartable most) jobs → AllByRecursion (LacksSent t h) jobs
    → list_any (λ job. waits_unless dead (job (told t h))) jobs ≡ true → IsAwaited t h
awaited most t h dead [] laws sent e = true_false (sym e)
awaited most t h dead (job ∷ jobs) laws sent e = elim (or_cases (waits_unless dead (job (told t h))) (list_any (λ (j : Job). waits_unless dead (j (told t h))) jobs) e) [
  | inl waits ↦ first (job (told t h)) refl waits
  | inr later ↦ awaited most t h dead jobs laws.1 sent.1 later
]
  where
    first : (r : Option Name) → job (told t h) ≡ r → waits_unless dead r ≡ true → IsAwaited t h
    first None w k = true_false (sym k)
    first (Some n) w k = record { name = n; sent = sent.0 n w; untold = laws.0.lacks (told t h) n w }

-- ---- how a log goes

abbrev pub IsTold : AnswerMap → Terms → Turns → Question → Type 0
IsTold answers t h q = told t h q.name ≡ Some (answer_in answers q.name)

abbrev pub IsUntold : Terms → Turns → Question → Type 0
IsUntold t h q = told t h q.name ≡ None

-- No name was sent twice. Those at the front are told, and the others are not. The events are the replies to those at the front.
pub record IsPrompt (answers : AnswerMap) (t : Terms) (h : Turns) : Type 0 where
  pub done : List Question
  pub due : List Question
  pub names : firsts h ≡ done ++ due
  pub once : questions h ≡ done ++ due
  pub came : events_of h ≡ map (reply_event answers) done
  pub count : given h ≡ length done
  pub stretch : stretches h ≡ length done ∷ []
  pub unticked : ticks h ≡ 0
  pub answered : AllByRecursion (IsTold answers t h) done
  pub waiting : AllByRecursion (IsUntold t h) due

-- each of these names is told the map's answer
pub told_among : (answers : AnswerMap) (t : Terms) (h : Turns) (n : Name) (qs : List Question) → AllByRecursion (IsTold answers t h) qs → has_name n qs ≡ true → told t h n ≡ Some (answer_in answers n)
told_among answers t h n [] all k = true_false (sym k)
told_among answers t h n (q ∷ qs) all k = elim (or_cases (same_name q.name n) (has_name n qs) k) [
  | inl same ↦ subst (λ (m : Name). told t h m ≡ Some (answer_in answers m)) (same_is q.name n same) all.0
  | inr later ↦ told_among answers t h n qs all.1 later
]

-- the question whose reply is due
pub record IsNext (qs : List Question) : Type 0 where
  pub question : Question
  pub rest : List Question
  pub parts : qs ≡ question ∷ rest

next_of : (n : Name) (qs : List Question) → has_name n qs ≡ true → IsNext qs
next_of n [] k = true_false (sym k)
next_of n (q ∷ qs) k = record { question = q; rest = qs; parts = refl }

pub next_due : (answers : AnswerMap) (t : Terms) (h : Turns) (p : IsPrompt answers t h) → IsAwaited t h → IsNext p.due
next_due answers t h p a = elim (or_cases (has_name a.name p.done) (has_name a.name p.due) (sym (has_name-append a.name p.done p.due) ∙ ap (has_name a.name) (sym p.names) ∙ a.sent)) [
  | inl front ↦ true_false (sym (ap is_some (told_among answers t h a.name p.done p.answered front)) ∙ ap is_some a.untold)
  | inr later ↦ next_of a.name p.due later
]

pub shorter : (qs done rest : List Question) (q : Question) → qs ≡ done ++ q ∷ rest → length done + 1 ≤ length qs
shorter qs done rest q e =
    let long : length qs ≡ length done + suc (length rest) = ap length e ∙ length-append done (q ∷ rest) in
    omega (arith, long)
