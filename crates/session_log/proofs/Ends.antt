-- How sessions end.
use Rattle.std.proofs.Common.{◌≡◌, ◌+◌, ◌≤◌, Bool, true, false, cond, not, ◌||◌, List, [], ◌∷◌, Option, Some, None, refl, sym, ◌∙◌, ap, subst, arith}
use Rattle.std.specs.Prelude.{unwrap_or}
use Rattle.std.specs.Ordering.{eq_by_cmp}
use Rattle.std.specs.FinMap as map
use Rattle.std.specs.List.{All}
use Rattle.std.proofs.lemmas.List.Elements.{All-cons, All-head, All-nil, All-tail}
use Rattle.std.proofs.lemmas.Cmp.{eq_by_cmp_equiv}
use Rattle.pac_names.specs.declared.answer.Answer.{Answer}
use Rattle.pac_names.specs.declared.answer.Answer.TheVariants.{NoAddress}
use Rattle.pac_names.specs.Names.{Name}
use Rattle.js_host.specs.Answers.{AnswerMap, answer_in}
use Rattle.run_trees.specs.RunTree.{RunTree}
use Rattle.run_trees.specs.WholeRun.{asked_names, whole_run}
use Rattle.run_trees.proofs.Answering.{rest-same}
use Rattle.poll_log.specs.declared.question.Question.{Question}
use Rattle.poll_log.specs.declared.terms.Terms.{Terms}
use Rattle.poll_log.specs.Turns.{Turns}
use Rattle.poll_log.specs.Questions.{firsts, has_name, was_sent}
use Rattle.poll_log.specs.Told.{Map, is_dead, told}
use Rattle.poll_log.specs.Jobs.{IsFinished, IsUnanswered, runs_of, waits_unless}
use Rattle.poll_log.specs.Laws.{IsRestartableBy, first_lacking}
use Rattle.poll_log.proofs.Bounds.{runs_bound}
use Rattle.poll_log.proofs.Grows.{finished_stays, told_grows, unanswered_stays}
use Rattle.poll_log.proofs.Names.{none_some, same_is, true_false}
use Rattle.poll_log.proofs.Orders.{runs_restartable}
use Rattle.poll_log.proofs.TurnLaws.{told_unsent}
use Rattle.session_log.specs.Asked.{asked_in, job_of}
use Rattle.session_log.specs.Sessions.{Finishes, Holds, IsEnd, IsWhole, Lacks, SessionEnd}
use Rattle.session_log.specs.Laws.{EndsStay, HasOneEnd, IsIsolated, RunsCostTheirNames, SessionsEnd, ToldIsFinite}
use Rattle.session_log.proofs.Asking.{asked_in-map, held_parts}
use Rattle.session_log.proofs.Orders.{in_order, run_is_job}
use Rattle.pac_names.specs.declared.limits.TheConstants.{MOST_NAMES}
use Rattle.pac_names.specs.Comparing.{same_name, compare_names, names_total, names_tie}

-- ---- what is told is a finite map

abbrev with_answer : Name → Option Answer → AnswerMap → AnswerMap
with_answer n None all = all
with_answer n (Some answer) all = map.insert all n answer

-- the answers to these names
abbrev answers_to : Map → List Question → AnswerMap
answers_to told [] = map.empty
answers_to told (q ∷ qs) = with_answer q.name (told q.name) (answers_to told qs)

flipped : (n m : Name) → eq_by_cmp compare_names n m ≡ same_name m n
flipped n m = (eq_by_cmp_equiv names_total).symm n m ∙ sym (names_tie m n)

answers_to-get : (told : Map) (qs : List Question) (n : Name) → map.get (answers_to told qs) n ≡ cond (has_name n qs) (told n) None
answers_to-get told [] n = map.get-empty compare_names n
answers_to-get told (q ∷ qs) n = go (told q.name) refl (same_name q.name n) refl (answers_to-get told qs n)
  where
    none : (b : Bool) → told n ≡ None → cond b (told n) None ≡ None
    none true e = e
    none false e = refl

    go : (r : Option Answer) → told q.name ≡ r → (b : Bool) → same_name q.name n ≡ b → map.get (answers_to told qs) n ≡ cond (has_name n qs) (told n) None → map.get (with_answer q.name r (answers_to told qs)) n ≡ cond (b || has_name n qs) (told n) None
    go None e true same ih =
        let here : told n ≡ None = ap told (sym (same_is q.name n same)) ∙ e in
        ih ∙ none (has_name n qs) here ∙ sym here
    go None e false apart ih = ih
    go (Some x) e true same ih =
        map.get-insert names_total (answers_to told qs) q.name x n
        ∙ ap (λ b. cond b (Some x) (map.get (answers_to told qs) n)) (flipped n q.name ∙ same)
        ∙ sym e ∙ ap told (same_is q.name n same)
    go (Some x) e false apart ih =
        map.get-insert names_total (answers_to told qs) q.name x n
        ∙ ap (λ b. cond b (Some x) (map.get (answers_to told qs) n)) (flipped n q.name ∙ apart)
        ∙ ih

pub told_finite : ToldIsFinite
told_finite t h =
    record {
      all = answers_to (told t h) (firsts h);
      same = λ n. answers_to-get (told t h) (firsts h) n ∙ go n (was_sent h n) refl;
    }
  where
    go : (n : Name) (b : Bool) → was_sent h n ≡ b → cond b (told t h n) None ≡ told t h n
    go n true s = refl
    go n false s = sym (told_unsent t h n s)

finite_holds : (t : Terms) (h : Turns) → Holds (told_finite t h).all (told t h)
finite_holds t h n x e = (told_finite t h).same n ∙ e

-- ---- isolation

-- names that are held have the same answers in maps that hold them
same_answers : (M N : Map) (all all' : AnswerMap) → Holds all M → Holds all' N → (names : List Name) → first_lacking names M ≡ None → All (λ n. M n ≡ N n) names → All (λ n. answer_in all n ≡ answer_in all' n) names
same_answers M N all all' p q [] held same = All-nil (λ n. answer_in all n ≡ answer_in all' n)
same_answers M N all all' p q (n ∷ names) held same =
    let parts = held_parts M n names held in
    let here : M n ≡ N n = All-head (λ m. M m ≡ N m) n names same in
    let one : map.get all n ≡ Some parts.0.0 = p n parts.0.0 parts.0.1 in
    let other : map.get all' n ≡ Some parts.0.0 = q n parts.0.0 (sym here ∙ parts.0.1) in
    All-cons (λ m. answer_in all m ≡ answer_in all' m) n names (ap (λ r. unwrap_or r NoAddress) (one ∙ sym other))
    (same_answers M N all all' p q names parts.1 (All-tail (λ m. M m ≡ N m) n names same))

-- a whole run asks what its run asks of the answers that a map holds
same_names : {End : Type 0} (run : RunTree End) (M : Map) (all : AnswerMap) → job_of run M ≡ None → Holds all M → asked_names all run ≡ asked_in run M
same_names run M all e p = sym (asked_in-map all run) ∙ (in_order run).done (map.get all) M p e

same_runs : {End : Type 0} (run : RunTree End) (M N : Map) (all all' : AnswerMap) → job_of run M ≡ None → Holds all M → Holds all' N → All (λ n. M n ≡ N n) (asked_in run M) → whole_run all run ≡ whole_run all' run
same_runs run M N all all' e p q same =
    rest-same all all' run [] (subst (All (λ n. answer_in all n ≡ answer_in all' n)) (sym (same_names run M all e p)) (same_answers M N all all' p q (asked_in run M) e same))

pub isolated : {End : Type 0} → IsIsolated End
isolated t t' h h' run all all' e p q same = same_runs run (told t h) (told t' h') all all' e p q same

each_same : (M : Map) (names : List Name) → All (λ n. M n ≡ M n) names
each_same M [] = All-nil (λ n. M n ≡ M n)
each_same M (n ∷ names) = All-cons (λ m. M m ≡ M m) n names refl (each_same M names)

-- against each map that holds what a run asks the whole run is the same
pub whole_is_one : {End : Type 0} (run : RunTree End) (M : Map) (all : AnswerMap) → job_of run M ≡ None → Holds all M → IsWhole run M (whole_run all run)
whole_is_one run M all e p other q = same_runs run M M other all e q p (each_same M (asked_in run M))

-- ---- one end

module _ {End : Type 0} (t : Terms) (h : Turns) (run : RunTree End) where
  finished_end : IsFinished t h (job_of run) → HasOneEnd t h run
  finished_end e =
      let all : AnswerMap = (told_finite t h).all in
      record {
        end = Finishes (whole_run all run);
        is = (e, whole_is_one run (told t h) all e (finite_holds t h));
        only = only;
      }
    where
      only : (other : SessionEnd End) → IsEnd t h run other → other ≡ Finishes (whole_run (told_finite t h).all run)
      only (Finishes one) k = ap Finishes (sym (k.1 (told_finite t h).all (finite_holds t h)))
      only (Lacks n) k = none_some n (sym e ∙ k.first)

  unanswered_end : (n : Name) → IsUnanswered t h (job_of run) n → HasOneEnd t h run
  unanswered_end n e = record { end = Lacks n; is = e; only = only }
    where
      only : (other : SessionEnd End) → IsEnd t h run other → other ≡ Lacks n
      only (Finishes one) k = none_some n (sym k.0 ∙ e.first)
      only (Lacks m) k = let same : Some m ≡ Some n = sym k.first ∙ e.first in (let s : m ≡ n = cc in ap Lacks s)

pub one_end : {End : Type 0} → SessionsEnd End
one_end t h run e = go (job_of run (told t h)) refl e
  where
    dead_or : (n : Name) → job_of run (told t h) ≡ Some n → (b : Bool) → is_dead t h n ≡ b → not b ≡ false → HasOneEnd t h run
    dead_or n w true d k = unanswered_end t h run n (record { first = w; dead = d })
    dead_or n w false d k = true_false k

    go : (r : Option Name) → job_of run (told t h) ≡ r → waits_unless (is_dead t h) r ≡ false → HasOneEnd t h run
    go None w k = finished_end t h run w
    go (Some n) w k = dead_or n w (is_dead t h n) refl k

pub end_stays : {End : Type 0} → EndsStay End
end_stays t ms more run (Finishes one) e = (
  finished_stays MOST_NAMES t ms more (job_of run) (run_is_job run) e.0,
  λ all p. e.1 all (λ n x k. p n x (told_grows t ms more n x k)),
)
end_stays t ms more run (Lacks n) e = unanswered_stays MOST_NAMES t ms more (job_of run) n (run_is_job run) e

-- ---- what a session costs

pub costs : {End : Type 0} → RunsCostTheirNames End
costs t h run =
    let by : IsRestartableBy MOST_NAMES (asked_in run) = runs_restartable MOST_NAMES (asked_in run) (in_order run) in
    let bound : runs_of t h (job_of run) ≤ by.law.depth (told t h) + 1 = runs_bound MOST_NAMES t h (job_of run) by.law in
    let deep = by.depth (told t h) in
    let within = by.law.within (told t h) in
    record {
      names = omega arith;
      most = omega arith;
      whole = λ e all p. same_names run (told t h) all e p;
    }
