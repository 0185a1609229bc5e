-- One name at the start.
use Rattle.std.proofs.Common.{◌≡◌, List, [], ◌∷◌, ◌++◌, map, Option, Some, None, IsTrue, refl, sym, ◌∙◌, ap, subst, arith}
use Rattle.std.specs.List.{cons_option}
use Rattle.std.proofs.lemmas.List.Elements.{All-cons, All-nil}
use Rattle.pac_names.specs.declared.answer.Answer.{Answer}
use Rattle.pac_names.specs.Names.{is_lookup_name, Name}
use Rattle.pac_ports.specs.Dice.{DiceTold, Gave}
use Rattle.poll_log.specs.declared.question.Question.{Question}
use Rattle.poll_log.specs.declared.sending.Sending.{Sending}
use Rattle.poll_log.specs.declared.terms.Terms.{Terms}
use Rattle.poll_log.specs.Turns.{Begin, Outgoing}
use Rattle.poll_log.specs.Beats.{last_stretch, stretches}
use Rattle.poll_log.specs.Questions.{IsQuestion, asked_in, first_sending, first_sent, names_of, new_among, outgoing_of}
use Rattle.poll_log.specs.Sendings.{AreTerms}
use Rattle.poll_log.specs.Told.{told}
use Rattle.poll_log.specs.Jobs.{once, wanted}
use Rattle.poll_log.specs.Laws.{AsksInOrder, IsRestartable, lacking_or, only_behind}
use Rattle.poll_log.proofs.Asking.{asked_by-octets_of}
use Rattle.poll_log.proofs.Names.{none_some, once-new}
use Rattle.poll_log.proofs.Dues.{owed_begin}
use Rattle.poll_log.proofs.Orders.{runs_restartable}
use Rattle.poll_log.proofs.TurnLaws.{firsts-begin, told-begin}
use Rattle.stub_poller.specs.State.{asking, new_stub}
use Rattle.stub_poller.specs.Driven.{asking_all, driven}
use Rattle.pac_plan.specs.Plan.{Outside}
use Rattle.poll_loop.specs.Task.{AsksLookupNames, IsSound}
use Rattle.poll_loop.specs.Numbers.{GaveAll}
use Rattle.poll_loop.specs.Steps.{Began}
use Rattle.pac_ask.specs.Task.{job_of, task_of}
use Rattle.pac_ask.specs.Standing.{Stands}
use Rattle.pac_ask.specs.OneName.{StandsFor, new_one}
use Rattle.pac_ask.specs.declared.one_name.OneName.{OneName}
use Rattle.pac_names.specs.declared.limits.TheConstants.{MOST_NAMES}

first_alone : (q : Question) → IsQuestion q → new_among [] (asked_in (first_sent (q ∷ []))) ≡ q ∷ []
unfolding new_among
first_alone q p = ap (λ r. new_among [] (cons_option r [])) (asked_by-octets_of q p)

-- the first question is sent
pub stands_begin : (t : Terms) (q : Question) → AreTerms t → IsQuestion q → Stands q.name None t (asking q (new_stub t)) 0 (task_of t q.name) (Begin (first_sent (q ∷ [])))
unfolding driven last_stretch stretches
stands_begin t q w p =
    record {
      same = refl;
      ranges = w;
      named = p.name;
      asked = ap names_of (firsts-begin sent ∙ first_alone q p);
      sends = owed_begin t (job_of q.name ∷ []) w.waits w.tried (q ∷ []) asks (All-cons IsQuestion q [] p (All-nil IsQuestion));
      flying = ap (λ qs. asking_all qs (new_stub t)) (sym (first_alone q p));
      answered = sym (told-begin t sent q.name);
      beating = refl;
    }
  where
    sent : List Outgoing
    sent = first_sent (q ∷ [])

    asks : names_of (q ∷ []) ≡ once [] (wanted (job_of q.name ∷ []) (told t (Begin (first_sent (q ∷ [])))))
    asks = sym (ap (λ m. once [] (cons_option (lacking_or q.name m None) [])) (told-begin t sent q.name) ∙ once-new [] q.name refl)

in_order : (name : Name) → AsksInOrder MOST_NAMES (λ map. name ∷ [])
in_order name =
    record {
      done = λ larger smaller x e. refl;
      agrees = λ larger smaller n x e. ([], go (smaller name));
      within = λ map. (omega arith);
    }
  where
    go : (m : Option Answer) → name ∷ [] ≡ (name ∷ only_behind m []) ++ []
    go None = refl
    go (Some x) = refl

pub sound : (t : Terms) (name : Name) → AreTerms t → IsTrue (is_lookup_name name) → IsSound (task_of t name)
sound t name w named =
    record {
      terms = record { waits = w.waits; tried = w.tried };
      named = All-cons AsksLookupNames (job_of name) [] (λ answers n e. go (answers name) n e) (All-nil AsksLookupNames);
      restartable = All-cons (IsRestartable MOST_NAMES) (job_of name) [] (runs_restartable MOST_NAMES (λ map. name ∷ []) (in_order name)).law (All-nil (IsRestartable MOST_NAMES));
      unsent_runs = λ turns sent. refl;
    }
  where
    go : (m : Option Answer) (n : Name) → lacking_or name m None ≡ Some n → IsTrue (is_lookup_name n)
    go None n e = let same : name ≡ n = cc in subst (λ x. IsTrue (is_lookup_name x)) same named
    go (Some x) n e = none_some n e

-- polling begins
pub began : (t : Terms) (q : Question) (one : OneName) (first : Sending) (old : Outside) (dice : Option DiceTold) → AreTerms t → IsQuestion q → Gave old.dice q.id dice → one ≡ new_one t q → first ≡ first_sending q → Began (StandsFor one (task_of t q.name)) (task_of t q.name) (map outgoing_of (first ∷ [])) old dice old.runs
began t q one first old dice w p gave e f =
    let s = stands_begin t q w p in
    subst (λ x. Began (StandsFor x (task_of t q.name)) (task_of t q.name) (map outgoing_of (first ∷ [])) old dice old.runs) (sym e)
    (subst (λ x. Began (StandsFor (new_one t q) (task_of t q.name)) (task_of t q.name) (map outgoing_of (x ∷ [])) old dice old.runs) (sym f)
    (record {
      sound = sound t q.name w p.name;
      stands = s;
      owed = s.sends;
      drew = subst (λ l. GaveAll old.dice (map (λ r. r.id) l) dice) (sym (firsts-begin (first_sent (q ∷ [])) ∙ first_alone q p)) (dice, gave, refl);
      ran = omega arith;
    }))
