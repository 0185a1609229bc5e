-- Where names are few each question of a log has its reply.
use Rattle.std.proofs.Common.{◌≡◌, ℕ, ◌+◌, ◌*◌, ◌<◌, ◌≤◌, true, false, not, ◌||◌, List, [], ◌∷◌, ◌++◌, map, take, length, Option, Some, None, refl, sym, ◌∙◌, ap, subst, arith, append_assoc}
use Rattle.std.specs.Prelude.{is_some, slice_get}
use Rattle.std.specs.List.{AllByRecursion, list_any}
use Rattle.std.proofs.lemmas.Bool.{or_parts}
use Rattle.std.proofs.lemmas.List.{append-nil, length-append, length_push, map_push}
use Rattle.std.proofs.lemmas.List.Elements.{All-from_recursion, All-nil, recursion_from_All}
use Rattle.pac_names.specs.Comparing.{same_name}
use Rattle.pac_names.specs.Names.{Name}
use Rattle.js_host.specs.Answers.{AnswerMap, answer_in}
use Rattle.poll_log.specs.declared.question.Question.{Question}
use Rattle.poll_log.specs.declared.terms.TheConstants.{FLOOD}
use Rattle.poll_log.specs.declared.terms.Terms.{Terms}
use Rattle.poll_log.specs.Turns.{Outgoing, Turns, Begin, Then, Event, Given}
use Rattle.poll_log.specs.Beats.{one_more, stretches, ticks}
use Rattle.poll_log.specs.Questions.{IsQuestion, asked_in, firsts, has_name, questions, was_sent}
use Rattle.poll_log.specs.Told.{accepted, is_dead, or_else, told}
use Rattle.poll_log.specs.Jobs.{IsFinished, IsOwed, Job, SendsOwed, WaitsBefore, is_waiting, waits_unless}
use Rattle.poll_log.specs.Laws.{IsRestartable}
use Rattle.poll_log.proofs.Bounds.{alive_if_young}
use Rattle.poll_log.proofs.Counts.{seen_here}
use Rattle.poll_log.proofs.Dues.{asked_now, firsts_next, firsts_of_begin, firsts_proper, fresh_new}
use Rattle.poll_log.proofs.Names.{AllNew, has_name-append, true_false}
use Rattle.poll_log.proofs.TurnLaws.{accepted_unsent, distinct, falls_at, questions-begin, questions-then, told-begin, told_next, told_stays, told_unsent}
use Rattle.pac_generate.specs.Answered.{IsAnswered, due_reply, event_by, given, replies, reply_from}
use Rattle.pac_generate.specs.declared.limits.TheConstants.{MOST_QUESTIONS}
use Rattle.memory_talk.specs.Laws.{AreAddresses, AreReplied, AskFew, QuestionsAreReplied, events_of, reply_event}
use Rattle.memory_talk.proofs.Early.{all_young, none_falls}
use Rattle.memory_talk.proofs.Few.{all_sent, few_names}
use Rattle.memory_talk.proofs.Given.{questions_proper}
use Rattle.poll_log.proofs.Wanted.{sent_wanted}
use Rattle.memory_talk.proofs.Lacking.{none_wanted}
use Rattle.memory_talk.proofs.Prompt.{IsPrompt, IsTold, IsUnseen, IsUntold, at_due, awaited, behind, behind_new, both, each, next_due, none_kept, shorter, told_among, unseen_by}
use Rattle.memory_talk.proofs.Same.{repeats_fall, repeats_none}
use Rattle.memory_talk.proofs.Taking.{takes_no_other, takes_own}

-- ---- the start

module _ (answers : AnswerMap) (t : Terms) (jobs : List Job) (w : 0 < t.wait) (r : 0 < t.tries) where
  prompt_begin : (sent : List Outgoing) → IsOwed t jobs [] [] (Begin sent) sent → IsPrompt answers t (Begin sent)
  unfolding events_of given stretches ticks
  prompt_begin sent o =
      let none : o.again ≡ [] = repeats_none t jobs w r sent o ∙ none_kept (λ q. false) (λ q. refl) o.fresh in
      record {
        done = [];
        due = o.fresh;
        names = firsts_of_begin t jobs sent o;
        once = questions-begin sent ∙ asked_now t jobs [] [] (Begin sent) sent o (All-nil IsQuestion) ∙ ap (λ (qs : List Question). o.fresh ++ qs) none ∙ append-nil o.fresh;
        came = refl;
        count = refl;
        stretch = refl;
        unticked = refl;
        answered = tt;
        waiting = each (IsUntold t (Begin sent)) (λ q. told-begin t sent q.name) o.fresh;
      }

-- ---- the next turn, where the reply to this question is due

module _ (answers : AnswerMap) (small : AreAddresses answers) (t : Terms) (jobs : List Job) (w : 0 < t.wait) (r : 0 < t.tries) (h : Turns) (o : SendsOwed t jobs h) (p : IsPrompt answers t h)
    (q : Question) (rest : List Question) (parts : p.due ≡ q ∷ rest) (low : length p.done + 1 < FLOOD * t.wait) where
  abbrev reply : Event
  reply = Given (reply_from answers q)

  split : firsts h ≡ p.done ++ q ∷ rest
  split = p.names ∙ ap (λ (qs : List Question). p.done ++ qs) parts

  asked : questions h ≡ p.done ++ q ∷ rest
  asked = p.once ∙ ap (λ (qs : List Question). p.done ++ qs) parts

  is_question : IsQuestion q
  is_question = (behind IsQuestion p.done (q ∷ rest) (subst (AllByRecursion IsQuestion) asked (questions_proper h))).0

  new : AllNew p.done (q ∷ rest)
  new = behind_new [] p.done (q ∷ rest) (subst (AllNew []) split (distinct h))

  waiting : AllByRecursion (IsUntold t h) (q ∷ rest)
  waiting = subst (AllByRecursion (IsUntold t h)) parts p.waiting

  event_due : length p.done < MOST_QUESTIONS → due_reply answers h ≡ Some (reply_from answers q)
  unfolding due_reply replies
  event_due few =
      ap (slice_get (take MOST_QUESTIONS (map (reply_from answers) (questions h)))) p.count
      ∙ ap (λ (qs : List Question). slice_get (take MOST_QUESTIONS (map (reply_from answers) qs)) (length p.done)) asked
      ∙ at_due (reply_from answers) MOST_QUESTIONS p.done rest q few

  module _ (sent : List Outgoing) where
    still_untold : (n : Name) → told t h n ≡ None → accepted t h reply n ≡ None → told t (Then h reply sent) n ≡ None
    still_untold n untold none = told_next t h reply sent n ∙ ap (λ (a : Option _). or_else a (accepted t h reply n)) untold ∙ none

    told_now : IsTold answers t (Then h reply sent) q
    told_now =
        told_next t h reply sent q.name ∙ ap (λ (a : Option _). or_else a (accepted t h reply q.name)) waiting.0
        ∙ takes_own answers small t h q is_question p.done rest split new.0 (all_young answers t h p (omega arith) r q.name)

    told_more : (qs : List Question) → AllByRecursion (IsTold answers t h) qs → AllByRecursion (IsTold answers t (Then h reply sent)) (qs ++ q ∷ [])
    told_more [] told = (told_now, tt)
    told_more (x ∷ qs) told = (told_stays t h reply sent x.name (answer_in answers x.name) told.0, told_more qs told.1)

    rest_untold : (qs : List Question) → AllByRecursion (IsUnseen (p.done ++ q ∷ [])) qs → AllByRecursion (IsUntold t h) qs → AllByRecursion (IsUntold t (Then h reply sent)) qs
    rest_untold [] unseen untold = tt
    rest_untold (x ∷ qs) unseen untold =
        let other = or_parts (has_name x.name p.done) (same_name q.name x.name || false) (sym (has_name-append x.name p.done (q ∷ [])) ∙ unseen.0) in (
          still_untold x.name untold.0 (takes_no_other answers small t h q is_question x.name (or_parts (same_name q.name x.name) false other.1).0),
          rest_untold qs unseen.1 untold.1,
        )

    fresh_untold : (qs : List Question) → AllByRecursion (IsUnseen (firsts h)) qs → AllByRecursion (IsUntold t (Then h reply sent)) qs
    fresh_untold [] unseen = tt
    fresh_untold (x ∷ qs) unseen = (still_untold x.name (told_unsent t h x.name unseen.0) (accepted_unsent t h reply x.name unseen.0), fresh_untold qs unseen.1)

    prompt_then : IsOwed t jobs (questions h) (firsts h) (Then h reply sent) sent → IsPrompt answers t (Then h reply sent)
    unfolding events_of given stretches ticks
    prompt_then now =
        let proper = firsts_proper t jobs h o in
        let again : now.again ≡ [] =
        repeats_fall t jobs w r h reply sent o now ∙ none_kept (λ x. falls_at t h reply x.name) (λ x. none_falls answers t h p (reply_from answers q) low x.name) (firsts h ++ now.fresh) in
        let asks : asked_in sent ≡ now.fresh =
        asked_now t jobs (questions h) (firsts h) (Then h reply sent) sent now proper ∙ ap (λ (qs : List Question). now.fresh ++ qs) again ∙ append-nil now.fresh in
        let joined : (p.done ++ q ∷ rest) ++ now.fresh ≡ (p.done ++ q ∷ []) ++ (rest ++ now.fresh) =
        append_assoc p.done (q ∷ rest) now.fresh ∙ sym (append_assoc p.done (q ∷ []) (rest ++ now.fresh)) in
        record {
          done = p.done ++ q ∷ [];
          due = rest ++ now.fresh;
          names = firsts_next t jobs h reply sent o now ∙ ap (λ (qs : List Question). qs ++ now.fresh) split ∙ joined;
          once = questions-then h reply sent ∙ ap (λ (qs : List Question). questions h ++ qs) asks ∙ ap (λ (qs : List Question). qs ++ now.fresh) asked ∙ joined;
          came = ap (λ (es : List Event). es ++ reply ∷ []) p.came ∙ sym (map_push (reply_event answers) p.done q);
          count = ap (λ (n : ℕ). n + 1) p.count ∙ sym (length_push p.done q);
          stretch = ap one_more p.stretch ∙ ap (λ (n : ℕ). n ∷ []) (sym (length_push p.done q));
          unticked = p.unticked;
          answered = told_more p.done p.answered;
          waiting =
              both (IsUntold t (Then h reply sent)) rest now.fresh (rest_untold rest (unseen_by (p.done ++ q ∷ []) rest new.1) waiting.1)
              (fresh_untold now.fresh (unseen_by (firsts h) now.fresh (fresh_new t jobs (questions h) (firsts h) (Then h reply sent) sent now proper)));
        }

-- ---- the whole log

module _ (most : ℕ) (answers : AnswerMap) (small : AreAddresses answers) (t : Terms) (jobs : List Job) (few : AskFew most t jobs) where
  pub laws : AllByRecursion (IsRestartable most) jobs
  laws = recursion_from_All (IsRestartable most) jobs few.restartable

  waits : 0 < t.wait
  waits = let early = few.early in omega (arith, early)

  -- at least one question more than those that were answered is among those that are
  pub room : (h : Turns) (o : SendsOwed t jobs h) (p : IsPrompt answers t h) (q : Question) (rest : List Question) → p.due ≡ q ∷ rest → length p.done + 1 ≤ most * length jobs
  room h o p q rest parts =
      let named = few_names most t jobs laws h o in
      let short = shorter (firsts h) p.done rest q (p.names ∙ ap (λ (qs : List Question). p.done ++ qs) parts) in
      omega (arith, named, short)

  pub prompt : (h : Turns) → SendsOwed t jobs h → WaitsBefore t jobs h → IsAnswered answers h → IsPrompt answers t h
  unfolding IsAnswered
  prompt (Begin sent) o waited a = prompt_begin answers t jobs waits few.tried sent o
  prompt (Then h e sent) o waited a =
      let p = prompt h o.0 waited.0 a.0 in
      let next = next_due answers t h p (awaited most t h (is_dead t h) jobs laws (all_sent t jobs h o.0) waited.1) in
      let many = room h o.0 p next.question next.rest next.parts in
      let early = few.early in
      let all = few.answered in
      let low : length p.done + 1 < FLOOD * t.wait = omega (arith, many, early) in
      let due : due_reply answers h ≡ Some (reply_from answers next.question) =
      event_due answers small t jobs waits few.tried h o.0 p next.question next.rest next.parts low (omega (arith, many, all)) in
      let came : e ≡ Given (reply_from answers next.question) = a.1 ∙ ap event_by due in
      subst (λ (x : Event). IsPrompt answers t (Then h x sent)) (sym came)
      (prompt_then answers small t jobs waits few.tried h o.0 p next.question next.rest next.parts low sent
      (subst (λ (x : Event). IsOwed t jobs (questions h) (firsts h) (Then h x sent) sent) came o.1))

  module _ (h : Turns) (o : SendsOwed t jobs h) (p : IsPrompt answers t h) (ended : list_any (is_waiting t h) jobs ≡ false) where
    young : length p.done < FLOOD * t.wait
    young =
        let named = few_names most t jobs laws h o in
        let early = few.early in
        let long : length (firsts h) ≡ length p.done + length p.due = ap length p.names ∙ length-append p.done p.due in
        omega (arith, named, early, long)

    alive : (n : Name) → is_dead t h n ≡ false
    alive n = alive_if_young t h n (all_young answers t h p young few.tried n)

    finished : (r : Option Name) → waits_unless (is_dead t h) r ≡ false → r ≡ None
    finished None e = refl
    finished (Some n) e = true_false (sym (ap not (alive n)) ∙ e)

    all_finished : (js : List Job) → list_any (is_waiting t h) js ≡ false → AllByRecursion (IsFinished t h) js
    all_finished [] e = tt
    all_finished (job ∷ js) e =
        let parts = or_parts (is_waiting t h job) (list_any (is_waiting t h) js) e in
        (finished (job (told t h)) parts.0, all_finished js parts.1)

    -- what is not told is lacked by some job
    none_due : (qs : List Question) → p.due ≡ qs → qs ≡ []
    none_due [] e = refl
    none_due (q ∷ qs) e =
        let sent : was_sent h q.name ≡ true = ap (has_name q.name) (p.names ∙ ap (λ (l : List Question). p.done ++ l) e) ∙ seen_here p.done q qs in
        let untold : AllByRecursion (IsUntold t h) (q ∷ qs) = subst (AllByRecursion (IsUntold t h)) e p.waiting in
        true_false (sym (sent_wanted most t jobs few.restartable h o q.name sent untold.0) ∙ none_wanted (told t h) q.name jobs (all_finished jobs ended))

    all_done : p.done ++ p.due ≡ p.done
    all_done = ap (λ (qs : List Question). p.done ++ qs) (none_due p.due refl) ∙ append-nil p.done

    replied : AreReplied answers t jobs h
    replied =
        record {
          replies = p.came ∙ ap (map (reply_event answers)) (sym (p.once ∙ all_done));
          once = p.once ∙ sym p.names;
          all_told = λ n sent. ap is_some (told_among answers t h n p.done p.answered (ap (has_name n) (sym (p.names ∙ all_done)) ∙ sent));
          finished = All-from_recursion (IsFinished t h) jobs (all_finished jobs ended);
        }

pub all_replied : QuestionsAreReplied
all_replied most answers t jobs h small few polled answered =
    replied most answers small t jobs few h polled.sends (prompt most answers small t jobs few h polled.sends polled.waits answered) polled.ended
