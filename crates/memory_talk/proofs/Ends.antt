-- A talk of the loop over a link in memory and counting dice, as one that touches nothing of another outside.
use Rattle.std.proofs.Common.{◌≡◌, ℕ, ◌+◌, ◌<◌, ◌≤◌, List, [], ◌∷◌, length, Option, Some, None, inl, inr, refl, sym, ◌∙◌, ap, subst, arith}
use Rattle.std.proofs.lemmas.List.{length-map}
use Rattle.js_host.specs.Answers.{AnswerMap}
use Rattle.pac_ports.specs.Faults.{last_count}
use Rattle.pac_ports.specs.Link.{LinkState, LinkTold, with_moves, with_open}
use Rattle.pac_ports.specs.declared.link.Move.{Move}
use Rattle.pac_ports.specs.declared.link.Servers.{Servers}
use Rattle.poll_log.specs.declared.question.Question.{Question}
use Rattle.poll_log.specs.Turns.{turns_of}
use Rattle.poll_log.specs.Questions.{drawn, firsts}
use Rattle.poll_log.specs.Jobs.{IsCut, SendsOwed}
use Rattle.poll_log.specs.Streamed.{IsStreamed}
use Rattle.pac_plan.specs.Plan.{End, Outside, whole, faulted, unfinished}
use Rattle.poll_loop.specs.Task.{IsSound, Talk}
use Rattle.poll_loop.specs.Talks as loop
use Rattle.poll_loop.proofs.Kept.{memory_cut}
use Rattle.poll_loop.proofs.Logs.{sent_none}
use Rattle.pac_generate.specs.Answered.{IsAnswered}
use Rattle.pac_generate.specs.MapLink.{MapLinkState, link_of, new_map_link}
use Rattle.memory_talk.specs.Numbers.{counted, first_numbers}
use Rattle.memory_talk.specs.Talks.{Talked}
use Rattle.memory_talk.proofs.Dealt.{dealt}
use Rattle.memory_talk.proofs.Streams.{none_owed, streamed_none}

-- ---- the link told the log

abbrev log_in : Option LinkTold → List Move
log_in None = []
log_in (Some told) = told.log

linked_log : (servers : Servers) (log : List Move) → log_in (loop.linked servers log (link_of new_map_link)).told ≡ log
linked_log servers [] = refl
linked_log servers (m ∷ log) = refl

module _ (talk : Talk) (inner inner' : Outside) where
  told_log : (end : End) (log : List Move) → loop.Talked talk inner end log inner' → inner.link ≡ link_of new_map_link → log_in inner'.link.told ≡ log
  told_log whole log t new =
      ap (λ (link : LinkState). log_in link.told) t.ends.link ∙ ap (λ (link : LinkState). log_in (loop.linked talk.servers log link).told) new ∙ linked_log talk.servers log
  told_log faulted log t new =
      ap log_in t.ends.link.told ∙ ap (λ (link : LinkState). log_in (with_moves log (with_open talk.servers link)).told) new
  told_log unfinished log t new = go t.ends
    where
      go : loop.Ends talk inner unfinished log inner' → log_in inner'.link.told ≡ log
      go (inl ends) =
          ap (λ (link : LinkState). log_in link.told) ends.link ∙ ap (λ (link : LinkState). log_in (loop.linked talk.servers log link).told) new ∙ linked_log talk.servers log
      go (inr ends) = ap (λ (o : Outside). log_in o.link.told) ends.same ∙ ap (λ (link : LinkState). log_in link.told) new ∙ sym ends.empty

pub same_log : (talk : Talk) (inner inner' : Outside) (end : End) (log : List Move) (l : MapLinkState) → loop.Talked talk inner end log inner'
    → inner.link ≡ link_of new_map_link → inner'.link ≡ link_of l → l.log ≡ log
same_log talk inner inner' end log l t new now = sym (ap (λ (link : LinkState). log_in link.told) now) ∙ told_log talk inner inner' end log t new

-- ---- the dice gave the numbers

pub names_counted : (talk : Talk) (inner inner' : Outside) (log : List Move) (n : ℕ) → loop.Talked talk inner whole log inner'
    → inner.dice ≡ Some (counted 0) → inner'.dice ≡ Some (counted n) → n < last_count → n ≡ length (firsts (turns_of log))
names_counted talk inner inner' log n t first last low =
    (dealt (drawn (turns_of log)) inner.dice inner'.dice n first last low t.ends.drew).0 ∙ length-map (firsts (turns_of log)) (λ (q : Question). q.id)

-- ---- the ends

-- the runs as those of another outside
ran_there : (talk : Talk) (inner inner' o : Outside) (log : List Move) → inner'.runs ≡ inner.runs + talk.task.runs (turns_of log) → o.runs ≡ inner.runs → inner'.runs ≡ o.runs + talk.task.runs (turns_of log)
ran_there talk inner inner' o log ran same = ran ∙ ap (λ (n : ℕ). n + talk.task.runs (turns_of log)) (sym same)

pub answered_whole : (talk : Talk) (answers : AnswerMap) (inner inner' o : Outside) (log : List Move) (l : MapLinkState) (n : ℕ) → loop.Talked talk inner whole log inner'
    → inner.link ≡ link_of new_map_link → inner'.link ≡ link_of l → IsAnswered answers (turns_of l.log)
    → inner.dice ≡ Some (counted 0) → inner'.dice ≡ Some (counted n) → n < last_count → o.runs ≡ inner.runs
    → Talked (record { answers = answers; task = talk.task }) o whole log (record o { runs = inner'.runs })
answered_whole talk answers inner inner' o log l n t new now answered first last low same =
    record {
      polled = t.ends.polled;
      in_memory = record {
        answered = subst (λ (moves : List Move). IsAnswered answers (turns_of moves)) (same_log talk inner inner' whole log l t new now) answered;
        numbered =
            (dealt (drawn (turns_of log)) inner.dice inner'.dice n first last low t.ends.drew).1
            ∙ ap first_numbers (names_counted talk inner inner' log n t first last low);
      };
      streamed = t.ends.streamed;
      ran = ap (λ (runs : ℕ). let x : Outside = record o { runs = runs } in x) (ran_there talk inner inner' o log t.ends.ran same);
    }

cut_at : (talk : Talk) (inner inner' : Outside) (end : End) (log : List Move) → loop.Talked talk inner end log inner' → IsSound talk.task → IsCut talk.task.terms talk.task.jobs (turns_of log)
cut_at talk inner inner' whole log t sound =
    record {
      unsent = [];
      sends = subst (SendsOwed talk.task.terms talk.task.jobs) (sent_none (turns_of log)) t.ends.polled.sends;
      waits = t.ends.polled.waits;
    }
cut_at talk inner inner' faulted log t sound = t.ends.cut
cut_at talk inner inner' unfinished log t sound = memory_cut talk inner log inner' sound t

-- no frame is owed
streamed_at : (talk : Talk) (answers : AnswerMap) (inner inner' : Outside) (end : End) (log : List Move) → loop.Talked talk inner end log inner' → IsAnswered answers (turns_of log)
    → IsStreamed talk.task.terms None log
streamed_at talk answers inner inner' whole log t answered = t.ends.streamed
streamed_at talk answers inner inner' faulted log t answered = none_owed answers talk.task.terms t.ends.owed log t.ends.streamed answered
streamed_at talk answers inner inner' unfinished log t answered = go t.ends
  where
    go : loop.Ends talk inner unfinished log inner' → IsStreamed talk.task.terms None log
    go (inl ends) = none_owed answers talk.task.terms ends.owed log ends.streamed answered
    go (inr ends) = subst (IsStreamed talk.task.terms None) (sym ends.empty) (streamed_none talk.task.terms)

few_runs : (talk : Talk) (inner inner' o : Outside) (end : End) (log : List Move) → loop.Talked talk inner end log inner' → o.runs ≡ inner.runs → inner'.runs ≤ o.runs + talk.task.runs (turns_of log)
few_runs talk inner inner' o whole log t same = let ran = t.ends.ran in omega (arith, ran, same)
few_runs talk inner inner' o faulted log t same = let ran = t.ends.ran in omega (arith, ran, same)
few_runs talk inner inner' o unfinished log t same = go t.ends
  where
    go : loop.Ends talk inner unfinished log inner' → inner'.runs ≤ o.runs + talk.task.runs (turns_of log)
    go (inl ends) = let ran = ends.ran in omega (arith, ran, same)
    go (inr ends) = let ran = ap (λ (x : Outside). x.runs) ends.same in omega (arith, ran, same)

pub answered_early : (talk : Talk) (answers : AnswerMap) (inner inner' o : Outside) (end : End) (log : List Move) (l : MapLinkState) → loop.Talked talk inner end log inner'
    → inner.link ≡ link_of new_map_link → inner'.link ≡ link_of l → IsAnswered answers (turns_of l.log) → o.runs ≡ inner.runs
    → Talked (record { answers = answers; task = talk.task }) o unfinished log (record o { runs = inner'.runs })
answered_early talk answers inner inner' o end log l t new now answered same =
    let here = subst (λ (moves : List Move). IsAnswered answers (turns_of moves)) (same_log talk inner inner' end log l t new now) answered in
    record {
      cut = cut_at talk inner inner' end log t;
      answered = here;
      streamed = streamed_at talk answers inner inner' end log t here;
      kept = refl;
      ran = few_runs talk inner inner' o end log t same;
    }
