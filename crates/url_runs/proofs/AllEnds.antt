-- How the talk for all URLs ended, by what the code answers, and what is said of it.
use Rattle.std.proofs.Common.{◌≡◌, List, Option, Result, Ok, Err, ◌∙◌, subst, map}
use Rattle.std.specs.Prelude.{Vec, IfErr, IfOk}
use Rattle.std.specs.declared.alloc.Global.{Global}
use Rattle.pac_ports.specs.declared.link.Move.{Move}
use Rattle.batch_text.specs.Batch.{BatchEntry}
use Rattle.js_host.specs.Answers.{AnswerMap}
use Rattle.js_evaluation.specs.Evaluation.{Entry}
use Rattle.pac_plan.specs.Plan as plans
use Rattle.pac_plan.specs.Plan.{Outside, faulted, whole}
use Rattle.pac_plan.specs.Follows.{Follows, IsUnlessMemory}
use Rattle.pac_plan.proofs.GivesUp.{says_nothing}
use Rattle.pac_ask.specs.Talks.{talks}
use Rattle.poll_log.specs.Turns.{Turns, turns_of}
use Rattle.poll_log.specs.Told.{told}
use Rattle.poll_loop.specs.Talks.{Talked}
use Rattle.poll_loop.specs.declared.looping.Upstream.{Upstream}
use Rattle.poll_loop.specs.declared.looping.PollError.{PollError}
use Rattle.poll_loop.specs.declared.looping.PollError.TheVariants as error
use Rattle.session_log.specs.Sessions.{Holds}
use Rattle.report_text.specs.Report.{UrlEnd, seen_end}
use Rattle.report_text.specs.declared.blocks.UrlEnd as code
use Rattle.url_runs.specs.Runs.{ScriptRuns}
use Rattle.url_runs.specs.Reports.{reported}
use Rattle.url_runs.specs.Resolving.{Completion, ended, resolve_plan, urls_talk}
use Rattle.url_runs.specs.Ends.{HaveEnded, IsSaid, seen_ends}

not_link : error.Link ≡ error.Memory → ⊥
not_link e = cc

module _ (upstream : Upstream) (script : ScriptRuns) (entries : List Entry) (old new : Outside) where
  -- it went to its end, and what the sessions say is told, or memory ran out
  pub have_ended : (log : List Move) (ends : List UrlEnd) (result : Result (Vec code.UrlEnd Global) PollError)
      → Talked (urls_talk upstream script entries) old whole log new
      → ((answers : AnswerMap) → Holds answers (told upstream.terms (turns_of log)) → ends ≡ map (ended script answers upstream.terms (turns_of log)) entries)
      → IfOk result (λ told. map seen_end told.items ≡ ends) → IfErr result (λ e. e ≡ error.Memory)
      → HaveEnded upstream script entries old (seen_ends result) new
  have_ended log ends (Ok items) talked all ok err = (log, talked, λ answers holds. ok ∙ all answers holds)
  have_ended log ends (Err error.Link) talked all ok err = absurd (not_link err)
  have_ended log ends (Err error.Memory) talked all ok err = (whole, log, talked)

  -- what is said by that follows the plan
  pub follows : (complete : Completion) (batch : List BatchEntry) (result : Result (List UrlEnd) PollError) (made : Option plans.Output)
      → HaveEnded upstream script entries old result new → IsSaid batch result made
      → Follows talks (resolve_plan complete upstream (record { script = script; batch = batch; entries = entries })) old new made
  follows complete batch (Ok ends) made h said =
      let turns : Turns = turns_of h.0 in (
        whole,
        h.0,
        h.1,
        subst (λ (ends : List UrlEnd). IsUnlessMemory (reported batch ends) made) (h.2 (complete.answers upstream.terms turns) (complete.agrees upstream.terms turns)) said,
      )
  follows complete batch (Err error.Link) made h said = (faulted, h.0, h.1, said)
  follows complete batch (Err error.Memory) made h said = (h.0, h.1, h.2, rw said (says_nothing h.0 _))
