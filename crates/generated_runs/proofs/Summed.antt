-- What a talk over a link in memory is summed up to.
use Rattle.std.specs.Result.{IsErrAnd}
use Rattle.std.proofs.Common.{◌≡◌, ℕ, ◌<◌, ◌≤◌, List, length, Option, None, Some, Result, Ok, Err, refl, ◌∙◌, ap, subst, arith, map}
use Rattle.js_host.specs.Answers.{AnswerMap}
use Rattle.js_evaluation.specs.Evaluation.{Entry}
use Rattle.pac_ports.specs.declared.link.Move.{Move}
use Rattle.pac_ports.specs.Faults.{last_count}
use Rattle.pac_plan.specs.Plan as plans
use Rattle.pac_plan.specs.Plan.{End, Outside, around, whole, unfinished}
use Rattle.pac_plan.specs.Follows.{Follows, IsUnlessMemory}
use Rattle.pac_plan.specs.OutputView.{made}
use Rattle.pac_plan.specs.declared.output.Output.{Output}
use Rattle.pac_plan.proofs.GivesUp.{gives_up}
use Rattle.poll_log.specs.Turns.{turns_of}
use Rattle.poll_log.specs.Questions.{firsts}
use Rattle.poll_loop.specs.Task.{Talk}
use Rattle.poll_loop.specs.Talks as loop
use Rattle.poll_loop.specs.declared.looping.Upstream.{Upstream}
use Rattle.poll_loop.specs.declared.looping.PollError.{PollError}
use Rattle.poll_loop.specs.declared.looping.PollError.TheVariants as error
use Rattle.report_text.specs.Report.{UrlEnd}
use Rattle.pac_generate.specs.Answered.{IsAnswered}
use Rattle.pac_generate.specs.MapLink.{MapLinkState, link_of, new_map_link}
use Rattle.pac_generate.specs.declared.limits.TheConstants.{MOST_MOVES}
use Rattle.memory_talk.specs.Laws.{AreAddresses}
use Rattle.memory_talk.specs.Numbers.{counted}
use Rattle.memory_talk.specs.Talks.{MemoryTalk}
use Rattle.memory_talk.proofs.Answering.{answering}
use Rattle.memory_talk.proofs.Ends.{answered_early, answered_whole, names_counted, same_log}
use Rattle.url_runs.specs.Runs.{ScriptRuns}
use Rattle.url_runs.specs.Ends.{HaveEnded}
use Rattle.url_runs.specs.Resolving.{ended, urls_talk}
use Rattle.generated_runs.specs.declared.summing.Seed.{Seed}
use Rattle.generated_runs.specs.Summing.{said, sum_plan, summary}
use Rattle.generated_runs.proofs.Numbers.{below_last}
use Rattle.generated_runs.proofs.Ends.{ends_by_map}

-- an outside where nothing is told
abbrev pub nowhere : Outside
nowhere = record { files = record { told = None; faults = 0; sure = None }; link = link_of new_map_link; clock = None; dice = None; runs = 0 }

-- nothing is made for want of memory
pub none_made : {E : Type 0} (P : E → Type 0) (r : Result Output E) → IsErrAnd r P → made r ≡ None
none_made P (Ok output) h = absurd h
none_made P (Err e) h = refl

pub no_output : {E : Type 0} (P : E → Type 0) (plan : plans.Plan MemoryTalk) (o : Outside) (r : Result Output E) → IsErrAnd r P → Follows answering plan o o (made r)
no_output P plan o (Ok output) h = absurd h
no_output P plan o (Err e) h = gives_up answering plan o

abbrev with_runs : Outside → ℕ → Outside
with_runs o runs = record o { runs = runs }

-- what the talk has for an outside, beside that of the command: a link and dice in memory
abbrev beside : Outside → MapLinkState → ℕ → ℕ → Outside
beside o link n runs = around o (link_of link) (Some (counted n)) runs

-- A talk that begins over a fresh link and dice that gave no number, and leaves these.
module _ (answers : AnswerMap) (upstream : Upstream) (program : ScriptRuns) (entries : List Entry) (o : Outside) (fresh link : MapLinkState) (none n before after : ℕ)
    (is_fresh : fresh ≡ new_map_link) (is_none : none ≡ 0) (answered : IsAnswered answers (turns_of link.log)) where
  abbrev talk : Talk
  talk = urls_talk upstream program entries

  abbrev inner : Outside
  inner = beside o fresh none before

  abbrev inner' : Outside
  inner' = beside o link n after

  abbrev plan : Seed → plans.Plan MemoryTalk
  plan from = sum_plan from answers upstream program entries

  began : inner.link ≡ link_of new_map_link
  began = ap link_of is_fresh

  undrawn : inner.dice ≡ Some (counted 0)
  undrawn = ap (λ (count : ℕ). Some (counted count)) is_none

  -- memory ran out in the talk or behind it
  pub ends_early : (from : Seed) (e : PollError) → HaveEnded upstream program entries inner (Err e) inner' → Follows answering (plan from) (with_runs o before) (with_runs o after) None
  ends_early from e h = go e h
    where
      early : (end : End) (log : List Move) → loop.Talked talk inner end log inner' → Follows answering (plan from) (with_runs o before) (with_runs o after) None
      early end log t = (unfinished, log, answered_early talk answers inner inner' (with_runs o before) end log link t began refl answered refl, refl)

      go : (e : PollError) → HaveEnded upstream program entries inner (Err e) inner' → Follows answering (plan from) (with_runs o before) (with_runs o after) None
      go error.Link h = early plans.faulted h.0 h.1
      go error.Memory h = early h.0 h.1 h.2

  module _ (small : AreAddresses answers) (fits : length link.log ≤ MOST_MOVES) (ends : List UrlEnd) (all : HaveEnded upstream program entries inner (Ok ends) inner') where
    talk_log : link.log ≡ all.0
    talk_log = same_log talk inner inner' whole all.0 link all.1 began refl

    low : n < last_count
    low =
        below_last all.0 MOST_MOVES n inner.dice inner'.dice undrawn refl all.1.ends.drew
        (subst (λ (log : List Move). length log ≤ MOST_MOVES) talk_log fits) (omega arith)

    names : n ≡ length (firsts (turns_of all.0))
    names = names_counted talk inner inner' all.0 n all.1 undrawn refl low

    ends_are : ends ≡ map (ended program answers upstream.terms (turns_of all.0)) entries
    ends_are =
        ends_by_map answers upstream.terms (turns_of all.0) small (subst (λ (log : List Move). IsAnswered answers (turns_of log)) talk_log answered)
        program entries ends all.2

    -- nobody waits any more, and what is said is the sum
    pub ends_whole : (from : Seed) (made : Option plans.Output) → IsUnlessMemory (said (summary from n ends)) made → Follows answering (plan from) (with_runs o before) (with_runs o after) made
    ends_whole from made says = (
      whole,
      all.0,
      answered_whole talk answers inner inner' (with_runs o before) all.0 link n all.1 began refl answered undrawn refl low refl,
      subst (λ (output : plans.Output). IsUnlessMemory output made)
          (ap (λ (count : ℕ). said (summary from count ends)) names ∙ ap (λ (es : List UrlEnd). said (summary from (length (firsts (turns_of all.0))) es)) ends_are) says,
    )
