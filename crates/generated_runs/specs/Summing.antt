-- A script for generated URLs, over a link in memory: what is summed up when each of them has ended, by the log.
use Rattle.std.specs.Prelude.{ℕ, List, map, length, slice_get, Option, option_map, option_and_then}
use Rattle.std.specs.List.{filter_map, sum_by}
use Rattle.js_host.specs.Answers.{AnswerMap}
use Rattle.js_evaluation.specs.Evaluation.{Entry}
use Rattle.pac_plan.specs.Plan.{Output, Plan, talk}
use Rattle.pac_plan.specs.declared.status.Status.TheVariants as status
use Rattle.poll_log.specs.Turns.{turns_of}
use Rattle.poll_log.specs.Questions.{firsts}
use Rattle.poll_loop.specs.declared.looping.Upstream.{Upstream}
use Rattle.proxy_list.specs.declared.proxy.ProxyKind.{ProxyKind}
use Rattle.proxy_list.specs.Proxies.{proxies_of}
use Rattle.report_text.specs.Report.{End, UrlEnd, result_of}
use Rattle.pac_generate.specs.Summary.{kinds_of, summary_text}
use Rattle.pac_generate.specs.declared.summary.Summary.{Summary}
use Rattle.memory_talk.specs.Talks.{MemoryTalk}
use Rattle.url_runs.specs.Runs.{ScriptRuns}
use Rattle.url_runs.specs.Resolving.{ended, urls_talk}
use Rattle.generated_runs.specs.declared.summing.Seed.{Seed}

-- ---- the proxies that are tried first

-- the kind of the first proxy of a text
abbrev pub first_kind : List ℕ → Option ProxyKind
first_kind text = option_map (λ proxy. proxy.kind) (slice_get (proxies_of text) 0)

-- that of the result, where there is one
abbrev pub kind_tried : End → Option ProxyKind
kind_tried end = option_and_then first_kind (result_of end)

abbrev pub kinds_tried : List UrlEnd → List ProxyKind
kinds_tried ends = filter_map (λ end. kind_tried end.end) ends

-- ---- the summary

-- of URLs that end so, where so many names were sent
abbrev pub summary : Seed → ℕ → List UrlEnd → Summary
summary from names ends = record {
  seed = from.seed;
  sites = from.sites;
  urls = length ends;
  runs = sum_by (λ end. end.runs) ends;
  names = names;
  kinds = kinds_of (kinds_tried ends);
}

abbrev pub said : Summary → Output
said s = record { status = status.Good; text = summary_text s }

-- what is polled for, answered from a map
abbrev pub answered_talk : AnswerMap → Upstream → ScriptRuns → List Entry → MemoryTalk
answered_talk answers upstream program entries = record { answers = answers; task = (urls_talk upstream program entries).task }

-- polls for all URLs, and sums up by the log: the names that were sent in it, and how it ends with each URL against the map
abbrev pub sum_plan : Seed → AnswerMap → Upstream → ScriptRuns → List Entry → Plan MemoryTalk
sum_plan from answers upstream program entries =
    talk (answered_talk answers upstream program entries)
    (λ log. said (summary from (length (firsts (turns_of log))) (map (ended program answers upstream.terms (turns_of log)) entries)))
