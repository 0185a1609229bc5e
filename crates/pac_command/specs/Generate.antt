-- What `generate` does.
use Rattle.std.specs.Prelude.{ℕ, List, pos, map}
use Rattle.batch_text.specs.Batch.{BatchEntry, entry_seen}
use Rattle.js_tree.specs.Tree.{StatementTree}
use Rattle.js_evaluation.specs.Evaluation.{run_by_names}
use Rattle.js_grammar.specs.Statements.{script_of_text}
use Rattle.pac_generate.specs.Generated.{generated}
use Rattle.pac_generate.specs.declared.generating.TheConstants.{MOMENT}
use Rattle.pac_plan.specs.Plan.{Plan, say}
use Rattle.pac_words.specs.declared.usual.TheConstants.{LOCAL, USUAL_FUEL, USUAL_TRIES, USUAL_WAIT}
use Rattle.pac_words.specs.Values.{usual_server}
use Rattle.poll_loop.specs.declared.looping.Upstream.{Upstream}
use Rattle.memory_talk.specs.Talks.{MemoryTalk}
use Rattle.generated_runs.specs.Summing.{sum_plan}
use Rattle.generated_runs.specs.declared.summing.Seed.{Seed}
use Rattle.pac_command.specs.declared.given.Given.{Given}
use Rattle.pac_command.specs.Plans.{if_read}
use Rattle.pac_command.specs.Scripts.{refused_script}
use Rattle.pac_command.specs.Urls.{entries_for}

-- what each run is given where no word says it
abbrev pub usual_given : Given
usual_given = record {
  start = MOMENT;
  zone = pos 0;
  settings = record { my_ip = LOCAL };
  fuel = USUAL_FUEL;
}

-- how names are asked for where no word says it; the link in memory has any servers
abbrev pub usual_upstream : Upstream
usual_upstream = record { servers = record { first = usual_server; second = usual_server }; terms = record { wait = USUAL_WAIT; tries = USUAL_TRIES } }

abbrev pub generated_batch : ℕ → ℕ → List BatchEntry
generated_batch seed sites = map entry_seen (generated seed sites).batch

-- runs a script for the generated URLs at once, each name answered from the generated map, and sums up
abbrev pub sum_generated : Seed → List StatementTree → Plan MemoryTalk
sum_generated from script =
    sum_plan from (generated from.seed from.sites).map usual_upstream (run_by_names script) (entries_for usual_given (generated_batch from.seed from.sites))

-- reads the generated script before
abbrev pub generate_plan : ℕ → ℕ → Plan MemoryTalk
generate_plan seed sites =
    if_read (script_of_text (generated seed sites).script) (λ refusal. say (refused_script refusal)) (sum_generated (record { seed = seed; sites = sites }))
