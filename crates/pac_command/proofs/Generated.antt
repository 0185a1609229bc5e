-- The generated script is read and its URLs are few, so what follows the summing of its runs follows the plan of `generate`.
use Rattle.std.proofs.Common.{◌≡◌, ℕ, zero, suc, ◌≤◌, List, [], ◌∷◌, length, map, Option, Result, Ok, Err, refl, sym, ap, subst, arith}
use Rattle.std.proofs.lemmas.List.{length-append, length-map}
use Rattle.utf16_text.specs.declared.limits.TheConstants.{LONGEST_FILE}
use Rattle.batch_text.specs.declared.batch.TheConstants.{MOST_URLS}
use Rattle.batch_text.specs.Batch.{BatchEntry, Asks, ProxyFailed, ProxyWorked, entry_seen}
use Rattle.js_tree.specs.Tree.{StatementTree}
use Rattle.js_grammar.specs.Reading.{Refusal}
use Rattle.js_grammar.specs.Statements.{script_of_text}
use Rattle.js_host.specs.Answers.{AnswerMap}
use Rattle.js_evaluation.specs.Evaluation.{Entry}
use Rattle.js_interp.specs.declared.entry.Entry as code
use Rattle.js_interp.specs.Answers.{entry_of}
use Rattle.pac_generate.specs.Generated.{generated, script, site_line, site_lines}
use Rattle.pac_plan.specs.Plan as plans
use Rattle.pac_plan.specs.Plan.{Outside, Plan}
use Rattle.pac_plan.specs.Follows.{Follows, IsUnlessMemory}
use Rattle.poll_loop.specs.declared.looping.Upstream.{Upstream}
use Rattle.memory_talk.specs.Talks.{MemoryTalk}
use Rattle.memory_talk.proofs.Answering.{answering}
use Rattle.url_runs.specs.Runs.{ScriptRuns}
use Rattle.generated_runs.specs.declared.summing.Seed.{Seed}
use Rattle.generated_runs.specs.Summing.{sum_plan}
use Rattle.pac_command.specs.declared.given.Given.{Given}
use Rattle.pac_command.specs.Plans.{if_read}
use Rattle.pac_command.specs.Scripts.{refused_script}
use Rattle.pac_command.specs.Urls.{entries_for}
use Rattle.pac_command.specs.Generate.{generate_plan, generated_batch, sum_generated}

-- ---- what is generated is small

pub script_fits : length script ≤ LONGEST_FILE
script_fits = let size : length script ≡ 271 = refl in omega (arith, size)

lines_count : (sites : ℕ) → length (site_lines sites) ≡ sites
lines_count zero = refl
lines_count (suc site) =
    let rest = lines_count site in
    let more = length-append (site_lines site) (site_line site ∷ []) in
    omega (arith, rest, more)

entries_few : (given : Given) (batch : List BatchEntry) → length (entries_for given batch) ≤ length batch
entries_few given [] = omega arith
entries_few given (Asks moment seen ∷ rest) = let low = entries_few given rest in omega (arith, low)
entries_few given (ProxyFailed moment proxy ∷ rest) = let low = entries_few given rest in omega (arith, low)
entries_few given (ProxyWorked moment proxy ∷ rest) = let low = entries_few given rest in omega (arith, low)

pub generated_few : (given : Given) (seed sites : ℕ) → sites ≤ MOST_URLS → length (entries_for given (generated_batch seed sites)) ≤ MOST_URLS
generated_few given seed sites low =
    let few = entries_few given (generated_batch seed sites) in
    let batch = length-map (site_lines sites) entry_seen in
    let count = lines_count sites in
    omega (arith, low, few, batch, count)

pub few_entries : (given : Given) (seed sites : ℕ) (entries : List code.Entry) → sites ≤ MOST_URLS
    → map entry_of entries ≡ entries_for given (generated_batch seed sites) → length entries ≤ MOST_URLS
few_entries given seed sites entries low same =
    let one = length-map entries entry_of in
    let two = ap length same in
    let few = generated_few given seed sites low in
    omega (arith, one, two, few)

-- ---- the plan

module _ (seed sites : ℕ) where
  abbrev summing : List StatementTree → Plan MemoryTalk
  summing = sum_generated (record { seed = seed; sites = sites })

  -- the script is read
  pub sums : (body : List StatementTree) (old new : Outside) (made : Option plans.Output) → script_of_text (generated seed sites).script ≡ Ok body
      → Follows answering (summing body) old new made → Follows answering (generate_plan seed sites) old new made
  sums body old new made read h =
      subst (λ (r : Result (List StatementTree) Refusal). Follows answering (if_read r (λ refusal. plans.say (refused_script refusal)) summing) old new made) (sym read) h

  -- it is refused
  pub refuses : (refusal : Refusal) (o : Outside) (made : Option plans.Output) → script_of_text (generated seed sites).script ≡ Err refusal
      → IsUnlessMemory (refused_script refusal) made → Follows answering (generate_plan seed sites) o o made
  refuses refusal o made read h =
      subst (λ (r : Result (List StatementTree) Refusal). Follows answering (if_read r (λ refusal. plans.say (refused_script refusal)) summing) o o made) (sym read) (refl, h)

-- what is summed up for equals
pub summed_is : (from : Seed) (map other : AnswerMap) (upstream usual : Upstream) (program script : ScriptRuns) (had asked : List Entry) (old new : Outside) (made : Option plans.Output)
    → map ≡ other → upstream ≡ usual → script ≡ program → had ≡ asked
    → Follows answering (sum_plan from map upstream program had) old new made → Follows answering (sum_plan from other usual script asked) old new made
summed_is from map other upstream usual program script had asked old new made m a p e h =
    subst (λ (x : AnswerMap). Follows answering (sum_plan from x usual script asked) old new made) m
    (subst (λ (x : Upstream). Follows answering (sum_plan from map x script asked) old new made) a
    (subst (λ (x : ScriptRuns). Follows answering (sum_plan from map upstream x asked) old new made) (sym p)
    (subst (λ (x : List Entry). Follows answering (sum_plan from map upstream program x) old new made) e h)))
