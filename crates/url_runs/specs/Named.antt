-- Runs of scripts ask for lookup names alone, and so what waits for them lacks lookup names alone.
use Rattle.std.proofs.Common.{◌≡◌, Bool, true, false, cond, List, [], ◌∷◌, ◌++◌, Option, Some, None, ap, subst}
use Rattle.std.specs.Prelude.{IsTrue}
use Rattle.std.specs.List.{AllByRecursion}
use Rattle.pac_names.specs.declared.answer.Answer.{Answer}
use Rattle.pac_names.specs.Names.{Name, is_lookup_name}
use Rattle.js_host.specs.Seen.{is_one_too_many, was_asked}
use Rattle.run_trees.specs.RunTree.{RunTree, Ask, Done, Tell}
use Rattle.run_trees.specs.WholeRun.{asked_with}
use Rattle.poll_log.specs.Told.{Map}
use Rattle.poll_log.specs.Laws.{first_lacking, lacking_or}
use Rattle.poll_log.proofs.Names.{none_some}
use Rattle.poll_loop.specs.Task as jobs
use Rattle.session_log.specs.Asked.{asked_from, asked_in, job_of, reply_in}
use Rattle.js_tree.specs.Tree.{statements_of}
use Rattle.js_scope.specs.Functions.{functions_of}
use Rattle.js_interp.specs.Answers.{entry_of}
use Rattle.js_law_evaluation.specs.Laws.{AsksLookupNames}
use Rattle.js_law_evaluation.proofs.OfEvaluation.{runs-ask}
use Rattle.url_runs.specs.declared.url_run.UrlRun.{UrlRun}
use Rattle.url_runs.specs.Runs.{tree_of}

abbrev IsName : Name → Type 0
IsName n = IsTrue (is_lookup_name n)

both : (xs ys : List Name) → AllByRecursion IsName xs → AllByRecursion IsName ys → AllByRecursion IsName (xs ++ ys)
both [] ys h k = k
both (x ∷ xs) ys h k = (h.0, both xs ys h.1 k)

named_with : (asked : List Name) (n : Name) → IsName n → AllByRecursion IsName asked → AllByRecursion IsName (asked_with asked n)
named_with asked n named h = go (is_one_too_many asked n) (was_asked asked n)
  where
    go : (b c : Bool) → AllByRecursion IsName (cond b asked (cond c asked (asked ++ n ∷ [])))
    go true c = h
    go false true = h
    go false false = both asked (n ∷ []) h (named, tt)

all_named : {End : Type 0} (M : Map) (run : RunTree End) (asked : List Name) → AsksLookupNames run → AllByRecursion IsName asked → AllByRecursion IsName (asked_from M run asked)
unfolding asked_from AsksLookupNames
all_named M (Done end) asked named h = h
all_named M (Ask n next) asked named h = all_named M (next (reply_in M asked n)) (asked_with asked n) (named.1 (reply_in M asked n)) (named_with asked n named.0 h)
all_named M (Tell text next) asked named h = all_named M next asked named h

abbrev name_or : Name → Option Name → Name
name_or other None = other
name_or other (Some n) = n

first_named : (M : Map) (names : List Name) (n : Name) → AllByRecursion IsName names → first_lacking names M ≡ Some n → IsName n
first_named M [] n h e = none_some n e
first_named M (x ∷ names) n h e = go (M x) e (λ k. first_named M names n h.1 k)
  where
    go : (r : Option Answer) → lacking_or x r (first_lacking names M) ≡ Some n → (first_lacking names M ≡ Some n → IsName n) → IsName n
    go None e rest = subst IsName (ap (name_or x) e) h.0
    go (Some y) e rest = rest e

-- a run that asks for lookup names alone lacks lookup names alone
pub jobs_named : {End : Type 0} (run : RunTree End) → AsksLookupNames run → jobs.AsksLookupNames (job_of run)
jobs_named run named M n e = first_named M (asked_in run M) n (all_named M run [] named tt) e

pub named : (run : UrlRun) → jobs.AsksLookupNames (job_of (tree_of run))
named run = jobs_named (tree_of run)
    (runs-ask (statements_of run.program.now.program.now.body) (functions_of run.program.now.program.now.functions) (entry_of run.entry))
