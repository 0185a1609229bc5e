-- A name is answered where all that was sent is told.
use Rattle.std.proofs.Common.{◌≡◌, [], ◌∷◌, Option, Some, None, arith, sym}
use Rattle.pac_names.specs.declared.answer.Answer.{Answer}
use Rattle.pac_names.specs.declared.answer.Answer.TheVariants as answer
use Rattle.pac_names.specs.Names.{Name}
use Rattle.pac_plan.specs.declared.status.Status.TheVariants as status
use Rattle.poll_log.specs.Turns.{turns_of}
use Rattle.poll_log.specs.Told.{told}
use Rattle.poll_log.specs.Laws.{lacking_or}
use Rattle.poll_log.proofs.Finished.{all_finished}
use Rattle.poll_log.proofs.Names.{none_some}
use Rattle.pac_ask.specs.Ask.{told_output}
use Rattle.pac_ask.specs.Laws.{ToldIsAnswered}
use Rattle.pac_ask.specs.Task.{job_of}

by_told : (name : Name) (r : Option Answer) → lacking_or name r None ≡ None → (told_output name r).status ≡ status.Unanswered → ⊥
by_told name None finished e = none_some name (sym finished)
by_told name (Some (answer.Address address)) finished e = cc
by_told name (Some (answer.Address6 address)) finished e = cc
by_told name (Some answer.NoAddress) finished e = cc

pub answered : ToldIsAnswered
answered upstream name log polled all e =
    by_told name (told upstream.terms (turns_of log) name)
    (all_finished upstream.terms (job_of name ∷ []) (turns_of log) polled.ended all 0 (job_of name) (omega arith)) e
