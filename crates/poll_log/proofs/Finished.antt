-- Where all that was sent is told nothing is dead, so that jobs that don't wait are finished.
use Rattle.std.proofs.Common.{◌≡◌, Bool, true, false, ◌||◌, ◌&&◌, not, List, [], ◌∷◌, Option, Some, None, is_none, refl, sym}
use Rattle.std.specs.Prelude.{IsSome}
use Rattle.std.specs.List.{All, list_any}
use Rattle.std.proofs.lemmas.List.Elements.{All-cons, All-nil}
use Rattle.pac_names.specs.declared.answer.Answer.{Answer}
use Rattle.pac_names.specs.Names.{Name}
use Rattle.poll_log.specs.declared.terms.Terms.{Terms}
use Rattle.poll_log.specs.Turns.{Turns}
use Rattle.poll_log.specs.Questions.{was_sent}
use Rattle.poll_log.specs.Told.{is_dead, is_overdue, told}
use Rattle.poll_log.specs.Jobs.{IsFinished, Job, is_waiting, waits_unless}
use Rattle.poll_log.specs.Laws.{AllToldFinishes, IsAllTold}
use Rattle.poll_log.proofs.Names.{true_false}

neither : (a b : Bool) → (a || b) ≡ false → (a ≡ false) × (b ≡ false)
neither true b e = true_false e
neither false b e = (refl, e)

dies : (b : Bool) → not b ≡ false → b ≡ true
dies true e = refl
dies false e = true_false e

both : (a b c : Bool) → ((a && b) && c) ≡ true → (a ≡ true) × (b ≡ true)
both true true c e = (refl, refl)
both true false c e = true_false (sym e)
both false b c e = true_false (sym e)

none_is_some : (r : Option Answer) → is_none r ≡ true → IsSome r → ⊥
none_is_some None e h = true_false (sym h)
none_is_some (Some x) e h = true_false (sym e)

module _ (t : Terms) (h : Turns) (all : IsAllTold t h) where
  none_dead : (n : Name) → is_dead t h n ≡ true → ⊥
  unfolding is_dead
  none_dead n e =
      let sent_untold = both (was_sent h n) (is_none (told t h n)) (is_overdue t h n) e in
      none_is_some (told t h n) sent_untold.1 (all n sent_untold.0)

  finished : (r : Option Name) → waits_unless (is_dead t h) r ≡ false → r ≡ None
  finished None e = refl
  finished (Some n) e = absurd (none_dead n (dies (is_dead t h n) e))

  each_finished : (jobs : List Job) → list_any (is_waiting t h) jobs ≡ false → All (IsFinished t h) jobs
  each_finished [] e = All-nil (IsFinished t h)
  each_finished (job ∷ jobs) e =
      let parts = neither (is_waiting t h job) (list_any (is_waiting t h) jobs) e in
      All-cons (IsFinished t h) job jobs (finished (job (told t h)) parts.0) (each_finished jobs parts.1)

pub all_finished : AllToldFinishes
all_finished t jobs h e all = each_finished t h all jobs e
