-- Finished jobs lack nothing.
use Rattle.std.proofs.Common.{◌≡◌, false, List, [], ◌∷◌, Option, None, refl, ◌∙◌, ap}
use Rattle.std.specs.List.{AllByRecursion, cons_option}
use Rattle.pac_names.specs.Names.{Name}
use Rattle.poll_log.specs.Told.{Map}
use Rattle.poll_log.specs.Jobs.{Job, wanted}
use Rattle.poll_log.proofs.Names.{has}

pub none_wanted : (M : Map) (n : Name) (jobs : List Job) → AllByRecursion (λ job. job M ≡ None) jobs → has n (wanted jobs M) ≡ false
none_wanted M n [] finished = refl
none_wanted M n (job ∷ jobs) finished = ap (λ (r : Option Name). has n (cons_option r (wanted jobs M))) finished.0 ∙ none_wanted M n jobs finished.1
