-- Sums over the jobs.
use Rattle.std.proofs.Common.{◌≡◌, ℕ, ◌+◌, List, [], ◌∷◌, length, Option, Some, None, is_some, refl, ◌∙◌, ap, arith, cond}
use Rattle.std.specs.List.{All}
use Rattle.std.proofs.lemmas.List.Elements.{All-head, All-tail}
use Rattle.pac_names.specs.Names.{Name}
use Rattle.poll_log.specs.declared.terms.Terms.{Terms}
use Rattle.poll_log.specs.Turns.{Outgoing, Turns, Begin, Then, with_sent}
use Rattle.poll_log.specs.Told.{Map, told}
use Rattle.poll_log.specs.Jobs.{Job, runs_of, told_to}
use Rattle.poll_log.specs.Laws.{IsRestartable}
use Rattle.session_log.specs.Sessions.{all_runs, total, waits_told}
use Rattle.session_log.specs.Laws.{RunsGrow}

total-add : (f g : Job → ℕ) (jobs : List Job) → total (λ job. f job + g job) jobs ≡ total f jobs + total g jobs
total-add f g [] = refl
total-add f g (job ∷ jobs) = let ih = total-add f g jobs in omega arith

pub grown : RunsGrow
unfolding runs_of
grown terms jobs h e sent = total-add (runs_of terms h) (λ job. told_to (job (told terms h)) (told terms (Then h e sent))) jobs

-- each job was run once at the start
pub runs_begin : (terms : Terms) (jobs : List Job) (sent : List Outgoing) → all_runs terms jobs (Begin sent) ≡ length jobs
unfolding runs_of
runs_begin terms [] sent = refl
runs_begin terms (job ∷ jobs) sent = let ih = runs_begin terms jobs sent in omega arith

-- what is sent in a turn costs no run
pub runs_with_sent : (terms : Terms) (jobs : List Job) (h : Turns) (sent : List Outgoing) → all_runs terms jobs (with_sent h sent) ≡ all_runs terms jobs h
unfolding runs_of told
runs_with_sent terms jobs (Begin sent) more = refl
runs_with_sent terms jobs (Then h e sent) more = refl

-- where nothing more is told no wait is
pub none_told : (most : ℕ) (jobs : List Job) (before after : Map) → All (IsRestartable most) jobs → after ≡ before → waits_told jobs before after ≡ 0
none_told most [] before after laws same = refl
none_told most (job ∷ jobs) before after laws same =
    let ih = none_told most jobs before after (All-tail (IsRestartable most) job jobs laws) same in
    let here = one (job before) refl in
    omega arith
  where
    law : IsRestartable most job
    law = All-head (IsRestartable most) job jobs laws

    one : (r : Option Name) → job before ≡ r → told_to r after ≡ 0
    one None e = refl
    one (Some n) e = ap (λ m. cond (is_some m) 1 0) (ap (λ m. m n) same ∙ law.lacks before n e)
