use Rattle.std.proofs.Common.{◌≡◌, ◌≤◌, ◌+◌, ℕ, length, arith}
use Rattle.session_core.proofs.Drawing.{at_error}
use Rattle.url_runs.proofs.mapping.run_each.Goals as goal

pub returns-in_err-program-clause-memory : goal.returns-in_err-program-clause-memory
returns-in_err-program-clause-memory g c =
    let none_done : (done : ℕ) × (done ≤ length c.args.entries.items) × (c.args.runs.now ≡ c.args.runs.now + done) = (0, omega arith, omega arith) in
    at_error _ none_done
