-- What is said of a search.
use Rattle.std.proofs.Common.{◌≡◌, Bool, true, false, Option, Some, None, Ok, Err, Result, subst, sym}
use Rattle.std.specs.Prelude.{is_some}
use Rattle.std.specs.Result.{IsErrAnd}
use Rattle.js_regex.specs.declared.search.Match.{Match}
use Rattle.js_regex.specs.Finds.{found_of}
use Rattle.heap_values.specs.declared.value.Value.TheVariants as value
use Rattle.run_trees.specs.Runs.{pure}
use Rattle.heap_steps.specs.declared.halt.Halt.{Halt}
use Rattle.js_machine.specs.declared.machine.State.{State}
use Rattle.js_machine.specs.Acts.{Acts}
use Rattle.js_pattern_natives.specs.Seen.{seen_match}
use Rattle.js_pattern_natives.proofs.States.{at_once}

pub seen_stop : (r : Result (Option Match) Halt) (e : Halt) → IsErrAnd r (λ x. x ≡ e) → IsErrAnd (seen_match r) (λ x. x ≡ e)
seen_stop (Ok m) e i = absurd i
seen_stop (Err x) e i = i

pub told : (m : Option Match) (b : Bool) (s : State) → b ≡ is_some m → Acts (pure (value.Bool (is_some (found_of m)))) s (Ok (value.Bool b)) s
told None b s e = subst (λ (x : Bool). Acts (pure (value.Bool false)) s (Ok (value.Bool x)) s) (sym e) (at_once (value.Bool false) s)
told (Some m) b s e = subst (λ (x : Bool). Acts (pure (value.Bool true)) s (Ok (value.Bool x)) s) (sym e) (at_once (value.Bool true) s)
