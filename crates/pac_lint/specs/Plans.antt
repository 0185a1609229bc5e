-- What `pac-lint` does with the outside. It has no talk over a link.
use Rattle.std.specs.Prelude.{ℕ, List, [], ◌∷◌, Option, Bool, false, nat_eq, codes, if◌then◌else◌}
use Rattle.utf16_text.specs.Decode.{decoded_units}
use Rattle.pac_ports.specs.Sink.{SinkState}
use Rattle.pac_plan.specs.Plan.{Output, Plan, Talks, Outside, say, read, line, at_once}
use Rattle.pac_plan.specs.Follows as plans
use Rattle.pac_plan.specs.Serves as served
use Rattle.pac_plan.specs.declared.status.Status.{Status}
use Rattle.pac_plan.specs.declared.status.Status.TheVariants as status
use Rattle.pac_lint.specs.Listing.{listing}

-- there are no talks
abbrev pub no_talks : Talks ⊥
no_talks = record {
  Talked = λ talk old end log new. ⊥;
  files_kept = λ talk old end log new talked. absurd talked;
  clock_kept = λ talk old end log new talked. absurd talked;
  counted = λ talk old end log new talked. absurd talked;
  not_begun = λ talk old. talk;
}

abbrev pub LintPlan : Type 0
LintPlan = Plan ⊥

abbrev pub Follows : LintPlan → Outside → Outside → Option Output → Type 0
Follows plan old new made = plans.Follows no_talks plan old new made

abbrev pub Serves : LintPlan → Outside → Outside → SinkState → SinkState → Status → Type 0
Serves plan old new out out' given = served.Serves no_talks (at_once plan) old new out out' given

-- ---- the plan

abbrev pub usage : Output
usage = record { status = status.Usage; text = line (codes "usage: pac-lint FILE") }

-- reads the script of this name, and says what is listed of it
abbrev pub lint_plan : List ℕ → LintPlan
lint_plan name = read (codes "script") name (λ bytes. say (listing (decoded_units bytes)))

-- `-` (45)
abbrev pub begins_with_dash : List ℕ → Bool
begins_with_dash [] = false
begins_with_dash (u ∷ us) = nat_eq u 45

-- a word that looks like an option names no script
abbrev pub plan_for : List ℕ → LintPlan
plan_for name = if begins_with_dash name then say usage else lint_plan name

-- one word is wanted
abbrev pub plan_of : List (List ℕ) → LintPlan
plan_of (name ∷ []) = plan_for name
plan_of words = say usage
