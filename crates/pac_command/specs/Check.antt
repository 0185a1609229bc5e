-- What `check` does.
use Rattle.std.specs.Prelude.{ℕ, List}
use Rattle.js_tree.specs.Tree.{StatementTree}
use Rattle.js_grammar.specs.Spelling.{printed_bytes}
use Rattle.pac_plan.specs.Plan.{Output, say}
use Rattle.pac_plan.specs.declared.status.Status.TheVariants as status
use Rattle.pac_command.specs.Plans.{CommandPlan}
use Rattle.pac_command.specs.Scripts.{script_from}

abbrev pub printed : List StatementTree → Output
printed script = record { status = status.Good; text = printed_bytes script }

-- reads the script and prints it
abbrev pub check_plan : List ℕ → CommandPlan
check_plan script = script_from script (λ script. say (printed script))
