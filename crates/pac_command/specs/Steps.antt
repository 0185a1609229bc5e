-- The first steps of commands, which hand something on or end the command.
use Rattle.std.specs.Prelude.{List, Option, Some, None, Result, Ok, Err, Vec}
use Rattle.std.specs.declared.alloc.Global.{Global}
use Rattle.pac_ports.specs.Files.{FilesState}
use Rattle.pac_plan.specs.Plan.{Output, Outside, with_files}
use Rattle.pac_plan.specs.OutputView.{output_view}
use Rattle.pac_command.specs.declared.early.Early.{Early}
use Rattle.pac_command.specs.declared.early.Early.TheVariants as early
use Rattle.pac_command.specs.Plans.{CommandPlan, Follows}

-- what is said where a command ends early, or none where memory ran out
abbrev pub said : Early → Option Output
said (early.Said output) = Some (output_view output)
said early.Memory = None

-- A step of a plan, before what comes next, which touches the files alone. Where it hands something on, what follows the rest
-- of the plan from there follows the whole of it. Else the command has ended with it, whatever would have come next.
abbrev pub IsStep : {A : Type 0} → ((A → CommandPlan) → CommandPlan) → FilesState → Result A Early → FilesState → Type 0
IsStep {A} step files (Ok a) files' =
    (o : Outside) (next : A → CommandPlan) (new : Outside) (made : Option Output)
    → Follows (next a) (with_files o files') new made → Follows (step next) (with_files o files) new made
IsStep {A} step files (Err early) files' =
    (o : Outside) (next : A → CommandPlan) → Follows (step next) (with_files o files) (with_files o files') (said early)

-- ---- what the code has

abbrev pub items_of : {A E : Type 0} → Result (Vec A Global) E → Result (List A) E
items_of (Ok items) = Ok items.items
items_of (Err e) = Err e

-- what is handed on, as it is seen
abbrev pub ok_as : {A B E : Type 0} → (A → B) → Result A E → Result B E
ok_as view (Ok a) = Ok (view a)
ok_as view (Err e) = Err e
