-- A script as it is printed.
use Rattle.std.specs.Prelude.{ℕ, List}
use Rattle.pac_command.specs.Check.{printed}
use Rattle.library_calls.specs.declared.told.Status.TheVariants as status
use Rattle.library_calls.specs.Told.{Told, read_then}
use Rattle.library_calls.specs.Inputs.{script_in}

-- what `check` writes of a script of these bytes
abbrev pub checked : List ℕ → Told
checked bytes = read_then (script_in bytes) (λ script. record { status = status.Done; bytes = (printed script).text })
