-- What a call tells, and what it reads on the way.
use Rattle.std.specs.Prelude.{◌≡◌, ℕ, List, Result, Ok, Err, IfOk}
use Rattle.utf16_text.specs.declared.memory.Memory.{Memory}
use Rattle.library_calls.specs.declared.told.Status.{Status}
use Rattle.library_calls.specs.declared.told.Status.TheVariants as status
use Rattle.library_calls.specs.declared.told.Told as declared
use Rattle.library_calls.specs.declared.early.Early.{Early}
use Rattle.library_calls.specs.declared.early.Early.TheVariants as early

-- how a call ended, and the bytes that it has to tell
pub record Told : Type 0 where
  pub status : Status
  pub bytes : List ℕ

abbrev pub number_of : Status → ℕ
number_of status.Done = 0
number_of status.NameWanted = 1
number_of status.Short = 2
number_of status.BadScript = 3
number_of status.BadUrl = 4
number_of status.BadNames = 5
number_of status.BadSettings = 6
number_of status.TooLong = 7
number_of status.Memory = 8

-- goes on with what is read, or tells why it isn't
abbrev pub read_then : {A : Type 0} → Result A Told → (A → Told) → Told
read_then (Ok a) next = next a
read_then (Err told) next = told

-- ---- what the code has

abbrev pub told_of : declared.Told → Told
told_of told = record { status = told.status; bytes = told.bytes.items }

-- it is told, unless memory was refused
abbrev pub Tells : Told → Result declared.Told Memory → Type 0
Tells told result = IfOk result (λ t. told ≡ told_of t)

-- it is read, or told of what isn't, unless memory was refused
abbrev pub Reads : {A : Type 0} → Result A Told → Result A Early → Type 0
Reads read (Ok a) = read ≡ Ok a
Reads read (Err (early.Told told)) = read ≡ Err (told_of told)
Reads read (Err early.Memory) = Unit {0}

-- what is read, as it is seen
abbrev pub read_as : {A B E : Type 0} → (A → B) → Result A E → Result B E
read_as view (Ok a) = Ok (view a)
read_as view (Err e) = Err e

-- a call comes to it, be it by an input that isn't read, unless memory was refused
abbrev pub Comes : Told → Result declared.Told Early → Type 0
Comes told (Ok t) = told ≡ told_of t
Comes told (Err (early.Told t)) = told ≡ told_of t
Comes told (Err early.Memory) = Unit {0}
