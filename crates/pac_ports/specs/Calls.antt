-- The calls of an object in memory, counted together, and those that are to fail.
use Rattle.std.specs.Prelude.{ℕ, Bool, nat_eq, List, [], ◌∷◌, ◌++◌, Option, Some, None}
use Rattle.std.specs.List.{list_any}
use Rattle.pac_ports.specs.Faults.{raised}

pub record CallsState : Type 0 where
  -- how many there were; the count stays at its last number
  pub count : ℕ
  -- the numbers, from 1, of those that are to fail
  pub fail_at : List ℕ

abbrev pub no_calls : CallsState
no_calls = record { count = 0; fail_at = [] }

-- the call of that number is to fail
abbrev pub with_failing_call : ℕ → CallsState → CallsState
with_failing_call call calls = record calls { fail_at = calls.fail_at ++ call ∷ [] }

-- with a call more
abbrev pub with_call : CallsState → CallsState
with_call calls = record calls { count = raised calls.count }

-- whether the next call is to fail
abbrev pub is_listed : CallsState → Bool
is_listed calls = list_any (λ call. nat_eq call (raised calls.count)) calls.fail_at

-- what an object in memory is sure of, unless some call is to fail
abbrev pub sure_unless : {T : Type 0} → List ℕ → T → Option T
sure_unless [] sure = Some sure
sure_unless (call ∷ calls) sure = None
