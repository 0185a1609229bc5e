-- What a call reads, one thing after another.
use Rattle.std.proofs.Common.{◌≡◌, Result, Ok, Err, ap, subst, sym}
use Rattle.library_calls.specs.declared.told.Told as declared
use Rattle.library_calls.specs.declared.early.Early.{Early}
use Rattle.library_calls.specs.declared.early.Early.TheVariants as early
use Rattle.library_calls.specs.Told.{Told, Comes, Reads, read_then}

-- the call ends with what isn't read
pub stops : {A : Type 0} (read : Result A Told) (next : A → Told) (why : Early) → Reads read (Err why) → Comes (read_then read next) (Err why)
stops read next (early.Told told) is = ap (λ (r : Result _ Told). read_then r next) is
stops read next early.Memory is = tt

-- it goes on with what is read
pub goes_on : {A : Type 0} (read : Result A Told) (next : A → Told) (a : A) (r : Result declared.Told Early)
    → read ≡ Ok a → Comes (next a) r → Comes (read_then read next) r
goes_on read next a r is comes = subst (λ (x : Result _ Told). Comes (read_then x next) r) (sym is) comes
