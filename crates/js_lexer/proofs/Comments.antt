-- How far the end of a comment is, as a loop finds it.
use Rattle.std.proofs.Common.{◌≡◌, ℕ, ◌+◌, Option, Some, None, refl, ap, arith}
use Rattle.std.specs.Option.{option_map}

abbrev pub later : ℕ → Option ℕ → Option ℕ
later n None = None
later n (Some m) = Some (n + m)

pub later-one_more : (n : ℕ) (o : Option ℕ) → later n (option_map (λ m. m + 1) o) ≡ later (n + 1) o
later-one_more n None = refl
later-one_more n (Some m) = let e : n + (m + 1) ≡ n + 1 + m = omega arith in ap Some e
