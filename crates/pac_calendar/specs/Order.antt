-- Parts of dates and times, the greatest first: they come one after another as lists do whose first different numbers
-- decide. What lies between two of them.
use Rattle.std.specs.Prelude.{ℤ, List, Bool, ◌&&◌, ◌||◌, not, if◌then◌else◌}
use Rattle.std.specs.Ordering.{int_cmp, is_le}
use Rattle.std.specs.Cmp.Lexicographic.{slice_cmp}

-- the first is no later than the second
abbrev pub comes_up_to : List ℤ → List ℤ → Bool
comes_up_to a b = is_le (slice_cmp int_cmp a b)

-- from the first end to the last, both inclusive; none where the first comes later
abbrev pub is_within : List ℤ → List ℤ → List ℤ → Bool
is_within from to at = comes_up_to from at && comes_up_to at to

-- the same, but past the last of all to the first where the first end comes later
abbrev pub is_within_round : List ℤ → List ℤ → List ℤ → Bool
is_within_round from to at = if comes_up_to from to then comes_up_to from at && comes_up_to at to
    else comes_up_to from at || comes_up_to at to

-- from the first end up to and without the second, past the last of all to the first where the first end comes later;
-- none where the ends are equal
abbrev pub is_in_span : List ℤ → List ℤ → List ℤ → Bool
is_in_span from to at = if comes_up_to from to then comes_up_to from at && not (comes_up_to to at)
    else comes_up_to from at || not (comes_up_to to at)
