-- Worked moments, by computation.
use Rattle.std.specs.Prelude.{◌≡◌, pos, neg_ℤ, refl}
use Rattle.pac_clocks.specs.Clocks.{day_after, moments_at, nearest}

-- the first second of 1970 was on a Thursday; an hour to the west it was the evening before
first_in_gmt : (moments_at (pos 0) (neg_ℤ (pos 3600))).gmt ≡ record { year = pos 1970; month = 1; day = 1; weekday = 4; hour = 0; minute = 0; second = 0 }
unfolding day_after
first_in_gmt = refl

first_in_the_west : (moments_at (pos 0) (neg_ℤ (pos 3600))).local ≡ record { year = pos 1969; month = 12; day = 31; weekday = 3; hour = 23; minute = 0; second = 0 }
unfolding day_after
first_in_the_west = refl

-- 1972 had a 29 February, its 60th day
leap_day : day_after 790 ≡ record { year = pos 1972; month = 2; day = 29 }
unfolding day_after
leap_day = refl

behind_the_leap_day : day_after 791 ≡ record { year = pos 1972; month = 3; day = 1 }
unfolding day_after
behind_the_leap_day = refl

-- a clock that shows less or more than a command may have
too_early : nearest (neg_ℤ (pos 1)) ≡ pos 0
too_early = refl

too_late : nearest (pos 253370764800) ≡ pos 253370764799
too_late = refl
