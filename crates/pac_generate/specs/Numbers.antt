-- The numbers that a seed gives: each is the one before it times 1664525 and 1013904223 more, modulo 2 to the 32.
use Rattle.std.specs.Prelude.{ℕ, zero, suc, ◌+◌, ◌*◌, ◌/◌, ◌%◌}

abbrev pub next_number : ℕ → ℕ
next_number x = (x * 1664525 + 1013904223) % 4294967296

-- the number that is so many behind the seed
abbrev pub number_behind : ℕ → ℕ → ℕ
number_behind seed zero = seed
number_behind seed (suc i) = next_number (number_behind seed i)

-- the upper 16 bits of a number
abbrev pub upper_bits : ℕ → ℕ
upper_bits x = x / 65536

-- the number of a site: the upper half of the one behind those of the sites before it
abbrev pub site_number : ℕ → ℕ → ℕ
site_number seed site = upper_bits (number_behind seed (suc site))
