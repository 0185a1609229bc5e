-- The bounds of a Repeat, and its turns (ECMA-262 5.1, section 15.10.2.5).
use Rattle.std.specs.Prelude.{ℕ, zero, suc, ◌-◌, Bool, true, false, nat_lt, Option, Some, None}
use Rattle.js_pattern.specs.declared.bounds.Bounds.{Bounds}
use Rattle.js_pattern.specs.Place.{Subject, At, units_left}

-- no more turns may be taken
abbrev pub is_none_left : Option ℕ → Bool
is_none_left None = false
is_none_left (Some zero) = true
is_none_left (Some (suc n)) = false

abbrev pub one_less : Option ℕ → Option ℕ
one_less None = None
one_less (Some n) = Some (n - 1)

-- the bounds of the smaller Repeat, which stands behind a turn: both one less
abbrev pub smaller : Bounds → Bounds
smaller b = record { from_group = b.from_group; to_group = b.to_group; least = b.least - 1; most = one_less b.most; greedy = b.greedy }

-- a turn took a unit where fewer are left than where it began
abbrev pub took_a_unit : Subject → ℕ → At → Bool
took_a_unit s from at = nat_lt (units_left s at.place) (units_left s from)

-- one of two, from a place on
abbrev pub choice : {A : Type 0} → Bool → (At → A) → (At → A) → At → A
choice true f g at = f at
choice false f g at = g at
