-- Where a match stands: a place in the text, and what each group has matched (the State of ECMA-262 5.1, 15.10.2.1).
use Rattle.std.specs.Prelude.{ℕ, zero, suc, ◌+◌, ◌-◌, List, Option, Some, None, length, slice_set}
use Rattle.js_pattern.specs.declared.span.Span.{Span}
use Rattle.js_pattern.specs.declared.flags.Flags.{Flags}
use Rattle.js_pattern.specs.declared.bounds.Bounds.{Bounds}

-- the text that is searched, and how the pattern is to be used
pub record Subject : Type 0 where
  pub text : List ℕ
  pub flags : Flags

pub record At : Type 0 where
  pub place : ℕ
  pub groups : List (Option Span)

abbrev pub units_left : Subject → ℕ → ℕ
units_left s p = length s.text - p

abbrev pub moved : ℕ → At → At
moved p at = record { place = p; groups = at.groups }

-- a group that is kept is what lies between where it began and here (15.10.2.8); `(?: )` sets nothing
abbrev pub closed : Option ℕ → ℕ → At → At
closed None from at = at
closed (Some n) from at = record { place = at.place; groups = slice_set at.groups n (Some (record { from = from; to = at.place })) }

-- so many groups are unset, from one on
abbrev pub unset_from : ℕ → ℕ → List (Option Span) → List (Option Span)
unset_from n zero gs = gs
unset_from n (suc more) gs = unset_from (n + 1) more (slice_set gs n None)

-- a turn of a Repeat begins with its groups unset (15.10.2.5)
abbrev pub unset : Bounds → At → At
unset b at = record { place = at.place; groups = unset_from b.from_group (b.to_group - b.from_group) at.groups }
