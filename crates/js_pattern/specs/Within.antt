-- A match lies within the text, and so do its groups.
use Rattle.std.specs.Prelude.{ℕ, ◌≤◌, List, [], ◌∷◌, Option, Some, None, length}
use Rattle.js_pattern.specs.declared.span.Span.{Span}
use Rattle.js_pattern.specs.Tree.{Tree}
use Rattle.js_pattern.specs.Place.{Subject, At}
use Rattle.js_pattern.specs.Ways.{ways}

-- a group's places are in order, and not behind the end
abbrev pub SpanWithin : ℕ → Option Span → Type 0
SpanWithin end None = Unit {0}
SpanWithin end (Some g) = (g.from ≤ g.to) × (g.to ≤ end)

abbrev pub SpansWithin : ℕ → List (Option Span) → Type 0
SpansWithin end [] = Unit {0}
SpansWithin end (g ∷ gs) = SpanWithin end g × SpansWithin end gs

pub record Inside (s : Subject) (at : At) : Type 0 where
  pub place : at.place ≤ length s.text
  pub groups : SpansWithin (length s.text) at.groups

-- not before the place that it began at
pub record Onward (s : Subject) (at way : At) : Type 0 where
  pub from : at.place ≤ way.place
  pub inside : Inside s way

abbrev pub AllOnward : Subject → At → List At → Type 0
AllOnward s at [] = Unit {0}
AllOnward s at (w ∷ ws) = Onward s at w × AllOnward s at ws

-- each way from a place within the text goes on, and stays within it
abbrev pub WaysStayWithin : Type 0
WaysStayWithin = (s : Subject) (x : Tree) (at : At) → Inside s at → AllOnward s at (ways s x at)
