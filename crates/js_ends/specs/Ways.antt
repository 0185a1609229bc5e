-- The ways in which a part of a script may end: the types of a completion (ECMA-262 5.1, section 8.9) but `throw`, which
-- may stand anywhere, and `return` with a value apart from `return` without one.
use Rattle.std.specs.Prelude.{Bool, true, false, not, ◌||◌, if◌then◌else◌}
use Rattle.js_ends.specs.declared.ends.Ends.{Ends}

-- no way at all, as that of `throw`
abbrev pub no_end : Ends
no_end = record { completes = false; breaks = false; continues = false; returns_nothing = false; returns_value = false }

-- the one way of what does something and goes on
abbrev pub completion : Ends
completion = record no_end { completes = true }

-- the one way of `break`, of `continue`, and of `return` with a value or without one
abbrev pub breaking : Ends
breaking = record no_end { breaks = true }

abbrev pub continuing : Ends
continuing = record no_end { continues = true }

abbrev pub returning : Bool → Ends
returning value = record no_end { returns_nothing = not value; returns_value = value }

-- one of two parts is run
unfoldable pub either : Ends → Ends → Ends
either a b = record {
  completes = a.completes || b.completes;
  breaks = a.breaks || b.breaks;
  continues = a.continues || b.continues;
  returns_nothing = a.returns_nothing || b.returns_nothing;
  returns_value = a.returns_value || b.returns_value;
}

-- the jumps of one part, and all ways of the next
unfoldable pub into : Ends → Ends → Ends
into a b = record (either a b) { completes = b.completes }

-- one part is run, and then the next where the first completes
unfoldable pub followed_by : Ends → Ends → Ends
followed_by a b = if a.completes then into a b else a

-- a loop with such a body, which completes by itself or not: its own `break` completes it
unfoldable pub loop_of : Bool → Ends → Ends
loop_of completes body = record body { completes = completes || body.breaks; breaks = false; continues = false }

-- a `switch` with such clauses: its own `break` completes it
unfoldable pub switch_of : Ends → Ends
switch_of clauses = record clauses { completes = clauses.completes || clauses.breaks; breaks = false }
