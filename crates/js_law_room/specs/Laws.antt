-- What room for nesting has to do with what is read.
use Rattle.std.specs.Prelude.{◌≡◌, ◌≤◌, ℕ, List, Bool, true, false, Result, Ok, Err}
use Rattle.js_tree.specs.declared.place.Place.{Place}
use Rattle.js_tree.specs.declared.token.Token.{Token}
use Rattle.js_tree.specs.declared.refusal.ReadKind.{ReadKind}
use Rattle.js_tree.specs.declared.refusal.ReadKind.TheVariants.{TooDeep}
use Rattle.js_grammar.specs.Reading.{Refusal}
use Rattle.js_grammar.specs.Statements.{script_within, script_without_limit}

abbrev pub is_depth : ReadKind → Bool
is_depth TooDeep = true
is_depth kind = false

-- whether what was read is refused since parts are nested too deep
abbrev pub is_too_deep : {A : Type 0} → Result A Refusal → Bool
is_too_deep (Ok x) = false
is_too_deep (Err refusal) = is_depth refusal.0

-- Where tokens aren't refused as TooDeep, more room for nesting gives the same script, or the same refusal.
abbrev pub MoreRoomChangesNothing : Type 0
MoreRoomChangesNothing =
    (end : Place) (room more : ℕ) (ts : List Token) → room ≤ more
    → is_too_deep (script_within end room ts) ≡ false → script_within end more ts ≡ script_within end room ts

-- Reading without a limit refuses nothing as TooDeep.
abbrev pub NoLimitIsMet : Type 0
NoLimitIsMet = (end : Place) (ts : List Token) → is_too_deep (script_without_limit end ts) ≡ false
