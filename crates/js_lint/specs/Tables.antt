-- What is known of names: the tables of src/tables.rt, and what their rows say.
use Rattle.std.specs.Prelude.{ℕ, ◌&&◌, List, [], ◌∷◌, map, Option, Some, None, if◌then◌else◌}
use Rattle.std.specs.Borrow.{Bor}
use Rattle.std.specs.Str.{bytes_eq}
use Rattle.js_lint.specs.declared.advice.Advice.{Advice}
use Rattle.js_lint.specs.declared.standing.Standing.{Standing}
use Rattle.js_lint.specs.declared.standing.Standing.TheVariants.{Missing}
use Rattle.js_lint.specs.declared.tables.TheConstants.{GLOBALS, MEMBERS, OBJECT_MEMBERS}

-- ---- rows

-- a name and what is known of it
pub record NameEntry : Type 0 where
  pub name : List ℕ
  pub standing : Standing

-- a row as the constant shows it, and as code reads it
abbrev pub name_shown : (record { now : List ℕ } × Standing) → NameEntry
name_shown row = record { name = row.0.now; standing = row.1 }

abbrev pub name_read : (Bor (List ℕ) × Standing) → NameEntry
name_read row = record { name = row.0.now; standing = row.1 }

-- a property of a global object that isn't here
pub record MemberEntry : Type 0 where
  pub object : List ℕ
  pub name : List ℕ
  pub advice : Advice

abbrev pub member_shown : (record { now : List ℕ } × record { now : List ℕ } × Advice) → MemberEntry
member_shown row = record { object = row.0.now; name = row.1.now; advice = row.2 }

abbrev pub member_read : (Bor (List ℕ) × Bor (List ℕ) × Advice) → MemberEntry
member_read row = record { object = row.0.now; name = row.1.now; advice = row.2 }

-- ---- tables

-- the global names
unfoldable pub globals : List NameEntry
globals = map name_shown GLOBALS.now

-- properties of any object
unfoldable pub members : List NameEntry
members = map name_shown MEMBERS.now

-- properties of global objects
unfoldable pub object_members : List MemberEntry
object_members = map member_shown OBJECT_MEMBERS.now

-- ---- what they say

-- what the first row of a name says
abbrev pub standing_among : List NameEntry → List ℕ → Option Standing
standing_among [] x = None
standing_among (row ∷ rows) x = if bytes_eq x row.name then Some row.standing else standing_among rows x

-- what to write in place of a property of a global object, by the first row of both
abbrev pub advice_among : List MemberEntry → List ℕ → List ℕ → Option Advice
advice_among [] object x = None
advice_among (row ∷ rows) object x =
    if bytes_eq object row.object && bytes_eq x row.name then Some row.advice else advice_among rows object x

-- what to write in place of a name that is missing
abbrev pub missing_by : Option Standing → Option Advice
missing_by (Some (Missing a)) = Some a
missing_by s = None
