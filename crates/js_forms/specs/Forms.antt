-- What is said of a refusal: the advice of the first form of the table that fits its kind, what stands at its place and
-- what stands right before it. All of it is read from the rows of src/forms.rt.
use Rattle.std.specs.Prelude.{ℕ, List, [], ◌∷◌, ◌++◌, take, drop, map, codes, Bool, true, false, ◌&&◌, if◌then◌else◌}
use Rattle.std.specs.Fmt.{decimal}
use Rattle.std.specs.Borrow.{Bor}
use Rattle.utf16_text.specs.Letters.{trimmed}
use Rattle.js_tree.specs.declared.place.Place.{Place}
use Rattle.js_tree.specs.declared.refusal.ReadKind.{ReadKind}
use Rattle.js_tree.specs.declared.refusal.ReadKind.TheVariants as kind
use Rattle.js_tree.specs.contracts.refusal.ReadKindPartialEq.TheImpl as equality
use Rattle.js_grammar.specs.Reading.{Refusal}
use Rattle.js_grammar.specs.Words.{same}
use Rattle.js_forms.specs.declared.forms.TheConstants.{FORMS, OTHERWISE, ENDED}
use Rattle.js_forms.specs.Places.{first_place, units_before}
use Rattle.js_forms.specs.Pieces.{first_piece, last_piece}

-- ---- the table

-- a form: the kind of its refusal, the word or unit before its place and at it, each nothing where any may stand there, and
-- what is said of it
pub record Form : Type 0 where
  pub kind : ReadKind
  pub before : List ℕ
  pub at : List ℕ
  pub advice : List ℕ

-- a row as the constant shows it
abbrev pub FormShown : Type 0
FormShown = ReadKind × record { now : List ℕ } × record { now : List ℕ } × record { now : List ℕ }

abbrev pub form_shown : FormShown → Form
form_shown row = record { kind = row.0; before = row.1.now; at = row.2.now; advice = row.3.now }

-- and as code reads it
abbrev pub FormRead : Type 0
FormRead = ReadKind × Bor (List ℕ) × Bor (List ℕ) × Bor (List ℕ)

abbrev pub form_read : FormRead → Form
form_read row = record { kind = row.0; before = row.1.now; at = row.2.now; advice = row.3.now }

unfoldable pub forms : List Form
forms = map form_shown FORMS.now

-- ---- the form of a refusal

abbrev pub is_same : ReadKind → ReadKind → Bool
is_same a b = equality.ghosts.eq a b

-- whether the units are those of this text, which says nothing where it is empty
abbrev pub may_be : List ℕ → List ℕ → Bool
may_be [] us = true
may_be (u ∷ text) us = same us (u ∷ text)

abbrev pub fits : Form → ReadKind → List ℕ → List ℕ → Bool
fits form kind last first = is_same form.kind kind && may_be form.before last && may_be form.at first

-- what the first form says that fits
abbrev pub advice_among : List Form → ReadKind → List ℕ → List ℕ → List ℕ
advice_among [] kind last first = OTHERWISE.now
advice_among (form ∷ others) kind last first = if fits form kind last first then form.advice else advice_among others kind last first

abbrev pub is_unexpected : ReadKind → Bool
is_unexpected kind.Unexpected = true
is_unexpected k = false

-- whether the script ends where something more is expected
abbrev pub has_ended : ReadKind → List ℕ → Bool
has_ended kind [] = is_unexpected kind
has_ended kind (u ∷ us) = false

-- what is said where these units stand before the place, and those from it on
abbrev pub advice_between : ReadKind → List ℕ → List ℕ → List ℕ
advice_between kind before from =
    if has_ended kind from then ENDED.now else advice_among forms kind (last_piece (trimmed before)) (first_piece from)

-- what is said of a refusal of a text at a place
abbrev pub advice_on : ReadKind → Place → List ℕ → List ℕ
advice_on kind place us = let n = units_before place first_place us in advice_between kind (take n us) (drop n us)

-- ---- its line

abbrev pub kind_name : ReadKind → List ℕ
kind_name kind.BadToken = codes "BadToken"
kind_name kind.Unexpected = codes "Unexpected"
kind_name kind.TooDeep = codes "TooDeep"
kind_name kind.FractionLiteral = codes "FractionLiteral"
kind_name kind.Unsupported = codes "Unsupported"

abbrev pub place_text : Place → List ℕ
place_text place = decimal place.line ++ (codes ":" ++ decimal place.column)

-- `LINE:COLUMN: NAME: ADVICE`, and a line feed (10)
abbrev pub refusal_line : Refusal → List ℕ → List ℕ
refusal_line refusal us =
    place_text refusal.1 ++ (codes ": " ++ (kind_name refusal.0 ++ (codes ": " ++ (advice_on refusal.0 refusal.1 us ++ 10 ∷ []))))
