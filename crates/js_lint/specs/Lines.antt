-- The lines of findings: `LINE:COLUMN: NAME: ADVICE`, each ended by a line feed.
use Rattle.std.specs.Prelude.{ℕ, List, [], ◌∷◌, ◌++◌, false, codes, decimal, Option, Some, None}
use Rattle.js_tree.specs.declared.place.Place.{Place}
use Rattle.utf16_text.specs.Escape.{escaped}
use Rattle.js_lint.specs.declared.finding.Finding.{Finding}
use Rattle.js_lint.specs.Advice.{advice_text}

-- line and column, parted by a colon
abbrev pub place_text : Place → List ℕ
place_text place = decimal place.line ++ 58 ∷ decimal place.column

-- the object and a dot, where there is one
abbrev pub object_text : Option (List ℕ) → List ℕ
object_text None = []
object_text (Some x) = escaped false x ++ codes "."

-- in ASCII, other units escaped
abbrev pub name_text : Finding → List ℕ
name_text f = object_text f.object ++ escaped false f.name

abbrev pub line_of : Finding → List ℕ
line_of f = place_text f.place ++ (codes ": " ++ (name_text f ++ (codes ": " ++ (advice_text f.advice ++ 10 ∷ []))))

abbrev pub lines_of : List Finding → List ℕ
lines_of [] = []
lines_of (f ∷ fs) = line_of f ++ lines_of fs
