-- The words of each advice: those of its row in src/words.rt.
use Rattle.std.specs.Prelude.{ℕ, Bool, List, [], ◌∷◌, map, if◌then◌else◌}
use Rattle.std.specs.Borrow.{Bor}
use Rattle.js_lint.specs.declared.advice.Advice.{Advice}
use Rattle.js_lint.specs.declared.words.TheConstants.{WORDS}
use Rattle.js_lint.specs.contracts.advice.AdvicePartialEq.TheImpl as equality

-- an advice and its words
pub record Row : Type 0 where
  pub advice : Advice
  pub words : List ℕ

-- a row as the constant shows it, and as code reads it
abbrev pub row_shown : (Advice × record { now : List ℕ }) → Row
row_shown row = record { advice = row.0; words = row.1.now }

abbrev pub row_read : (Advice × Bor (List ℕ)) → Row
row_read row = record { advice = row.0; words = row.1.now }

unfoldable pub rows : List Row
rows = map row_shown WORDS.now

abbrev pub is_same : Advice → Advice → Bool
is_same a b = equality.ghosts.eq a b

-- the words of the first row of this advice
abbrev pub words_among : List Row → Advice → List ℕ
words_among [] a = []
words_among (row ∷ rest) a = if is_same row.advice a then row.words else words_among rest a

-- what to write instead
abbrev pub advice_text : Advice → List ℕ
advice_text a = words_among rows a
