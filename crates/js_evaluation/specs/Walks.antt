-- What the walks of natives cost that go over values alone: one unit for each thing that they go over. The table says
-- which walk a native has.
use Rattle.std.specs.Prelude.{ℕ, ◌+◌, ◌*◌, List, [], ◌∷◌, length}
use Rattle.heap_values.specs.declared.value.Value.{Value}
use Rattle.heap_values.specs.declared.value.Value.TheVariants as value
use Rattle.js_convert.specs.Texts.{text_of}
use Rattle.pac_functions.specs.Texts.{text_in}
use Rattle.js_evaluation.specs.declared.native_row.Walk.{Walk}
use Rattle.js_evaluation.specs.declared.native_row.Walk.TheVariants as walk
use Rattle.js_evaluation.specs.Handed.{argument}

abbrev pub arguments_walk : List Value → ℕ
arguments_walk [] = 0
arguments_walk (this ∷ vs) = length vs

-- the units of a text; any other value has none
abbrev pub units_in : Value → ℕ
units_in (value.Text t) = length t
units_in v = 0

abbrev pub text_units : List Value → ℕ
text_units [] = 0
text_units (v ∷ vs) = units_in v + text_units vs

-- each place of a text, with the one behind its end, beside each of the part that is looked for; where that is a
-- pattern, so many units, since its searches have costs of their own
abbrev pub search_walk_by : Value → Value → ℕ → ℕ
search_walk_by whole (value.Object pattern) units = units
search_walk_by whole part units = (units_in whole + 1) * (units_in part + 1)

abbrev pub search_walk : List Value → ℕ
search_walk vs = search_walk_by (argument 0 vs) (argument 1 vs) (text_units vs)

-- the units of these arguments, each as a text
abbrev pub units_of : List Value → ℕ
units_of [] = 0
units_of (v ∷ vs) = length (text_of v) + units_of vs

-- each place of the text, with the one behind its end, beside each of the pattern
abbrev pub match_walk : List ℕ → List ℕ → ℕ
match_walk text pattern = (length text + 1) * (length pattern + 1)

-- A walk over the values that a native takes, converted; one that goes over objects costs nothing here. handed: how many
-- values were handed to the native, surplus ones too.
abbrev pub values_walk : Walk → List Value → ℕ → ℕ
values_walk walk.Values vs handed = handed
values_walk walk.Arguments vs handed = arguments_walk vs
values_walk walk.Texts vs handed = text_units vs
values_walk walk.Search vs handed = search_walk vs
values_walk walk.Units vs handed = units_of vs
values_walk walk.Pattern vs handed = match_walk (text_in vs 0) (text_in vs 1)
values_walk w vs handed = 0
