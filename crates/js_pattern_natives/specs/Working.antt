-- The work of a method with a pattern in its parts: the values that are its pattern and its text, what it does with
-- them, and what it does where the first is no pattern.
use Rattle.std.specs.Prelude.{ℕ, List, Option, Some, None}
use Rattle.js_tree.specs.declared.place.Place.{Place}
use Rattle.js_pattern_reader.specs.Literal.{Literal}
use Rattle.text_builtins.specs.declared.call.TextMethod.TheVariants as method
use Rattle.heap_values.specs.declared.ids.ObjectId.{ObjectId}
use Rattle.heap_values.specs.declared.value.Value.{Value}
use Rattle.heap_values.specs.declared.value.Value.TheVariants as value
use Rattle.js_convert.specs.Texts.{text_of}
use Rattle.run_trees.specs.Runs.{pure}
use Rattle.js_evaluation.specs.declared.native.PatternNative.{PatternNative}
use Rattle.js_evaluation.specs.declared.native.PatternNative.TheVariants as native
use Rattle.js_evaluation.specs.State.{Does}
use Rattle.js_evaluation.specs.Handed.{argument}
use Rattle.js_evaluation.specs.NativeWork.{text_work}
use Rattle.js_evaluation.specs.Patterns as spec

-- the place of the pattern among the values: a method of patterns has it as its receiver
abbrev pub pattern_place : PatternNative → ℕ
pattern_place native.Exec = 0
pattern_place native.Test = 0
pattern_place native.Match = 1
pattern_place native.Search = 1
pattern_place native.Replace = 1
pattern_place native.Split = 1

abbrev pub text_place : PatternNative → ℕ
text_place native.Exec = 1
text_place native.Test = 1
text_place native.Match = 0
text_place native.Search = 0
text_place native.Replace = 0
text_place native.Split = 0

module _ (vs : List Value) (begin : Value) (place : Place) where
  -- what a method does with its pattern and its text
  abbrev pub with_both : PatternNative → ObjectId → Literal → List ℕ → Does Value
  with_both native.Exec id l text = spec.exec id l place text (spec.begin_in begin)
  with_both native.Test id l text = spec.test id l place text (spec.begin_in begin)
  with_both native.Match id l text = spec.match id l place text (spec.begin_in begin)
  with_both native.Search id l text = spec.search id l place text
  with_both native.Replace id l text = spec.replace id l place text (text_of (argument 2 vs))
  with_both native.Split id l text = spec.split id l place text (spec.limit_in (argument 2 vs))

module _ (vs : List Value) (place : Place) where
  -- what it does without a pattern
  abbrev pub without : PatternNative → Does Value
  without native.Exec = pure value.Undefined
  without native.Test = pure value.Undefined
  without native.Match = pure value.Undefined
  without native.Search = pure value.Undefined
  without native.Replace = text_work method.Replace vs place
  without native.Split = text_work method.Split vs place

-- the object and the literal of a value that is a pattern
abbrev pub pattern_in : Value → Option Literal → Option (ObjectId × Literal)
pattern_in (value.Object id) (Some l) = Some (id, l)
pattern_in v l = None
