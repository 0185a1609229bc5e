-- Calls of built-in functions, as the machine has them (ECMA-262 5.1, sections 8.12.8 and 15).
use Rattle.std.specs.Prelude.{ℕ, List, [], Some, codes}
use Rattle.js_tree.specs.declared.place.Place.{Place}
use Rattle.js_tree.specs.Tree.{FunctionTree}
use Rattle.heap_values.specs.declared.ids.ObjectId.{ObjectId}
use Rattle.heap_values.specs.declared.value.Value.{Value}
use Rattle.heap_values.specs.declared.value.Value.TheVariants as value
use Rattle.array_builtins.specs.declared.joining.JoinAnswer.{JoinAnswer}
use Rattle.array_builtins.specs.declared.joining.JoinAnswer.TheVariants as answer
use Rattle.js_convert.specs.Texts.{text_of}
use Rattle.js_evaluation.specs.declared.fault.FaultCode.TheVariants as code
use Rattle.js_evaluation.specs.declared.native.Native.{Native}
use Rattle.js_evaluation.specs.declared.native.PatternNative.{PatternNative}
use Rattle.js_evaluation.specs.Patterns.{read_by, pattern_work}
use Rattle.run_trees.specs.Runs.{reading, ◌>>=◌}
use Rattle.js_evaluation.specs.State.{Does}
use Rattle.js_evaluation.specs.Objects.{Context}
use Rattle.js_evaluation.specs.Conversions as convert
use Rattle.js_evaluation.specs.Natives as natives
use Rattle.js_evaluation.specs.NativeTable as table
use Rattle.js_frames.specs.declared.wanted.Wanted.{Wanted}
use Rattle.js_frames.specs.Rests.{DoesEither, ◌>=>◌}
use Rattle.js_frames.specs.RestOf.{with_primitive}
use Rattle.heap_steps.specs.declared.halt.Halt.{Halt}
use Rattle.heap_steps.specs.declared.halt.Halt.TheVariants as halt
use Rattle.js_evaluation.specs.Parts.{Within, calls}

-- the name of an error that has none
abbrev pub name_or_error : Value → Value
name_or_error value.Undefined = value.Text (codes "Error")
name_or_error v = v

-- the text of an element that is no object: undefined and null have none (15.4.4.5)
abbrev pub plain_text : Value → List ℕ
plain_text value.Undefined = []
plain_text value.Null = []
plain_text v = text_of v

-- what a refusal to join texts comes to
abbrev pub join_refusal : JoinAnswer → Place → Halt
join_refusal answer.TooLong place = halt.Fault code.StringTooLong place
join_refusal answer.Memory place = halt.Memory

module _ (functions : List FunctionTree) (go : Within) (cx : Context) where
  -- an object becomes a primitive value, with what that is wanted for
  abbrev pub converted : List (List ℕ) → ObjectId → Place → Wanted → DoesEither
  converted methods object place wanted = convert.primitive_by (calls go) methods object place >=> with_primitive functions go cx wanted

  abbrev pub native_call : ℕ → Value → List Value → Place → Does Value
  native_call n = natives.native_outcome (calls go) (table.native_of n)

  abbrev pub native_value : Native → Value → List Value → Place → Does Value
  native_value = natives.native_value (calls go)

  abbrev pub converted_from : Native → ℕ → List Value → List Value → Place → Does Value
  converted_from = natives.converted_from (calls go)

  abbrev pub native_done : Native → List Value → List Value → Place → Does Value
  native_done = natives.native_done (calls go)

  abbrev pub pattern_done : PatternNative → List Value → ℕ → Place → Does Value
  pattern_done = natives.pattern_done (calls go)

  -- where a search begins is read, where that counts, and then the method works
  abbrev pub searched : PatternNative → List Value → Place → Does Value
  searched n vs place = reading (λ s. natives.begin_of (calls go) (read_by n s.heap vs) place >>= (λ begin. pattern_work n vs begin place))

  abbrev pub begun : PatternNative → List Value → ObjectId → Place → Does Value
  begun n vs pattern place = natives.begin_of (calls go) (Some pattern) place >>= (λ begin. pattern_work n vs begin place)

  abbrev pub error_text : Value → Place → Does Value
  error_text = natives.error_text (calls go)

  abbrev pub text_of_error : ObjectId → Place → Does Value
  text_of_error error place = error_text (value.Object error) place

  abbrev pub array_text : Value → List ℕ → List Value → Place → Does Value
  array_text = natives.array_text (calls go)

  abbrev pub joined_value : Value → List ℕ → Place → Does Value
  joined_value = natives.joined_value (calls go)

  abbrev pub joined_from : ℕ → ℕ → ObjectId → List (List ℕ) → List ℕ → Place → Does Value
  joined_from = natives.joined_from (calls go)
