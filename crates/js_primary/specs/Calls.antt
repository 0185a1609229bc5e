-- Calls as frames have them, each with the suffixes behind it (ECMA-262 5.1, section 11.2.3).
use Rattle.std.specs.Prelude.{List}
use Rattle.js_tree.specs.Tree.{Expressions, FunctionTree}
use Rattle.js_tree.specs.View.{suffixes_of}
use Rattle.heap_values.specs.declared.value.Value.{Value}
use Rattle.js_evaluation.specs.State.{global_object}
use Rattle.js_evaluation.specs.Objects.{Context}
use Rattle.js_evaluation.specs.Conversions as convert
use Rattle.js_frames.specs.declared.expression_frame.OpenCall.{OpenCall}
use Rattle.js_frames.specs.Rests.{DoesEither, ◌>=>◌}
use Rattle.js_frames.specs.RestOf.{suffixes_by}
use Rattle.js_evaluation.specs.Expressions as rule
use Rattle.js_evaluation.specs.Parts.{Within, calls}
use Rattle.js_evaluation.specs.Scoping.{by_slots}

module _ (functions : List FunctionTree) (go : Within) (cx : Context) where
  -- a call, and then the suffixes behind it
  abbrev pub call_value : OpenCall → List Value → DoesEither
  call_value call vs = convert.call_value (calls go) call.callee call.this vs call.place
      >=> (λ w. suffixes_by functions go cx call.aim global_object w (suffixes_of call.rest.now))

  -- the arguments, the call, and then the suffixes behind it
  abbrev pub arguments_from : OpenCall → List Value → Expressions → DoesEither
  arguments_from call done left = rule.arguments_from by_slots functions go cx done left >=> (λ vs. call_value call vs)
