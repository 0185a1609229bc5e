-- Suffixes as frames have them: each part with what comes behind it (ECMA-262 5.1, section 11.2).
use Rattle.std.specs.Prelude.{ℕ, List, [], ◌∷◌, Bool, true, false}
use Rattle.js_tree.specs.declared.place.Place.{Place}
use Rattle.js_tree.specs.declared.expression.Suffix.{Suffix}
use Rattle.js_tree.specs.Tree.{ExpressionTree, FunctionTree, Suffixes}
use Rattle.heap_values.specs.declared.value.Value.{Value}
use Rattle.run_trees.specs.Runs.{◌>>◌}
use Rattle.js_evaluation.specs.State.{Does}
use Rattle.js_evaluation.specs.Objects.{Context, get, test_base}
use Rattle.js_frames.specs.declared.expression_frame.Aim.{Aim}
use Rattle.js_frames.specs.declared.expression_frame.Aim.TheVariants as aim
use Rattle.js_frames.specs.Rests.{DoesEither, ◌>=>◌}
use Rattle.js_frames.specs.RestOf.{suffixes_by}
use Rattle.js_evaluation.specs.Expressions as rule
use Rattle.js_evaluation.specs.Parts.{Within}
use Rattle.js_evaluation.specs.Scoping.{by_slots}

-- whether the suffix before these is the last one of a target
abbrev pub is_last : Aim → List Suffix → Bool
is_last aim.Target [] = true
is_last aim.Target (s ∷ ss) = false
is_last aim.Value ss = false

abbrev pub member : Value → List ℕ → Place → Does Value
member base name place = test_base base place >> get base name place

module _ (functions : List FunctionTree) (go : Within) (cx : Context) where
  -- what suffixes are applied to, and then the suffixes
  abbrev pub suffixed_by : Aim → ExpressionTree → Suffixes → DoesEither
  suffixed_by purpose first ss =
      rule.with_this by_slots functions go cx first >=> (λ x. suffixes_by functions go cx purpose x.0 x.1 ss)
