-- Rules of an expression, by what it is.
use Rattle.std.proofs.Common.{◌≡◌, ℕ, List, Ok, Result, refl, subst, sym}
use Rattle.std.specs.Prelude.{Box}
use Rattle.std.specs.declared.alloc.Global.{Global}
use Rattle.js_tree.specs.declared.place.Place.{Place}
use Rattle.js_tree.specs.declared.bound.BoundName.{BoundName}
use Rattle.js_tree.specs.declared.expression.ExpressionNode.{ExpressionNode}
use Rattle.js_tree.specs.declared.expression.ExpressionNode.TheVariants as node
use Rattle.js_tree.specs.declared.expression.FunctionPart.TheVariants as part
use Rattle.js_tree.specs.declared.expression.Suffix.{Suffix}
use Rattle.js_tree.specs.declared.operators.UnaryOp.TheVariants as unary
use Rattle.js_tree.specs.Tree.{ExpressionTree, FunctionTree, Items, Properties, Suffixes, Characters, Pattern, Name, Array, Object, Suffixed}
use Rattle.js_pattern_reader.specs.Literal.{Literal}
use Rattle.js_tree.specs.View.{expression_of}
use Rattle.heap_values.specs.declared.value.Value.{Value}
use Rattle.heap_values.specs.declared.value.Value.TheVariants as value
use Rattle.run_trees.specs.Runs.{pure, reading, ◌>>=◌}
use Rattle.js_evaluation.specs.State.{Does}
use Rattle.js_evaluation.specs.Objects.{Context}
use Rattle.js_evaluation.specs.Conversions as convert
use Rattle.js_evaluation.specs.Expressions.{expression_node}
use Rattle.js_evaluation.specs.Expressions as rule
use Rattle.js_evaluation.specs.Parts as def
use Rattle.js_evaluation.specs.Parts.{Within, to_name, visit}
use Rattle.js_evaluation.specs.Scoping.{by_slots}
use Rattle.js_frames.specs.declared.expression_frame.Aim.TheVariants as aim
use Rattle.js_frames.specs.declared.expression_frame.ExpressionFrame.TheVariants as of_expression
use Rattle.js_frames.specs.declared.frame.Frame.TheVariants as frame
use Rattle.js_frames.specs.declared.reference.Reference.{Reference}
use Rattle.js_frames.specs.declared.target_frame.TargetFrame.TheVariants as of_target
use Rattle.js_frames.specs.Parts.{context_of, reference_of}
use Rattle.heap_steps.specs.declared.halt.Halt.{Halt}
use Rattle.js_machine.specs.declared.machine.Machine.{Machine}
use Rattle.js_machine.specs.declared.now.Now.{Now}
use Rattle.js_machine.specs.declared.now.Now.TheVariants as now
use Rattle.js_machine.specs.Moves.{Leads, Moves, Refers, at, evaluated, functions_of, inner, targeted}
use Rattle.js_expressions.specs.Suffixes.{suffixed_by}
use Rattle.js_expressions.proofs.References.{gives_reference}

module _ (functions : List FunctionTree) (go : Within) (cx : Context) (p : Place) where
  -- what is no name is read by `typeof`
  type_else : (n : ExpressionNode) → ((x : BoundName) → n ≡ node.Name x → ⊥)
      → rule.type_of by_slots functions go cx (expression_of p n) ≡ visit go cx (expression_of p n)
  type_else (node.Name x) h = absurd (h x refl)
  type_else (node.Function (part.Whole f)) h = refl
  type_else (node.Function (part.Numbered k)) h = refl
  type_else n h = refl

  -- what is neither a name nor has suffixes refers to nothing
  target_else : (n : ExpressionNode) → ((x : BoundName) → n ≡ node.Name x → ⊥) → ((x : Box ExpressionTree Global) (ss : List Suffix) → n ≡ node.Suffixed x ss → ⊥)
      → rule.target_node by_slots functions go cx (expression_of p n) ≡ pure rule.no_reference
  target_else (node.Name x) h k = absurd (h x refl)
  target_else (node.Suffixed x ss) h k = absurd (k x ss refl)
  target_else (node.Function (part.Whole f)) h k = refl
  target_else (node.Function (part.Numbered i)) h k = refl
  target_else n h k = refl

module _ (m : Machine) (e : ExpressionTree) (p : Place) (r : Result Now Halt) (m' : Machine) where
  -- ---- `typeof`

  abbrev type_of : Place → ExpressionTree → Does Value
  type_of place x = at m (rule.unary_value by_slots) place unary.TypeOf x

  pub name_type : (x : BoundName) → Name p x ≡ e → Leads (at m targeted e (frame.Target of_target.TypeOf)) m r m' → (place : Place) → Moves (type_of place e) m r m'
  name_type x is k place = subst (λ (y : ExpressionTree). Leads (at m targeted y (frame.Target of_target.TypeOf)) m r m' → Moves (type_of place y) m r m') is (λ j. j) k

  pub value_type : (n : ExpressionNode) → expression_of p n ≡ e → ((x : BoundName) → n ≡ node.Name x → ⊥)
      → Leads (at m evaluated e (frame.Expression of_expression.TypeOf)) m r m' → (place : Place) → Moves (type_of place e) m r m'
  value_type n is h k place = subst (λ (y : ExpressionTree). Leads (at m evaluated y (frame.Expression of_expression.TypeOf)) m r m' → Moves (type_of place y) m r m') is
      (λ j. subst (λ (q : Does Value). Moves (q >>= (λ v. reading (λ s. pure (value.Text (convert.type_text s.heap v))))) m r m')
      (sym (type_else (functions_of m) (inner m) (context_of m.context) p n h)) j) k

  -- ---- literals

  pub text_value : (t : List ℕ) → Characters p t ≡ e → Moves (rule.text_literal p t) m r m' → Moves (at m (rule.expression_node by_slots) e) m r m'
  unfolding expression_node
  text_value t is k = subst (λ (y : ExpressionTree). Moves (at m (rule.expression_node by_slots) y) m r m') is k

  pub pattern_value : (l : Literal) → Pattern p l ≡ e → Moves (rule.pattern_literal p l) m r m' → Moves (at m (rule.expression_node by_slots) e) m r m'
  unfolding expression_node
  pattern_value l is k = subst (λ (y : ExpressionTree). Moves (at m (rule.expression_node by_slots) y) m r m') is k

  pub array_value : (items : Items) → Array p items ≡ e → Moves (at m (rule.array_literal by_slots) p items) m r m' → Moves (at m (rule.expression_node by_slots) e) m r m'
  unfolding expression_node
  array_value items is k = subst (λ (y : ExpressionTree). Moves (at m (rule.expression_node by_slots) y) m r m') is k

  pub object_value : (all : Properties) → Object p all ≡ e → Moves (at m (rule.object_literal by_slots) p all) m r m' → Moves (at m (rule.expression_node by_slots) e) m r m'
  unfolding expression_node
  object_value all is k = subst (λ (y : ExpressionTree). Moves (at m (rule.expression_node by_slots) y) m r m') is k

  -- ---- suffixes

  pub suffixed_value : (x : ExpressionTree) (ss : Suffixes) → Suffixed p x ss ≡ e → Leads (at m suffixed_by aim.Value x ss) m r m'
      → Moves (at m (rule.expression_node by_slots) e) m r m'
  unfolding expression_node
  suffixed_value x ss is k = subst (λ (y : ExpressionTree). Moves (at m (rule.expression_node by_slots) y) m r m') is k

  pub suffixed_target : (x : ExpressionTree) (ss : Suffixes) → Suffixed p x ss ≡ e → Leads (at m suffixed_by aim.Target x ss) m r m'
      → Refers (at m (rule.target_node by_slots) e) m r m'
  suffixed_target x ss is k = subst (λ (y : ExpressionTree). Refers (at m (rule.target_node by_slots) y) m r m') is k

-- what else is referred to
module _ (m : Machine) (e : ExpressionTree) (p : Place) (t : Reference) where
  abbrev Gives : ExpressionTree → Type 0
  Gives y = Refers (at m (rule.target_node by_slots) y) m (Ok (now.Refers t)) m

  pub name_target : (x : BoundName) → Name p x ≡ e → reference_of t ≡ to_name p x → Gives e
  name_target x is same = subst Gives is (gives_reference m t (to_name p x) same)

  pub no_target : (n : ExpressionNode) → expression_of p n ≡ e → ((x : BoundName) → n ≡ node.Name x → ⊥)
      → ((x : Box ExpressionTree Global) (ss : List Suffix) → n ≡ node.Suffixed x ss → ⊥) → reference_of t ≡ rule.no_reference → Gives e
  no_target n is h k same = subst Gives is (subst (λ (q : Does def.Reference). Refers q m (Ok (now.Refers t)) m)
      (sym (target_else (functions_of m) (inner m) (context_of m.context) p n h k)) (gives_reference m t rule.no_reference same))
