-- Loops of which turns are left, and the parts of a turn of a `for` loop.
use Rattle.std.proofs.Common.{◌≡◌, ℕ, suc, ◌-◌, ◌<◌, ap, arith, List, Option, true, Result, if◌then◌else◌}
use Rattle.std.specs.Prelude.{Box}
use Rattle.std.specs.declared.alloc.Global.{Global}
use Rattle.js_tree.specs.Tree.{ExpressionTree, FunctionTree, OptionalExpression, absent, present}
use Rattle.js_tree.specs.View.{optional_box}
use Rattle.heap_values.specs.declared.value.Value.{Value}
use Rattle.heap_values.specs.declared.value.Value.TheVariants as value
use Rattle.js_convert.specs.Numeric.{truth_of}
use Rattle.run_trees.specs.Runs.{pure, ◌>>=◌, ◌>>◌}
use Rattle.js_evaluation.specs.State.{Does}
use Rattle.js_evaluation.specs.Objects.{Context}
use Rattle.js_frames.specs.declared.statement_frame.WhileLoop.{WhileLoop}
use Rattle.js_frames.specs.declared.statement_frame.ForLoop.{ForLoop}
use Rattle.js_evaluation.specs.Statements as rule
use Rattle.js_evaluation.specs.Parts.{Within, execute}
use Rattle.js_evaluation.specs.Scoping.{by_slots}
use Rattle.js_frames.specs.Parts.{context_of}
use Rattle.js_frames.specs.RestOf.{while_turns, do_turns, for_turns, for_next, turned_to}
use Rattle.heap_steps.specs.declared.halt.Halt.{Halt}
use Rattle.js_machine.specs.declared.machine.Machine.{Machine}
use Rattle.js_machine.specs.declared.now.Now.{Now}
use Rattle.js_machine.specs.Moves.{Moves, at, inner, visited}
use Rattle.js_statements.proofs.Parts.{moves_by}

module _ (functions : List FunctionTree) (go : Within) (cx : Context) where
  -- one turn of a loop of which some are left
  pub while_some : (n : ℕ) (l : WhileLoop) → 0 < n → while_turns functions go cx n l ≡ while_turns functions go cx (suc (n - 1)) l
  while_some n l some = let e : n ≡ suc (n - 1) = omega arith in ap (λ k. while_turns functions go cx k l) e

  pub do_some : (n : ℕ) (l : WhileLoop) → 0 < n → do_turns functions go cx n l ≡ do_turns functions go cx (suc (n - 1)) l
  do_some n l some = let e : n ≡ suc (n - 1) = omega arith in ap (λ k. do_turns functions go cx k l) e

  pub for_some : (n : ℕ) (l : ForLoop) → 0 < n → for_turns functions go cx n l ≡ for_turns functions go cx (suc (n - 1)) l
  for_some n l some = let e : n ≡ suc (n - 1) = omega arith in ap (λ k. for_turns functions go cx k l) e

module _ (m : Machine) (n : ℕ) (l : ForLoop) where
  -- a condition that is left out holds
  abbrev held : OptionalExpression → Does Value
  held absent = pure (value.Bool true)
  held (present e) = visited m e

  -- the body, where the condition has a value that is true
  abbrev body_if : Value → Does Value
  body_if v = if truth_of v then (λ after. execute (inner m) (context_of m.context) l.body.now (at m turned_to (at m for_next n l) after)) else pure value.Undefined

  abbrev pub tested : OptionalExpression → Does Value
  tested c = held c >>= body_if

  -- the condition of a turn, by what it is
  pub tested_by : {r : Result Now Halt} {m' : Machine} (o : Option (Box ExpressionTree Global)) → l.condition.now ≡ o
      → Moves (tested (optional_box o)) m r m' → Moves (at m for_turns (suc n) l) m r m'
  tested_by o e k = moves_by (ap (λ (p : Option (Box ExpressionTree Global)). tested (optional_box p)) e) k

  -- the step behind a turn, by what it is
  pub stepped_by : {r : Result Now Halt} {m' : Machine} (o : Option (Box ExpressionTree Global)) → l.step.now ≡ o
      → Moves (at m (rule.evaluated_if by_slots) (optional_box o) >> at m for_turns n l) m r m' → Moves (at m for_next n l) m r m'
  stepped_by o e k = moves_by (ap (λ (p : Option (Box ExpressionTree Global)). at m (rule.evaluated_if by_slots) (optional_box p) >> at m for_turns n l) e) k
