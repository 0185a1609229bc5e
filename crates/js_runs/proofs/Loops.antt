-- The loop of a run: each step keeps what is left of it.
use Rattle.std.proofs.Common.{◌≡◌, ℕ, ◌+◌, ◌<◌, List, Ok, Err, Result, refl, subst, ap, sym, ◌∙◌, arith}
use Rattle.std.specs.Result.{IsErrAnd}
use Rattle.js_tree.specs.declared.place.Place.{Place}
use Rattle.heap_values.specs.declared.ids.ObjectId.{ObjectId}
use Rattle.heap_values.specs.declared.value.Value.{Value}
use Rattle.run_trees.specs.declared.abrupt.Abrupt.TheVariants as ending
use Rattle.js_host.specs.Seen.{Seen}
use Rattle.run_trees.specs.RunTree.{RunTree, Done, Walked, walk}
use Rattle.js_evaluation.specs.declared.thrown.Thrown.{Thrown}
use Rattle.js_evaluation.specs.State.{RunEnd, Comes, Stop, AfterValue}
use Rattle.js_evaluation.specs.Evaluation.{outer_scope}
use Rattle.js_evaluation.specs.Entries as entry
use Rattle.js_evaluation.specs.Expressions as expression
use Rattle.js_evaluation.specs.Statements as statement
use Rattle.js_evaluation.specs.Scoping.{by_slots}
use Rattle.js_frames.specs.Parts.{context_of}
use Rattle.heap_steps.specs.declared.halt.Halt.{Halt}
use Rattle.heap_steps.specs.declared.halt.Halt.TheVariants as halt
use Rattle.js_machine.specs.declared.machine.Machine.{Machine}
use Rattle.js_machine.specs.declared.now.Now.{Now}
use Rattle.js_machine.specs.declared.now.Now.TheVariants as now
use Rattle.js_machine.specs.declared.now.Part.{Part}
use Rattle.js_machine.specs.Moves.{Goes, Light, Leads, Moves, Refers, Descended, Descends, functions_of, inner, part_place, rule_of, present, weight, waits, anywhere}
use Rattle.js_machine.specs.declared.now.Part.TheVariants as part
use Rattle.js_machine.specs.Moves.{at}
use Rattle.js_frames.specs.declared.frame.Context.{Context as Around}
use Rattle.js_evaluation.specs.Parts.{outside, expression_place, statement_place}
use Rattle.js_evaluation.specs.Statements.{statement_node as statement_rule}
use Rattle.js_tree.specs.View.{expression_of, statement_of, declarations_of}
use Rattle.js_tree.specs.Tree.{ExpressionTree, StatementTree, statements_of}
use Rattle.js_tree.specs.declared.statement.Declared.{Declared}
use Rattle.js_tree.specs.declared.expression.ExpressionNode.{ExpressionNode}
use Rattle.js_tree.specs.declared.expression.ExpressionNode.TheVariants as expression_node
use Rattle.js_tree.specs.declared.expression.FunctionPart.TheVariants as function_part
use Rattle.js_tree.specs.declared.statement.StatementNode.{StatementNode}
use Rattle.js_tree.specs.declared.statement.StatementNode.TheVariants as statement_node
use Rattle.std.specs.Borrow.{Bor}
use Rattle.js_runs.specs.declared.running.Cut.{Cut}
use Rattle.js_runs.specs.declared.running.Cut.TheVariants as cut
use Rattle.js_runs.specs.Asking.{AreKept, GoesOver}
use Rattle.js_runs.specs.Closes.{Begins, Closed, Closes, KeptAtEnd, handed_on}

module _ (part : Part) (place : Place) (m : Machine) where
  -- where the part is charged and has room, its rule goes on
  pub begins_with : (begun : Machine) (r : Result Now Halt) (m' : Machine) → part_place part ≡ place
      → Descended place m begun → Leads (rule_of (functions_of begun) (inner begun) (context_of m.context) part) begun r m'
      → Begins part m r m'
  begins_with begun (Ok what) m' here d k = record { goes = λ last. d.goes_in last _ part here ∙ k.goes last; light = omega (arith, d.less, k.light) }
  begins_with begun (Err (halt.Throw t)) m' here d k = record { goes = λ last. d.goes_in last _ part here ∙ k.goes last; light = omega (arith, d.less, k.light) }
  begins_with begun (Err (halt.Fault c p)) m' here d k = record { goes = λ last. d.goes_in last _ part here ∙ k.goes last; light = tt }
  begins_with begun (Err (halt.LeftOut n p)) m' here d k = record { goes = λ last. d.goes_in last _ part here ∙ k.goes last; light = tt }
  begins_with begun (Err halt.Memory) m' here d k = record { goes = λ last. tt; light = tt }

  stops_with : (e : Halt) (m' : Machine) → part_place part ≡ place → Descends place m (Err e) m' → Begins part m (Err e) m'
  stops_with (halt.Throw t) m' here d = absurd (d (λ r s. Done (Comes r s)) (context_of m.context) part here)
  stops_with (halt.Fault c p) m' here d = record { goes = λ last. d last (context_of m.context) part here; light = tt }
  stops_with (halt.LeftOut n p) m' here d = record { goes = λ last. d last (context_of m.context) part here; light = tt }
  stops_with halt.Memory m' here d = record { goes = λ last. tt; light = tt }

  -- where it isn't, the run is at its end
  pub begins_stopped : (r : Result Now Halt) (e : Halt) (m' : Machine) → IsErrAnd r (λ x. x ≡ e)
      → part_place part ≡ place → Descends place m (Err e) m' → Begins part m r m'
  begins_stopped (Ok what) e m' i here d = absurd i
  begins_stopped (Err x) e m' i here d = subst (λ y. Begins part m (Err y) m') (sym i) (stops_with e m' here d)

-- ---- the kinds of parts

pub expression_stands : (p : Place) (n : ExpressionNode) → expression_place (expression_of p n) ≡ p
expression_stands p (expression_node.Function (function_part.Whole f)) = refl
expression_stands p (expression_node.Function (function_part.Numbered n)) = refl
expression_stands p n = refl

pub statement_stands : (p : Place) (n : StatementNode) → statement_place (statement_of p n) ≡ p
statement_stands p (statement_node.Function x (function_part.Whole f)) = refl
statement_stands p (statement_node.Function x (function_part.Numbered n)) = refl
statement_stands p n = refl

module _ (place : Place) (m begun : Machine) (r : Result Now Halt) (m' : Machine) (d : Descended place m begun) where
  pub begins_expression : (e : Bor ExpressionTree) → expression_place e.now ≡ place
      → Moves (at begun (expression.expression_node by_slots) e.now) begun r m' → Begins (part.Expression e) m r m'
  begins_expression e here k = begins_with (part.Expression e) place m begun r m' here d
      (subst (λ (cx : Around). Moves (expression.expression_node by_slots (functions_of begun) (inner begun) (context_of cx) e.now) begun r m') d.around k)

  pub begins_statement : (s : Bor StatementTree) → statement_place s.now ≡ place
      → Moves (at begun (statement.statement_node by_slots) s.now) begun r m' → Begins (part.Statement s) m r m'
  begins_statement s here k = begins_with (part.Statement s) place m begun r m' here d
      (subst (λ (cx : Around). Moves (statement.statement_node by_slots (functions_of begun) (inner begun) (context_of cx) s.now) begun r m') d.around k)

  pub begins_target : (e : Bor ExpressionTree) → expression_place e.now ≡ place
      → Refers (at begun (expression.target_node by_slots) e.now) begun r m' → Begins (part.Target e) m r m'
  begins_target e here k = begins_with (part.Target e) place m begun r m' here d
      (subst (λ (cx : Around). Refers (expression.target_node by_slots (functions_of begun) (inner begun) (context_of cx) e.now) begun r m') d.around k)

  pub begins_declare : (all : Bor (List Declared)) → Moves (at begun (statement.variables_from by_slots) place (declarations_of all.now)) begun r m'
      → Begins (part.Declare place all) m r m'
  unfolding statement_rule
  begins_declare all k = begins_with (part.Declare place all) place m begun r m' refl d
      (subst (λ (cx : Around). Moves (statement.variables_from by_slots (functions_of begun) (inner begun) (context_of cx) place (declarations_of all.now)) begun r m') d.around k)

  pub begins_call : (f : ObjectId) (this : Value) (vs : List Value) → Moves (anywhere begun (entry.call_node by_slots) f this vs place) begun r m'
      → Begins (part.Call f this vs place) m r m'
  begins_call f this vs k = begins_with (part.Call f this vs place) place m begun r m' refl d k

  pub begins_construct : (f : ObjectId) (vs : List Value) → Moves (anywhere begun (entry.construct_node by_slots) f vs place) begun r m'
      → Begins (part.Construct f vs place) m r m'
  begins_construct f vs k = begins_with (part.Construct f vs place) place m begun r m' refl d k

  pub begins_load : (body : Bor (List StatementTree)) → place ≡ outside
      → Moves (anywhere begun (entry.load_node by_slots) outer_scope (statements_of body.now) outside) begun r m' → Begins (part.Load body) m r m'
  begins_load body here k = begins_with (part.Load body) place m begun r m' (sym here) d k

-- ---- steps of the loop

-- what a step leaves of the run, it leaves of the run over a host that it doesn't ask
pub goes_over : (last : AfterValue) (tree : RunTree RunEnd) (r : Result Now Halt) (m : Machine) (seen : Seen) → Goes last tree r m → GoesOver last (walk tree seen) r m seen
unfolding walk
goes_over last tree (Ok what) m seen g = ap (λ t. walk t seen) g
goes_over last tree (Err (halt.Throw t)) m seen g = ap (λ t. walk t seen) g
goes_over last tree (Err (halt.Fault c p)) m seen g = ap (λ t. walk t seen) g
goes_over last tree (Err (halt.LeftOut n p)) m seen g = ap (λ t. walk t seen) g
goes_over last tree (Err halt.Memory) m seen g = tt

-- what a step makes of the run, it makes where what is thrown is handed on
pub goes_on : (last : AfterValue) (walked : Walked RunEnd) (r : Result Now Halt) (what : Now) (m : Machine) (seen : Seen)
    → handed_on r ≡ Ok what → GoesOver last walked r m seen → walked ≡ walk (present last m what) seen
goes_on last walked (Ok w) what m seen e g = let i : w ≡ what = cc in g ∙ ap (λ x. walk (present last m x) seen) i
goes_on last walked (Err (halt.Throw t)) what m seen e g = let i : now.Back (Err (ending.Thrown t)) ≡ what = cc in g ∙ ap (λ x. walk (present last m x) seen) i
goes_on last walked (Err (halt.Fault c p)) what m seen e g = cc
goes_on last walked (Err (halt.LeftOut n p)) what m seen e g = cc
goes_on last walked (Err halt.Memory) what m seen e g = cc

pub lighter : (bound : ℕ) (r : Result Now Halt) (what : Now) (m : Machine) → handed_on r ≡ Ok what → Light bound r m → weight m + waits what < bound
lighter bound (Ok w) what m e l = let i : w ≡ what = cc in subst (λ (x : Now). weight m + waits x < bound) i l
lighter bound (Err (halt.Throw t)) what m e l = let i : now.Back (Err (ending.Thrown t)) ≡ what = cc in subst (λ (x : Now). weight m + waits x < bound) i l
lighter bound (Err (halt.Fault c p)) what m e l = cc
lighter bound (Err (halt.LeftOut n p)) what m e l = cc
lighter bound (Err halt.Memory) what m e l = cc

-- where a step stops, so does the run
closed_by : (last : AfterValue) (walked : Walked RunEnd) (r : Result Now Halt) (e : Halt) (m : Machine) (seen : Seen)
    → handed_on r ≡ Err e → GoesOver last walked r m seen → Closed last walked (Err (cut.Halt e)) m seen
closed_by last walked (Ok w) e m seen h g = cc
closed_by last walked (Err (halt.Throw t)) e m seen h g = cc
closed_by last walked (Err (halt.Fault c p)) (halt.Fault c' p') m seen h g = g ∙ cc
closed_by last walked (Err (halt.Fault c p)) (halt.Throw t) m seen h g = cc
closed_by last walked (Err (halt.Fault c p)) (halt.LeftOut n q) m seen h g = cc
closed_by last walked (Err (halt.Fault c p)) halt.Memory m seen h g = tt
closed_by last walked (Err (halt.LeftOut n p)) (halt.LeftOut n' p') m seen h g = g ∙ cc
closed_by last walked (Err (halt.LeftOut n p)) (halt.Throw t) m seen h g = cc
closed_by last walked (Err (halt.LeftOut n p)) (halt.Fault c q) m seen h g = cc
closed_by last walked (Err (halt.LeftOut n p)) halt.Memory m seen h g = tt
closed_by last walked (Err halt.Memory) (halt.Throw t) m seen h g = cc
closed_by last walked (Err halt.Memory) (halt.Fault c q) m seen h g = cc
closed_by last walked (Err halt.Memory) (halt.LeftOut n q) m seen h g = cc
closed_by last walked (Err halt.Memory) halt.Memory m seen h g = tt

pub closes_stopped : (m : Machine) (first : Now) (before : Seen) (out : Result (Result Value Stop) Cut) (r : Result Now Halt) (e : Halt) (m' : Machine) (after : Seen)
    → IsErrAnd out (λ x. x ≡ cut.Halt e) → handed_on r ≡ Err e → ((last : AfterValue) → GoesOver last (walk (present last m first) before) r m' after)
    → Closes m first before out m' after
closes_stopped m first before (Ok end) r e m' after i h g = absurd i
closes_stopped m first before (Err x) r e m' after i h g =
    subst (λ y. Closes m first before (Err y) m' after) (sym i) (record { closes = λ last. closed_by last (walk (present last m first) before) r e m' after h (g last) })

-- ---- alerts

-- the alerts are kept at each end
pub kept_at_end : (r : Result (Result Value Stop) Cut) (alerts kept : List (List ℕ)) → alerts ≡ kept → KeptAtEnd r alerts kept
kept_at_end (Ok end) alerts kept e = e
kept_at_end (Err (cut.Halt (halt.Throw t))) alerts kept e = e
kept_at_end (Err (cut.Halt (halt.Fault c p))) alerts kept e = e
kept_at_end (Err (cut.Halt (halt.LeftOut n p))) alerts kept e = e
kept_at_end (Err (cut.Halt halt.Memory)) alerts kept e = tt
kept_at_end (Err (cut.Missing name)) alerts kept e = tt

-- and behind a call that goes on
pub kept_on : (r : Result Now Halt) (what : Now) (alerts kept : List (List ℕ)) → handed_on r ≡ Ok what → AreKept r alerts kept → alerts ≡ kept
kept_on (Ok w) what alerts kept h e = e
kept_on (Err (halt.Throw t)) what alerts kept h e = e
kept_on (Err (halt.Fault c p)) what alerts kept h e = cc
kept_on (Err (halt.LeftOut n p)) what alerts kept h e = cc
kept_on (Err halt.Memory) what alerts kept h e = cc

kept_by : (r : Result Now Halt) (e : Halt) (alerts kept : List (List ℕ)) → handed_on r ≡ Err e → AreKept r alerts kept → KeptAtEnd (Err (cut.Halt e)) alerts kept
kept_by (Ok w) e alerts kept h a = cc
kept_by (Err (halt.Throw t)) e alerts kept h a = cc
kept_by (Err (halt.Fault c p)) e alerts kept h a = kept_at_end (Err (cut.Halt e)) alerts kept a
kept_by (Err (halt.LeftOut n p)) e alerts kept h a = kept_at_end (Err (cut.Halt e)) alerts kept a
kept_by (Err halt.Memory) halt.Memory alerts kept h a = tt
kept_by (Err halt.Memory) (halt.Throw t) alerts kept h a = cc
kept_by (Err halt.Memory) (halt.Fault c p) alerts kept h a = cc
kept_by (Err halt.Memory) (halt.LeftOut n p) alerts kept h a = cc

pub kept_stopped : (out : Result (Result Value Stop) Cut) (r : Result Now Halt) (e : Halt) (alerts kept : List (List ℕ))
    → IsErrAnd out (λ x. x ≡ cut.Halt e) → handed_on r ≡ Err e → AreKept r alerts kept → KeptAtEnd out alerts kept
kept_stopped (Ok end) r e alerts kept i h a = absurd i
kept_stopped (Err x) r e alerts kept i h a = subst (λ y. KeptAtEnd (Err y) alerts kept) (sym i) (kept_by r e alerts kept h a)

-- all but a throw ends the run
pub kept : (h : Halt) → ((t : Thrown) → h ≡ halt.Throw t → ⊥) → Err h ≡ handed_on (Err h)
kept (halt.Throw t) n = absurd (n t refl)
kept (halt.Fault c p) n = refl
kept (halt.LeftOut name p) n = refl
kept halt.Memory n = refl
