-- Steps of the machine.
use Rattle.std.proofs.Common.{◌≡◌, ℕ, zero, suc, ◌+◌, ◌-◌, ◌<◌, List, Ok, Err, Result, Bool, true, false, refl, subst, ap, sym, ◌∙◌, arith, if◌then◌else◌}
use Rattle.std.proofs.lemmas.Bool.{le-ltb}
use Rattle.std.specs.Prelude.{nat_lt}
use Rattle.std.specs.Result.{IsErrAnd}
use Rattle.js_tree.specs.declared.place.Place.{Place}
use Rattle.js_tree.specs.Tree.{FunctionTree, ExpressionTree, Var, statements_of}
use Rattle.js_tree.specs.View.{declarations_of}
use Rattle.heap_values.specs.declared.value.Value.{Value}
use Rattle.heap_values.specs.Views.{HeapView}
use Rattle.run_trees.specs.RunTree.{Done}
use Rattle.run_trees.specs.Runs.{After, onward, ◌>>=◌, ◌>>◌}
use Rattle.js_evaluation.specs.Scoping.{by_slots}
use Rattle.js_evaluation.specs.Parts.{Part, expression_part, statement_part, call_part, construct_part, load_part, Reference, Within, expression_place, part_place}
use Rattle.js_evaluation.specs.declared.fault.FaultCode.TheVariants as code
use Rattle.js_evaluation.specs.State.{RunState, RunEnd, Faults, Stop, Does, charge, fault, AfterValue}
use Rattle.js_evaluation.specs.Objects.{Context}
use Rattle.js_evaluation.specs.Expressions.{target_node}
use Rattle.js_evaluation.specs.Evaluation.{node, evaluation, outer_scope}
use Rattle.js_frames.specs.Rests.{Rest, after_reference, DoesEither, giving, referring, ◌>=>◌}
use Rattle.js_frames.specs.RestOf.{room, rest_of}
use Rattle.heap_steps.specs.declared.halt.Halt.{Halt}
use Rattle.heap_steps.specs.declared.halt.Halt.TheVariants as halt
use Rattle.js_machine.specs.declared.machine.Machine.{Machine}
use Rattle.js_machine.specs.declared.now.Now.{Now}
use Rattle.js_machine.specs.declared.now.Part as code_part
use Rattle.js_machine.specs.declared.now.Part.TheVariants as part
use Rattle.heap_steps.specs.Works.{Works, Beside, state_with, plain_fault}
use Rattle.js_machine.specs.Moves.{beside_of, Leads, Moves, Refers, left, functions_of, inner, run_state, begun, rule_of, part_place as place_of, Descends}

-- ---- rules that stop

-- want of memory promises nothing
pub forgets : {part : DoesEither} {m m' : Machine} (r : Result Now Halt) (e : Halt)
    → IsErrAnd r (λ x. x ≡ e) → e ≡ halt.Memory → Leads part m r m'
forgets (Ok what) e h k = absurd h
forgets {part = part} {m = m} {m' = m'} (Err x) e h k =
    subst (λ y. Leads part m (Err y) m') (sym (h ∙ k)) (record { goes = λ last. tt; light = tt })

-- the machine with another heap
abbrev pub with_heap : Machine → HeapView → Machine
with_heap m h = record m { state = record m.state { heap = h } }

-- ---- a part that does something to the heap, and then the next

module _ {A : Type 0} (part : Does A) (next : A → DoesEither) (m : Machine) (h : HeapView) where
  -- where it gives a value, the next part goes on
  pub works_either : (v : A) {r : Result Now Halt} {m' : Machine}
      → Works part m.state.heap (Ok v) h → Leads (next v) (with_heap m h) r m' → Leads (part >=> next) m r m'
  works_either v {r = Ok what} w k = record { goes = λ last. w.is _ _ _ ∙ k.goes last; light = k.light }
  works_either v {r = Err (halt.Throw thrown)} w k = record { goes = λ last. w.is _ _ _ ∙ k.goes last; light = k.light }
  works_either v {r = Err (halt.Fault c p)} w k = record { goes = λ last. w.is _ _ _ ∙ k.goes last; light = tt }
  works_either v {r = Err (halt.LeftOut n p)} w k = record { goes = λ last. w.is _ _ _ ∙ k.goes last; light = tt }
  works_either v {r = Err halt.Memory} w k = record { goes = λ last. tt; light = tt }

  stops : (e : Halt) → Works part m.state.heap (Err e) h → Leads (part >=> next) m (Err e) (with_heap m h)
  stops (halt.Throw thrown) w = record { goes = λ last. w.is _ _ _; light = omega arith }
  stops (halt.Fault c p) w = record { goes = λ last. w.is _ _ _; light = tt }
  stops (halt.LeftOut n p) w = record { goes = λ last. w.is _ _ _; light = tt }
  stops halt.Memory w = record { goes = λ last. tt; light = tt }

  -- where it stops, so does the rule
  pub either_stops : (r : Result Now Halt) (e : Halt) → IsErrAnd r (λ x. x ≡ e) → Works part m.state.heap (Err e) h
      → Leads (part >=> next) m r (with_heap m h)
  either_stops (Ok what) e i w = absurd i
  either_stops (Err x) e i w = subst (λ y. Leads (part >=> next) m (Err y) (with_heap m h)) (sym i) (stops e w)

-- the same where the next part gives a value, and where it refers to something
module _ {A : Type 0} (part : Does A) (next : A → Does Value) (m : Machine) (h : HeapView) where
  pub works_then : (v : A) {r : Result Now Halt} {m' : Machine}
      → Works part m.state.heap (Ok v) h → Moves (next v) (with_heap m h) r m' → Moves (part >>= next) m r m'
  works_then = works_either part (λ v. giving (next v)) m h

  pub works_stops : (r : Result Now Halt) (e : Halt) → IsErrAnd r (λ x. x ≡ e) → Works part m.state.heap (Err e) h
      → Moves (part >>= next) m r (with_heap m h)
  works_stops = either_stops part (λ v. giving (next v)) m h

module _ {A : Type 0} (part : Does A) (next : A → Does Reference) (m : Machine) (h : HeapView) where
  pub works_refers : (v : A) {r : Result Now Halt} {m' : Machine}
      → Works part m.state.heap (Ok v) h → Refers (next v) (with_heap m h) r m' → Refers (part >>= next) m r m'
  works_refers = works_either part (λ v. referring (next v)) m h

  pub refers_stops : (r : Result Now Halt) (e : Halt) → IsErrAnd r (λ x. x ≡ e) → Works part m.state.heap (Err e) h
      → Refers (part >>= next) m r (with_heap m h)
  refers_stops = either_stops part (λ v. referring (next v)) m h

-- ---- fuel

pub charge_some : {A : Type 0} (place : Place) (next : Does A) (after : After RunState Stop RunEnd A) (h : HeapView) (fuel less : ℕ) (beside : Beside) → less + 1 ≡ fuel
    → (charge place >> next) after (state_with h fuel beside) ≡ next after (state_with h less beside)
charge_some place next after h fuel less beside e =
    let enough : nat_lt fuel 1 ≡ false = le-ltb fuel 1 (omega arith) in
    let rest : fuel - 1 ≡ less = omega arith in
    ap (λ (b : Bool). (if b then fault code.FuelSpent place else λ k s. k (Ok tt) (record s { fuel = s.fuel - 1 })) (onward (λ _. next) after) (state_with h fuel beside)) enough
    ∙ ap (λ n. next after (state_with h n beside)) rest

pub charge_none : {A : Type 0} (place : Place) (next : Does A) (after : After RunState Stop RunEnd A) (h : HeapView) (fuel : ℕ) (beside : Beside) → fuel ≡ 0
    → (charge place >> next) after (state_with h fuel beside) ≡ Done (Faults (plain_fault code.FuelSpent place))
charge_none place next after h fuel beside e =
    ap (λ n. (charge place >> next) after (state_with h n beside)) e

-- ---- beginning a part

pub positive : (n : ℕ) (b : Bool) → (n ≡ 0 → b ≡ true) → b ≡ false → 0 < n
positive zero b h e = let t : b ≡ true = h refl in cc
positive (suc n) b h e = omega arith

-- evaluation of a part and of a target: each is charged, and then its rule is done, or there is no room
module _ (functions : List FunctionTree) (n : ℕ) where
  abbrev inside : Within
  inside = evaluation by_slots functions (n - 1)

  pub begun_some : 0 < n → (part : Part) → (evaluation by_slots functions n).value part ≡ (charge (part_place part) >> node by_slots functions inside part)
  unfolding evaluation
  begun_some some part = let e : n ≡ suc (n - 1) = omega arith in ap (λ m. (evaluation by_slots functions m).value part) e

  pub begun_none : n ≡ 0 → (part : Part) → (evaluation by_slots functions n).value part ≡ (charge (part_place part) >> fault code.TooDeep (part_place part))
  unfolding evaluation
  begun_none none part = ap (λ m. (evaluation by_slots functions m).value part) none

  pub target_some : 0 < n → (cx : Context) (e : ExpressionTree)
      → (evaluation by_slots functions n).reference cx e ≡ (charge (expression_place e) >> target_node by_slots functions inside cx e)
  unfolding evaluation
  target_some some cx e = let is : n ≡ suc (n - 1) = omega arith in ap (λ m. (evaluation by_slots functions m).reference cx e) is

  pub target_none : n ≡ 0 → (cx : Context) (e : ExpressionTree)
      → (evaluation by_slots functions n).reference cx e ≡ (charge (expression_place e) >> fault code.TooDeep (expression_place e))
  unfolding evaluation
  target_none none cx e = ap (λ m. (evaluation by_slots functions m).reference cx e) none

pub begun_spent : (functions : List FunctionTree) (n : ℕ) (part : Part) (after : AfterValue) (h : HeapView) (beside : Beside)
    → (evaluation by_slots functions n).value part after (state_with h 0 beside) ≡ Done (Faults (plain_fault code.FuelSpent (part_place part)))
unfolding evaluation
begun_spent functions zero part after h beside = refl
begun_spent functions (suc n) part after h beside = refl

pub target_spent : (functions : List FunctionTree) (n : ℕ) (cx : Context) (e : ExpressionTree) (after : After RunState Stop RunEnd Reference) (h : HeapView) (beside : Beside)
    → (evaluation by_slots functions n).reference cx e after (state_with h 0 beside) ≡ Done (Faults (plain_fault code.FuelSpent (expression_place e)))
unfolding evaluation
target_spent functions zero cx e after h beside = refl
target_spent functions (suc n) cx e after h beside = refl

-- ---- a part of code, by what it is to evaluation

-- What is to be shown of a part is shown of each part of a definition and of each target.
module _ (P : DoesEither → DoesEither → Place → Type 0) (functions : List FunctionTree) (room less : Within)
    (values : (part : Part) → P (giving (room.value part)) (giving (node by_slots functions less part)) (part_place part))
    (targets : (cx : Context) (e : ExpressionTree) → P (referring (room.reference cx e)) (referring (target_node by_slots functions less cx e)) (expression_place e)) where
  pub each_part : (cx : Context) (p : code_part.Part) → P (begun room cx p) (rule_of functions less cx p) (place_of p)
  each_part cx (part.Expression e) = values (expression_part cx e.now)
  each_part cx (part.Target e) = targets cx e.now
  each_part cx (part.Statement s) = values (statement_part cx s.now)
  each_part cx (part.Declare place all) = values (statement_part cx (Var place (declarations_of all.now)))
  each_part cx (part.Call f this vs place) = values (call_part f this vs place)
  each_part cx (part.Construct f vs place) = values (construct_part f vs place)
  each_part cx (part.Load body) = values (load_part outer_scope (statements_of body.now))

module _ (place : Place) (m : Machine) where
  abbrev full : ℕ
  full = room m.frames

  abbrev behind_all : AfterValue → Rest
  behind_all last = rest_of (functions_of m) last m.frames

  -- no fuel is left
  abbrev Spent : DoesEither → DoesEither → Place → Type 0
  Spent whole rule p = (last : AfterValue) → m.state.fuel ≡ 0 → left last m whole ≡ Done (Faults (plain_fault code.FuelSpent p))

  spent : (cx : Context) (p : code_part.Part) → Spent (begun (evaluation by_slots (functions_of m) full) cx p) (rule_of (functions_of m) (inner m) cx p) (place_of p)
  spent = each_part Spent (functions_of m) (evaluation by_slots (functions_of m) full) (inner m)
      (λ part last none.
      ap (λ n. (evaluation by_slots (functions_of m) full).value part (behind_all last).given (state_with m.state.heap n (beside_of m.state))) none
      ∙ begun_spent (functions_of m) full part (behind_all last).given m.state.heap (beside_of m.state))
      (λ cx e last none.
      ap (λ n. (evaluation by_slots (functions_of m) full).reference cx e (after_reference (behind_all last)) (state_with m.state.heap n (beside_of m.state))) none
      ∙ target_spent (functions_of m) full cx e (after_reference (behind_all last)) m.state.heap (beside_of m.state))

  pub descends_spent : (m' : Machine) (r : Result (Unit {0}) Halt) (e : Halt) → IsErrAnd r (λ x. x ≡ e)
      → (e ≡ halt.Fault code.FuelSpent place) × (m.state.fuel ≡ 0) → Descends place m r m'
  descends_spent m' (Ok u) e i h = absurd i
  descends_spent m' (Err x) e i h = subst (λ y. Descends place m (Err y) m') (sym (i ∙ h.0)) (λ last cx p here.
      spent cx p last h.1 ∙ ap (λ q. Done (Faults (plain_fault code.FuelSpent q))) here)

  -- a unit is taken
  module _ (less : ℕ) (taken : less + 1 ≡ m.state.fuel) where
    abbrev Full : DoesEither → DoesEither → Place → Type 0
    Full whole rule p = (last : AfterValue) → full ≡ 0 → left last m whole ≡ Done (Faults (plain_fault code.TooDeep p))

    filled : (cx : Context) (p : code_part.Part) → Full (begun (evaluation by_slots (functions_of m) full) cx p) (rule_of (functions_of m) (inner m) cx p) (place_of p)
    filled = each_part Full (functions_of m) (evaluation by_slots (functions_of m) full) (inner m)
        (λ part last none.
        ap (λ (x : Does Value). x (behind_all last).given (run_state m.state)) (begun_none (functions_of m) full none part)
        ∙ charge_some (part_place part) (fault code.TooDeep (part_place part)) (behind_all last).given m.state.heap m.state.fuel less (beside_of m.state) taken)
        (λ cx e last none.
        ap (λ (x : Does Reference). x (after_reference (behind_all last)) (run_state m.state)) (target_none (functions_of m) full none cx e)
        ∙ charge_some (expression_place e) (fault code.TooDeep (expression_place e)) (after_reference (behind_all last)) m.state.heap m.state.fuel less (beside_of m.state) taken)

    pub descends_full : full ≡ 0 → (last : AfterValue) (cx : Context) (p : code_part.Part) → place_of p ≡ place
        → left last m (begun (evaluation by_slots (functions_of m) full) cx p) ≡ Done (Faults (plain_fault code.TooDeep place))
    descends_full none last cx p here = filled cx p last none ∙ ap (λ q. Done (Faults (plain_fault code.TooDeep q))) here

    abbrev charged : Machine
    charged = record m { state = record m.state { fuel = less } }

    abbrev In : DoesEither → DoesEither → Place → Type 0
    In whole rule p = (last : AfterValue) → 0 < full → left last m whole ≡ left last charged rule

    pub descends_in : (cx : Context) (p : code_part.Part) → In (begun (evaluation by_slots (functions_of m) full) cx p) (rule_of (functions_of m) (inner m) cx p) (place_of p)
    descends_in = each_part In (functions_of m) (evaluation by_slots (functions_of m) full) (inner m)
        (λ part last some.
        ap (λ (x : Does Value). x (behind_all last).given (run_state m.state)) (begun_some (functions_of m) full some part)
        ∙ charge_some (part_place part) (node by_slots (functions_of m) (inner m) part) (behind_all last).given m.state.heap m.state.fuel less (beside_of m.state) taken)
        (λ cx e last some.
        ap (λ (x : Does Reference). x (after_reference (behind_all last)) (run_state m.state)) (target_some (functions_of m) full some cx e)
        ∙ charge_some (expression_place e) (target_node by_slots (functions_of m) (inner m) cx e) (after_reference (behind_all last)) m.state.heap m.state.fuel less (beside_of m.state) taken)
