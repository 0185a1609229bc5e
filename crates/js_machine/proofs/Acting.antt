-- Parts that do something to the state, and visit nothing that is opened.
use Rattle.std.proofs.Common.{◌≡◌, ℕ, ℤ, ◌+◌, ◌-◌, ◌<◌, ◌≤◌, ◌⊎◌, List, Option, Some, None, Ok, Err, Result, refl, subst, sym, ap, ◌∙◌, arith, ⊎_elim}
use Rattle.std.specs.Result.{IsErrAnd}
use Rattle.js_tree.specs.declared.place.Place.{Place}
use Rattle.js_tree.specs.declared.bound.BoundName.{BoundName}
use Rattle.js_tree.specs.Tree.{ExpressionTree, FunctionTree, Name, Number, Characters}
use Rattle.heap_values.specs.declared.value.Value.{Value}
use Rattle.heap_values.specs.declared.value.Value.TheVariants as value
use Rattle.heap_values.specs.Views.{HeapView}
use Rattle.run_trees.specs.RunTree.{Done}
use Rattle.run_trees.specs.Runs.{After, pure, ◌>>=◌, ◌>>◌}
use Rattle.js_evaluation.specs.Scoping.{by_slots}
use Rattle.js_evaluation.specs.BySlots.{read_name}
use Rattle.js_evaluation.specs.declared.fault.FaultCode.TheVariants as code
use Rattle.js_evaluation.specs.State.{RunState, RunEnd, Faults, Stop, Does, charge, fault, test_text}
use Rattle.js_evaluation.specs.Objects.{Context}
use Rattle.js_evaluation.specs.Expressions.{expression_node}
use Rattle.js_evaluation.specs.Evaluation.{node, evaluation}
use Rattle.js_frames.specs.declared.reference.Reference.{Reference}
use Rattle.js_frames.specs.Parts.{context_of}
use Rattle.js_frames.specs.Rests.{DoesEither, giving, ◌>=>◌}
use Rattle.js_evaluation.specs.Parts as rule
use Rattle.js_evaluation.specs.Parts.{Within, Part, expression_part, part_place}
use Rattle.js_frames.specs.RestOf.{room}
use Rattle.heap_steps.specs.declared.halt.Halt.{Halt}
use Rattle.heap_steps.specs.declared.halt.Halt.TheVariants as halt
use Rattle.heap_steps.specs.Works.{Works, plain_fault}
use Rattle.heap_steps.proofs.Chains.{chained, stops}
use Rattle.js_machine.specs.declared.machine.Machine.{Machine}
use Rattle.js_machine.specs.declared.machine.State.{State}
use Rattle.js_machine.specs.declared.now.Now.{Now}
use Rattle.js_machine.specs.Moves.{Leads, Moves, Light, at, beside_of, functions_of, inner, run_state, weight, visited, visited_target}
use Rattle.js_machine.specs.Acts.{Acts}
use Rattle.js_machine.specs.Leaves.{Reaches, referred}
use Rattle.js_machine.proofs.Steps.{charge_some, begun_some, begun_none, begun_spent, target_some, target_none, target_spent}

-- ---- what comes after such a part

-- the machine with another state
abbrev pub with_state : Machine → State → Machine
with_state m s = record m { state = s }

-- with less fuel no more may follow
lighter : (a b : ℕ) (r : Result Now Halt) (m' : Machine) → a ≤ b → Light a r m' → Light b r m'
lighter a b (Ok what) m' h k = omega (arith, h, k)
lighter a b (Err (halt.Throw thrown)) m' h k = omega (arith, h, k)
lighter a b (Err (halt.Fault c p)) m' h k = tt
lighter a b (Err (halt.LeftOut n p)) m' h k = tt
lighter a b (Err halt.Memory) m' h k = tt

module _ {A : Type 0} (part : Does A) (next : A → DoesEither) (m : Machine) (s : State) where
  pub acts_either : (v : A) (r : Result Now Halt) (m' : Machine)
      → Acts part m.state (Ok v) s → Leads (next v) (with_state m s) r m' → Leads (part >=> next) m r m'
  acts_either v (Ok what) m' w k = record { goes = λ last. w.is _ ∙ k.goes last; light = lighter (weight (with_state m s) + 3) (weight m + 3) (Ok what) m' (omega (arith, w.less)) k.light }
  acts_either v (Err (halt.Throw thrown)) m' w k = record { goes = λ last. w.is _ ∙ k.goes last; light = lighter (weight (with_state m s) + 3) (weight m + 3) (Err (halt.Throw thrown)) m' (omega (arith, w.less)) k.light }
  acts_either v (Err (halt.Fault c p)) m' w k = record { goes = λ last. w.is _ ∙ k.goes last; light = tt }
  acts_either v (Err (halt.LeftOut n p)) m' w k = record { goes = λ last. w.is _ ∙ k.goes last; light = tt }
  acts_either v (Err halt.Memory) m' w k = record { goes = λ last. tt; light = tt }

  acts_short : (e : Halt) → Acts part m.state (Err e) s → Leads (part >=> next) m (Err e) (with_state m s)
  acts_short (halt.Throw thrown) w = record { goes = λ last. w.is _; light = omega (arith, w.less) }
  acts_short (halt.Fault c p) w = record { goes = λ last. w.is _; light = tt }
  acts_short (halt.LeftOut n p) w = record { goes = λ last. w.is _; light = tt }
  acts_short halt.Memory w = record { goes = λ last. tt; light = tt }

  -- where it stops, so does the rule
  pub either_stops : (r : Result Now Halt) (e : Halt) → IsErrAnd r (λ x. x ≡ e) → Acts part m.state (Err e) s
      → Leads (part >=> next) m r (with_state m s)
  either_stops (Ok what) e i w = absurd i
  either_stops (Err x) e i w = subst (λ y. Leads (part >=> next) m (Err y) (with_state m s)) (sym i) (acts_short e w)

-- the same where the next part gives a value
module _ {A : Type 0} (part : Does A) (next : A → Does Value) (m : Machine) (s : State) where
  pub acts_then : (v : A) (r : Result Now Halt) (m' : Machine)
      → Acts part m.state (Ok v) s → Moves (next v) (with_state m s) r m' → Moves (part >>= next) m r m'
  acts_then = acts_either part (λ v. giving (next v)) m s

  pub acts_stops : (r : Result Now Halt) (e : Halt) → IsErrAnd r (λ x. x ≡ e) → Acts part m.state (Err e) s
      → Moves (part >>= next) m r (with_state m s)
  acts_stops = either_stops part (λ v. giving (next v)) m s

-- ---- a part that may be had, and what comes after it from the machine that it leaves

module _ {A : Type 0} (part : Does A) (next : List FunctionTree → Within → Context → A → DoesEither) (m m₁ : Machine) where
  pub reached_either : (v : A) (r : Result Now Halt) (m' : Machine) → Reaches part m (Ok (Some v)) m₁
      → Leads (at m₁ next v) m₁ r m' → Leads (part >=> at m next) m r m'
  reached_either v r m' k goes =
      acts_either part (at m next) m k.state v r m' k.had (subst (λ (x : Machine). Leads (at x next v) x r m') k.same goes)

  pub reached_short : (r : Result Now Halt) (e : Halt) → IsErrAnd r (λ x. x ≡ e) → Reaches part m (Err e) m₁ → Leads (part >=> at m next) m r m₁
  reached_short r e i k = subst (λ (x : Machine). Leads (part >=> at m next) m r x) (sym k.same) (either_stops part (at m next) m k.state r e i k.had)

module _ {A : Type 0} (part : Does A) (next : List FunctionTree → Within → Context → A → Does Value) (m m₁ : Machine) where
  abbrev gives_next : List FunctionTree → Within → Context → A → DoesEither
  gives_next functions go cx v = giving (next functions go cx v)

  pub reached_then : (v : A) (r : Result Now Halt) (m' : Machine) → Reaches part m (Ok (Some v)) m₁
      → Moves (at m₁ next v) m₁ r m' → Moves (part >>= at m next) m r m'
  reached_then = reached_either part gives_next m m₁

  pub reached_stops : (r : Result Now Halt) (e : Halt) → IsErrAnd r (λ x. x ≡ e) → Reaches part m (Err e) m₁ → Moves (part >>= at m next) m r m₁
  reached_stops = reached_short part gives_next m m₁

-- where nothing is told, nothing is done
module _ {A : Type 0} (part : Does A) (rule : List FunctionTree → Within → Context → DoesEither) (m m₁ : Machine) where
  pub reached_none : (r : Result Now Halt) (m' : Machine) → Reaches part m (Ok None) m₁ → Leads (at m₁ rule) m₁ r m' → Leads (at m rule) m r m'
  reached_none r m' k goes = subst (λ (x : Machine). Leads (at x rule) x r m') (k.same ∙ ap (with_state m) k.had) goes

module _ {A : Type 0} (part : Does A) (rule : List FunctionTree → Within → Context → Does Value) (m m₁ : Machine) where
  pub not_reached : (r : Result Now Halt) (m' : Machine) → Reaches part m (Ok None) m₁ → Moves (at m₁ rule) m₁ r m' → Moves (at m rule) m r m'
  not_reached = reached_none part (λ functions go cx. giving (rule functions go cx)) m m₁

-- ---- a part that is charged and begun at once

-- place: that of the part; whole: the part with its charge; body: its rule
module _ {A : Type 0} (whole body : Does A) (place : Place) (n : ℕ) (s : State) where
  abbrev charged_state : ℕ → State
  charged_state less = record s { fuel = less }

  -- why it is not entered
  abbrev IsOut : Halt → Type 0
  IsOut e = ((e ≡ halt.Fault code.FuelSpent place) × (s.fuel ≡ 0)) ⊎ ((e ≡ halt.Fault code.TooDeep place) × (0 < s.fuel) × (n ≡ 0))

  -- no fuel is left, or no room
  enters_not : ((after : After RunState Stop RunEnd A) → whole after (run_state (charged_state 0)) ≡ Done (Faults (plain_fault code.FuelSpent place)))
      → (n ≡ 0 → whole ≡ (charge place >> fault code.TooDeep place)) → (e : Halt) (s' : State) → IsOut e → Acts whole s (Err e) s'
  enters_not spent none e s' why = ⊎_elim
      (λ out. subst (λ x. Acts whole s (Err x) s') (sym out.0) (record {
        is = λ after. ap (λ f. whole after (run_state (charged_state f))) out.1 ∙ spent after;
        less = tt;
      }))
      (λ deep. subst (λ x. Acts whole s (Err x) s') (sym deep.0) (record {
        is = λ after.
            ap (λ (p : Does A). p after (run_state s)) (none deep.2)
            ∙ charge_some place (fault code.TooDeep place) after s.heap s.fuel (s.fuel - 1) (beside_of s) (omega (arith, deep.1));
        less = tt;
      }))
      why

  -- what the part does behind its charge to the heap
  module _ (is_charged : whole ≡ (charge place >> body)) (less : ℕ) (taken : less + 1 ≡ s.fuel) where
    entered : (after : After RunState Stop RunEnd A) → whole after (run_state s) ≡ body after (run_state (charged_state less))
    entered after =
        ap (λ (p : Does A). p after (run_state s)) is_charged
        ∙ charge_some place body after s.heap s.fuel less (beside_of s) taken

    enters : (r : Result A Halt) (h : HeapView) → Works body s.heap r h → Acts whole s r (record s { fuel = less; heap = h })
    enters (Ok v) h w = record { is = λ after. entered after ∙ w.is after less (beside_of s); less = omega (arith, taken) }
    enters (Err (halt.Throw thrown)) h w = record { is = λ after. entered after ∙ w.is after less (beside_of s); less = omega (arith, taken) }
    enters (Err (halt.Fault c p)) h w = record { is = λ after. entered after ∙ w.is after less (beside_of s); less = tt }
    enters (Err (halt.LeftOut name p)) h w = record { is = λ after. entered after ∙ w.is after less (beside_of s); less = tt }
    enters (Err halt.Memory) h w = record { is = tt; less = tt }

-- ---- the nodes that visit nothing

module _ (functions : List FunctionTree) (go : Within) (cx : Context) (p : Place) where
  node_name : (x : BoundName) → node by_slots functions go (expression_part cx (Name p x)) ≡ read_name cx x p
  unfolding expression_node
  node_name x = refl

  node_number : (n : ℤ) → node by_slots functions go (expression_part cx (Number p n)) ≡ pure (value.Number n)
  unfolding expression_node
  node_number n = refl

  node_text : (t : List ℕ) → node by_slots functions go (expression_part cx (Characters p t)) ≡ (test_text t p >> pure (value.Text t))
  unfolding expression_node
  node_text t = refl

-- a part that gives a value at once
pure_works : {A : Type 0} (v : A) (h : HeapView) → Works (pure v) h (Ok v) h
pure_works v h = record { is = λ after fuel beside. refl }

-- ---- a machine that has such a part

-- how many parts may be opened within the one that is being done
abbrev within_it : Machine → ℕ
within_it m = room m.frames - 1

-- why a part is not entered
abbrev pub IsOutside : Machine → Place → Halt → Type 0
IsOutside m p e = ((e ≡ halt.Fault code.FuelSpent p) × (m.state.fuel ≡ 0)) ⊎ ((e ≡ halt.Fault code.TooDeep p) × (0 < m.state.fuel) × (within_it m ≡ 0))

module _ (m : Machine) (part : Part) where
  pub stays_outside : (s : State) (r : Result (Option Value) Halt) (e : Halt) → IsErrAnd r (λ x. x ≡ e) → IsOutside m (part_place part) e → Reaches ((inner m).value part) m r (with_state m s)
  stays_outside s (Ok v) e i why = absurd i
  stays_outside s (Err x) e i why = subst (λ (y : Halt). Reaches ((inner m).value part) m (Err y) (with_state m s)) (sym i)
      (record {
        state = s;
        same = refl;
        had = enters_not ((inner m).value part) ((inner m).value part) (part_place part) (within_it m) m.state
            (λ after. begun_spent (functions_of m) (within_it m) part after m.state.heap (beside_of m.state))
            (λ none. begun_none (functions_of m) (within_it m) none part) e s why;
      })

  module _ (body : Does Value) (is : node by_slots (functions_of m) (evaluation by_slots (functions_of m) (within_it m - 1)) part ≡ body) (less : ℕ) (taken : less + 1 ≡ m.state.fuel) (some : 0 < within_it m) (h : HeapView) where
    abbrev after_it : State
    after_it = record m.state { fuel = less; heap = h }

    is_charged : (inner m).value part ≡ (charge (part_place part) >> body)
    is_charged = begun_some (functions_of m) (within_it m) some part ∙ ap (λ (x : Does Value). charge (part_place part) >> x) is

    pub has_value : (v : Value) → Works body m.state.heap (Ok v) h → Reaches ((inner m).value part) m (Ok (Some v)) (with_state m after_it)
    has_value v w = record { state = after_it; same = refl; had = enters ((inner m).value part) body (part_place part) (within_it m) m.state is_charged less taken (Ok v) h w }

    pub has_none : (r : Result (Option Value) Halt) (e : Halt) → IsErrAnd r (λ x. x ≡ e) → Works body m.state.heap (Err e) h → Reaches ((inner m).value part) m r (with_state m after_it)
    has_none (Ok v) e i w = absurd i
    has_none (Err x) e i w = subst (λ (y : Halt). Reaches ((inner m).value part) m (Err y) (with_state m after_it)) (sym i)
        (record { state = after_it; same = refl; had = enters ((inner m).value part) body (part_place part) (within_it m) m.state is_charged less taken (Err e) h w })

-- a name as a target
module _ (m : Machine) (p : Place) where
  abbrev target : BoundName → Does rule.Reference
  target x = visited_target m (Name p x)

  pub target_outside : (x : BoundName) (s : State) (r : Result (Option Reference) Halt) (e : Halt) → IsErrAnd r (λ y. y ≡ e) → IsOutside m p e
      → Reaches (target x) m (referred r) (with_state m s)
  target_outside x s (Ok v) e i why = absurd i
  target_outside x s (Err y) e i why = subst (λ (z : Halt). Reaches (target x) m (Err z) (with_state m s)) (sym i)
      (record {
        state = s;
        same = refl;
        had = enters_not (target x) (target x) p (within_it m) m.state
            (λ after. target_spent (functions_of m) (within_it m) (context_of m.context) (Name p x) after m.state.heap (beside_of m.state))
            (λ none. target_none (functions_of m) (within_it m) none (context_of m.context) (Name p x)) e s why;
      })

  pub target_has : (x : BoundName) (less : ℕ) → less + 1 ≡ m.state.fuel → 0 < within_it m
      → Reaches (target x) m (Ok (Some (rule.to_name p x))) (with_state m (record m.state { fuel = less }))
  target_has x less taken some = record {
    state = record m.state { fuel = less };
    same = refl;
    had = enters (target x) (pure (rule.to_name p x)) p (within_it m) m.state
        (target_some (functions_of m) (within_it m) some (context_of m.context) (Name p x)) less taken
        (Ok (rule.to_name p x)) m.state.heap (pure_works (rule.to_name p x) m.state.heap);
  }

-- by what they are
module _ (m : Machine) (p : Place) (less : ℕ) (taken : less + 1 ≡ m.state.fuel) (some : 0 < within_it m) where
  -- what is made of the parts within such a part, of which there are none
  abbrev below : Within
  below = evaluation by_slots (functions_of m) (within_it m - 1)

  abbrev behind : HeapView → Machine
  behind h = with_state m (record m.state { fuel = less; heap = h })

  pub name_has : (x : BoundName) (h : HeapView) (v : Value) → Works (read_name (context_of m.context) x p) m.state.heap (Ok v) h
      → Reaches (visited m (Name p x)) m (Ok (Some v)) (behind h)
  name_has x h v w = has_value m (expression_part (context_of m.context) (Name p x)) (read_name (context_of m.context) x p)
      (node_name (functions_of m) below (context_of m.context) p x) less taken some h v w

  pub name_stops : (x : BoundName) (h : HeapView) (r : Result (Option Value) Halt) (e : Halt) → IsErrAnd r (λ x. x ≡ e)
      → Works (read_name (context_of m.context) x p) m.state.heap (Err e) h → Reaches (visited m (Name p x)) m r (behind h)
  name_stops x h r e i w = has_none m (expression_part (context_of m.context) (Name p x)) (read_name (context_of m.context) x p)
      (node_name (functions_of m) below (context_of m.context) p x) less taken some h r e i w

  pub number_has : (n : ℤ) → Reaches (visited m (Number p n)) m (Ok (Some (value.Number n))) (behind m.state.heap)
  number_has n = has_value m (expression_part (context_of m.context) (Number p n)) (pure (value.Number n))
      (node_number (functions_of m) below (context_of m.context) p n) less taken some m.state.heap (value.Number n) (pure_works (value.Number n) m.state.heap)

  pub text_has : (t : List ℕ) → Works (test_text t p) m.state.heap (Ok tt) m.state.heap
      → Reaches (visited m (Characters p t)) m (Ok (Some (value.Text t))) (behind m.state.heap)
  text_has t w = has_value m (expression_part (context_of m.context) (Characters p t)) (test_text t p >> pure (value.Text t))
      (node_text (functions_of m) below (context_of m.context) p t) less taken some m.state.heap (value.Text t)
      (chained _ _ _ _ tt _ _ w (pure_works (value.Text t) m.state.heap))

  pub text_stops : (t : List ℕ) (r : Result (Option Value) Halt) (e : Halt) → IsErrAnd r (λ x. x ≡ e) → Works (test_text t p) m.state.heap (Err e) m.state.heap
      → Reaches (visited m (Characters p t)) m r (behind m.state.heap)
  text_stops t r e i w = has_none m (expression_part (context_of m.context) (Characters p t)) (test_text t p >> pure (value.Text t))
      (node_text (functions_of m) below (context_of m.context) p t) less taken some m.state.heap r e i (stops _ _ _ _ (Err e) e refl w)

-- what is said of a node is said of the expression that it is
module _ (m m' : Machine) (node e : ExpressionTree) (is : node ≡ e) where
  pub value_of : (r : Result (Option Value) Halt) → Reaches (visited m node) m r m' → Reaches (visited m e) m r m'
  value_of r k = subst (λ (x : ExpressionTree). Reaches (visited m x) m r m') is k

  pub target_of : (r : Result (Option rule.Reference) Halt) → Reaches (visited_target m node) m r m' → Reaches (visited_target m e) m r m'
  target_of r k = subst (λ (x : ExpressionTree). Reaches (visited_target m x) m r m') is k
