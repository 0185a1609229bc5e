-- The names that a `for`-`in` loop goes over.
use Rattle.std.proofs.Common.{◌≡◌, ℕ, List, [], ◌∷◌, Bool, true, false, Ok, Err, Result, refl, ap, sym, ◌∙◌, arith, if◌then◌else◌}
use Rattle.std.specs.Result.{IsErrAnd}
use Rattle.js_tree.specs.declared.statement.ForTarget.{ForTarget}
use Rattle.js_tree.specs.Tree.{ExpressionTree, FunctionTree}
use Rattle.js_tree.specs.View.{target_of}
use Rattle.heap_values.specs.declared.value.Value.{Value}
use Rattle.heap_values.specs.declared.value.Value.TheVariants as value
use Rattle.heap_values.specs.Views.{HeapView}
use Rattle.run_trees.specs.Runs.{After, onward, ◌>>◌}
use Rattle.js_evaluation.specs.State.{RunState, RunEnd, Stop, AfterValue}
use Rattle.js_evaluation.specs.Objects.{Context}
use Rattle.js_frames.specs.declared.frame.Frame.TheVariants as frame
use Rattle.js_frames.specs.declared.statement_frame.ForInLoop.{ForInLoop}
use Rattle.js_frames.specs.declared.statement_frame.LoopFrame.TheVariants as of_loop
use Rattle.js_frames.specs.Parts.{context_of}
use Rattle.js_evaluation.specs.Statements as rule
use Rattle.js_evaluation.specs.Parts.{Within}
use Rattle.js_evaluation.specs.Scoping.{by_slots}
use Rattle.js_frames.specs.Rests.{giving, ◌>=>◌}
use Rattle.js_frames.specs.RestOf.{names_from, rest_of}
use Rattle.heap_steps.specs.declared.halt.Halt.{Halt}
use Rattle.heap_steps.specs.Works.{state_with, Beside}
use Rattle.js_machine.specs.declared.machine.Machine.{Machine}
use Rattle.js_machine.specs.declared.machine.State.{State}
use Rattle.js_machine.specs.declared.now.Now.{Now}
use Rattle.js_machine.specs.declared.now.Now.TheVariants as now
use Rattle.js_machine.specs.Moves.{Leads, Moves, at, evaluated, executed, functions_of, inner, left, resumed, beside_of}
use Rattle.js_machine.specs.Acts.{Acts}
use Rattle.js_statements.specs.Loops.{listed_in, is_listed_in, with_name}
use Rattle.js_machine.proofs.Acting.{with_state, acts_then, acts_stops}
use Rattle.js_statements.proofs.Parts.{moves_as, leads_by}

module _ (functions : List FunctionTree) (go : Within) (cx : Context) (h : HeapView) (fuel : ℕ) (beside : Beside) where
  -- the names that are listed are those of the heap
  pub lists : (object : Value) (after : After RunState Stop RunEnd (List (List ℕ)))
      → rule.listed_names object after (state_with h fuel beside) ≡ after (Ok (listed_in h object)) (state_with h fuel beside)
  lists value.Undefined after = refl
  lists value.Null after = refl
  lists (value.Bool b) after = refl
  lists (value.Number n) after = refl
  lists (value.Text t) after = refl
  lists (value.Object id) after = refl

  module _ (l : ForInLoop) (name : List ℕ) (names : List (List ℕ)) (after : AfterValue) where
    -- a name that is still there has its turn
    pub kept : (object : Value) → is_listed_in h object name ≡ true
        → names_from functions go cx l object (name ∷ names) after (state_with h fuel beside) ≡ with_name functions go cx name object names l after (state_with h fuel beside)
    kept value.Undefined e = refl
    kept value.Null e = refl
    kept (value.Bool b) e = refl
    kept (value.Number n) e = refl
    kept (value.Text t) e = refl
    kept (value.Object id) e =
        ap (λ (b : Bool). (if b then with_name functions go cx name (value.Object id) names l else names_from functions go cx l (value.Object id) names) after (state_with h fuel beside)) e

    -- one that is not is passed
    pub gone : (object : Value) → is_listed_in h object name ≡ false
        → names_from functions go cx l object (name ∷ names) after (state_with h fuel beside) ≡ names_from functions go cx l object names after (state_with h fuel beside)
    gone value.Undefined e = cc
    gone value.Null e = cc
    gone (value.Bool b) e = cc
    gone (value.Number n) e = cc
    gone (value.Text t) e = cc
    gone (value.Object id) e =
        ap (λ (b : Bool). (if b then with_name functions go cx name (value.Object id) names l else names_from functions go cx l (value.Object id) names) after (state_with h fuel beside)) e

-- the names are listed and charged, and then the first of them has its turn
module _ (m : Machine) (l : ForInLoop) (object : Value) (names : List (List ℕ)) (s : State) (are : names ≡ listed_in m.state.heap object) where
  lists_those : (last : AfterValue)
      → left last m (at m resumed (frame.Loop (of_loop.ForInObject l)) (Ok object)) ≡ left last m (giving (rule.charged_names l.place names >> at m names_from l object names))
  lists_those last =
      lists (functions_of m) (inner m) (context_of m.context) m.state.heap m.state.fuel (beside_of m.state) object
      (onward (λ ns. rule.charged_names l.place ns >> at m names_from l object ns) (rest_of (functions_of m) last m.frames).given)
      ∙ ap (λ (ns : List (List ℕ)). left last m (giving (rule.charged_names l.place ns >> at m names_from l object ns))) (sym are)

  pub lists_then : (r : Result Now Halt) (m' : Machine) → Acts (rule.charged_names l.place names) m.state (Ok tt) s
      → Moves (at m names_from l object names) (with_state m s) r m' → Leads (at m resumed (frame.Loop (of_loop.ForInObject l)) (Ok object)) m r m'
  lists_then r m' w k = moves_as r lists_those (acts_then (rule.charged_names l.place names) (λ _. at m names_from l object names) m s tt r m' w k)

  pub lists_stops : (r : Result Now Halt) (e : Halt) → IsErrAnd r (λ x. x ≡ e) → Acts (rule.charged_names l.place names) m.state (Err e) s
      → Leads (at m resumed (frame.Loop (of_loop.ForInObject l)) (Ok object)) m r (with_state m s)
  lists_stops r e i w = moves_as r lists_those (acts_stops (rule.charged_names l.place names) (λ _. at m names_from l object names) m s r e i w)

module _ {m m' : Machine} {r : Result Now Halt} (l : ForInLoop) where
  -- the first value of a declared name, by what the target is
  pub first_by : (object : ExpressionTree) (t : ForTarget) → l.target.now ≡ t
      → Leads (at m (rule.first_of by_slots) l.place (target_of t) >=> (λ _. at m evaluated object (frame.Loop (of_loop.ForInObject l)))) m r m'
      → Moves (at m (rule.for_in_loop by_slots) l.place (target_of l.target.now) object l.body.now) m r m'
  first_by object t e k = leads_by (ap (λ (x : ForTarget). at m (rule.first_of by_slots) l.place (target_of x) >=> (λ _. at m evaluated object (frame.Loop (of_loop.ForInObject l)))) e) k

  module _ (object : Value) (name : List ℕ) (names : List (List ℕ)) where
    -- the turn of a name, by what the target is
    pub named_by : (t : ForTarget) → l.target.now ≡ t
        → Leads (at m (rule.named_by by_slots) l.place (target_of t) name >=> (λ _. at m executed l.body.now (frame.Loop (of_loop.ForInBody object names l)))) m r m'
        → Moves (at m with_name name object names l) m r m'
    named_by t e k = leads_by (ap (λ (x : ForTarget). at m (rule.named_by by_slots) l.place (target_of x) name >=> (λ _. at m executed l.body.now (frame.Loop (of_loop.ForInBody object names l)))) e) k

-- the next of the names that are left
module _ (m : Machine) (l : ForInLoop) (object : Value) (all left_now : List (List ℕ))
    (same : (last : AfterValue) → left last m (giving (at m names_from l object all)) ≡ left last m (giving (at m names_from l object left_now))) where
  -- none is left
  pub names_end : left_now ≡ [] → Moves (at m names_from l object all) m (Ok (now.Back (Ok value.Undefined))) m
  names_end none = record { goes = λ last. same last ∙ ap (λ (ns : List (List ℕ)). left last m (giving (at m names_from l object ns))) none; light = omega arith }

  module _ (name : List ℕ) (names : List (List ℕ)) (next : left_now ≡ name ∷ names) where
    pub turn_kept : {r : Result Now Halt} {m' : Machine} → is_listed_in m.state.heap object name ≡ true
        → Moves (at m with_name name object names l) m r m' → Moves (at m names_from l object all) m r m'
    turn_kept {r} e k = moves_as r (λ last.
        same last ∙ ap (λ (ns : List (List ℕ)). left last m (giving (at m names_from l object ns))) next
        ∙ kept (functions_of m) (inner m) (context_of m.context) m.state.heap m.state.fuel (beside_of m.state) l name names (rest_of (functions_of m) last m.frames).given object e) k

    pub turn_gone : is_listed_in m.state.heap object name ≡ false
        → (last : AfterValue) → left last m (giving (at m names_from l object all)) ≡ left last m (giving (at m names_from l object names))
    turn_gone e last =
        same last ∙ ap (λ (ns : List (List ℕ)). left last m (giving (at m names_from l object ns))) next
        ∙ gone (functions_of m) (inner m) (context_of m.context) m.state.heap m.state.fuel (beside_of m.state) l name names (rest_of (functions_of m) last m.frames).given object e
