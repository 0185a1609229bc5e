-- Each part at each depth, and each run, by names does what it does by slots.
use Rattle.std.proofs.Common.{◌≡◌, ℕ, zero, suc, List, [], ◌∷◌, Bool, true, false, ◌||◌, Option, Some, None, refl, sym, ◌∙◌, ap, subst, true≢false}
use Rattle.std.specs.Prelude.{slice_get}
use Rattle.js_tree.specs.declared.place.Place.{Place}
use Rattle.js_tree.specs.Tree.{FunctionTree, Statements}
use Rattle.heap_values.specs.declared.ids.Kind.{Kind}
use Rattle.heap_values.specs.declared.ids.Kind.TheVariants as kind
use Rattle.heap_values.specs.declared.ids.ObjectId.{ObjectId}
use Rattle.heap_values.specs.declared.ids.ScopeId.{ScopeId}
use Rattle.heap_values.specs.declared.value.Value.TheVariants as value
use Rattle.heap_values.specs.Views.{ObjectView}
use Rattle.heap_objects.specs.Scope.{fresh_scope}
use Rattle.object_heap.specs.Fresh.{built_in_objects, filled_objects}
use Rattle.object_heap.specs.Heap.{kind_in}
use Rattle.run_trees.specs.Runs.{◌>>◌}
use Rattle.run_trees.specs.RunTree.{Done}
use Rattle.js_evaluation.specs.declared.fault.FaultCode.TheVariants as code
use Rattle.js_evaluation.specs.declared.limits.TheConstants.{MOST_OPEN}
use Rattle.js_evaluation.specs.State.{RunState, nameless, Comes, Does, fault, charge, global_object}
use Rattle.js_evaluation.specs.Scoping.{by_names, by_slots}
use Rattle.js_evaluation.specs.Parts.{Part, Reference, expression_part, statement_part, call_part, construct_part, load_part, Within, expression_place, part_place, outside}
use Rattle.js_evaluation.specs.Evaluation.{node, evaluation, Entry, outer_scope, entry_in, called_for, script_run, first_state, tree_by}
use Rattle.js_law_right.specs.Right.{Setting, FunctionRight, own_in, ProgramRight}
use Rattle.js_law_right.specs.Unbound.{statements_unbound}
use Rattle.js_law_names.proofs.Worlds.{Shape, later_self, Fine}
use Rattle.js_law_names.proofs.Agreeing.{Agrees, along, fails, sees, ◌then◌}
use Rattle.js_law_names.proofs.OfState.{charges-agrees, test_text-agrees}
use Rattle.js_law_names.proofs.OfReferences.{ReferencesAgree, fails_to_refer, ◌referring◌}
use Rattle.js_law_names.proofs.OfParts.{bare, part_unbound, PartRight, WithinAgrees, expression_stays, part_stays}
use Rattle.js_law_names.proofs.OfExpressions.{expression_node-agrees, target_node-agrees}
use Rattle.js_law_names.proofs.OfStatements.{statement_node-agrees}
use Rattle.js_law_names.proofs.OfEntries.{call_node-agrees, construct_node-agrees, load_node-agrees}

module _ {setting : ℕ → Setting} (functions : List FunctionTree)
    (owns : (n : ℕ) → own_in (slice_get functions n) ≡ (setting n).own)
    (stand : (n : ℕ) (f : FunctionTree) → slice_get functions n ≡ Some f → FunctionRight setting (setting n).around f) where
  node-agrees : (go go' : Within) → WithinAgrees setting go go' → (z : RunState) (part : Part) → PartRight setting z part
      → Agrees setting z (node by_names (bare functions) go (part_unbound part)) (node by_slots functions go' part)
  node-agrees go go' agrees z (expression_part cx e) r = expression_node-agrees functions owns go go' agrees z cx r.0 r.1 e r.2
  node-agrees go go' agrees z (statement_part cx s) r = statement_node-agrees functions go go' agrees z cx r.0 r.1 s r.2
  node-agrees go go' agrees z (call_part f this vs p) r = call_node-agrees functions stand go go' agrees f this vs p
  node-agrees go go' agrees z (construct_part f vs p) r = construct_node-agrees functions stand go go' agrees f vs p
  node-agrees go go' agrees z (load_part outer ss) r = load_node-agrees functions stand go go' agrees z outer ss outside r.0 r.1

  evaluation-agrees : (room : ℕ)
      → WithinAgrees setting (evaluation by_names (bare functions) room) (evaluation by_slots functions room)
  unfolding evaluation
  evaluation-agrees zero = record {
    value = λ z part r. along (λ p. charge p >> fault code.TooDeep p) (part_stays part)
        (charges-agrees 1 (part_place part) then fails code.TooDeep (part_place part));
    reference = λ z cx xs shape e r.
        let failing : Place → Does Reference = λ p. charge p >> fault code.TooDeep p in
        subst (λ p. ReferencesAgree setting xs z (failing p) (failing (expression_place e))) (expression_stays e)
        (charges-agrees 1 (expression_place e) referring (λ _. fails_to_refer code.TooDeep (expression_place e)));
  }
  evaluation-agrees (suc room) = record {
    value = λ z part r.
        along (λ p. charge p >> node by_names (bare functions) (evaluation by_names (bare functions) room) (part_unbound part)) (part_stays part)
        (charges-agrees 1 (part_place part) then node-agrees _ _ (evaluation-agrees room) z part r);
    reference = λ z cx xs shape e r.
        along charge (expression_stays e) (charges-agrees 1 (expression_place e))
        referring (λ _. target_node-agrees functions owns _ _ (evaluation-agrees room) z cx xs shape e r);
  }

  called_for-agrees : (entry : Entry) (z : RunState) (o : Option ObjectId)
      → Agrees setting z (called_for by_names (bare functions) entry o) (called_for by_slots functions entry o)
  called_for-agrees entry z None = fails _ outside
  called_for-agrees entry z (Some f) =
      test_text-agrees entry.url outside then test_text-agrees entry.host outside
      then (evaluation-agrees MOST_OPEN).value z (call_part f global_object (value.Text entry.url ∷ value.Text entry.host ∷ []) outside) tt

-- ---- the beginning

is_function : Kind → Bool
is_function (kind.Function n scope) = true
is_function k = false

functions_in : List ObjectView → Bool
functions_in [] = false
functions_in (o ∷ os) = is_function o.kind || functions_in os

no_function : (k : Kind) (n : ℕ) (scope : ScopeId) → is_function k ≡ false → k ≡ kind.Function n scope → ⊥
unfolding is_function
no_function k n scope h e = true≢false (sym (ap is_function e) ∙ h)

in_first : (a b : Bool) → (a || b) ≡ false → a ≡ false
in_first true b h = h
in_first false b h = refl

in_rest : (a b : Bool) → (a || b) ≡ false → b ≡ false
in_rest true b h = absurd (true≢false h)
in_rest false b h = h

none_in : (os : List ObjectView) → functions_in os ≡ false → (id n : ℕ) (scope : ScopeId)
    → kind_in (slice_get os id) ≡ kind.Function n scope → ⊥
unfolding functions_in
none_in [] h id n scope e = cc
none_in (o ∷ os) h zero n scope e = no_function o.kind n scope (in_first _ _ h) e
none_in (o ∷ os) h (suc id) n scope e = none_in os (in_rest (is_function o.kind) _ h) id n scope e

none_built_in : functions_in built_in_objects ≡ false
unfolding functions_in is_function built_in_objects filled_objects
none_built_in = refl

-- ---- a run

-- The run by names of a program without the places of its names is the run by slots: the same tree, and the same end
-- with each reply.
pub runs-agree : (ss : Statements) (functions : List FunctionTree) → ProgramRight (ss, functions) → (entry : Entry)
    → tree_by by_names (statements_unbound ss) (bare functions) entry ≡ tree_by by_slots ss functions entry
runs-agree ss functions r entry =
    agree.agree start (later_self start) fine (λ result state. Done (Comes result (nameless state))) (λ result state. Done (Comes result (nameless state)))
    (λ result t l f. refl)
  where
    start : RunState
    start = first_state by_names entry

    shape : Shape start.names start.heap.scopes outer_scope []
    shape = record { has_names = refl; view = fresh_scope 0 None; there = refl; parent = refl }

    fine : Fine r.setting start
    fine = record { counts = refl; closures = λ id n scope e. absurd (none_in built_in_objects none_built_in id n scope e) }

    agree : Agrees r.setting start (script_run by_names (bare functions) entry (statements_unbound ss)) (script_run by_slots functions entry ss)
    agree = (evaluation-agrees functions r.owns r.functions MOST_OPEN).value start (load_part outer_scope ss) (shape, r.body)
        then sees (λ t l f. called_for-agrees functions r.owns r.functions entry t (entry_in t.heap)) (λ t. refl)
