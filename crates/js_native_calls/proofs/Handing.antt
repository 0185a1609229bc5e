-- The values that are handed to a native are converted one by one.
use Rattle.std.proofs.Common.{◌≡◌, ℕ, suc, List, [], ◌∷◌, ◌++◌, length, Bool, false, if◌then◌else◌, Ok, Err, Result, ap, sym, subst, ◌∙◌}
use Rattle.std.specs.Result.{IsErrAnd}
use Rattle.js_tree.specs.declared.place.Place.{Place}
use Rattle.heap_values.specs.declared.ids.ObjectId.{ObjectId}
use Rattle.heap_values.specs.declared.value.Value.{Value}
use Rattle.heap_values.specs.declared.value.Value.TheVariants as value
use Rattle.heap_values.specs.Views.{HeapView}
use Rattle.run_trees.specs.Runs.{onward, pure, ◌>>=◌}
use Rattle.js_evaluation.specs.declared.native.Conversion.{Conversion}
use Rattle.js_evaluation.specs.declared.native.Native.{Native}
use Rattle.js_evaluation.specs.State.{RunState, Does, AfterValue}
use Rattle.js_evaluation.specs.Handed.{argument}
use Rattle.js_evaluation.specs.Conversions.{Call, to_primitive, primitive_by}
use Rattle.js_evaluation.specs.Natives as natives
use Rattle.js_evaluation.specs.Natives.{tested, is_kept, methods_for, settled, primitive_or_kept}
use Rattle.js_evaluation.specs.NativeTable.{conversion_at}
use Rattle.js_frames.specs.declared.wanted.Wanted.TheVariants as wanted
use Rattle.js_evaluation.specs.Parts.{calls}
use Rattle.heap_steps.specs.declared.halt.Halt.{Halt}
use Rattle.js_machine.specs.declared.machine.Machine.{Machine}
use Rattle.js_machine.specs.declared.now.Now.{Now}
use Rattle.js_machine.specs.Moves.{Leads, Moves, at, inner, run_state}
use Rattle.js_machine.proofs.Steps.{with_heap, works_then, works_stops}
use Rattle.js_native_calls.specs.declared.readying.Readied.TheVariants as readied
use Rattle.js_native_calls.specs.Calls.{converted, converted_from, native_done}
use Rattle.js_native_calls.specs.Readying.{Readies}
use Rattle.js_native_calls.proofs.Grouping.{first_then, grouped}
use Rattle.js_native_calls.proofs.Steps.{moves_as}

-- an object that isn't kept is asked by its methods
asked : (call : Call) (c : Conversion) (v : Value) (place : Place) (id : ObjectId) (s : RunState) → v ≡ value.Object id → is_kept s.heap c v ≡ false
    → (after : AfterValue) → primitive_or_kept call c v place after s ≡ (primitive_by call (methods_for c) id place >>= (λ p. settled c p place)) after s
asked call c v place id s e kept after =
    ap (λ (b : Bool). (if b then pure v else to_primitive call (methods_for c) v place >>= (λ p. settled c p place)) after s) kept
    ∙ ap (λ w. (to_primitive call (methods_for c) w place >>= (λ p. settled c p place)) after s) e

module _ (m : Machine) (n : Native) (done handed : List Value) (place : Place) (left : ℕ) (r : Result Now Halt) where
  -- none is left
  pub none_left : (m' : Machine) → left ≡ 0 → Moves (at m native_done n done handed place) m r m' → Moves (at m converted_from n left done handed place) m r m'
  none_left m' e k = subst (λ (l : ℕ). Moves (at m converted_from n l done handed place) m r m') (sym e) k

  module _ (less : ℕ) (some : left ≡ suc less) (h : HeapView) where
    abbrev c : Conversion
    c = conversion_at n (length done)

    abbrev v : Value
    v = argument (length done) handed

    abbrev behind : Value → Does Value
    behind w = at m converted_from n less (done ++ w ∷ []) handed place

    next_of : (m' : Machine) → Moves (natives.converted (calls (inner m)) n c v place >>= behind) m r m' → Moves (at m converted_from n left done handed place) m r m'
    next_of m' k = subst (λ (l : ℕ). Moves (at m converted_from n l done handed place) m r m') (sym some) k

    -- the next stops
    pub next_stops : (e : Halt) → IsErrAnd r (λ x. x ≡ e) → Readies (calls (inner m)) n (conversion_at n (length done)) (argument (length done) handed) place m.state.heap (Err e) h
        → Moves (at m converted_from n left done handed place) m r (with_heap m h)
    next_stops e i w = next_of (with_heap m h) (works_stops (natives.converted (calls (inner m)) n c v place) behind m h r e i w)

    -- the next has a value
    pub next_value : (m' : Machine) (w : Value) (now_done : List Value) → Readies (calls (inner m)) n (conversion_at n (length done)) (argument (length done) handed) place m.state.heap (Ok (readied.Value w)) h
        → now_done ≡ done ++ w ∷ [] → Moves (at m converted_from n less now_done handed place) (with_heap m h) r m' → Moves (at m converted_from n left done handed place) m r m'
    next_value m' w now_done t pushed k =
        next_of m' (works_then (natives.converted (calls (inner m)) n c v place) behind m h w t
        (subst (λ (d : List Value). Moves (at m converted_from n less d handed place) (with_heap m h) r m') pushed k))

    -- the next is an object that is asked
    pub next_asked : (m' : Machine) (id : ObjectId) → Readies (calls (inner m)) n (conversion_at n (length done)) (argument (length done) handed) place m.state.heap (Ok (readied.Asked id)) h
        → Leads (at m converted (methods_for (conversion_at n (length done))) id place (wanted.Handed n less done handed place)) (with_heap m h) r m'
        → Moves (at m converted_from n left done handed place) m r m'
    next_asked m' id t k =
        let by_methods = grouped (primitive_by (calls (inner m)) (methods_for c) id place) (λ p. settled c p place) behind (with_heap m h) r m' k in
        next_of m' (first_then (tested n c v place) (λ _. primitive_or_kept (calls (inner m)) c v place) behind m r m' h tt t.2
        (moves_as (primitive_or_kept (calls (inner m)) c v place >>= behind) (with_heap m h)
        (primitive_by (calls (inner m)) (methods_for c) id place >>= (λ p. settled c p place) >>= behind) r m'
        (λ after. asked (calls (inner m)) c v place id (run_state (with_heap m h).state) t.0 t.1 (onward behind after)) by_methods))
