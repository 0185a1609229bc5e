-- Values whose texts are counted, one after another, and pieces within a text.
use Rattle.std.proofs.Common.{◌≡◌, ℕ, List, [], ◌∷◌, length, Option, Some, false, Result, Ok, Err, refl}
use Rattle.std.specs.Prelude.{◌==◌}
use Rattle.std.specs.Result.{IsErrAnd}
use Rattle.js_tree.specs.declared.place.Place.{Place}
use Rattle.js_pattern.specs.declared.span.Span.{Span}
use Rattle.js_pattern.specs.Search.{Found}
use Rattle.pattern_builtins.specs.Pieces.{pieces_of}
use Rattle.heap_values.specs.declared.ids.ObjectId.{ObjectId}
use Rattle.heap_values.specs.declared.value.Value.{Value}
use Rattle.heap_values.specs.declared.value.Value.TheVariants as value
use Rattle.heap_values.specs.Views.{HeapView}
use Rattle.heap_steps.specs.declared.halt.Halt.{Halt}
use Rattle.heap_steps.specs.Works.{Works}
use Rattle.heap_steps.proofs.Chains.{chained, stops}
use Rattle.js_evaluation.specs.Patterns.{spend_value, spend_values, gives_matches, gives_pieces, match_value, with_match}

module _ (p : Place) (v : Value) (vs : List Value) (h h' : HeapView) (r : Result (Unit {0}) Halt) where
  -- the first value, and then those behind it
  pub spend_then : (h'' : HeapView) → Works (spend_value v p) h (Ok tt) h' → Works (spend_values vs p) h' r h'' → Works (spend_values (v ∷ vs) p) h r h''
  spend_then h'' one two = chained (spend_value v p) (λ _. spend_values vs p) h h' tt r h'' one two

  pub spend_stops : (e : Halt) → IsErrAnd r (λ y. y ≡ e) → Works (spend_value v p) h (Err e) h' → Works (spend_values (v ∷ vs) p) h r h'
  spend_stops e i one = stops (spend_value v p) (λ _. spend_values vs p) h h' r e i one

-- there are pieces
pub gives_some : (text : List ℕ) (ps : List (Option Span)) (place : Place) (h h' : HeapView) (r : Result Value Halt) → false ≡ (length ps == 0)
    → Works (gives_pieces text ps place) h r h' → Works (gives_matches text ps place) h r h'
gives_some text [] place h h' r e w = cc
gives_some text (p ∷ ps) place h h' r e w = w

-- a value that is no array of a match
pub no_array : (v : Value) (text : List ℕ) (m : Found) (place : Place) (h : HeapView) → ((id : ObjectId) → v ≡ value.Object id → ⊥)
    → Works (with_match v text m place) h (Ok v) h
no_array value.Undefined text m place h n = record { is = λ after fuel beside. refl }
no_array value.Null text m place h n = record { is = λ after fuel beside. refl }
no_array (value.Bool b) text m place h n = record { is = λ after fuel beside. refl }
no_array (value.Number k) text m place h n = record { is = λ after fuel beside. refl }
no_array (value.Text t) text m place h n = record { is = λ after fuel beside. refl }
no_array (value.Object id) text m place h n = absurd (n id refl)

-- a match is given as an array, and then that has its place and the text
module _ (text : List ℕ) (m : Found) (place : Place) (h h' : HeapView) (r : Result Value Halt) where
  pub array_stops : (e : Halt) → IsErrAnd r (λ x. x ≡ e) → Works (gives_pieces text (pieces_of m) place) h (Err e) h' → Works (match_value text (Some m) place) h r h'
  array_stops e i w = stops (gives_pieces text (pieces_of m) place) (λ array. with_match array text m place) h h' r e i w

  pub array_then : (v : Value) (h'' : HeapView) → Works (gives_pieces text (pieces_of m) place) h (Ok v) h' → Works (with_match v text m place) h' r h''
      → Works (match_value text (Some m) place) h r h''
  array_then v h'' w k = chained (gives_pieces text (pieces_of m) place) (λ array. with_match array text m place) h h' v r h'' w k
