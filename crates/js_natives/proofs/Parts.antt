-- Works of natives, by the values that they take.
use Rattle.std.proofs.Common.{◌≡◌, ℕ, List, [], ◌∷◌, None, Some, Result, subst, sym, ap, refl}
use Rattle.std.specs.Prelude.{ℤ}
use Rattle.js_tree.specs.declared.place.Place.{Place}
use Rattle.heap_values.specs.declared.ids.ObjectId.{ObjectId}
use Rattle.heap_values.specs.declared.value.Value.{Value}
use Rattle.heap_values.specs.declared.value.Value.TheVariants as value
use Rattle.heap_values.specs.Views.{HeapView}
use Rattle.object_heap.specs.Heap.{object_at, own_found_in, own_keys_in}
use Rattle.js_evaluation.specs.State.{Does}
use Rattle.js_evaluation.specs.Objects.{is_there}
use Rattle.js_evaluation.specs.NativeWork.{array_made, array_of, gives_texts, has_own, keys_value}
use Rattle.heap_steps.specs.declared.halt.Halt.{Halt}
use Rattle.heap_steps.specs.Works.{Works}
use Rattle.heap_steps.proofs.Chains.{as_part}
use Rattle.js_natives.specs.Given.{length_in, sized_given}

-- a value that is no number alone
made_of_others : (vs : List Value) (place : Place) → None ≡ length_in vs → array_made vs place ≡ array_of vs place
made_of_others [] place e = refl
made_of_others (value.Undefined ∷ vs) place e = refl
made_of_others (value.Null ∷ vs) place e = refl
made_of_others (value.Bool b ∷ vs) place e = refl
made_of_others (value.Text t ∷ vs) place e = refl
made_of_others (value.Object id ∷ vs) place e = refl
made_of_others (value.Number n ∷ v ∷ vs) place e = refl
made_of_others (value.Number n ∷ []) place e = cc

-- a number alone
made_by_length : (vs : List Value) (n : ℤ) (place : Place) → Some n ≡ length_in vs → array_made vs place ≡ sized_given n place
made_by_length (value.Number k ∷ []) n place e = let same : n ≡ k = cc in ap (λ l. sized_given l place) (sym same)
made_by_length [] n place e = cc
made_by_length (value.Undefined ∷ vs) n place e = cc
made_by_length (value.Null ∷ vs) n place e = cc
made_by_length (value.Bool b ∷ vs) n place e = cc
made_by_length (value.Text t ∷ vs) n place e = cc
made_by_length (value.Object id ∷ vs) n place e = cc
made_by_length (value.Number k ∷ v ∷ vs) n place e = cc

module _ (h h' : HeapView) (r : Result Value Halt) (place : Place) where
  pub others_work : (vs : List Value) → None ≡ length_in vs → Works (array_of vs place) h r h' → Works (array_made vs place) h r h'
  others_work vs e w = subst (λ (part : Does Value). Works part h r h') (sym (made_of_others vs place e)) w

  pub length_works : (vs : List Value) (n : ℤ) → Some n ≡ length_in vs → Works (sized_given n place) h r h' → Works (array_made vs place) h r h'
  length_works vs n e w = subst (λ (part : Does Value). Works part h r h') (sym (made_by_length vs n place e)) w

  pub keys_work : (id : ObjectId) → Works (gives_texts (own_keys_in (object_at h id)) place) h r h' → Works (keys_value (value.Object id) place) h r h'
  keys_work id w = as_part {q = gives_texts (own_keys_in (object_at h id)) place} r (λ after fuel beside. refl) w

  pub own_work : (id : ObjectId) (name : List ℕ) → Works (is_there (own_found_in (object_at h id) name) place) h r h' → Works (has_own (value.Object id) name place) h r h'
  own_work id name w = as_part {q = is_there (own_found_in (object_at h id) name) place} r (λ after fuel beside. refl) w
