-- Values that are objects, and those that aren't.
use Rattle.std.proofs.Common.{◌≡◌, ℕ, List, Bool, true, false, Some, None, codes, refl, ap, sym, ◌∙◌}
use Rattle.js_tree.specs.declared.place.Place.{Place}
use Rattle.heap_values.specs.declared.ids.ObjectId.{ObjectId}
use Rattle.heap_values.specs.declared.value.Value.{Value}
use Rattle.heap_values.specs.declared.value.Value.TheVariants as value
use Rattle.heap_values.specs.Views.{HeapView}
use Rattle.js_convert.specs.Operators.{is_object}
use Rattle.js_convert.specs.Texts.{text_of}
use Rattle.run_trees.specs.Runs.{pure}
use Rattle.js_evaluation.specs.State.{throw_type_error}
use Rattle.js_evaluation.specs.Objects.{is_callable}
use Rattle.js_evaluation.specs.Conversions as convert
use Rattle.js_evaluation.specs.Conversions.{Call}
use Rattle.js_evaluation.specs.Natives.{text_or, element_text, joined_value}
use Rattle.heap_steps.specs.Works.{called_if, called_object}
use Rattle.js_native_calls.specs.Calls.{name_or_error, plain_text}

pub not_object : (v : Value) → ((id : ObjectId) → v ≡ value.Object id → ⊥) → is_object v ≡ false
not_object value.Undefined n = refl
not_object value.Null n = refl
not_object (value.Bool b) n = refl
not_object (value.Number k) n = refl
not_object (value.Text t) n = refl
not_object (value.Object id) n = absurd (n id refl)

-- what is no object is primitive already
pub is_primitive : (call : Call) (methods : List (List ℕ)) (v : Value) (place : Place) → ((id : ObjectId) → v ≡ value.Object id → ⊥) → convert.to_primitive call methods v place ≡ pure v
is_primitive call methods value.Undefined place n = refl
is_primitive call methods value.Null place n = refl
is_primitive call methods (value.Bool b) place n = refl
is_primitive call methods (value.Number k) place n = refl
is_primitive call methods (value.Text t) place n = refl
is_primitive call methods (value.Object id) place n = absurd (n id refl)

pub text_of_message : (call : Call) (otherwise : List ℕ) (v : Value) (place : Place) → ((id : ObjectId) → v ≡ value.Object id → ⊥) → (v ≡ value.Undefined → ⊥)
    → text_or call otherwise v place ≡ pure (text_of v)
text_of_message call otherwise value.Undefined place n m = absurd (m refl)
text_of_message call otherwise value.Null place n m = refl
text_of_message call otherwise (value.Bool b) place n m = refl
text_of_message call otherwise (value.Number k) place n m = refl
text_of_message call otherwise (value.Text t) place n m = refl
text_of_message call otherwise (value.Object id) place n m = absurd (n id refl)

-- the name of an error that is no object
pub text_of_name : (call : Call) (v : Value) (place : Place) → ((id : ObjectId) → v ≡ value.Object id → ⊥) → text_or call (codes "Error") v place ≡ pure (text_of (name_or_error v))
text_of_name call value.Undefined place n = refl
text_of_name call value.Null place n = refl
text_of_name call (value.Bool b) place n = refl
text_of_name call (value.Number k) place n = refl
text_of_name call (value.Text t) place n = refl
text_of_name call (value.Object id) place n = absurd (n id refl)

-- the text of an element that is no object
pub text_of_element : (call : Call) (v : Value) (place : Place) → ((id : ObjectId) → v ≡ value.Object id → ⊥) → element_text call v place ≡ pure (plain_text v)
text_of_element call value.Undefined place n = refl
text_of_element call value.Null place n = refl
text_of_element call (value.Bool b) place n = refl
text_of_element call (value.Number k) place n = refl
text_of_element call (value.Text t) place n = refl
text_of_element call (value.Object id) place n = absurd (n id refl)

-- what is no object has no elements
pub joined_none : (call : Call) (v : Value) (separator : List ℕ) (place : Place) → ((id : ObjectId) → v ≡ value.Object id → ⊥)
    → joined_value call v separator place ≡ pure value.Undefined
joined_none call value.Undefined separator place n = refl
joined_none call value.Null separator place n = refl
joined_none call (value.Bool b) separator place n = refl
joined_none call (value.Number k) separator place n = refl
joined_none call (value.Text t) separator place n = refl
joined_none call (value.Object id) separator place n = absurd (n id refl)

-- ---- calls

called_is : (b : Bool) (id f : ObjectId) → called_if b id ≡ Some f → (id ≡ f) × (b ≡ true)
called_is true id f h = (cc, refl)
called_is false id f h = cc

-- a function that may be called
pub called_some : (h : HeapView) (v : Value) (f : ObjectId) → called_object h v ≡ Some f → (v ≡ value.Object f) × (is_callable h (value.Object f) ≡ true)
called_some h value.Undefined f e = cc
called_some h value.Null f e = cc
called_some h (value.Bool b) f e = cc
called_some h (value.Number k) f e = cc
called_some h (value.Text t) f e = cc
called_some h (value.Object id) f e = let k = called_is (is_callable h (value.Object id)) id f e in (ap value.Object k.0, ap (λ i. is_callable h (value.Object i)) (sym k.0) ∙ k.1)

not_called : (b : Bool) (id : ObjectId) → called_if b id ≡ None → b ≡ false
not_called true id h = cc
not_called false id h = refl

-- what can't be called
pub called_none : (h : HeapView) (v : Value) → called_object h v ≡ None → is_callable h v ≡ false
called_none h value.Undefined e = refl
called_none h value.Null e = refl
called_none h (value.Bool b) e = refl
called_none h (value.Number k) e = refl
called_none h (value.Text t) e = refl
called_none h (value.Object id) e = not_called (is_callable h (value.Object id)) id e

pub called_true : (h : HeapView) (v : Value) (f : ObjectId) → called_object h v ≡ Some f → is_callable h v ≡ true
called_true h v f e = let k = called_some h v f e in ap (is_callable h) k.0 ∙ k.1

module _ (call : Call) (this : Value) (arguments : List Value) (place : Place) where
  pub called_value : (h : HeapView) (v : Value) (f : ObjectId) → called_object h v ≡ Some f → convert.call_value_if call (is_callable h v) v this arguments place ≡ call f this arguments place
  called_value h v f e = let k = called_some h v f e in
      ap (λ w. convert.call_value_if call (is_callable h w) w this arguments place) k.0
      ∙ ap (λ b. convert.call_value_if call b (value.Object f) this arguments place) k.1

  uncalled_if : (called : Bool) (v : Value) → called ≡ false → convert.call_value_if call called v this arguments place ≡ throw_type_error (codes "not a function") place
  uncalled_if true v h = cc
  uncalled_if false value.Undefined h = refl
  uncalled_if false value.Null h = refl
  uncalled_if false (value.Bool b) h = refl
  uncalled_if false (value.Number k) h = refl
  uncalled_if false (value.Text t) h = refl
  uncalled_if false (value.Object id) h = refl

  pub uncalled_value : (h : HeapView) (v : Value) → called_object h v ≡ None → convert.call_value_if call (is_callable h v) v this arguments place ≡ throw_type_error (codes "not a function") place
  uncalled_value h v e = uncalled_if (is_callable h v) v (called_none h v e)
