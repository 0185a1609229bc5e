-- Function expressions by the functions of a script.
use Rattle.std.proofs.Common.{◌≡◌, ℕ, List, length, true, false, Option, Some, None, slice_get, ap, sym, ◌∙◌, refl}
use Rattle.std.specs.Prelude.{is_some, map, option_map}
use Rattle.std.proofs.lemmas.Option.{slice_get-map, slice_get_past, slice_get_read}
use Rattle.std.proofs.lemmas.Bool.{ltb-true, ltb-false}
use Rattle.std.specs.Slice.{IsItemAt}
use Rattle.std.specs.Borrow.{Bor}
use Rattle.js_tree.specs.declared.place.Place.{Place}
use Rattle.js_tree.specs.declared.bound.BoundName.{BoundName}
use Rattle.js_tree.specs.declared.expression.Function.{Function}
use Rattle.js_tree.specs.Tree.{FunctionTree, Statements, a_function, statements_of}
use Rattle.js_tree.specs.View.{function_of}
use Rattle.heap_values.specs.declared.value.Value.{Value}
use Rattle.js_evaluation.specs.State.{Does}
use Rattle.js_evaluation.specs.Objects.{Context, closure, arity_of}
use Rattle.js_evaluation.specs.Expressions as expression
use Rattle.js_evaluation.specs.Parts.{Within}
use Rattle.js_evaluation.specs.Scoping.{by_slots}
use Rattle.js_primary.specs.Functions.{arity_in, has_name, tree_in, named_function}

-- the function of a number, as the code finds it
pub found : (fs : List Function) (i : ℕ) (r : Option (Bor Function)) → IsItemAt fs i r → slice_get (map function_of fs) i ≡ tree_in r
found fs i None h = slice_get-map function_of fs i ∙ ap (option_map function_of) (slice_get_past fs i (ltb-false i (length fs) (sym h.0)))
found fs i (Some x) h = slice_get-map function_of fs i ∙ ap (option_map function_of) (slice_get_read fs (length fs) i x.now refl (ltb-true i (length fs) (sym h.0)) h.1)

pub arity_is : (f : Option (Bor Function)) → arity_of (tree_in f) ≡ arity_in f
arity_is None = refl
arity_is (Some f) = refl

module _ (functions : List FunctionTree) (go : Within) (cx : Context) where
  abbrev value_of : Place → ℕ → Option FunctionTree → Does Value
  value_of = expression.function_value_of by_slots functions go cx

  plain_if : (place : Place) (number : ℕ) (own : Option BoundName) (ps : List BoundName) (names : List (List ℕ)) (body : Statements)
      → is_some own ≡ false → value_of place number (Some (a_function own ps names body)) ≡ closure number (length ps) cx.scope place
  plain_if place number None ps names body h = refl
  plain_if place number (Some x) ps names body h = cc

  plain_of : (place : Place) (number : ℕ) (f : Option (Bor Function)) → has_name f ≡ false → value_of place number (tree_in f) ≡ closure number (arity_in f) cx.scope place
  plain_of place number None h = refl
  plain_of place number (Some f) h = plain_if place number f.now.name f.now.parameters f.now.names (statements_of f.now.body) h

  named_if : (place : Place) (number arity : ℕ) (own : Option BoundName) (ps : List BoundName) (names : List (List ℕ)) (body : Statements)
      → arity_of (slice_get functions number) ≡ arity → is_some own ≡ true → value_of place number (Some (a_function own ps names body)) ≡ named_function functions go cx number arity place
  named_if place number arity None ps names body a h = cc
  named_if place number arity (Some x) ps names body a h = ap (λ n. named_function functions go cx number n place) a

  named_of : (place : Place) (number arity : ℕ) (f : Option (Bor Function)) → arity_of (slice_get functions number) ≡ arity → has_name f ≡ true
      → value_of place number (tree_in f) ≡ named_function functions go cx number arity place
  named_of place number arity None a h = cc
  named_of place number arity (Some f) a h = named_if place number arity f.now.name f.now.parameters f.now.names (statements_of f.now.body) a h

  -- a function without a name of its own
  pub plain_function : (place : Place) (number : ℕ) (f : Option (Bor Function)) → slice_get functions number ≡ tree_in f → has_name f ≡ false
      → expression.function_value by_slots functions go cx place number ≡ closure number (arity_in f) cx.scope place
  plain_function place number f e h = ap (value_of place number) e ∙ plain_of place number f h

  -- one with such a name
  pub own_function : (place : Place) (number : ℕ) (f : Option (Bor Function)) → slice_get functions number ≡ tree_in f → has_name f ≡ true
      → expression.function_value by_slots functions go cx place number ≡ named_function functions go cx number (arity_in f) place
  own_function place number f e h = ap (value_of place number) e ∙ named_of place number (arity_in f) f (ap arity_of e ∙ arity_is f) h
