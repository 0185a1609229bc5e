-- The work of a method with a pattern, in its parts.
use Rattle.std.proofs.Common.{◌≡◌, ℕ, List, Bool, true, false, if◌then◌else◌, Option, Some, None, Result, refl, sym, subst, ap, ◌∙◌}
use Rattle.std.specs.Prelude.{ℤ}
use Rattle.js_tree.specs.declared.place.Place.{Place}
use Rattle.js_pattern_reader.specs.Literal.{Literal, is_global}
use Rattle.heap_values.specs.declared.ids.ObjectId.{ObjectId}
use Rattle.heap_values.specs.declared.value.Value.{Value}
use Rattle.heap_values.specs.declared.value.Value.TheVariants as value
use Rattle.heap_values.specs.Views.{HeapView}
use Rattle.js_convert.specs.Texts.{text_of}
use Rattle.run_trees.specs.Runs.{◌>>◌}
use Rattle.js_evaluation.specs.declared.native.PatternNative.{PatternNative}
use Rattle.js_evaluation.specs.declared.native.PatternNative.TheVariants as native
use Rattle.js_evaluation.specs.State.{Does, test_text}
use Rattle.js_evaluation.specs.Handed.{argument}
use Rattle.js_evaluation.specs.NativeWork.{literal_in}
use Rattle.js_evaluation.specs.Patterns as spec
use Rattle.heap_steps.specs.declared.halt.Halt.{Halt}
use Rattle.heap_steps.specs.Works.{Works}
use Rattle.js_machine.specs.declared.machine.State.{State}
use Rattle.js_machine.specs.Moves.{run_state}
use Rattle.js_machine.specs.Acts.{Acts}
use Rattle.js_pattern_natives.specs.Working.{pattern_place, text_place, pattern_in, with_both, without}
use Rattle.js_pattern_natives.proofs.States.{as_acts, on_heap, with_heap}

-- ---- `match`

module _ (id : ObjectId) (l : Literal) (place : Place) (text : List ℕ) (begin : ℤ) (s s' : State) (r : Result Value Halt) where
  pub match_all : true ≡ is_global l → Acts (spec.match_all id l place text) s r s' → Acts (spec.match id l place text begin) s r s'
  match_all e w = subst (λ (b : Bool). Acts (if b then spec.match_all id l place text else spec.exec id l place text begin) s r s') e w

  pub match_one : false ≡ is_global l → Acts (spec.exec id l place text begin) s r s' → Acts (spec.match id l place text begin) s r s'
  match_one e w = subst (λ (b : Bool). Acts (if b then spec.match_all id l place text else spec.exec id l place text begin) s r s') e w

-- ---- a value that is a pattern, and one that isn't

module _ (what : ObjectId → Literal → Does Value) (otherwise : Does Value) where
  no_pattern : (v : Value) (l : Option Literal) → None ≡ pattern_in v l → spec.on_pattern v l what otherwise ≡ otherwise
  no_pattern value.Undefined l e = refl
  no_pattern value.Null l e = refl
  no_pattern (value.Bool b) l e = refl
  no_pattern (value.Number n) l e = refl
  no_pattern (value.Text t) l e = refl
  no_pattern (value.Object id) None e = refl
  no_pattern (value.Object id) (Some l) e = cc

  a_pattern : (v : Value) (l : Option Literal) (p : ObjectId × Literal) → Some p ≡ pattern_in v l → spec.on_pattern v l what otherwise ≡ what p.0 p.1
  a_pattern value.Undefined l p e = cc
  a_pattern value.Null l p e = cc
  a_pattern (value.Bool b) l p e = cc
  a_pattern (value.Number n) l p e = cc
  a_pattern (value.Text t) l p e = cc
  a_pattern (value.Object id) None p e = cc
  a_pattern (value.Object id) (Some l) p e = let same : p ≡ (id, l) = cc in ap (λ (q : ObjectId × Literal). what q.0 q.1) (sym same)

-- ---- all of them

in_parts : (n : PatternNative) (vs : List Value) (begin : Value) (place : Place) → spec.pattern_work n vs begin place
    ≡ spec.with_pattern (argument (pattern_place n) vs) (argument (text_place n) vs) place (with_both vs begin place n) (without vs place n)
in_parts native.Exec vs begin place = refl
in_parts native.Test vs begin place = refl
in_parts native.Match vs begin place = refl
in_parts native.Search vs begin place = refl
in_parts native.Replace vs begin place = refl
in_parts native.Split vs begin place = refl

module _ (n : PatternNative) (vs : List Value) (begin : Value) (place : Place) (s : State) where
  abbrev pattern : Value
  pattern = argument (pattern_place n) vs

  abbrev text : List ℕ
  text = text_of (argument (text_place n) vs)

  abbrev what : ObjectId → Literal → Does Value
  what id l = spec.with_text (argument (text_place n) vs) place (with_both vs begin place n id l)

  same_pattern : (i : ℕ) (v : Value) (o : Option Literal) (p : Option (ObjectId × Literal)) → i ≡ pattern_place n → v ≡ argument i vs → o ≡ literal_in s.heap v
      → p ≡ pattern_in v o → p ≡ pattern_in pattern (literal_in s.heap pattern)
  same_pattern i v o p at_i is_v is_o e =
      let same : v ≡ pattern = is_v ∙ ap (λ (k : ℕ). argument k vs) at_i in
      e ∙ ap (λ (x : Option Literal). pattern_in v x) is_o ∙ ap (λ (x : Value). pattern_in x (literal_in s.heap x)) same

  -- the first value is no pattern
  pub works_without : (i : ℕ) (v : Value) (o : Option Literal) (h : HeapView) (r : Result Value Halt) → i ≡ pattern_place n → v ≡ argument i vs → o ≡ literal_in s.heap v
      → None ≡ pattern_in v o → Works (without vs place n) s.heap r h → Acts (spec.pattern_work n vs begin place) s r (with_heap s h)
  works_without i v o h r at_i is_v is_o e w = as_acts {q = without vs place n} r
      (λ after. ap (λ (p : Does Value). p after (run_state s)) (in_parts n vs begin place)
      ∙ ap (λ (p : Does Value). p after (run_state s)) (no_pattern what (without vs place n) pattern (literal_in s.heap pattern) (same_pattern i v o None at_i is_v is_o e)))
      (on_heap s r h w)

  -- it is one
  module _ (s' : State) (r : Result Value Halt) (id : ObjectId) where
    abbrev Both : Literal → List ℕ → Type 0
    Both l t = Acts (test_text t place >> with_both vs begin place n id l t) s r s'

    pub works_with : (i j : ℕ) (v w : Value) (o : Option Literal) (l copy : Literal) (t : List ℕ) → i ≡ pattern_place n → v ≡ argument i vs → o ≡ literal_in s.heap v
        → Some (id, l) ≡ pattern_in v o → copy ≡ l → j ≡ text_place n → w ≡ argument j vs → t ≡ text_of w → Both copy t → Acts (spec.pattern_work n vs begin place) s r s'
    works_with i j v w o l copy t at_i is_v is_o e is_l at_j is_w is_t k =
        let same : t ≡ text = is_t ∙ ap text_of (is_w ∙ ap (λ (x : ℕ). argument x vs) at_j) in
        as_acts {q = test_text text place >> with_both vs begin place n id l text} r
        (λ after. ap (λ (p : Does Value). p after (run_state s)) (in_parts n vs begin place)
        ∙ ap (λ (p : Does Value). p after (run_state s)) (a_pattern what (without vs place n) pattern (literal_in s.heap pattern) (id, l) (same_pattern i v o (Some (id, l)) at_i is_v is_o e)))
        (subst (λ (x : Literal). Both x text) is_l (subst (λ (x : List ℕ). Both copy x) same k))
