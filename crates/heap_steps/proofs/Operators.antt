-- Operators on primitive values that are refused.
use Rattle.std.proofs.Common.{◌≡◌, ◌⊎◌, inl, inr, ℕ, List, Err, Result, ap, refl}
use Rattle.js_tree.specs.declared.place.Place.{Place}
use Rattle.heap_values.specs.declared.value.Value.{Value}
use Rattle.heap_values.specs.declared.value.Value.TheVariants as value
use Rattle.heap_values.specs.Views.{HeapView}
use Rattle.js_convert.specs.declared.answer.ConvertAnswer.{ConvertAnswer}
use Rattle.js_convert.specs.declared.answer.ConvertAnswer.TheVariants as convert
use Rattle.run_trees.specs.Runs.{pure}
use Rattle.js_evaluation.specs.Conversions.{Call, operated}
use Rattle.js_evaluation.specs.Handed.{gives}
use Rattle.heap_steps.specs.Works.{Works, state_with, operator_refusal}

-- the run ends, but for want of memory
pub operator_refused : (call : Call) (h : HeapView) (r : Result Value ConvertAnswer) (e : ConvertAnswer) (place : Place)
    → ((e ≡ convert.Memory) ⊎ (r ≡ Err e)) → Works (operated call r place) h (Err (operator_refusal e place)) h
operator_refused call h r convert.NumberRange place (inr p) = record { is = λ after fuel beside. ap (λ x. operated call x place after (state_with h fuel beside)) p }
operator_refused call h r convert.Fraction place (inr p) = record { is = λ after fuel beside. ap (λ x. operated call x place after (state_with h fuel beside)) p }
operator_refused call h r convert.NotANumber place (inr p) = record { is = λ after fuel beside. ap (λ x. operated call x place after (state_with h fuel beside)) p }
operator_refused call h r convert.DivisionByZero place (inr p) = record { is = λ after fuel beside. ap (λ x. operated call x place after (state_with h fuel beside)) p }
operator_refused call h r convert.Memory place c = record { is = tt }
operator_refused call h r convert.NumberRange place (inl p) = cc
operator_refused call h r convert.Fraction place (inl p) = cc
operator_refused call h r convert.NotANumber place (inl p) = cc
operator_refused call h r convert.DivisionByZero place (inl p) = cc

-- only a text is counted
pub uncounted : (v : Value) (place : Place) → ((t : List ℕ) → v ≡ value.Text t → ⊥) → gives v place ≡ pure v
uncounted (value.Text t) place n = absurd (n t refl)
uncounted value.Undefined place n = refl
uncounted value.Null place n = refl
uncounted (value.Bool b) place n = refl
uncounted (value.Number k) place n = refl
uncounted (value.Object id) place n = refl
