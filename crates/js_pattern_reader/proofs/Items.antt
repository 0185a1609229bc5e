-- Items of a class, turn by turn.
use Rattle.std.proofs.Common.{◌≡◌, ℕ, zero, suc, ◌-◌, ◌<◌, List, [], ◌∷◌, ◌++◌, Some, None, Result, Ok, Err, refl, sym, ap, ◌∙◌, arith}
use Rattle.std.proofs.lemmas.List.{append-nil, append_assoc}
use Rattle.js_pattern.specs.declared.class.ClassItem.{ClassItem}
use Rattle.js_pattern_reader.specs.declared.answer.PatternAnswer.{PatternAnswer}
use Rattle.js_pattern_reader.specs.declared.answer.PatternAnswer.TheVariants as answer
use Rattle.js_pattern_reader.specs.Answers.{Fails, ◌>>=◌}
use Rattle.js_pattern_reader.specs.Classes.{class_end, class_item, items_by, items_from}

-- what refuses a part refuses the whole
pub fails_too : {Y W : Type 0} (read : Result Y PatternAnswer) (whole : Result W PatternAnswer) (e : PatternAnswer)
    → ((f : PatternAnswer) → read ≡ Err f → whole ≡ Err f) → Fails e read → Fails e whole
fails_too read whole answer.Bad h g = h answer.Bad g
fails_too read whole answer.Unsupported h g = h answer.Unsupported g
fails_too read whole answer.Memory h g = tt

-- what was read, and the items behind it
abbrev pub put_before : List ClassItem → Result (List ClassItem × List ℕ) PatternAnswer → Result (List ClassItem × List ℕ) PatternAnswer
put_before is r = r >>= λ js. Ok (is ++ js.0, js.1)

pub put_none : (r : Result (List ClassItem × List ℕ) PatternAnswer) → r ≡ put_before [] r
put_none (Ok x) = refl
put_none (Err e) = refl

one_more : (is : List ClassItem) (i : ClassItem) (r : Result (List ClassItem × List ℕ) PatternAnswer)
    → put_before is (r >>= λ js. Ok (i ∷ js.0, js.1)) ≡ put_before (is ++ i ∷ []) r
one_more is i (Ok x) = ap (λ (js : List ClassItem). Ok (js, x.1)) (sym (append_assoc is (i ∷ []) (x.0)))
one_more is i (Err e) = refl

module _ (n : ℕ) (is : List ClassItem) (us : List ℕ) (some : 0 < n) where
  pub items_end : (vs : List ℕ) → class_end us ≡ Some vs → put_before is (items_from n us) ≡ Ok (is, vs)
  items_end vs here = by n some
    where
      by : (m : ℕ) → 0 < m → put_before is (items_from m us) ≡ Ok (is, vs)
      by zero l = absurd (omega arith)
      by (suc m) l = ap (λ o. put_before is (items_by us (items_from m) o)) here ∙ ap (λ (js : List ClassItem). Ok (js, vs)) (append-nil is)

  pub items_refused : class_end us ≡ None → (e : PatternAnswer) → class_item us ≡ Err e → put_before is (items_from n us) ≡ Err e
  items_refused none e h = by n some
    where
      by : (m : ℕ) → 0 < m → put_before is (items_from m us) ≡ Err e
      by zero l = absurd (omega arith)
      by (suc m) l =
          ap (λ o. put_before is (items_by us (items_from m) o)) none
          ∙ ap (λ r. put_before is (r >>= λ i. items_from m i.1 >>= λ js. Ok (i.0 ∷ js.0, js.1))) h

  pub items_more : class_end us ≡ None → (i : ClassItem) (vs : List ℕ) → class_item us ≡ Ok (i, vs)
      → put_before is (items_from n us) ≡ put_before (is ++ i ∷ []) (items_from (n - 1) vs)
  items_more none i vs h = by n some
    where
      by : (m : ℕ) → 0 < m → put_before is (items_from m us) ≡ put_before (is ++ i ∷ []) (items_from (m - 1) vs)
      by zero l = absurd (omega arith)
      by (suc m) l =
          let same : m ≡ suc m - 1 = omega arith in
          ap (λ o. put_before is (items_by us (items_from m) o)) none
          ∙ ap (λ r. put_before is (r >>= λ j. items_from m j.1 >>= λ js. Ok (j.0 ∷ js.0, js.1))) h
          ∙ one_more is i (items_from m vs)
          ∙ ap (λ k. put_before (is ++ i ∷ []) (items_from k vs)) same
