-- The alerts that are kept, one by one and all at once.
use Rattle.std.proofs.Common.{◌≡◌, ℕ, ◌<◌, ◌≤◌, refl, ap, sym, ◌∙◌, List, [], ◌∷◌, ◌++◌, length, take, Bool, true, false, if◌then◌else◌, arith, length-append}
use Rattle.std.specs.Prelude.{map, nat_lt, min}
use Rattle.std.proofs.lemmas.Bool.{ltb-true, ltb-false}
use Rattle.std.proofs.lemmas.List.{length-map, length-take, map-append, take_all, take-append-le}
use Rattle.js_host.specs.Seen.{with_alert, kept_alerts}
use Rattle.js_host.specs.declared.limits.TheConstants.{MOST_ALERTS, MOST_UNITS}

-- of a list, the first n, each changed by f
abbrev kept : {A B : Type 0} → (A → B) → ℕ → List A → List B
kept f n all = map f (take n all)

length-kept : {A B : Type 0} (f : A → B) (n : ℕ) (all : List A) → length (kept f n all) ≡ min n (length all)
length-kept f n all = length-map (take n all) f ∙ length-take n all

-- one more where there is room, and else none
kept_by : {A B : Type 0} (f : A → B) (n : ℕ) (all : List A) (one : A) (b : Bool) → nat_lt (length (kept f n all)) n ≡ b
    → (if b then kept f n all ++ f one ∷ [] else kept f n all) ≡ kept f n (all ++ one ∷ [])
kept_by f n all one true e =
    let room : min n (length all) < n = rw length-kept at (ltb-true _ _ e) in
    let here : length all ≤ n = omega arith in
    let longer : length (all ++ one ∷ []) ≤ n = rw (length-append all (one ∷ [])) (omega arith) in
    ap (λ xs. map f xs ++ f one ∷ []) (take_all n all here) ∙ sym (map-append f all (one ∷ []))
    ∙ ap (map f) (sym (take_all n (all ++ one ∷ []) longer))
kept_by f n all one false e =
    let full : n ≤ min n (length all) = rw length-kept at (ltb-false _ _ e) in
    ap (map f) (sym (take-append-le n all (one ∷ []) (omega arith)))

pub with_alert-kept : (all : List (List ℕ)) (text : List ℕ)
    → with_alert (kept_alerts all) text ≡ kept_alerts (all ++ text ∷ [])
with_alert-kept all text =
    kept_by (take MOST_UNITS) MOST_ALERTS all text (nat_lt (length (kept_alerts all)) MOST_ALERTS) refl
