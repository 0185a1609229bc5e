-- How old a question in flight grows.
use Rattle.std.proofs.Common.{◌≡◌, ℕ, zero, suc, ◌-◌, ◌*◌, ◌^◌, ◌<◌, ◌≤◌, List, [], ◌∷◌, ◌++◌, arith, pow_mono}
use Rattle.std.specs.List.{All}
use Rattle.std.proofs.lemmas.List.Elements.{All-push, All-same, All-weaker}
use Rattle.std.proofs.lemmas.Nat.{mul-le}
use Rattle.poll_log.specs.declared.flight.Flight.{Flight}
use Rattle.poll_log.specs.declared.question.Question.{Question}
use Rattle.poll_log.specs.declared.terms.Terms.{Terms}
use Rattle.poll_log.specs.Sendings.{AreTerms, limit}

-- there is an age below the limit
pub lasts : (t : Terms) → 0 < t.wait → 0 < t.tries → 0 < limit t
lasts t w r =
    let power : 2 ^ 1 ≤ 2 ^ t.tries = pow_mono {i = 1} {j = t.tries} (omega arith) in
    let least : 1 * 1 ≤ t.wait * (2 ^ t.tries - 1) = mul-le 1 1 t.wait (2 ^ t.tries - 1) (omega arith) (omega arith) in
    omega arith

-- so long terms have a wait, and a sending
wait_from : (w n : ℕ) → 0 < w * n → 0 < w
wait_from zero n p = absurd (omega arith)
wait_from (suc w) n p = omega arith

tries_from : (w n : ℕ) → 0 < w * (2 ^ n - 1) → 0 < n
tries_from w zero p = absurd (omega arith)
tries_from w (suc n) p = omega arith

pub has_wait : (t : Terms) → 0 < limit t → 0 < t.wait
has_wait t p = wait_from t.wait (2 ^ t.tries - 1) p

pub has_tries : (t : Terms) → 0 < limit t → 0 < t.tries
has_tries t p = tries_from t.wait t.tries p

-- no age up to the limit is too large for its type
pub limit_low : (t : Terms) → AreTerms t → limit t < 2 ^ 31
limit_low t terms =
    let power : 2 ^ t.tries ≤ 2 ^ 8 = pow_mono {i = t.tries} {j = 8} (omega arith) in
    let most : t.wait * (2 ^ t.tries - 1) ≤ 1000 * 255 = mul-le t.wait (2 ^ t.tries - 1) 1000 255 (omega arith) (omega arith) in
    omega arith

pub young_low : (t : Terms) → AreTerms t → (flights : List Flight) → All (λ f. f.age < limit t) flights → All (λ f. f.age < 2 ^ 31) flights
young_low t terms flights young = All-weaker (λ f. f.age < limit t) (λ f. f.age < 2 ^ 31) (λ f low. below f.age (limit t) (2 ^ 31) low (limit_low t terms)) flights young
  where
    below : (x y z : ℕ) → x < y → y < z → x < z
    below x y z p q = omega arith

-- a question that is asked is young
pub asked_young : (t : Terms) → AreTerms t → (flights : List Flight) → All (λ f. f.age < limit t) flights → (q : Question) (asked : List Flight) → asked ≡ flights ++ record { question = q; age = 0 } ∷ [] → All (λ f. f.age < limit t) asked
asked_young t terms flights young q asked e =
    let new : Flight = record { question = q; age = 0 } in
    All-same (λ f. f.age < limit t) asked (flights ++ new ∷ []) e
    (All-push (λ f. f.age < limit t) flights new young (lasts t terms.waits terms.tried))
