-- Ports read from their digits.
use Rattle.std.proofs.Common.{◌≡◌, ℕ, ◌≤◌, ℤ, pos, List, ◌&&◌, true, cond, leb, Some, None, sym, ap, ◌∙◌, ⊎_elim}
use Rattle.std.proofs.lemmas.Bool.{cases_Bool, le-leb, and_from}
use Rattle.utf16_text.specs.Digits.{value_of}
use Rattle.whole_number.specs.Whole.{whole_or_none}
use Rattle.proxy_list.specs.Proxies.{are_port_digits, port_in}

-- a whole number from 0 is what it was made of
whole_is : (v : ℕ) (n : ℤ) (port : ℕ) → whole_or_none v ≡ Some n → n ≡ pos port → v ≡ port
whole_is v n port is small = ⊎_elim
    (λ fits.
    let made : Some (pos v) ≡ Some n = sym (ap (λ b. cond b (Some (pos v)) None) fits) ∙ is in
    let same : pos v ≡ n = cc in
    let both : pos v ≡ pos port = same ∙ small in
    cc)
    (λ large. absurd (let none : None ≡ Some n = sym (ap (λ b. cond b (Some (pos v)) None) large) ∙ is in cc))
    (cases_Bool (leb v 9007199254740991))

pub port_read : (digits : List ℕ) (n : ℤ) (port : ℕ) → are_port_digits digits ≡ true → whole_or_none (value_of 10 digits) ≡ Some n → n ≡ pos port → 1 ≤ port → port ≤ 65535 → Some port ≡ port_in digits
port_read digits n port are is small least most =
    let v = whole_is (value_of 10 digits) n port is small in
    let within = and_from (leb 1 port) (leb port 65535) (le-leb 1 port least) (le-leb port 65535 most) in
    sym (ap (λ b. cond (b && (leb 1 (value_of 10 digits) && leb (value_of 10 digits) 65535)) (Some (value_of 10 digits)) None) are
    ∙ ap (λ k. cond (leb 1 k && leb k 65535) (Some k) None) v
    ∙ ap (λ b. cond b (Some port) None) within)
