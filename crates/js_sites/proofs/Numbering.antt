-- What is made of a function by its number is made of the first of those from that number on.
use Rattle.std.proofs.Common.{◌≡◌, ℕ, zero, suc, ◌+◌, ◌-◌, ◌<◌, true, false, eqb, List, [], ◌∷◌, drop, refl, ap, arith, eq-eqb}
use Rattle.std.proofs.lemmas.Bool.{ne_eqb}
use Rattle.std.proofs.lemmas.List.{drop_all}
use Rattle.js_tree.specs.Tree.{FunctionTree}
use Rattle.js_sites.specs.Program.{function_sites, sites_from, first_sites}

-- a number before the first has no function
pub sites_from-below : (first : ℕ) (fs : List FunctionTree) (n : ℕ) → n < first → sites_from first fs n ≡ []
sites_from-below first [] n below = refl
sites_from-below first (f ∷ fs) n below =
    let other : eqb n first ≡ false = ne_eqb n first (λ same. omega arith) in
    rw other (sites_from-below (suc first) fs n (omega arith))

-- so many behind the first
pub sites_from-at : (first : ℕ) (fs : List FunctionTree) (n k : ℕ) → n ≡ first + k
    → first_sites n (drop k fs) ≡ sites_from first fs n
sites_from-at first [] n k e = ap (first_sites n) (drop_all k [] (omega arith))
sites_from-at first (f ∷ fs) n zero e =
    let same : eqb n first ≡ true = eq-eqb n first (omega arith) in
    let number : n + 1 ≡ suc first = omega arith in
    rw same (ap (λ m. function_sites (sites_from m fs) f) number)
sites_from-at first (f ∷ fs) n (suc k) e =
    let other : eqb n first ≡ false = ne_eqb n first (λ same. omega arith) in
    rw other (sites_from-at (suc first) fs n k (omega arith))
