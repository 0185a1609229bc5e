-- Groups around their longest row of zeros.
use Rattle.std.proofs.Common.{◌≡◌, ℕ, zero, suc, ◌+◌, ◌-◌, ◌<◌, ◌≤◌, Bool, true, false, cond, ◌==◌, leb, List, [], ◌∷◌, ◌++◌, length, take, drop, replicate, Some, None, refl, sym, ◌∙◌, ap, subst, arith, append_assoc}
use Rattle.std.proofs.lemmas.Bool.{leb-true, leb-false, le-leb, eqb-true}
use Rattle.std.proofs.lemmas.List.{take-append-drop, drop-drop, length-drop, length-take-le}
use Rattle.pac_ext.specs.declared.row.Row.{Row}
use Rattle.pac_ext.specs.Groups.{address_of}
use Rattle.pac_ext.specs.Reading.{filled}
use Rattle.pac_ext.specs.Rows.{zero_row, zero_rows, greatest, longest_row}
use Rattle.pac_ext.proofs.Rows.{at-front, behind}
use Rattle.pac_ext.proofs.Colons.{AreGroups}

-- a row of zeros is so many zeros
record IsRow (groups : List ℕ) (n : ℕ) : Type 0 where
  within : n ≤ length groups
  zeros : take n groups ≡ replicate n 0

row-is : (groups : List ℕ) → IsRow groups (zero_row groups)
row-is [] = record { within = omega arith; zeros = refl }
row-is (group ∷ groups) = go (group == 0) refl (row-is groups) where
  go : (b : Bool) → (group == 0) ≡ b → IsRow groups (zero_row groups) → IsRow (group ∷ groups) (cond b (1 + zero_row groups) 0)
  go false e ih = record { within = omega arith; zeros = refl }
  go true e ih =
      let one : suc (zero_row groups) ≡ 1 + zero_row groups = omega arith in
      subst (λ n. IsRow (group ∷ groups) n) one (record {
        within = omega (arith, ih.within);
        zeros = ap (λ g. g ∷ take (zero_row groups) groups) (eqb-true _ _ e) ∙ ap (λ gs. 0 ∷ gs) ih.zeros;
      })

-- the longest row begins where it is said to
longest-is : (groups : List ℕ) → zero_row (drop (longest_row groups).start groups) ≡ (longest_row groups).length
longest-is [] = refl
longest-is (group ∷ groups) = go (leb (greatest (zero_rows groups)) (zero_row (group ∷ groups))) refl (longest-is groups) where
  go : (b : Bool) → leb (greatest (zero_rows groups)) (zero_row (group ∷ groups)) ≡ b → zero_row (drop (longest_row groups).start groups) ≡ (longest_row groups).length
      → zero_row (drop (longest_row (group ∷ groups)).start (group ∷ groups)) ≡ (longest_row (group ∷ groups)).length
  go true e ih =
      let row = at-front (zero_row (group ∷ groups)) (greatest (zero_rows groups)) (zero_rows groups) (leb-true _ _ e) in
      let P : Row → Type 0 = λ r. zero_row (drop r.start (group ∷ groups)) ≡ r.length in
      subst P (sym row) refl
  go false e ih =
      let row = behind (zero_row (group ∷ groups)) (greatest (zero_rows groups)) (zero_rows groups) (leb-false _ _ e) in
      let P : Row → Type 0 = λ r. zero_row (drop r.start (group ∷ groups)) ≡ r.length in
      let one : suc (longest_row groups).start ≡ 1 + (longest_row groups).start = omega arith in
      subst P (sym row) (ap (λ n. zero_row (drop n (group ∷ groups))) (sym one) ∙ ih)

-- the groups are those before the row, its zeros, and those behind it
pub record IsAround (groups : List ℕ) (row : Row) : Type 0 where
  pub within : row.start + row.length ≤ length groups
  pub around : take row.start groups ++ replicate row.length 0 ++ drop (row.start + row.length) groups ≡ groups

starts-within : (groups : List ℕ) → 0 < (longest_row groups).length → (longest_row groups).start ≤ length groups
starts-within groups h =
    let row = row-is (drop (longest_row groups).start groups) in
    omega (arith, longest-is groups, row.within, length-drop (longest_row groups).start groups)

pub around-longest : (groups : List ℕ) → 0 < (longest_row groups).length → IsAround groups (longest_row groups)
around-longest groups h =
    let start = (longest_row groups).start in
    let n = (longest_row groups).length in
    let rest = drop start groups in
    let same : zero_row rest ≡ n = longest-is groups in
    let row : IsRow rest n = subst (λ n. IsRow rest n) same (row-is rest) in
    let behind : drop n rest ≡ drop (start + n) groups = drop-drop n start groups ∙ ap (λ k. drop k groups) (omega arith) in
    let whole : replicate n 0 ++ drop (start + n) groups ≡ rest =
    ap (λ gs. gs ++ drop (start + n) groups) (sym row.zeros) ∙ ap (λ gs. take n rest ++ gs) (sym behind) ∙ take-append-drop n rest in
    record {
      within = omega (arith, row.within, length-drop start groups, starts-within groups h);
      around = append_assoc (take start groups) (replicate n 0) (drop (start + n) groups) ∙ ap (λ gs. take start groups ++ gs) whole ∙ take-append-drop start groups;
    }

-- so the zeros between both sides are those of the row
pub filled-around : (groups : List ℕ) (row : Row) → length groups ≡ 8 → 0 < row.length → IsAround groups row
    → filled (Some (take row.start groups)) (Some (drop (row.start + row.length) groups)) ≡ address_of groups
filled-around groups row eight some h =
    let head = take row.start groups in
    let tail = drop (row.start + row.length) groups in
    let long : length head ≡ row.start = length-take-le row.start groups (omega (arith, h.within)) in
    let rest : length tail ≡ 8 - (row.start + row.length) = length-drop (row.start + row.length) groups ∙ ap (λ n. n - (row.start + row.length)) eight in
    let zeros : 8 - (length head + length tail) ≡ row.length = omega (arith, h.within) in
    ap (λ b. cond b (address_of (head ++ replicate (8 - (length head + length tail)) 0 ++ tail)) None) (le-leb _ _ (omega (arith, h.within)))
    ∙ ap (λ n. address_of (head ++ replicate n 0 ++ tail)) zeros ∙ ap address_of h.around

pub take-groups : (n : ℕ) (groups : List ℕ) → AreGroups groups → AreGroups (take n groups)
take-groups zero groups h = tt
take-groups (suc n) [] h = tt
take-groups (suc n) (group ∷ groups) h = (h.0, take-groups n groups h.1)

pub drop-groups : (n : ℕ) (groups : List ℕ) → AreGroups groups → AreGroups (drop n groups)
drop-groups zero groups h = h
drop-groups (suc n) [] h = tt
drop-groups (suc n) (group ∷ groups) h = drop-groups n groups h.1
