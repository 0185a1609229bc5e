-- What is written of an address is read as that address.
use Rattle.std.proofs.Common.{◌≡◌, ℕ, ◌+◌, ◌^◌, ◌<◌, Bool, true, false, cond, leb, List, ◌∷◌, ◌++◌, length, take, drop, Some, refl, sym, ◌∙◌, ap, arith, append_assoc}
use Rattle.std.specs.Option.{option_and_then}
use Rattle.std.proofs.lemmas.Bool.{leb-true}
use Rattle.std.proofs.Math.Seq.{take-append_seam, drop-append-add}
use Rattle.pac_ext.specs.declared.side.Ending.TheVariants.{Group, GroupOrQuad}
use Rattle.pac_ext.specs.Groups.{address_of, groups_of}
use Rattle.pac_ext.specs.Reading.{filled, side_in, address_around, ipv6_of}
use Rattle.pac_ext.specs.Rows.{longest_row}
use Rattle.pac_ext.specs.Writing.{between_colons, shortened, groups_text, ipv6_text}
use Rattle.pac_ext.proofs.Gaps.{gap}
use Rattle.pac_ext.proofs.Colons.{AreGroups, no-gap-in, gap-behind-groups, side_in-between_colons}
use Rattle.pac_ext.proofs.Shortened.{around-longest, filled-around, take-groups, drop-groups}
use Rattle.pac_ext.proofs.Numbers.{address_of-groups_of, groups_of-small}

-- eight groups in full
read-full : (groups : List ℕ) → AreGroups groups → ipv6_of (between_colons groups) ≡ address_of groups
read-full groups h =
    ap (λ place. address_around place (between_colons groups)) (no-gap-in groups h)
    ∙ ap (option_and_then address_of) (side_in-between_colons GroupOrQuad groups h)

-- groups on both sides of `::`
read-around : (head tail : List ℕ) → AreGroups head → AreGroups tail → ipv6_of (between_colons head ++ 58 ∷ 58 ∷ between_colons tail) ≡ filled (Some head) (Some tail)
read-around head tail h k =
    let before = between_colons head in
    let behind = between_colons tail in
    let text = before ++ 58 ∷ 58 ∷ behind in
    let front : take (length before) text ≡ before = take-append_seam before (58 ∷ 58 ∷ behind) in
    let back : drop (length before + 2) text ≡ behind = drop-append-add before (58 ∷ 58 ∷ behind) 2 in
    ap (λ place. address_around place text) (gap-behind-groups head behind h)
    ∙ ap (λ us. filled (side_in Group us) (side_in GroupOrQuad (drop (length before + 2) text))) front
    ∙ ap (λ us. filled (side_in Group before) (side_in GroupOrQuad us)) back
    ∙ ap (λ o. filled o (side_in GroupOrQuad behind)) (side_in-between_colons Group head h)
    ∙ ap (filled (Some head)) (side_in-between_colons GroupOrQuad tail k)

read-groups : (groups : List ℕ) → AreGroups groups → length groups ≡ 8 → ipv6_of (groups_text groups (longest_row groups)) ≡ address_of groups
read-groups groups h eight = go (leb 2 (longest_row groups).length) refl where
  go : (b : Bool) → leb 2 (longest_row groups).length ≡ b → ipv6_of (cond b (shortened groups (longest_row groups)) (between_colons groups)) ≡ address_of groups
  go false e = read-full groups h
  go true e =
      let row = longest_row groups in
      let some : 0 < row.length = omega (arith, leb-true _ _ e) in
      let head = take row.start groups in
      let tail = drop (row.start + row.length) groups in
      ap ipv6_of (append_assoc (between_colons head) gap (between_colons tail))
      ∙ read-around head tail (take-groups row.start groups h) (drop-groups (row.start + row.length) groups h)
      ∙ filled-around groups row eight some (around-longest groups some)

pub ipv6_of-ipv6_text : (address : ℕ) → address < 2 ^ 128 → ipv6_of (ipv6_text address) ≡ Some address
ipv6_of-ipv6_text address h = read-groups (groups_of address) (groups_of-small address) refl ∙ address_of-groups_of address h

-- the same of a text at the front of a buffer
pub read-front : (address n : ℕ) (text front rest : List ℕ) → address < 2 ^ 128 → text ≡ ipv6_text address → n ≡ length text → front ≡ text
    → ipv6_of (take n (front ++ rest)) ≡ Some address
read-front address n text front rest h is long same =
    ap (λ k. ipv6_of (take k (front ++ rest))) (long ∙ ap length (sym same)) ∙ ap ipv6_of (take-append_seam front rest ∙ same ∙ is) ∙ ipv6_of-ipv6_text address h
