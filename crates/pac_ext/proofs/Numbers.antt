-- The number of the groups of an address is the address.
use Rattle.std.proofs.Common.{◌≡◌, ℕ, ◌+◌, ◌*◌, ◌/◌, ◌%◌, ◌^◌, ◌<◌, Some, sym, ◌∙◌, ap, arith}
use Rattle.std.proofs.lemmas.Nat.{div-add-mod', div_below}
use Rattle.std.proofs.Math.Nat.{div-div-eq-div-mul}
use Rattle.pac_ext.specs.Groups.{number_of, address_of, groups_of}
use Rattle.pac_ext.proofs.Colons.{AreGroups}

-- a group less at the end
one-less : (address bits : ℕ) → address / (bits * 65536) * 65536 + address / bits % 65536 ≡ address / bits
one-less address bits =
    ap (λ n. n * 65536 + address / bits % 65536) (sym (div-div-eq-div-mul address bits 65536)) ∙ div-add-mod' (address / bits) 65536

first-group : (address : ℕ) → address < 2 ^ 128 → 0 * 65536 + address / 2 ^ 112 % 65536 ≡ address / 2 ^ 112
first-group address h =
    let small : address / 2 ^ 112 < 65536 = div_below address (2 ^ 112) 65536 (omega arith) (omega arith) in
    omega arith

number_of-groups_of : (address : ℕ) → address < 2 ^ 128 → number_of (groups_of address) ≡ address
number_of-groups_of address h =
    let next : (n m : ℕ) → n ≡ m → (group : ℕ) → n * 65536 + group ≡ m * 65536 + group = λ n m e group. ap (λ n. n * 65536 + group) e in
    let e112 = first-group address h in
    let e96 = next _ _ e112 (address / 2 ^ 96 % 65536) ∙ one-less address (2 ^ 96) in
    let e80 = next _ _ e96 (address / 2 ^ 80 % 65536) ∙ one-less address (2 ^ 80) in
    let e64 = next _ _ e80 (address / 2 ^ 64 % 65536) ∙ one-less address (2 ^ 64) in
    let e48 = next _ _ e64 (address / 2 ^ 48 % 65536) ∙ one-less address (2 ^ 48) in
    let e32 = next _ _ e48 (address / 2 ^ 32 % 65536) ∙ one-less address (2 ^ 32) in
    let e16 = next _ _ e32 (address / 2 ^ 16 % 65536) ∙ one-less address (2 ^ 16) in
    next _ _ e16 (address / 2 ^ 0 % 65536) ∙ one-less address (2 ^ 0) ∙ omega arith

pub address_of-groups_of : (address : ℕ) → address < 2 ^ 128 → address_of (groups_of address) ≡ Some address
address_of-groups_of address h = ap Some (number_of-groups_of address h)

pub groups_of-small : (address : ℕ) → AreGroups (groups_of address)
groups_of-small address = (omega arith, (omega arith, (omega arith, (omega arith, (omega arith, (omega arith, (omega arith, (omega arith, tt))))))))
