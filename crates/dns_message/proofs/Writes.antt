-- Writing on, number after number.
use Rattle.std.proofs.Common.{◌≡◌, ℕ, ◌+◌, ◌-◌, ◌≤◌, List, [], ◌++◌, length, take, drop, sym, ◌∙◌, ap, arith}
use borrow.Rule.Slice.PartMut.{put_mid}
use Rattle.std.proofs.lemmas.List.{length-append, length-drop, append_assoc, drop-drop, take_all, take_at, drop_all, append-nil}
use Rattle.dns_name.specs.Writing.{overwritten}
use Rattle.dns_name.proofs.WriteLaws.{overwritten-overwritten}

-- what a write at the front of the part from an offset on leaves
pub part_written : (octets : List ℕ) (at n : ℕ) (part new : List ℕ) → length octets ≡ n → at + length new ≤ n → part ≡ new ++ drop (length new) (take (n - at) (drop at octets))
    → put_mid at (n - at) octets part ≡ overwritten octets at new
part_written octets at n part new long room e =
    let all : take (n - at) (drop at octets) ≡ drop at octets = take_all (n - at) (drop at octets) (omega (arith, length-drop at octets)) in
    let none : drop (n - at) (drop at octets) ≡ [] = drop_all (n - at) (drop at octets) (omega (arith, length-drop at octets)) in
    let rest : drop (length new) (drop at octets) ≡ drop (at + length new) octets = drop-drop (length new) at octets in
    ap (λ (xs : List ℕ). take at octets ++ (part ++ xs)) none ∙ ap (λ (xs : List ℕ). take at octets ++ xs) (append-nil part)
    ∙ ap (λ (xs : List ℕ). take at octets ++ xs) (e ∙ ap (λ (xs : List ℕ). new ++ drop (length new) xs) all ∙ ap (λ (xs : List ℕ). new ++ xs) rest)
    ∙ sym (append_assoc (take at octets) new (drop (at + length new) octets))

-- a write where the last one ended is one write of both
pub written_on : (old mid new : List ℕ) (begin at : ℕ) (xs ys : List ℕ) → mid ≡ overwritten old begin xs → new ≡ overwritten mid at ys → at ≡ begin + length xs
    → begin + length xs + length ys ≤ length old → new ≡ overwritten old begin (xs ++ ys)
written_on old mid new begin at xs ys first then place room =
    then ∙ ap (λ (octets : List ℕ). overwritten octets at ys) first ∙ ap (λ (n : ℕ). overwritten (overwritten old begin xs) n ys) place
    ∙ overwritten-overwritten old begin xs ys room

-- a write at the front
pub written_front : (octets new : List ℕ) → overwritten octets 0 new ≡ new ++ drop (length new) octets
written_front octets new =
    let place : 0 + length new ≡ length new = omega arith in
    ap (λ (n : ℕ). new ++ drop n octets) place

-- a message of a header and a question
pub written_message : (old mid new header asked : List ℕ) → mid ≡ overwritten old 0 header → new ≡ overwritten mid 12 asked → length header ≡ 12 → 12 + length asked ≤ length old
    → new ≡ (header ++ asked) ++ drop (length (header ++ asked)) old
written_message old mid new header asked first then size room =
    written_on old mid new 0 12 header asked first then (omega (arith, size)) (omega (arith, size)) ∙ written_front old (header ++ asked)

pub length_message : (header asked : List ℕ) (n : ℕ) → length header ≡ 12 → n ≡ 12 + length asked → n ≡ length (header ++ asked)
length_message header asked n size e = omega (arith, length-append header asked)

-- and with a record behind it
pub written_answer : (old mid last new header asked record_octets : List ℕ) (at : ℕ) → mid ≡ overwritten old 0 header → last ≡ overwritten mid 12 asked → new ≡ overwritten last at record_octets
    → length header ≡ 12 → at ≡ 12 + length asked → at + length record_octets ≤ length old
    → new ≡ (header ++ asked ++ record_octets) ++ drop (length (header ++ asked ++ record_octets)) old
written_answer old mid last new header asked record_octets at first then third size place room =
    written_on old last new 0 at (header ++ asked) record_octets
    (written_on old mid last 0 12 header asked first then (omega (arith, size)) (omega (arith, size, place)))
    third (omega (arith, size, place, length-append header asked)) (omega (arith, size, place, length-append header asked))
    ∙ written_front old (header ++ asked ++ record_octets)

pub length_answer : (header asked record_octets : List ℕ) (at n : ℕ) → length header ≡ 12 → at ≡ 12 + length asked → n ≡ at + length record_octets → n ≡ length (header ++ asked ++ record_octets)
length_answer header asked record_octets at n size place e = omega (arith, length-append (header ++ asked) record_octets, length-append header asked)

-- three writes, each where the last one ended
pub written_thrice : (old one two three xs ys zs : List ℕ) (begin at next : ℕ) → one ≡ overwritten old begin xs → two ≡ overwritten one at ys → three ≡ overwritten two next zs
    → at ≡ begin + length xs → next ≡ at + length ys → begin + length xs + length ys + length zs ≤ length old → three ≡ overwritten old begin (xs ++ ys ++ zs)
written_thrice old one two three xs ys zs begin at next first second third place then room =
    written_on old two three begin next (xs ++ ys) zs (written_on old one two begin at xs ys first second place (omega arith)) third
    (omega (arith, place, then, length-append xs ys)) (omega (arith, length-append xs ys))

-- the front of the buffer is what was written
pub told_front : (old new octets : List ℕ) (n : ℕ) → new ≡ octets ++ drop (length octets) old → n ≡ length octets → take n new ≡ octets
told_front old new octets n written long = ap (take n) written ∙ take_at octets (drop (length octets) old) n (sym long)
