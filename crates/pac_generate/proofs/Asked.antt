-- Which datagrams are questions.
use Rattle.std.proofs.Common.{◌≡◌, ℕ, ◌%◌, ◌^◌, ◌<◌, Bool, true, false, cond, ◌&&◌, List, drop, ◌++◌, Option, Some, None, refl, ◌∙◌, ap, arith}
use Rattle.std.specs.Prelude.{IsTrue, nat_eq}
use Rattle.std.specs.Cmp.Lexicographic.{pointwise}
use Rattle.byteorder.specs.Endian.{big_number}
use Rattle.byteorder.specs.Numbers.{big_from-bytes}
use Rattle.pac_names.specs.Names.{Name, is_lookup_name}
use Rattle.dns_name.proofs.SameLaws.{bytes_same}
use Rattle.dns_message.specs.Header.{header_octets, query_header}
use Rattle.dns_message.specs.Numbers.{number_at}
use Rattle.dns_message.specs.Question.{asked_octets, question_octets}
use Rattle.poll_log.specs.declared.question.Question.{Question}
use Rattle.poll_log.specs.Questions.{asked_by, checked_question, octets_of, question_in}
use Rattle.poll_log.proofs.Asking.{asked_by-octets_of, asked_name_is}

checked_is : (octets : List ℕ) (r q : Question) → checked_question octets r ≡ Some q → (r ≡ q) × (octets ≡ octets_of r)
checked_is octets r q e = go (is_lookup_name r.name) (pointwise nat_eq octets (octets_of r)) refl e
  where
    go : (b c : Bool) → pointwise nat_eq octets (octets_of r) ≡ c → cond (b && c) (Some r) None ≡ Some q → (r ≡ q) × (octets ≡ octets_of r)
    go true true same f = (cc, bytes_same octets (octets_of r) same)
    go true false same f = cc
    go false c same f = cc

asked_is : (octets : List ℕ) (q : Question) → asked_by octets ≡ Some q → (question_in octets ≡ q) × (octets ≡ octets_of (question_in octets))
unfolding asked_by
asked_is octets q e = checked_is octets (question_in octets) q e

number_read : (octets : List ℕ) (name : Name) (id : ℕ) → octets ≡ question_octets id name → number_at octets 0 ≡ id % 65536
unfolding question_octets
number_read octets name id e = ap (big_number 2) e ∙ big_from-bytes 2 id (drop 2 (header_octets (query_header id) ++ asked_octets name))

-- what is read as a question has a number of 16 bits
pub asked_number : (octets : List ℕ) (q : Question) → asked_by octets ≡ Some q → q.id < 2 ^ 16
asked_number octets q e =
    let is = asked_is octets q e in
    let number : number_at octets 0 ≡ number_at octets 0 % 65536 = number_read octets (question_in octets).name (number_at octets 0) is.1 in
    let id : number_at octets 0 ≡ q.id = ap (λ (r : Question). r.id) is.0 in
    omega (arith, number, id)

-- what has the octets of no question asks nothing
pub not_asked : (octets : List ℕ) → ((id : ℕ) (name : Name) → id < 2 ^ 16 → IsTrue (is_lookup_name name) → octets ≡ question_octets id name → ⊥) → asked_by octets ≡ None
not_asked octets none = go (asked_by octets) refl
  where
    go : (r : Option Question) → asked_by octets ≡ r → r ≡ None
    go None e = refl
    go (Some q) e =
        let is = asked_is octets q e in
        absurd (none q.id q.name (asked_number octets q e) (asked_name_is octets q e) (is.1 ∙ ap octets_of is.0))

-- what has the octets of a question asks it
pub asked_as : (octets : List ℕ) (id : ℕ) (name : Name) → id < 2 ^ 16 → IsTrue (is_lookup_name name) → octets ≡ question_octets id name → asked_by octets ≡ Some (record { id = id; name = name })
asked_as octets id name small named e =
    let q : Question = record { id = id; name = name } in
    ap asked_by e ∙ asked_by-octets_of q (record { number = small; name = named })
