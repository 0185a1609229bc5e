-- What a datagram's header, question and records make of it as a reply.
use Rattle.std.proofs.Common.{◌≡◌, ℕ, ◌+◌, ◌<◌, ◌≤◌, Bool, true, false, cond, ◌&&◌, ◌==◌, leb, List, length, Option, Some, None, refl, sym, ◌∙◌, ap}
use Rattle.std.specs.Prelude.{is_some}
use Rattle.std.proofs.lemmas.Bool.{and_left, and_right, and_from, and_parts, le-leb, lt-leb, eq-eqb, eqb-true, ne_eqb, false≢true}
use Rattle.pac_names.specs.Labels.{labels_of}
use Rattle.pac_names.specs.Names.{Name}
use Rattle.pac_names.specs.declared.answer.Answer.TheVariants as answer
use Rattle.dns_name.specs.Wire.{are_labels, labels_at, name_at, behind_of, spells_name}
use Rattle.dns_name.proofs.SameLaws.{labels_same}
use Rattle.dns_message.specs.Header.{header_of, is_response_to}
use Rattle.dns_message.specs.Numbers.{number_at}
use Rattle.dns_message.specs.Question.{asks_address, question_end, question_from, type_of}
use Rattle.dns_message.specs.Record.{Fact, facts_at}
use Rattle.dns_message.specs.Reply.{answer_behind, answer_in, answer_on, reply_of}
use Rattle.dns_message.specs.Seen.{facts_known, labels_known, name_there}
use Rattle.dns_message.specs.declared.header.Header.{Header}

-- without a whole header there is no reply
pub no_header : (datagram : List ℕ) (name : Name) (id : ℕ) → length datagram < 12 → reply_of datagram id name ≡ None
unfolding reply_of
no_header datagram name id h =
    let test : (leb 12 (length datagram) && is_response_to (header_of datagram) id) ≡ false = and_left _ _ (lt-leb _ _ h) in
    ap (λ (b : Bool). cond b (answer_behind datagram name (question_end datagram name)) None) test

-- nor without a response's
pub no_response : (datagram : List ℕ) (name : Name) (id : ℕ) (h : Header) → h ≡ header_of datagram → is_response_to h id ≡ false → reply_of datagram id name ≡ None
unfolding reply_of
no_response datagram name id h e refused =
    let test : (leb 12 (length datagram) && is_response_to (header_of datagram) id) ≡ false = and_right _ _ (ap (λ (k : Header). is_response_to k id) (sym e) ∙ refused) in
    ap (λ (b : Bool). cond b (answer_behind datagram name (question_end datagram name)) None) test

-- with one, the question and the records decide
pub a_response : (datagram : List ℕ) (name : Name) (id : ℕ) (h : Header) → h ≡ header_of datagram → 12 ≤ length datagram → is_response_to h id ≡ true
    → reply_of datagram id name ≡ answer_behind datagram name (question_end datagram name)
unfolding reply_of
a_response datagram name id h e long holds =
    let test : (leb 12 (length datagram) && is_response_to (header_of datagram) id) ≡ true = and_from _ _ (le-leb _ _ long) (ap (λ (k : Header). is_response_to k id) (sym e) ∙ holds) in
    ap (λ (b : Bool). cond b (answer_behind datagram name (question_end datagram name)) None) test

pub no_question : (datagram : List ℕ) (name : Name) → question_end datagram name ≡ None → answer_behind datagram name (question_end datagram name) ≡ None
no_question datagram name e = ap (answer_behind datagram name) e

pub name_error : (datagram : List ℕ) (name : Name) (at : ℕ) (h : Header) → h ≡ header_of datagram → question_end datagram name ≡ Some at → h.rcode ≡ 3
    → answer_behind datagram name (question_end datagram name) ≡ Some answer.NoAddress
name_error datagram name at h e q rcode =
    let test : ((header_of datagram).rcode == 3) ≡ true = eq-eqb _ _ (ap (λ (k : Header). k.rcode) (sym e) ∙ rcode) in
    ap (answer_behind datagram name) q ∙ ap (λ (b : Bool). cond b (Some answer.NoAddress) (answer_in name (facts_at name.kind (header_of datagram).ancount datagram at))) test

pub no_error : (datagram : List ℕ) (name : Name) (at : ℕ) (h : Header) → h ≡ header_of datagram → question_end datagram name ≡ Some at → (h.rcode ≡ 3 → ⊥)
    → answer_behind datagram name (question_end datagram name) ≡ answer_in name (facts_at name.kind h.ancount datagram at)
no_error datagram name at h e q rcode =
    let test : ((header_of datagram).rcode == 3) ≡ false = ne_eqb _ _ (λ (k : (header_of datagram).rcode ≡ 3). rcode (ap (λ (g : Header). g.rcode) e ∙ k)) in
    ap (answer_behind datagram name) q ∙ ap (λ (b : Bool). cond b (Some answer.NoAddress) (answer_in name (facts_at name.kind (header_of datagram).ancount datagram at))) test
    ∙ ap (λ (g : Header). answer_in name (facts_at name.kind g.ancount datagram at)) (sym e)

pub not_readable : (name : Name) (facts : Option (List Fact)) → is_some facts ≡ false → answer_in name facts ≡ None
not_readable name None h = refl
not_readable name (Some facts) h = absurd (false≢true (sym h))

-- the question names the name
pub asked_name : (datagram : List ℕ) (name : Name) (at : ℕ) → question_end datagram name ≡ Some at → name_there datagram 12 ≡ labels_of name.text
asked_name datagram name at q = go (labels_at datagram 12) q where
  go : (found : Option (List (List ℕ)))
      → cond (are_labels found (labels_of name.text)) (question_from name.kind datagram (behind_of (name_at datagram 12))) None ≡ Some at
      → labels_known found ≡ labels_of name.text
  go None q = cc
  go (Some labels) q = hop (are_labels (Some labels) (labels_of name.text)) refl q where
    hop : (b : Bool) → are_labels (Some labels) (labels_of name.text) ≡ b
        → cond b (question_from name.kind datagram (behind_of (name_at datagram 12))) None ≡ Some at → labels ≡ labels_of name.text
    hop true e q = labels_same labels (labels_of name.text) e
    hop false e q = cc

-- the type that stands behind a name
abbrev pub type_behind : List ℕ → Option ℕ → ℕ
type_behind message None = 0
type_behind message (Some at) = number_at message at

chosen : (b : Bool) (x y : ℕ) → cond b (Some x) None ≡ Some y → b ≡ true
chosen true x y e = refl
chosen false x y e = cc

-- and asks for its type
pub asked_type : (datagram : List ℕ) (name : Name) (at : ℕ) → question_end datagram name ≡ Some at
    → type_behind datagram (behind_of (name_at datagram 12)) ≡ type_of name.kind
asked_type datagram name at q = go (spells_name datagram 12 name.text) (behind_of (name_at datagram 12)) q where
  go : (b : Bool) (place : Option ℕ) → cond b (question_from name.kind datagram place) None ≡ Some at → type_behind datagram place ≡ type_of name.kind
  go true None q = cc
  go true (Some behind) q =
      let parts = and_parts _ _ (chosen (asks_address name.kind datagram behind) (behind + 4) at q) in
      eqb-true _ _ ((and_parts _ _ parts.0).1)
  go false place q = cc

pub readable_answer : (datagram : List ℕ) (name : Name) (at : ℕ) (facts : Option (List Fact)) → question_end datagram name ≡ Some at → is_some facts ≡ true
    → answer_in name facts ≡ Some (answer_on 16 (facts_known facts) (name_there datagram 12))
readable_answer datagram name at None q h = absurd (false≢true h)
readable_answer datagram name at (Some facts) q h = ap (λ (labels : List (List ℕ)). Some (answer_on 16 facts labels)) (sym (asked_name datagram name at q))
