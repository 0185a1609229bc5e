-- What is written as a reply is a reply, with its answer.
use Rattle.std.proofs.Common.{◌≡◌, ℕ, ◌+◌, ◌^◌, ◌<◌, ◌≤◌, Bool, true, false, cond, ◌&&◌, leb, List, [], ◌∷◌, ◌++◌, length, take, drop, Option, Some, None, refl, sym, ◌∙◌, ap, subst, arith}
use Rattle.std.specs.List.{list_all}
use Rattle.std.proofs.lemmas.Bool.{and_parts, and_from, eq-eqb, leb-true, le-leb}
use Rattle.std.proofs.lemmas.List.{append_assoc, length-append, length-drop, drop-drop, drop_at, append-nil}
use Rattle.byteorder.specs.Endian.{big_bytes, big_number}
use Rattle.byteorder.specs.Numbers.{big_number-reads_back}
use Rattle.pac_names.specs.Labels.{labels_of}
use Rattle.pac_names.specs.Names.{Name, is_label, is_lookup_name}
use Rattle.pac_names.specs.declared.kind.NameKind.{NameKind}
use Rattle.pac_names.specs.declared.kind.NameKind.TheVariants.{V4, V6}
use Rattle.pac_names.specs.declared.answer.Answer.{Answer}
use Rattle.pac_names.specs.declared.answer.Answer.TheVariants as answer
use Rattle.dns_name.specs.Wire.{WireName, are_labels, behind_of, labels_at, lowered, lowered_of, name_at, same_labels, spells_name}
use Rattle.dns_name.specs.Writing.{overwritten, wire_name}
use Rattle.dns_name.proofs.SameLaws.{label_is_low, same_labels-refl}
use Rattle.dns_name.proofs.WireLaws.{wire_name_at, name_at_pointer}
use Rattle.dns_message.specs.Header.{header_octets, header_of, is_response_to, response_header}
use Rattle.dns_message.specs.Numbers.{number_at, number_octets}
use Rattle.dns_message.specs.Question.{asked_octets, asks_address, question_end, question_from, type_of}
use Rattle.dns_message.specs.Record.{Says, Address, Address6, facts_at, record_at, says_of, there}
use Rattle.dns_message.specs.Reply.{address_or, alias_in, alias_or, answer_for, answer_in, answer_octets, answer_on, header_for, record_front, reply_octets, reply_of, telling}
use Rattle.dns_message.specs.Seen.{labels_known, name_there}
use Rattle.dns_message.proofs.Chains.{answer_ends}
use Rattle.dns_message.proofs.Records.{facts_more, record_by}
use Rattle.dns_message.proofs.Writes.{length_answer, length_message, told_front, written_answer, written_message}
use Rattle.dns_message.proofs.Replies.{a_response, name_error, no_error}

-- the labels of a lookup name are in lower case
pub low_labels : (labels : List (List ℕ)) → list_all is_label labels ≡ true → lowered labels ≡ labels
low_labels [] h = refl
low_labels (l ∷ ls) h =
    let parts = and_parts _ _ h in
    let head = label_is_low l parts.0 in
    let tail = low_labels ls parts.1 in
    cc

-- A datagram that holds a question, and octets behind it.
pub record AsksFor (datagram : List ℕ) (name : Name) (after : List ℕ) : Type 0 where
  pub question : drop 12 datagram ≡ wire_name name.text ++ (number_octets (type_of name.kind) ++ (0 ∷ 1 ∷ after))
  pub short : length name.text ≤ 253
  pub labels : list_all is_label (labels_of name.text) ≡ true

-- the name in it
pub asked_there : (datagram : List ℕ) (name : Name) (after : List ℕ) → AsksFor datagram name after
    → name_at datagram 12 ≡ Some (record { labels = labels_of name.text; behind = 12 + length (wire_name name.text) })
asked_there datagram name after h =
    wire_name_at datagram name.text (number_octets (type_of name.kind) ++ (0 ∷ 1 ∷ after)) 12 h.question h.short h.labels

labels_there : (datagram : List ℕ) (name : Name) (after : List ℕ) → AsksFor datagram name after → labels_at datagram 12 ≡ Some (labels_of name.text)
labels_there datagram name after h = ap lowered_of (asked_there datagram name after h) ∙ ap Some (low_labels (labels_of name.text) h.labels)

-- what stands behind the name
behind_name : (datagram : List ℕ) (name : Name) (after : List ℕ) → AsksFor datagram name after
    → drop (12 + length (wire_name name.text)) datagram ≡ number_octets (type_of name.kind) ++ (0 ∷ 1 ∷ after)
behind_name datagram name after h =
    sym (drop-drop (length (wire_name name.text)) 12 datagram) ∙ ap (drop (length (wire_name name.text))) h.question
    ∙ drop_at (wire_name name.text) (number_octets (type_of name.kind) ++ (0 ∷ 1 ∷ after)) (length (wire_name name.text)) refl

long_enough : (datagram : List ℕ) (at n : ℕ) (rest : List ℕ) → drop at datagram ≡ rest → 0 < n → n ≤ length rest → at + n ≤ length datagram
long_enough datagram at n rest e some h = omega (arith, length-drop at datagram, ap length e)

-- a type fits its two octets
pub type_fits : (kind : NameKind) → type_of kind < 2 ^ 16
type_fits V4 = omega arith
type_fits V6 = omega arith

-- the question is found
pub question_there : (datagram : List ℕ) (name : Name) (after : List ℕ) → AsksFor datagram name after
    → question_end datagram name ≡ Some (12 + length (wire_name name.text) + 4)
question_there datagram name after h =
    let at = 12 + length (wire_name name.text) in
    let spelled : spells_name datagram 12 name.text ≡ true =
    ap (λ (o : Option (List (List ℕ))). are_labels o (labels_of name.text)) (labels_there datagram name after h) ∙ same_labels-refl (labels_of name.text) in
    let octets = behind_name datagram name after h in
    let type : number_at datagram (12 + length (wire_name name.text)) ≡ type_of name.kind =
    ap (big_number 2) octets ∙ big_number-reads_back 2 (type_of name.kind) (0 ∷ 1 ∷ after) (type_fits name.kind) in
    let class : number_at datagram (12 + length (wire_name name.text) + 2) ≡ 1 =
    ap (big_number 2) (sym (drop-drop 2 (12 + length (wire_name name.text)) datagram)) ∙ ap (λ (xs : List ℕ). big_number 2 (drop 2 xs)) octets in
    let room : leb (12 + length (wire_name name.text) + 4) (length datagram) ≡ true =
    le-leb _ _ (long_enough datagram (12 + length (wire_name name.text)) 4 (number_octets (type_of name.kind) ++ (0 ∷ 1 ∷ after)) octets (omega arith) (omega arith)) in
    let asks : asks_address name.kind datagram (12 + length (wire_name name.text)) ≡ true =
    and_from _ _ (and_from _ _ room (eq-eqb _ _ type)) (eq-eqb _ _ class) in
    ap (λ (b : Bool). cond b (question_from name.kind datagram (behind_of (name_at datagram 12))) None) spelled
    ∙ ap (λ (o : Option WireName). question_from name.kind datagram (behind_of o)) (asked_there datagram name after h)
    ∙ ap (λ (b : Bool). cond b (Some (12 + length (wire_name name.text) + 4)) None) asks

-- what stands behind the question
behind_question : (datagram : List ℕ) (name : Name) (after : List ℕ) → AsksFor datagram name after
    → drop (12 + length (wire_name name.text) + 4) datagram ≡ after
behind_question datagram name after h =
    sym (drop-drop 4 (12 + length (wire_name name.text)) datagram) ∙ ap (drop 4) (behind_name datagram name after h)

-- a number further on
number_further : (datagram rest : List ℕ) (at j k : ℕ) → drop at datagram ≡ rest → k ≡ at + j → number_at datagram k ≡ big_number 2 (drop j rest)
number_further datagram rest at j k e place =
    ap (number_at datagram) place ∙ ap (big_number 2) (sym (drop-drop j at datagram)) ∙ ap (λ (xs : List ℕ). big_number 2 (drop j xs)) e

-- A record of an address, by its type and its data: what it says to a question for addresses of a family, and the answer
-- that this is.
record IsTold (kind : NameKind) (a : Answer) (type : ℕ) (told : List ℕ) (says : Says) : Type 0 where
  small : type < 2 ^ 16
  short : length told < 2 ^ 16
  octets : answer_octets a ≡ record_front type (length told) ++ told
  read : (datagram : List ℕ) (at : ℕ) → drop at datagram ≡ told → says_of kind datagram type 1 at (length told) ≡ Some says
  no_alias : alias_or true says None ≡ None
  address : address_or true says answer.NoAddress ≡ a

-- an IPv4 address is told by an A record
told4 : (address : ℕ) → address < 2 ^ 32 → IsTold V4 (answer.Address address) 1 (big_bytes 4 address) (Address address)
told4 address fits =
    record {
      small = omega arith;
      short = omega arith;
      octets = refl;
      read = λ datagram at e. ap (λ (n : ℕ). Some (Address n)) (ap (big_number 4) e ∙ big_number-reads_back 4 address [] fits);
      no_alias = refl;
      address = refl;
    }

-- and an IPv6 address by an AAAA record
told6 : (address : ℕ) → address < 2 ^ 128 → IsTold V6 (answer.Address6 address) 28 (big_bytes 16 address) (Address6 address)
told6 address fits =
    record {
      small = omega arith;
      short = omega arith;
      octets = refl;
      read = λ datagram at e. ap (λ (n : ℕ). Some (Address6 n)) (ap (big_number 16) e ∙ big_number-reads_back 16 address [] fits);
      no_alias = refl;
      address = refl;
    }

-- the record that tells an address, as it is read where it stands
record_there : (datagram : List ℕ) (name : Name) (a : Answer) (type : ℕ) (told : List ℕ) (says : Says) → IsTold name.kind a type told says
    → AsksFor datagram name (record_front type (length told) ++ told)
    → record_at name.kind datagram (12 + length (wire_name name.text) + 4)
    ≡ Some (record { fact = record { owner = labels_of name.text; says = says }; behind = 12 + length (wire_name name.text) + 4 + 2 + 10 + length told })
record_there datagram name a type told says is h =
    go (12 + length (wire_name name.text) + 4) (omega arith) (behind_question datagram name (record_front type (length told) ++ told) h) where
      go : (at : ℕ) → 12 < at → drop at datagram ≡ record_front type (length told) ++ told
          → record_at name.kind datagram at ≡ Some (record { fact = record { owner = labels_of name.text; says = says }; behind = at + 2 + 10 + length told })
      go at far octets =
          let size = length told in
          let asked = asked_there datagram name (record_front type (length told) ++ told) h in
          let owner = name_at_pointer datagram at 192 12 _ _ octets (omega arith) far asked in
          let labels : name_there datagram at ≡ labels_of name.text =
          ap (λ (o : Option WireName). labels_known (lowered_of o)) owner ∙ low_labels (labels_of name.text) h.labels in
          let length_field : number_at datagram (at + 2 + 8) ≡ length told =
          number_further datagram _ at 10 (at + 2 + 8) octets (omega arith) ∙ big_number-reads_back 2 (length told) told is.short in
          let type_field : number_at datagram (at + 2) ≡ type = number_further datagram _ at 2 (at + 2) octets refl ∙ big_number-reads_back 2 type (0 ∷ 1 ∷ 0 ∷ 0 ∷ 0 ∷ 60 ∷ (number_octets (length told) ++ told)) is.small in
          let class_field : number_at datagram (at + 2 + 2) ≡ 1 = number_further datagram _ at 4 (at + 2 + 2) octets (omega arith) in
          let data_there : drop (at + 2 + 10) datagram ≡ told =
          ap (λ (n : ℕ). drop n datagram) (omega arith) ∙ sym (drop-drop 12 at datagram) ∙ ap (drop 12) octets in
          let whole : at + (12 + length told) ≤ length datagram =
          long_enough datagram at (12 + length told) _ octets (omega arith) (omega (arith, length-append (record_front type (length told)) told)) in
          record_by name.kind datagram at (at + 2) (ap behind_of owner) (subst (λ (n : ℕ). at + 2 + 10 + n ≤ length datagram) (sym length_field) (omega (arith, whole)))
          ∙ ap (λ (n : ℕ). there (name_there datagram at) (at + 2 + 10 + n) (says_of name.kind datagram (number_at datagram (at + 2)) (number_at datagram (at + 2 + 2)) (at + 2 + 10) n)) length_field
          ∙ ap (λ (n : ℕ). there (name_there datagram at) (at + 2 + 10 + length told) (says_of name.kind datagram n (number_at datagram (at + 2 + 2)) (at + 2 + 10) (length told))) type_field
          ∙ ap (λ (n : ℕ). there (name_there datagram at) (at + 2 + 10 + length told) (says_of name.kind datagram type n (at + 2 + 10) (length told))) class_field
          ∙ ap (there (name_there datagram at) (at + 2 + 10 + length told)) (is.read datagram (at + 2 + 10) data_there)
          ∙ ap (λ (ls : List (List ℕ)). there ls (at + 2 + 10 + length told) (Some says)) labels

-- the facts of the one record
facts_there : (datagram : List ℕ) (name : Name) (a : Answer) (type : ℕ) (told : List ℕ) (says : Says) → IsTold name.kind a type told says
    → AsksFor datagram name (record_front type (length told) ++ told)
    → facts_at name.kind 1 datagram (12 + length (wire_name name.text) + 4) ≡ Some (record { owner = labels_of name.text; says = says } ∷ [])
unfolding facts_at
facts_there datagram name a type told says is h =
    facts_more name.kind 1 0 datagram (12 + length (wire_name name.text) + 4) _ refl (record_there datagram name a type told says is h)

-- and the answer that they give
answer_there : (kind : NameKind) (labels : List (List ℕ)) (a : Answer) (type : ℕ) (told : List ℕ) (says : Says) → IsTold kind a type told says
    → answer_on 16 (record { owner = labels; says = says } ∷ []) labels ≡ a
answer_there kind labels a type told says is =
    let same : same_labels labels labels ≡ true = same_labels-refl labels in
    let no_alias : alias_in (record { owner = labels; says = says } ∷ []) labels ≡ None = ap (λ (b : Bool). alias_or b says None) same ∙ is.no_alias in
    answer_ends 16 15 (record { owner = labels; says = says } ∷ []) labels refl no_alias
    ∙ ap (λ (b : Bool). address_or b says answer.NoAddress) same ∙ is.address

-- the header that was written is a response's
response_read : (id : ℕ) (found : Bool) (rest : List ℕ) → id < 2 ^ 16 → is_response_to (header_of (header_octets (response_header id found) ++ rest)) id ≡ true
response_read id true rest small =
    let same : number_at (header_octets (response_header id true) ++ rest) 0 ≡ id = big_number-reads_back 2 id (drop 2 (header_octets (response_header id true) ++ rest)) small in
    ap (λ (b : Bool). b && true && true && true && true && true) (eq-eqb _ _ same)
response_read id false rest small =
    let same : number_at (header_octets (response_header id false) ++ rest) 0 ≡ id = big_number-reads_back 2 id (drop 2 (header_octets (response_header id false) ++ rest)) small in
    ap (λ (b : Bool). b && true && true && true && true && true) (eq-eqb _ _ same)

-- What a message of a header, a question and octets behind it holds.
asks_for : (header : List ℕ) (name : Name) (after : List ℕ) → drop 12 (header ++ (asked_octets name ++ after)) ≡ asked_octets name ++ after
    → length name.text ≤ 253 → list_all is_label (labels_of name.text) ≡ true → AsksFor (header ++ (asked_octets name ++ after)) name after
asks_for header name after e short labels =
    record {
      question = e ∙ append_assoc (wire_name name.text ++ number_octets (type_of name.kind)) (0 ∷ 1 ∷ []) after
          ∙ append_assoc (wire_name name.text) (number_octets (type_of name.kind)) (0 ∷ 1 ∷ after);
      short = short;
      labels = labels;
    }

-- the reply that tells an address is one
told_one : (id : ℕ) (name : Name) (a : Answer) (type : ℕ) (told : List ℕ) (says : Says) → IsTold name.kind a type told says → id < 2 ^ 16
    → length name.text ≤ 253 → list_all is_label (labels_of name.text) ≡ true
    → reply_of (header_octets (response_header id true) ++ asked_octets name ++ (record_front type (length told) ++ told)) id name ≡ Some a
told_one id name a type told says is small short labels =
    ap (λ (datagram : List ℕ). reply_of datagram id name) (append_assoc (header_octets (response_header id true)) (asked_octets name) (record_front type (length told) ++ told))
    ∙ go (asked_octets name ++ (record_front type (length told) ++ told))
    (asks_for (header_octets (response_header id true)) name (record_front type (length told) ++ told) refl short labels) where
      go : (rest : List ℕ) → AsksFor (header_octets (response_header id true) ++ rest) name (record_front type (length told) ++ told)
          → reply_of (header_octets (response_header id true) ++ rest) id name ≡ Some a
      go rest h =
          let none : (header_of (header_octets (response_header id true) ++ rest)).rcode ≡ 3 → ⊥ = λ e. absurd (omega (arith, e)) in
          a_response (header_octets (response_header id true) ++ rest) name id (header_of (header_octets (response_header id true) ++ rest)) refl (omega arith) (response_read id true rest small)
          ∙ no_error (header_octets (response_header id true) ++ rest) name _ (header_of (header_octets (response_header id true) ++ rest)) refl (question_there _ name _ h) none
          ∙ ap (answer_in name) (facts_there _ name a type told says is h)
          ∙ ap Some (answer_there name.kind (labels_of name.text) a type told says is)

-- so is the one that tells that there is none
told_none : (id : ℕ) (name : Name) → id < 2 ^ 16 → length name.text ≤ 253 → list_all is_label (labels_of name.text) ≡ true
    → reply_of (telling id name answer.NoAddress) id name ≡ Some answer.NoAddress
told_none id name small short labels =
    ap (λ (datagram : List ℕ). reply_of datagram id name) (append_assoc (header_octets (response_header id false)) (asked_octets name) [])
    ∙ go (asked_octets name ++ []) (asks_for (header_octets (response_header id false)) name [] refl short labels) where
      go : (rest : List ℕ) → AsksFor (header_octets (response_header id false) ++ rest) name []
          → reply_of (header_octets (response_header id false) ++ rest) id name ≡ Some answer.NoAddress
      go rest h =
          a_response (header_octets (response_header id false) ++ rest) name id (header_of (header_octets (response_header id false) ++ rest)) refl (omega arith) (response_read id false rest small)
          ∙ name_error (header_octets (response_header id false) ++ rest) name _ (header_of (header_octets (response_header id false) ++ rest)) refl (question_there _ name _ h) refl

-- an address is a number of its family's bits
abbrev pub Fits : Answer → Type 0
Fits (answer.Address address) = address < 2 ^ 32
Fits (answer.Address6 address) = address < 2 ^ 128
Fits answer.NoAddress = Unit {0}

pub fits_for : (kind : NameKind) (a : Answer) → Fits a → Fits (answer_for kind a)
fits_for V4 (answer.Address address) fits = fits
fits_for V4 (answer.Address6 address) fits = tt
fits_for V4 answer.NoAddress fits = tt
fits_for V6 (answer.Address address) fits = tt
fits_for V6 (answer.Address6 address) fits = fits
fits_for V6 answer.NoAddress fits = tt

-- what is known of a lookup name
pub record IsProper (name : Name) : Type 0 where
  pub short : length name.text ≤ 253
  pub labels : list_all is_label (labels_of name.text) ≡ true

pub proper : (name : Name) → is_lookup_name name ≡ true → IsProper name
proper name h =
    let parts = and_parts (leb (length name.text) 253) (list_all is_label (labels_of name.text)) ((and_parts _ _ h).0) in
    record { short = leb-true _ _ parts.0; labels = parts.1 }

-- The reply that is written for an answer is one, and tells it where it is of the name's family.
pub told_answer : (id : ℕ) (name : Name) (a : Answer) → id < 2 ^ 16 → Fits (answer_for name.kind a) → IsProper name
    → reply_of (reply_octets id name a) id name ≡ Some (answer_for name.kind a)
unfolding reply_octets
told_answer id name a small fits is = go name.kind refl a fits where
  go : (kind : NameKind) → name.kind ≡ kind → (a : Answer) → Fits (answer_for kind a)
      → reply_of (telling id name (answer_for kind a)) id name ≡ Some (answer_for kind a)
  go V4 e (answer.Address address) fits =
      told_one id name (answer.Address address) 1 (big_bytes 4 address) (Address address)
      (subst (λ (kind : NameKind). IsTold kind (answer.Address address) 1 (big_bytes 4 address) (Address address)) (sym e) (told4 address fits))
      small is.short is.labels
  go V4 e (answer.Address6 address) fits = told_none id name small is.short is.labels
  go V4 e answer.NoAddress fits = told_none id name small is.short is.labels
  go V6 e (answer.Address address) fits = told_none id name small is.short is.labels
  go V6 e (answer.Address6 address) fits =
      told_one id name (answer.Address6 address) 28 (big_bytes 16 address) (Address6 address)
      (subst (λ (kind : NameKind). IsTold kind (answer.Address6 address) 28 (big_bytes 16 address) (Address6 address)) (sym e) (told6 address fits))
      small is.short is.labels
  go V6 e answer.NoAddress fits = told_none id name small is.short is.labels

-- what was written with a record is the reply
pub reply_written : (old mid last new : List ℕ) (id at : ℕ) (name : Name) (a told : Answer) → answer_for name.kind a ≡ told
    → mid ≡ overwritten old 0 (header_octets (header_for id told)) → last ≡ overwritten mid 12 (asked_octets name)
    → new ≡ overwritten last at (answer_octets told) → at ≡ 12 + length (asked_octets name) → at + length (answer_octets told) ≤ length old
    → new ≡ reply_octets id name a ++ drop (length (reply_octets id name a)) old
unfolding reply_octets
reply_written old mid last new id at name a told e first second third place room =
    subst (λ (b : Answer). new ≡ telling id name b ++ drop (length (telling id name b)) old) (sym e)
    (written_answer old mid last new (header_octets (header_for id told)) (asked_octets name) (answer_octets told) at first second third refl place room)

pub reply_length : (id at n : ℕ) (name : Name) (a told : Answer) → answer_for name.kind a ≡ told → at ≡ 12 + length (asked_octets name)
    → n ≡ at + length (answer_octets told) → n ≡ length (reply_octets id name a)
unfolding reply_octets
reply_length id at n name a told e place end =
    subst (λ (b : Answer). n ≡ length (telling id name b)) (sym e)
    (length_answer (header_octets (header_for id told)) (asked_octets name) (answer_octets told) at n refl place end)

-- and so is what was written without one
pub none_written : (old mid new : List ℕ) (id : ℕ) (name : Name) (a : Answer) → answer_for name.kind a ≡ answer.NoAddress
    → mid ≡ overwritten old 0 (header_octets (response_header id false)) → new ≡ overwritten mid 12 (asked_octets name)
    → 12 + length (asked_octets name) ≤ length old → new ≡ reply_octets id name a ++ drop (length (reply_octets id name a)) old
unfolding reply_octets
none_written old mid new id name a e first second room =
    subst (λ (b : Answer). new ≡ telling id name b ++ drop (length (telling id name b)) old) (sym e)
    (subst (λ (octets : List ℕ). new ≡ octets ++ drop (length octets) old) (sym (append-nil (header_octets (response_header id false) ++ asked_octets name)))
    (written_message old mid new (header_octets (response_header id false)) (asked_octets name) first second refl room))

pub none_length : (id n : ℕ) (name : Name) (a : Answer) → answer_for name.kind a ≡ answer.NoAddress → n ≡ 12 + length (asked_octets name)
    → n ≡ length (reply_octets id name a)
unfolding reply_octets
none_length id n name a e place =
    subst (λ (b : Answer). n ≡ length (telling id name b)) (sym e)
    (subst (λ (octets : List ℕ). n ≡ length octets) (sym (append-nil (header_octets (response_header id false) ++ asked_octets name)))
    (length_message (header_octets (response_header id false)) (asked_octets name) n refl place))

-- whose front is a reply
pub told_in_front : (old new : List ℕ) (id n : ℕ) (name : Name) (a told : Answer) → answer_for name.kind a ≡ told → Fits told → id < 2 ^ 16
    → is_lookup_name name ≡ true → new ≡ reply_octets id name a ++ drop (length (reply_octets id name a)) old → n ≡ length (reply_octets id name a)
    → reply_of (take n new) id name ≡ Some (answer_for name.kind a)
told_in_front old new id n name a told e fits small kept written long =
    ap (λ (octets : List ℕ). reply_of octets id name) (told_front old new (reply_octets id name a) n written long)
    ∙ told_answer id name a small (subst Fits (sym e) fits) (proper name kept)
