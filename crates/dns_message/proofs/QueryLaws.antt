-- Questions are read back, and differ.
use Rattle.std.proofs.Common.{◌≡◌, ℕ, suc, ◌+◌, ◌-◌, ◌^◌, ◌<◌, Bool, true, false, cond, ◌&&◌, ◌||◌, ◌==◌, leb, List, [], ◌∷◌, ◌++◌, length, take, drop, get_or, map, Option, Some, None, refl, sym, ◌∙◌, ap, arith, slice_range}
use Rattle.std.specs.Prelude.{IsSome, is_some}
use Rattle.std.specs.List.{flat_map, list_all, onto_first, join_with_byte}
use Rattle.std.specs.Char.{to_ascii_lowercase}
use Rattle.std.proofs.lemmas.Bool.{and_parts, and_from, le-leb, eq-eqb, ne_eqb, false≢true}
use Rattle.std.proofs.lemmas.Bool.Decides.{nat_tests}
use Rattle.std.proofs.lemmas.List.{append_assoc, drop_at, drop-drop, length-append, length-drop, take_at, append-nil}
use Rattle.std.proofs.lemmas.List.Splits.{join_with_byte-slice_split}
use Rattle.byteorder.specs.Endian.{big_number}
use Rattle.byteorder.specs.Numbers.{big_number-reads_back}
use Rattle.pac_names.specs.Labels.{labels_of, labels_length}
use Rattle.pac_names.specs.Names.{Name, is_label, is_lookup_name, is_name_letter, kept_name, lookup_name_of, name_of, without_final_dot}
use Rattle.pac_names.specs.declared.kind.NameKind.{NameKind}
use Rattle.pac_names.specs.declared.kind.NameKind.TheVariants.{V4, V6}
use Rattle.pac_names.proofs.LabelLaws.{is_dot, labels-cons, labels_length-labels_of, letters_from_labels}
use Rattle.dns_name.specs.Writing.{wire_label, wire_name}
use Rattle.dns_name.proofs.WireLaws.{length-wire_name}
use Rattle.dns_message.specs.Dotted.{dotted}
use Rattle.dns_message.specs.Header.{header_octets, header_of, is_response_to, query_header}
use Rattle.dns_message.specs.Laws.{OneNameReplied, QuestionsDiffer}
use Rattle.dns_message.specs.Numbers.{number_at, number_octets}
use Rattle.dns_message.specs.Question.{asked_octets, question_end, question_octets, type_of}
use Rattle.dns_message.specs.Reply.{answer_behind, reply_of}
use Rattle.dns_message.proofs.Replies.{asked_name, asked_type}
use Rattle.dns_message.proofs.RoundTrip.{AsksFor, proper, question_there, type_fits}

-- the labels of a name, joined by dots, are the name
pub joined_labels : (name : List ℕ) → join_with_byte 46 (labels_of name) ≡ name
joined_labels name = join_with_byte-slice_split 46 name

-- so names with the same labels are one
pub same_name_by_labels : (m n : List ℕ) → labels_of m ≡ labels_of n → m ≡ n
same_name_by_labels m n e = sym (joined_labels m) ∙ ap (join_with_byte 46) e ∙ joined_labels n

-- the last label is not empty
abbrev last_some : List (List ℕ) → Bool
last_some [] = false
last_some (l ∷ []) = leb 1 (length l)
last_some (l ∷ m ∷ ls) = last_some (m ∷ ls)

last_of_labels : (labels : List (List ℕ)) (l : List ℕ) → list_all is_label (l ∷ labels) ≡ true → last_some (l ∷ labels) ≡ true
last_of_labels [] l h = (and_parts _ _ ((and_parts _ _ ((and_parts _ _ h).0)).0)).0
last_of_labels (m ∷ ls) l h = last_of_labels ls m ((and_parts _ _ h).1)

-- a byte in front leaves the last label
last_behind : (c d : ℕ) (cs : List ℕ) → last_some (labels_of (c ∷ d ∷ cs)) ≡ true → last_some (labels_of (d ∷ cs)) ≡ true
last_behind c d cs h = go (is_dot c) (labels_of (d ∷ cs)) (labels-cons (d ∷ cs)) (labels_length-labels_of (d ∷ cs)) h where
  go : (b : Bool) (ls : List (List ℕ)) → (first : List ℕ) × (rest : List (List ℕ)) × (ls ≡ first ∷ rest) → labels_length ls ≡ length (d ∷ cs) + 1
      → last_some (cond b ([] ∷ ls) (onto_first c ls)) ≡ true → last_some ls ≡ true
  go b [] cons long h = let e = cons.2 in cc
  go true (l ∷ ls) cons long h = h
  go false (l ∷ []) cons long h = le-leb _ _ (omega (arith, long))
  go false (l ∷ m ∷ ls) cons long h = h

-- a name whose last label is not empty ends in no dot
no_final_dot : (name : List ℕ) → last_some (labels_of name) ≡ true → get_or name (length name - 1) 0 ≡ 46 → ⊥
no_final_dot [] h e = false≢true h
no_final_dot (c ∷ []) h e = go (is_dot c) refl h where
  go : (b : Bool) → is_dot c ≡ b → last_some (cond b ([] ∷ [] ∷ []) ((c ∷ []) ∷ [])) ≡ true → ⊥
  go true q h = false≢true h
  go false q h = false≢true (sym q ∙ eq-eqb c 46 e)
no_final_dot (c ∷ d ∷ cs) h e =
    let place : length (c ∷ d ∷ cs) - 1 ≡ suc (length (d ∷ cs) - 1) = omega arith in
    no_final_dot (d ∷ cs) (last_behind c d cs h) (ap (λ (n : ℕ). get_or (c ∷ d ∷ cs) n 0) (sym place) ∙ e)

low_or_dot : (c : ℕ) → (is_dot c || is_name_letter c) ≡ true → to_ascii_lowercase c ≡ c
low_or_dot c h = grind (arith, nat_tests)

lows : (cs : List ℕ) → list_all (λ c. is_dot c || is_name_letter c) cs ≡ true → map to_ascii_lowercase cs ≡ cs
lows [] h = refl
lows (c ∷ cs) h =
    let parts = and_parts _ _ h in
    let head = low_or_dot c parts.0 in
    let tail = lows cs parts.1 in
    cc

labels_of_letters : (labels : List (List ℕ)) → list_all is_label labels ≡ true → list_all (λ label. list_all is_name_letter label) labels ≡ true
labels_of_letters [] h = refl
labels_of_letters (l ∷ ls) h =
    let parts = and_parts _ _ h in
    and_from _ _ ((and_parts _ _ parts.0).1) (labels_of_letters ls parts.1)

-- the text of a lookup name spells it
pub name_of_name : (name : Name) → is_lookup_name name ≡ true → name_of name.kind name.text ≡ Some name
name_of_name name h =
    let known = proper name h in
    let last : last_some (labels_of name.text) ≡ true = go (labels_of name.text) (labels-cons name.text) known.labels in
    let dotless : (get_or name.text (length name.text - 1) 0 == 46) ≡ false = ne_eqb _ _ (no_final_dot name.text last) in
    let bare : without_final_dot name.text ≡ name.text = ap (λ (b : Bool). cond b (take (length name.text - 1) name.text) name.text) dotless in
    let low = lows name.text (letters_from_labels is_name_letter name.text (labels_of_letters (labels_of name.text) known.labels)) in
    ap (λ (text : List ℕ). kept_name name.kind (map to_ascii_lowercase text)) bare ∙ ap (kept_name name.kind) low
    ∙ ap (λ (b : Bool). cond b (Some name) None) h where
      go : (ls : List (List ℕ)) → (first : List ℕ) × (rest : List (List ℕ)) × (ls ≡ first ∷ rest) → list_all is_label ls ≡ true → last_some ls ≡ true
      go [] cons k = let e = cons.2 in cc
      go (l ∷ ls) cons k = last_of_labels ls l k

-- whatever the name's kind, its text is read as the name of kind V4
pub text_read : (name : Name) → is_lookup_name name ≡ true → lookup_name_of name.text ≡ Some (record { kind = V4; text = name.text })
text_read name h = name_of_name (record { kind = V4; text = name.text }) h

-- Labels as they stand in a message, read as a dotted name.
dotted_label : (l octets : List ℕ) → dotted (length l) (l ++ octets) ≡ l ++ dotted 0 octets
dotted_label [] octets = refl
dotted_label (c ∷ cs) octets = ap (λ (xs : List ℕ). c ∷ xs) (dotted_label cs octets)

dotted_labels : (l : List ℕ) (ls : List (List ℕ)) → dotted (length l) (l ++ flat_map wire_label ls) ≡ join_with_byte 46 (l ∷ ls)
dotted_labels l [] = dotted_label l [] ∙ append-nil l
dotted_labels l (m ∷ ms) = dotted_label l (flat_map wire_label (m ∷ ms)) ∙ ap (λ (xs : List ℕ). l ++ (46 ∷ xs)) (dotted_labels m ms)

-- the labels of a name, as they stand, are read as the name
pub plain_is_name : (name rest : List ℕ) (first : ℕ) → flat_map wire_label (labels_of name) ≡ first ∷ rest → dotted first rest ≡ name
plain_is_name name rest first e = go (labels_of name) (labels-cons name) e (joined_labels name) where
  go : (ls : List (List ℕ)) → (l : List ℕ) × (others : List (List ℕ)) × (ls ≡ l ∷ others) → flat_map wire_label ls ≡ first ∷ rest → join_with_byte 46 ls ≡ name → dotted first rest ≡ name
  go [] cons e joined = let n = cons.2 in cc
  go (l ∷ ls) cons e joined =
      let head : length l ≡ first = cc in
      let tail : l ++ flat_map wire_label ls ≡ rest = cc in
      sym (ap (λ (n : ℕ). dotted n (l ++ flat_map wire_label ls)) head ∙ ap (dotted first) tail) ∙ dotted_labels l ls ∙ joined

pub plain_is_some : (name : List ℕ) → flat_map wire_label (labels_of name) ≡ [] → ⊥
plain_is_some name e = go (labels_of name) (labels-cons name) e where
  go : (ls : List (List ℕ)) → (l : List ℕ) × (others : List (List ℕ)) × (ls ≡ l ∷ others) → flat_map wire_label ls ≡ [] → ⊥
  go [] cons e = let n = cons.2 in cc
  go (l ∷ ls) cons e = cc

-- a question without the root, the type and the class
asked_parts : (name : Name) → asked_octets name ≡ flat_map wire_label (labels_of name.text) ++ (0 ∷ number_octets (type_of name.kind) ++ (0 ∷ 1 ∷ []))
asked_parts name =
    append_assoc (wire_name name.text) (number_octets (type_of name.kind)) (0 ∷ 1 ∷ [])
    ∙ append_assoc (flat_map wire_label (labels_of name.text)) (0 ∷ []) (number_octets (type_of name.kind) ++ (0 ∷ 1 ∷ []))

asked_whole : (datagram : List ℕ) (name : Name) → drop 12 datagram ≡ asked_octets name
    → drop 12 datagram ≡ flat_map wire_label (labels_of name.text) ++ (0 ∷ number_octets (type_of name.kind) ++ (0 ∷ 1 ∷ []))
asked_whole datagram name e = e ∙ asked_parts name

labels_end : (datagram : List ℕ) (name : Name) → drop 12 datagram ≡ asked_octets name → length datagram ≡ 12 + length (flat_map wire_label (labels_of name.text)) + 5
labels_end datagram name e =
    omega (arith, length-drop 12 datagram, ap length (asked_whole datagram name e), length-append (flat_map wire_label (labels_of name.text)) (0 ∷ number_octets (type_of name.kind) ++ (0 ∷ 1 ∷ [])))

pub plain_labels : (datagram : List ℕ) (name : Name) → drop 12 datagram ≡ asked_octets name → slice_range datagram 12 (length datagram - 5) ≡ flat_map wire_label (labels_of name.text)
plain_labels datagram name e =
    let size : length (flat_map wire_label (labels_of name.text)) ≡ length datagram - 5 - 12 = omega (arith, labels_end datagram name e) in
    ap (take (length datagram - 5 - 12)) (asked_whole datagram name e)
    ∙ take_at (flat_map wire_label (labels_of name.text)) (0 ∷ number_octets (type_of name.kind) ++ (0 ∷ 1 ∷ [])) (length datagram - 5 - 12) size

-- the type in it
pub plain_type : (datagram : List ℕ) (name : Name) → drop 12 datagram ≡ asked_octets name → number_at datagram (length datagram - 4) ≡ type_of name.kind
plain_type datagram name e =
    let place : length datagram - 4 ≡ length (flat_map wire_label (labels_of name.text)) + 1 + 12 = omega (arith, labels_end datagram name e) in
    let octets : drop (length datagram - 4) datagram ≡ number_octets (type_of name.kind) ++ (0 ∷ 1 ∷ []) =
    ap (λ (n : ℕ). drop n datagram) (omega (arith, place)) ∙ sym (drop-drop (length (flat_map wire_label (labels_of name.text)) + 1) 12 datagram)
    ∙ ap (drop (length (flat_map wire_label (labels_of name.text)) + 1)) (e ∙ append_assoc (wire_name name.text) (number_octets (type_of name.kind)) (0 ∷ 1 ∷ []))
    ∙ drop_at (wire_name name.text) (number_octets (type_of name.kind) ++ (0 ∷ 1 ∷ [])) (length (flat_map wire_label (labels_of name.text)) + 1)
    (omega (arith, length-append (flat_map wire_label (labels_of name.text)) (0 ∷ []))) in
    ap (big_number 2) octets ∙ big_number-reads_back 2 (type_of name.kind) (0 ∷ 1 ∷ []) (type_fits name.kind)

-- how long a question is
pub length_of_question : (datagram : List ℕ) (name : Name) → drop 12 datagram ≡ asked_octets name → length datagram - 12 ≡ length name.text + 6
length_of_question datagram name e =
    omega (arith, length-drop 12 datagram, ap length e, length-append (wire_name name.text ++ number_octets (type_of name.kind)) (0 ∷ 1 ∷ []), length-append (wire_name name.text) (number_octets (type_of name.kind)), length-wire_name name.text)

-- What a question holds.
pub question_of : (datagram : List ℕ) (name : Name) (id : ℕ) → datagram ≡ question_octets id name → drop 12 datagram ≡ asked_octets name
unfolding question_octets
question_of datagram name id e = ap (drop 12) e

pub number_of : (datagram : List ℕ) (name : Name) (id : ℕ) → id < 2 ^ 16 → datagram ≡ question_octets id name → number_at datagram 0 ≡ id
unfolding question_octets
number_of datagram name id small e =
    ap (big_number 2) e ∙ big_number-reads_back 2 id (drop 2 (header_octets (query_header id) ++ asked_octets name)) small

asks : (datagram : List ℕ) (name : Name) (id : ℕ) → is_lookup_name name ≡ true → datagram ≡ question_octets id name → AsksFor datagram name []
asks datagram name id h e =
    let known = proper name h in
    record {
      question = question_of datagram name id e ∙ append_assoc (wire_name name.text) (number_octets (type_of name.kind)) (0 ∷ 1 ∷ []);
      short = known.short;
      labels = known.labels;
    }

pub both_same : {A B C : Type 0} (f : A → B → C) (a b : A) (m n : B) → a ≡ b → m ≡ n → f a m ≡ f b n
both_same f a b m n e h = ap (λ k. f k m) e ∙ ap (f b) h

-- kinds with the same type are one
pub one_kind : (a b : NameKind) → type_of a ≡ type_of b → a ≡ b
one_kind V4 V4 e = refl
one_kind V4 V6 e = absurd (omega (arith, e))
one_kind V6 V4 e = absurd (omega (arith, e))
one_kind V6 V6 e = refl

-- and no other type is one's
pub no_kind : (kind : NameKind) (type : ℕ) → type ≡ type_of kind → (type ≡ 1 → ⊥) → (type ≡ 28 → ⊥) → ⊥
no_kind V4 type e a aaaa = a e
no_kind V6 type e a aaaa = aaaa e

-- a message has one question
one_question : (datagram : List ℕ) (name another : Name) (at end : ℕ) → question_end datagram name ≡ Some at → question_end datagram another ≡ Some end → name ≡ another
one_question datagram name another at end q r =
    both_same (λ (kind : NameKind) (text : List ℕ). record { kind = kind; text = text }) name.kind another.kind name.text another.text
    (one_kind name.kind another.kind (sym (asked_type datagram name at q) ∙ asked_type datagram another end r))
    (same_name_by_labels name.text another.text (sym (asked_name datagram name at q) ∙ asked_name datagram another end r))

-- questions with the same octets are one
pub questions_differ_law : QuestionsDiffer
questions_differ_law id other name another small fits h k e =
    let left = question_there (question_octets id name) name [] (asks (question_octets id name) name id h refl) in
    let right = question_there (question_octets id name) another [] (asks (question_octets id name) another other k e) in (
      sym (number_of (question_octets id name) name id small refl) ∙ number_of (question_octets id name) another other fits e,
      one_question (question_octets id name) name another _ _ left right,
    )

-- where there is a reply, the question is there
asked_in_reply : (datagram : List ℕ) (name : Name) (id : ℕ) → IsSome (reply_of datagram id name) → (at : ℕ) × (question_end datagram name ≡ Some at)
unfolding reply_of
asked_in_reply datagram name id h = go (leb 12 (length datagram) && is_response_to (header_of datagram) id) h where
  hop : (o : Option ℕ) → question_end datagram name ≡ o → IsSome (answer_behind datagram name o) → (at : ℕ) × (question_end datagram name ≡ Some at)
  hop None e h = absurd (false≢true h)
  hop (Some at) e h = (at, e)

  go : (b : Bool) → IsSome (cond b (answer_behind datagram name (question_end datagram name)) None) → (at : ℕ) × (question_end datagram name ≡ Some at)
  go true h = hop (question_end datagram name) refl h
  go false h = absurd (false≢true h)

-- a datagram is a reply to one name at most
pub one_name_law : OneNameReplied
one_name_law datagram id other name another h k replied answered =
    let left = asked_in_reply datagram name id replied in
    let right = asked_in_reply datagram another other answered in
    one_question datagram name another left.0 right.0 left.1 right.1

-- nothing is not something
pub not_both : {A : Type 0} (o : Option A) (x : A) → o ≡ None → o ≡ Some x → ⊥
not_both o x none some = false≢true (ap is_some (sym none) ∙ ap is_some some)

pub same_inside : {A : Type 0} (m n : A) → Some m ≡ Some n → m ≡ n
same_inside m n e = cc
