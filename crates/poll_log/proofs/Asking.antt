-- The octets of a question are read as the question.
use Rattle.std.proofs.Common.{◌≡◌, ℕ, ◌-◌, ◌^◌, ◌<◌, Bool, true, false, cond, ◌&&◌, List, [], ◌∷◌, ◌++◌, length, Option, Some, None, refl, sym, ◌∙◌, ap, arith, lit<}
use Rattle.std.specs.Prelude.{IsTrue, nat_eq}
use Rattle.std.specs.List.{All, AllByRecursion, flat_map, cons_option}
use Rattle.std.specs.Cmp.Lexicographic.{pointwise}
use Rattle.std.proofs.lemmas.List.{append_assoc, drop_at, length-append}
use Rattle.std.proofs.lemmas.List.Elements.{recursion_from_All}
use Rattle.byteorder.specs.Endian.{big_number}
use Rattle.byteorder.specs.Numbers.{big_number-reads_back}
use Rattle.pac_names.specs.Labels.{labels_of}
use Rattle.pac_names.specs.declared.kind.NameKind.{NameKind}
use Rattle.pac_names.specs.declared.kind.NameKind.TheVariants.{V4, V6}
use Rattle.pac_names.specs.Names.{Name, is_lookup_name}
use Rattle.dns_name.proofs.SameLaws.{same_bytes}
use Rattle.dns_name.specs.Writing.{wire_label, wire_name}
use Rattle.dns_message.specs.Header.{header_octets, query_header}
use Rattle.dns_message.specs.Numbers.{number_at, number_octets}
use Rattle.dns_message.specs.Question.{class_in, question_octets, type_of}
use Rattle.dns_message.proofs.QueryLaws.{number_of, question_of, plain_is_name, plain_is_some, plain_labels}
use Rattle.poll_log.specs.declared.question.Question.{Question}
use Rattle.poll_log.specs.Turns.{Outgoing, Turns, Begin, Then}
use Rattle.poll_log.specs.Questions.{IsQuestion, octets_of, outgoing_from, asked_by, asked_in, checked_question, firsts, has_name, new_among, onto_unless, question_in, dotted_labels, kind_asked, name_in}

labels_dotted : (text octets : List ℕ) → flat_map wire_label (labels_of text) ≡ octets → dotted_labels octets ≡ text
labels_dotted text [] e = absurd (plain_is_some text e)
labels_dotted text (first ∷ rest) e = plain_is_name text rest first e

text_read : (octets : List ℕ) (name : Name) (id : ℕ) → octets ≡ question_octets id name → (name_in octets).text ≡ name.text
text_read octets name id e = labels_dotted name.text _ (sym (plain_labels octets name (question_of octets name id e)))

-- the type of a question for a name of a kind is read as the kind
kind_of_type : (kind : NameKind) → kind_asked (type_of kind) ≡ kind
kind_of_type V4 = refl
kind_of_type V6 = refl

small_type : (kind : NameKind) → type_of kind < 2 ^ 16
small_type V4 = lit< tt
small_type V6 = lit< tt

-- the type stands four octets before the end
type_read : (front : List ℕ) (type : ℕ) → type < 2 ^ 16
    → (octets : List ℕ) → octets ≡ front ++ (number_octets type ++ number_octets class_in) → number_at octets (length octets - 4) ≡ type
type_read front type small octets e =
    let place : length octets - 4 ≡ length front =
    omega (arith, ap length e, length-append front (number_octets type ++ number_octets class_in)) in
    ap (λ (at : ℕ). number_at octets at) place
    ∙ ap (λ (l : List ℕ). number_at l (length front)) e
    ∙ ap (big_number 2) (drop_at front (number_octets type ++ number_octets class_in) (length front) refl)
    ∙ big_number-reads_back 2 type (number_octets class_in) small

kind_read : (octets : List ℕ) (name : Name) (id : ℕ) → octets ≡ question_octets id name → (name_in octets).kind ≡ name.kind
unfolding question_octets
kind_read octets name id e =
    let front : List ℕ = header_octets (query_header id) in
    let type : List ℕ = number_octets (type_of name.kind) in
    let parts : octets ≡ (front ++ wire_name name.text) ++ (type ++ number_octets class_in) =
    e ∙ ap (λ (l : List ℕ). front ++ l) (append_assoc (wire_name name.text) type (number_octets class_in))
    ∙ sym (append_assoc front (wire_name name.text) (type ++ number_octets class_in)) in
    ap kind_asked (type_read (front ++ wire_name name.text) (type_of name.kind) (small_type name.kind) octets parts) ∙ kind_of_type name.kind

name_read : (octets : List ℕ) (name : Name) (id : ℕ) → octets ≡ question_octets id name → name_in octets ≡ name
name_read octets name id e = λ i. record { kind = kind_read octets name id e i; text = text_read octets name id e i }

same_question : (q : Question) (id : ℕ) (name : Name) → id ≡ q.id → name ≡ q.name → (record { id = id; name = name }) ≡ q
same_question q id name e f = ap (λ (i : ℕ). let r : Question = record { id = i; name = name } in r) e ∙ ap (λ (n : Name). let r : Question = record { id = q.id; name = n } in r) f

pub question_read : (q : Question) → IsQuestion q → question_in (octets_of q) ≡ q
question_read q p = same_question q _ _ (number_of (octets_of q) q.name q.id p.number refl) (name_read (octets_of q) q.name q.id refl)

pub asked_by-octets_of : (q : Question) → IsQuestion q → asked_by (octets_of q) ≡ Some q
unfolding asked_by
asked_by-octets_of q p = ap (checked_question (octets_of q)) (question_read q p) ∙ ap (λ b. cond b (Some q) None) both
  where
    both : (is_lookup_name q.name && pointwise nat_eq (octets_of q) (octets_of q)) ≡ true
    both = ap (λ b. b && pointwise nat_eq (octets_of q) (octets_of q)) p.name ∙ same_bytes (octets_of q) (octets_of q) refl

pub asked_in-append : (xs ys : List Outgoing) → asked_in (xs ++ ys) ≡ asked_in xs ++ asked_in ys
asked_in-append [] ys = refl
asked_in-append (x ∷ xs) ys = go (asked_by x.octets) (asked_in-append xs ys)
  where
    go : (r : Option Question) → asked_in (xs ++ ys) ≡ asked_in xs ++ asked_in ys → cons_option r (asked_in (xs ++ ys)) ≡ cons_option r (asked_in xs) ++ asked_in ys
    go None e = e
    go (Some q) e = ap (λ l. q ∷ l) e

asked_all : (earlier qs : List Question) → AllByRecursion IsQuestion qs → asked_in (outgoing_from earlier qs) ≡ qs
unfolding outgoing_from
asked_all earlier [] p = refl
asked_all earlier (q ∷ qs) p = ap (λ r. cons_option r (asked_in (outgoing_from (earlier ++ q ∷ []) qs))) (asked_by-octets_of q p.0) ∙ ap (λ l. q ∷ l) (asked_all (earlier ++ q ∷ []) qs p.1)

-- the questions in what is sent of them are they
pub asked_in-outgoing : (earlier qs : List Question) → All IsQuestion qs → asked_in (outgoing_from earlier qs) ≡ qs
asked_in-outgoing earlier qs p = asked_all earlier qs (recursion_from_All IsQuestion qs p)

-- a question that is read has a lookup name
checked_name : (octets : List ℕ) (r q : Question) → checked_question octets r ≡ Some q → IsTrue (is_lookup_name q.name)
checked_name octets r q e = go (is_lookup_name r.name) refl (pointwise nat_eq octets (octets_of r)) e
  where
    go : (b : Bool) → is_lookup_name r.name ≡ b → (c : Bool) → cond (b && c) (Some r) None ≡ Some q → IsTrue (is_lookup_name q.name)
    go true h true f = let same : r ≡ q = cc in ap (λ (x : Question). is_lookup_name x.name) (sym same) ∙ h
    go true h false f = cc
    go false h c f = cc

pub asked_name_is : (octets : List ℕ) (q : Question) → asked_by octets ≡ Some q → IsTrue (is_lookup_name q.name)
unfolding asked_by
asked_name_is octets q e = checked_name octets (question_in octets) q e

abbrev pub HasLookupName : Question → Type 0
HasLookupName q = IsTrue (is_lookup_name q.name)

pub asked_names : (sent : List Outgoing) → AllByRecursion HasLookupName (asked_in sent)
asked_names [] = tt
asked_names (one ∷ sent) = go (asked_by one.octets) refl (asked_names sent)
  where
    go : (r : Option Question) → asked_by one.octets ≡ r → AllByRecursion HasLookupName (asked_in sent) → AllByRecursion HasLookupName (cons_option r (asked_in sent))
    go None e h = h
    go (Some q) e h = (asked_name_is one.octets q e, h)

new_named : (seen qs : List Question) → AllByRecursion HasLookupName qs → AllByRecursion HasLookupName (new_among seen qs)
unfolding new_among
new_named seen [] h = tt
new_named seen (q ∷ qs) h = go (has_name q.name seen) (new_named seen qs h.1) (new_named (seen ++ q ∷ []) qs h.1)
  where
    go : (b : Bool) → AllByRecursion HasLookupName (new_among seen qs) → AllByRecursion HasLookupName (new_among (seen ++ q ∷ []) qs) → AllByRecursion HasLookupName (onto_unless b q (new_among seen qs) (new_among (seen ++ q ∷ []) qs))
    go true left behind = left
    go false left behind = (h.0, behind)

both_named : (xs ys : List Question) → AllByRecursion HasLookupName xs → AllByRecursion HasLookupName ys → AllByRecursion HasLookupName (xs ++ ys)
both_named [] ys h k = k
both_named (x ∷ xs) ys h k = (h.0, both_named xs ys h.1 k)

-- the first sends are of lookup names
pub firsts_named : (h : Turns) → AllByRecursion HasLookupName (firsts h)
unfolding firsts
firsts_named (Begin sent) = new_named [] (asked_in sent) (asked_names sent)
firsts_named (Then h e sent) = both_named (firsts h) (new_among (firsts h) (asked_in sent)) (firsts_named h) (new_named (firsts h) (asked_in sent) (asked_names sent))
