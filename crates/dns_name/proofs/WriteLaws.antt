-- Writing a name label by label.
use Rattle.std.proofs.Common.{◌≡◌, ℕ, ◌+◌, ◌<◌, ◌≤◌, true, List, [], ◌∷◌, ◌++◌, length, take, drop, set, suc, add-one, refl, sym, ◌∙◌, ap, arith}
use Rattle.std.specs.List.{flat_map, list_all}
use Rattle.std.proofs.lemmas.List.{length-append, length-take-le, length-drop, append_assoc, take_at, drop_at, drop-drop, append-nil, take-append-drop, set_split}
use Rattle.std.proofs.lemmas.Grind.{flat_map-append}
use Rattle.std.proofs.lemmas.Bool.{and_parts}
use Rattle.pac_names.specs.Labels.{labels_of, labels_length}
use Rattle.pac_names.specs.Names.{is_label}
use Rattle.dns_name.specs.Writing.{overwritten, wire_label, wire_name}

-- the octets of a list of labels
pub labels_written : (labels : List (List ℕ)) → length (flat_map wire_label labels) ≡ labels_length labels
labels_written [] = refl
labels_written (l ∷ ls) = omega (arith, length-append (wire_label l) (flat_map wire_label ls), labels_written ls)

-- writing keeps the length
pub length-overwritten : (octets : List ℕ) (at : ℕ) (new : List ℕ) → at + length new ≤ length octets → length (overwritten octets at new) ≡ length octets
length-overwritten octets at new h =
    omega (arith, length-append (take at octets ++ new) (drop (at + length new) octets), length-append (take at octets) new, length-take-le at octets (omega arith), length-drop (at + length new) octets)

-- writing on, where the last writing ended
pub overwritten-overwritten : (octets : List ℕ) (at : ℕ) (xs ys : List ℕ) → at + length xs + length ys ≤ length octets
    → overwritten (overwritten octets at xs) (at + length xs) ys ≡ overwritten octets at (xs ++ ys)
overwritten-overwritten octets at xs ys h =
    let front : length (take at octets) ≡ at = length-take-le at octets (omega arith) in
    let written : length (take at octets ++ xs) ≡ at + length xs = omega (arith, length-append (take at octets) xs) in
    let kept : take (at + length xs) (take at octets ++ xs ++ drop (at + length xs) octets) ≡ take at octets ++ xs = take_at (take at octets ++ xs) _ _ written in
    let left : drop (at + length xs + length ys) (take at octets ++ xs ++ drop (at + length xs) octets) ≡ drop (at + length (xs ++ ys)) octets =
    sym (drop-drop (length ys) (at + length xs) (take at octets ++ xs ++ drop (at + length xs) octets))
    ∙ ap (drop (length ys)) (drop_at (take at octets ++ xs) (drop (at + length xs) octets) (at + length xs) written)
    ∙ drop-drop (length ys) (at + length xs) octets
    ∙ ap (λ (n : ℕ). drop n octets) (omega (arith, length-append xs ys)) in
    rw (kept, left, append_assoc (take at octets) xs ys) refl

-- a part of the labels is written, and the rest has room
pub record IsWrittenSoFar (old new : List ℕ) (begin at : ℕ) (labels rest : List (List ℕ)) : Type 0 where
  pub done : List (List ℕ)
  pub parts : labels ≡ done ++ rest
  pub place : at ≡ begin + length (flat_map wire_label done)
  pub octets : new ≡ overwritten old begin (flat_map wire_label done)
  pub room : at + labels_length rest + 1 ≤ length old
  pub kept : list_all is_label rest ≡ true

-- nothing is written yet
pub written_start : (old : List ℕ) (at : ℕ) (labels : List (List ℕ)) → at + labels_length labels + 1 ≤ length old → list_all is_label labels ≡ true
    → IsWrittenSoFar old old at at labels labels
written_start old at labels room kept =
    let nothing : at + 0 ≡ at = omega arith in
    record {
      done = [];
      parts = refl;
      place = omega arith;
      octets = sym (ap (λ (n : ℕ). take at old ++ [] ++ drop n old) nothing ∙ ap (λ (xs : List ℕ). xs ++ drop at old) (append-nil (take at old)) ∙ take-append-drop at old);
      room = room;
      kept = kept;
    }

wired_more : (done : List (List ℕ)) (label : List ℕ) → flat_map wire_label (done ++ (label ∷ [])) ≡ flat_map wire_label done ++ wire_label label
wired_more done label = flat_map-append wire_label done (label ∷ []) ∙ ap (λ (xs : List ℕ). flat_map wire_label done ++ xs) (append-nil (wire_label label))

-- a further label is written
pub written_more : (old new newer : List ℕ) (begin at next : ℕ) (labels ls ms : List (List ℕ)) (label : List ℕ) → IsWrittenSoFar old new begin at labels ls → ls ≡ label ∷ ms
    → newer ≡ overwritten new at (wire_label label) → next ≡ at + length label + 1 → IsWrittenSoFar old newer begin next labels ms
written_more old new newer begin at next labels ls ms label h first write step =
    let left : labels_length ls ≡ length label + 1 + labels_length ms = ap labels_length first in
    let size = length-append (flat_map wire_label h.done) (wire_label label) in
    let on : overwritten (overwritten old begin (flat_map wire_label h.done)) (begin + length (flat_map wire_label h.done)) (wire_label label) ≡ overwritten old begin (flat_map wire_label h.done ++ wire_label label) =
    overwritten-overwritten old begin (flat_map wire_label h.done) (wire_label label) (omega (arith, h.place, h.room, left)) in
    record {
      done = h.done ++ (label ∷ []);
      parts = h.parts ∙ ap (λ (xs : List (List ℕ)). h.done ++ xs) first ∙ sym (append_assoc h.done (label ∷ []) ms);
      place = omega (arith, h.place, step, size, ap length (wired_more h.done label));
      octets = write ∙ ap (λ (xs : List ℕ). overwritten xs at (wire_label label)) h.octets
          ∙ ap (λ (n : ℕ). overwritten (overwritten old begin (flat_map wire_label h.done)) n (wire_label label)) h.place
          ∙ on ∙ ap (overwritten old begin) (sym (wired_more h.done label));
      room = omega (arith, h.room, step, left);
      kept = (and_parts _ _ (ap (list_all is_label) (sym first) ∙ h.kept)).1;
    }

-- one octet is written
one_written : (octets : List ℕ) (at x : ℕ) → at < length octets → set octets at x ≡ overwritten octets at (x ∷ [])
one_written octets at x h = set_split octets at x h ∙ sym (append_assoc (take at octets) (x ∷ []) (drop (suc at) octets)) ∙ ap (λ (n : ℕ). take at octets ++ (x ∷ []) ++ drop n octets) (sym (add-one at))

-- the zero octet closes the name
pub written_end : (old new name : List ℕ) (begin at : ℕ) → IsWrittenSoFar old new begin at (labels_of name) [] → set new at 0 ≡ overwritten old begin (wire_name name)
written_end old new name begin at h =
    let long : length new ≡ length old =
    ap length h.octets ∙ length-overwritten old begin (flat_map wire_label h.done) (omega (arith, h.place, h.room)) in
    let all : h.done ≡ labels_of name = sym (h.parts ∙ append-nil h.done) in
    one_written new at 0 (omega (arith, h.room, long)) ∙ ap (λ (xs : List ℕ). overwritten xs at (0 ∷ [])) h.octets
    ∙ ap (λ (n : ℕ). overwritten (overwritten old begin (flat_map wire_label h.done)) n (0 ∷ [])) h.place
    ∙ overwritten-overwritten old begin (flat_map wire_label h.done) (0 ∷ []) (omega (arith, h.place, h.room))
    ∙ ap (λ (labels : List (List ℕ)). overwritten old begin (flat_map wire_label labels ++ (0 ∷ []))) all

-- and stands where the labels end
pub end_of_written : (old new name : List ℕ) (begin at : ℕ) → IsWrittenSoFar old new begin at (labels_of name) [] → at + 1 ≡ begin + length (wire_name name)
end_of_written old new name begin at h =
    let all : h.done ≡ labels_of name = sym (h.parts ∙ append-nil h.done) in
    omega (arith, h.place, length-append (flat_map wire_label (labels_of name)) (0 ∷ []), ap (λ (labels : List (List ℕ)). length (flat_map wire_label labels)) all)
