-- Comparing names label by label, ASCII case aside.
use Rattle.std.proofs.Common.{◌≡◌, ℕ, ◌+◌, ◌<◌, ◌≤◌, Bool, true, false, cond, ◌&&◌, leb, nat_eq, List, [], ◌∷◌, length, map, Option, Some, None, refl, sym, ◌∙◌, ap, arith}
use Rattle.std.specs.Char.{to_ascii_lowercase}
use Rattle.std.specs.List.{list_all}
use Rattle.std.specs.Cmp.Lexicographic.{pointwise}
use Rattle.std.proofs.lemmas.Bool.{and_parts, and_right, and_from, true≢false, le-leb, lt-leb, false_from_ne_true}
use Rattle.std.proofs.lemmas.Bool.Decides.{nat_tests}
use Rattle.std.proofs.lemmas.List.{length-map}
use Rattle.std.proofs.lemmas.Slice.Eq.{bytes_eq-Decides}
use Rattle.pac_names.specs.Labels.{labels_length}
use Rattle.pac_names.specs.Names.{is_label, is_name_letter}
use Rattle.dns_name.specs.Wire.{WireName, lowered, lowered_of, labels_at, are_labels, are_same, same_labels, within_limit, is_same_name}
use Rattle.dns_name.specs.Walk.{rest_of, only_labels, onto_labels}
use Rattle.dns_name.proofs.WalkLaws.{name_is_rest}

-- equal labels are found equal
pub same_bytes : (xs ys : List ℕ) → xs ≡ ys → pointwise nat_eq xs ys ≡ true
same_bytes xs ys e = (bytes_eq-Decides xs ys).1 e

pub bytes_same : (xs ys : List ℕ) → pointwise nat_eq xs ys ≡ true → xs ≡ ys
bytes_same xs ys h = (bytes_eq-Decides xs ys).0 h

other_bytes : (xs ys : List ℕ) → (xs ≡ ys → ⊥) → pointwise nat_eq xs ys ≡ false
other_bytes xs ys n = false_from_ne_true _ (λ h. n (bytes_same xs ys h))

-- what is found equal is equal
pub labels_same : (xs ys : List (List ℕ)) → same_labels xs ys ≡ true → xs ≡ ys
labels_same [] [] h = refl
labels_same [] (y ∷ ys) h = absurd (true≢false (sym h))
labels_same (x ∷ xs) [] h = absurd (true≢false (sym h))
labels_same (x ∷ xs) (y ∷ ys) h =
    let parts = and_parts _ _ h in
    let head = bytes_same x y parts.0 in
    let tail = labels_same xs ys parts.1 in
    cc

pub same_labels-refl : (xs : List (List ℕ)) → same_labels xs xs ≡ true
same_labels-refl [] = refl
same_labels-refl (x ∷ xs) = and_from _ _ (same_bytes x x refl) (same_labels-refl xs)

-- the case changes no length
pub length-lowered : (labels : List (List ℕ)) → labels_length (lowered labels) ≡ labels_length labels
length-lowered [] = refl
length-lowered (l ∷ ls) = omega (arith, length-map l to_ascii_lowercase, length-lowered ls)

-- Two names from a place on, of which so many octets were equal.
abbrev pub same_rest : ℕ → Option (List (List ℕ)) → Option (List (List ℕ)) → Bool
same_rest octets None other = false
same_rest octets (Some xs) None = false
same_rest octets (Some xs) (Some ys) = same_labels (lowered ys) (lowered xs) && leb (octets + labels_length xs) 255

-- the limit on both names, where equal names are equally long
both_limited : (t u s : Bool) (x y : WireName) → (s ≡ true → t ≡ u) → same_labels (lowered y.labels) (lowered x.labels) ≡ s
    → are_same (lowered_of (cond t (Some x) None)) (lowered_of (cond u (Some y) None)) ≡ (s && t)
both_limited true true true x y same e = e
both_limited true true false x y same e = e
both_limited true false true x y same e = absurd (true≢false (same refl))
both_limited true false false x y same e = refl
both_limited false u true x y same e = refl
both_limited false u false x y same e = refl

one_limited : (t : Bool) (x : WireName) → are_same (lowered_of (cond t (Some x) None)) None ≡ false
one_limited true x = refl
one_limited false x = refl

both_found : (left right : Option WireName) → are_same (lowered_of (within_limit left)) (lowered_of (within_limit right)) ≡ same_rest 1 (only_labels left) (only_labels right)
both_found None right = refl
both_found (Some x) None = one_limited (leb (labels_length x.labels + 1) 255) x
both_found (Some x) (Some y) =
    let long : same_labels (lowered y.labels) (lowered x.labels) ≡ true → leb (labels_length x.labels + 1) 255 ≡ leb (labels_length y.labels + 1) 255 = λ h.
    let equal : labels_length (lowered y.labels) ≡ labels_length (lowered x.labels) = ap labels_length (labels_same (lowered y.labels) (lowered x.labels) h) in
    let same : labels_length x.labels ≡ labels_length y.labels = omega (arith, equal, length-lowered x.labels, length-lowered y.labels) in
    ap (λ (n : ℕ). leb (n + 1) 255) same in
    let order : labels_length x.labels + 1 ≡ 1 + labels_length x.labels = omega arith in
    both_limited (leb (labels_length x.labels + 1) 255) (leb (labels_length y.labels + 1) 255) (same_labels (lowered y.labels) (lowered x.labels)) x y long refl
    ∙ ap (λ (n : ℕ). same_labels (lowered y.labels) (lowered x.labels) && leb n 255) order

pub same_whole : (message : List ℕ) (a b : ℕ) → is_same_name message a b ≡ same_rest 1 (only_labels (rest_of message a a)) (only_labels (rest_of message b b))
same_whole message a b =
    ap (λ (name : Option WireName). are_same (lowered_of name) (labels_at message b)) (name_is_rest message a)
    ∙ ap (λ (name : Option WireName). are_same (lowered_of (within_limit (rest_of message a a))) (lowered_of name)) (name_is_rest message b)
    ∙ both_found (rest_of message a a) (rest_of message b b)

pub same_step : (octets : ℕ) (x y : List ℕ) (p q : Option (List (List ℕ))) → map to_ascii_lowercase x ≡ map to_ascii_lowercase y
    → same_rest octets (onto_labels x p) (onto_labels y q) ≡ same_rest (octets + (length x + 1)) p q
same_step octets x y None q e = refl
same_step octets x y (Some xs) None e = refl
same_step octets x y (Some xs) (Some ys) e =
    let head : pointwise nat_eq (map to_ascii_lowercase y) (map to_ascii_lowercase x) ≡ true = same_bytes _ _ (sym e) in
    let count : octets + (length x + 1 + labels_length xs) ≡ octets + (length x + 1) + labels_length xs = omega arith in
    ap (λ (b : Bool). (b && same_labels (lowered ys) (lowered xs)) && leb (octets + (length x + 1 + labels_length xs)) 255) head
    ∙ ap (λ (n : ℕ). same_labels (lowered ys) (lowered xs) && leb n 255) count

pub same_other : (octets : ℕ) (x y : List ℕ) (p q : Option (List (List ℕ))) → (map to_ascii_lowercase x ≡ map to_ascii_lowercase y → ⊥)
    → same_rest octets (onto_labels x p) (onto_labels y q) ≡ false
same_other octets x y None q n = refl
same_other octets x y (Some xs) None n = refl
same_other octets x y (Some xs) (Some ys) n =
    let head : pointwise nat_eq (map to_ascii_lowercase y) (map to_ascii_lowercase x) ≡ false = other_bytes _ _ (λ e. n (sym e)) in
    ap (λ (b : Bool). (b && same_labels (lowered ys) (lowered xs)) && leb (octets + (length x + 1 + labels_length xs)) 255) head

pub same_long : (octets : ℕ) (p q : Option (List (List ℕ))) → 255 < octets → same_rest octets p q ≡ false
same_long octets None q h = refl
same_long octets (Some xs) None h = refl
same_long octets (Some xs) (Some ys) h =
    let long : 255 < octets + labels_length xs = omega arith in
    and_right _ _ (lt-leb _ _ long)

pub same_ends : (octets : ℕ) → octets ≤ 255 → same_rest octets (Some []) (Some []) ≡ true
same_ends octets h = le-leb _ _ (omega arith)

pub same_label_end : (octets : ℕ) (x : List ℕ) (p : Option (List (List ℕ))) → same_rest octets (onto_labels x p) (Some []) ≡ false
same_label_end octets x None = refl
same_label_end octets x (Some xs) = refl

pub same_end_label : (octets : ℕ) (y : List ℕ) (q : Option (List (List ℕ))) → same_rest octets (Some []) (onto_labels y q) ≡ false
same_end_label octets y None = refl
same_end_label octets y (Some ys) = refl

pub same_none : (octets : ℕ) (p : Option (List (List ℕ))) → same_rest octets p None ≡ false
same_none octets None = refl
same_none octets (Some xs) = refl

-- A name from a place on, against labels in lower case.
abbrev pub spelled_rest : Option (List (List ℕ)) → List (List ℕ) → Bool
spelled_rest None labels = false
spelled_rest (Some found) labels = same_labels (lowered found) labels

spelled_limited : (t s : Bool) (x : WireName) (labels : List (List ℕ)) → (s ≡ true → t ≡ true) → same_labels (lowered x.labels) labels ≡ s
    → are_labels (lowered_of (cond t (Some x) None)) labels ≡ s
spelled_limited true s x labels h e = e
spelled_limited false true x labels h e = absurd (true≢false (sym (h refl)))
spelled_limited false false x labels h e = refl

spelled_found : (name : Option WireName) (labels : List (List ℕ)) → labels_length labels + 1 ≤ 255 → are_labels (lowered_of (within_limit name)) labels ≡ spelled_rest (only_labels name) labels
spelled_found None labels h = refl
spelled_found (Some x) labels h =
    let short : same_labels (lowered x.labels) labels ≡ true → leb (labels_length x.labels + 1) 255 ≡ true = λ e.
    let equal : labels_length (lowered x.labels) ≡ labels_length labels = ap labels_length (labels_same (lowered x.labels) labels e) in
    le-leb _ _ (omega (arith, equal, length-lowered x.labels)) in
    spelled_limited (leb (labels_length x.labels + 1) 255) (same_labels (lowered x.labels) labels) x labels short refl

pub spelled_whole : (message : List ℕ) (at : ℕ) (labels : List (List ℕ)) → labels_length labels + 1 ≤ 255
    → are_labels (labels_at message at) labels ≡ spelled_rest (only_labels (rest_of message at at)) labels
spelled_whole message at labels h =
    ap (λ (name : Option WireName). are_labels (lowered_of name) labels) (name_is_rest message at) ∙ spelled_found (rest_of message at at) labels h

pub spelled_step : (found label : List ℕ) (o : Option (List (List ℕ))) (labels : List (List ℕ)) → map to_ascii_lowercase found ≡ label
    → spelled_rest (onto_labels found o) (label ∷ labels) ≡ spelled_rest o labels
spelled_step found label None labels e = refl
spelled_step found label (Some others) labels e = ap (λ (b : Bool). b && same_labels (lowered others) labels) (same_bytes _ _ e)

pub spelled_other : (found label : List ℕ) (o : Option (List (List ℕ))) (labels : List (List ℕ)) → (map to_ascii_lowercase found ≡ label → ⊥)
    → spelled_rest (onto_labels found o) (label ∷ labels) ≡ false
spelled_other found label None labels n = refl
spelled_other found label (Some others) labels n = ap (λ (b : Bool). b && same_labels (lowered others) labels) (other_bytes _ _ n)

pub spelled_label_end : (found : List ℕ) (o : Option (List (List ℕ))) → spelled_rest (onto_labels found o) [] ≡ false
spelled_label_end found None = refl
spelled_label_end found (Some others) = refl

letter_is_low : (c : ℕ) → is_name_letter c ≡ true → to_ascii_lowercase c ≡ c
letter_is_low c h = grind (arith, nat_tests)

letters_are_low : (cs : List ℕ) → list_all is_name_letter cs ≡ true → map to_ascii_lowercase cs ≡ cs
letters_are_low [] h = refl
letters_are_low (c ∷ cs) h =
    let parts = and_parts _ _ h in
    let head = letter_is_low c parts.0 in
    let tail = letters_are_low cs parts.1 in
    cc

-- a label of a lookup name is in lower case
pub label_is_low : (label : List ℕ) → is_label label ≡ true → map to_ascii_lowercase label ≡ label
label_is_low label h = letters_are_low label ((and_parts _ _ h).1)

-- a label that differs decides
pub spells_differs : (b : Bool) (o p : Option (List (List ℕ))) (ls ms : List (List ℕ)) (found label : List ℕ) → b ≡ spelled_rest o ls → o ≡ onto_labels found p
    → ls ≡ label ∷ ms → list_all is_label ls ≡ true → (map to_ascii_lowercase found ≡ map to_ascii_lowercase label → ⊥) → b ≡ false
spells_differs b o p ls ms found label whole next first kept differs =
    let parts = and_parts _ _ (ap (list_all is_label) (sym first) ∙ kept) in
    let low = label_is_low label parts.0 in
    whole ∙ ap (λ (q : Option (List (List ℕ))). spelled_rest q ls) next ∙ ap (spelled_rest (onto_labels found p)) first
    ∙ spelled_other found label p ms (λ e. differs (e ∙ sym low))

-- a label that is the same leaves it to the rest
pub spells_goes_on : (b : Bool) (o p : Option (List (List ℕ))) (ls ms : List (List ℕ)) (found label : List ℕ) → b ≡ spelled_rest o ls → o ≡ onto_labels found p
    → ls ≡ label ∷ ms → list_all is_label ls ≡ true → map to_ascii_lowercase found ≡ map to_ascii_lowercase label
    → (b ≡ spelled_rest p ms) × (list_all is_label ms ≡ true)
spells_goes_on b o p ls ms found label whole next first kept same =
    let parts = and_parts _ _ (ap (list_all is_label) (sym first) ∙ kept) in
    let low = label_is_low label parts.0 in (
      whole ∙ ap (λ (q : Option (List (List ℕ))). spelled_rest q ls) next ∙ ap (spelled_rest (onto_labels found p)) first
          ∙ spelled_step found label p ms (same ∙ low),
      parts.1,
    )
