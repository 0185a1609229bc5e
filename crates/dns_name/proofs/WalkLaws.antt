-- How a walk along a name goes on, whatever its number of steps.
use Rattle.std.proofs.Common.{◌≡◌, ℕ, zero, suc, ◌+◌, ◌-◌, ◌*◌, ◌<◌, ◌≤◌, Bool, true, false, cond, leb, ltb, List, [], length, Option, Some, None, unwrap_or, drop, refl, sym, ◌∙◌, ap, subst, arith, slice_range}
use Rattle.std.specs.Prelude.{IfSome}
use Rattle.std.specs.Option.{option_or}
use Rattle.std.proofs.lemmas.Bool.{ltb-true, le-leb, lt-leb, lt-ltb, le-ltb}
use Rattle.std.proofs.lemmas.Bool.Decides.{nat_tests}
use Rattle.std.proofs.lemmas.List.{length-take, length-drop}
use Rattle.std.proofs.Math.Nat.{mul-le-mul_right}
use Rattle.pac_names.specs.Labels.{labels_length}
use Rattle.dns_name.specs.Wire.{WireName, part_at, with_label, with_behind, by_part, name_from, name_at, within_limit, behind_of}
use Rattle.dns_name.specs.Walk.{rest_of, only_labels, onto_labels}
use Rattle.dns_name.specs.declared.part.Part.{Part}
use Rattle.dns_name.specs.declared.part.Part.TheVariants.{End, Label, Pointer, Neither}

pub record IsWholeLabel (message : List ℕ) (at n : ℕ) : Type 0 where
  pub within : at + n < length message
  pub some : 0 < n
  pub short : n < 64

-- a label stands whole in the message
pub whole_label : (message : List ℕ) (at n : ℕ) → part_at message at ≡ Label n → IsWholeLabel message at n
unfolding part_at
whole_label message at n h = record { within = grind (arith, nat_tests); some = grind (arith, nat_tests); short = grind (arith, nat_tests) }

-- so does a pointer
pub whole_pointer : (message : List ℕ) (at target : ℕ) → part_at message at ≡ Pointer target → at + 1 < length message
unfolding part_at
whole_pointer message at target h = grind (arith, nat_tests)

pub whole_end : (message : List ℕ) (at : ℕ) → part_at message at ≡ End → at < length message
unfolding part_at
whole_end message at h = grind (arith, nat_tests)

-- as many steps as a walk may need
abbrev steps_left : List ℕ → ℕ → ℕ → ℕ
steps_left message piece at = suc (piece * (length message + 1) + (length message - at))

-- a pointer leads to where fewer steps are left
fewer_steps : (message : List ℕ) (piece at target : ℕ) → target < piece → steps_left message target target ≤ piece * (length message + 1)
fewer_steps message piece at target h =
    let row : (target + 1) * (length message + 1) ≤ piece * (length message + 1) = mul-le-mul_right (length message + 1) (omega arith) in
    omega arith

-- with as many steps or more the name is one
pub same_steps : (f g : ℕ) (message : List ℕ) (piece at : ℕ) → steps_left message piece at ≤ f → steps_left message piece at ≤ g
    → name_from f message piece at ≡ name_from g message piece at
unfolding name_from
same_steps zero g message piece at hf hg = absurd (omega arith)
same_steps (suc f) zero message piece at hf hg = absurd (omega arith)
same_steps (suc f) (suc g) message piece at hf hg = go (part_at message at) refl (same_steps f g message) where
  go : (p : Part) → part_at message at ≡ p
      → ((piece at : ℕ) → steps_left message piece at ≤ f → steps_left message piece at ≤ g → name_from f message piece at ≡ name_from g message piece at)
      → by_part message piece at (name_from f message) p ≡ by_part message piece at (name_from g message) p
  go End e ih = refl
  go (Label n) e ih =
      let whole = whole_label message at n e in
      ap (with_label (slice_range message (at + 1) (at + 1 + n))) (ih piece (at + 1 + n) (omega (arith, whole.within, whole.some)) (omega (arith, whole.within, whole.some)))
  go (Pointer t) e ih = hop (ltb t piece) refl where
    hop : (b : Bool) → ltb t piece ≡ b
        → cond b (with_behind (at + 2) (name_from f message t t)) None ≡ cond b (with_behind (at + 2) (name_from g message t t)) None
    hop true k =
        let few = fewer_steps message piece at t (ltb-true _ _ k) in
        ap (with_behind (at + 2)) (ih t t (omega arith) (omega arith))
    hop false k = refl
  go Neither e ih = refl

-- the rest of a name by what stands there
pub rest_by_part : (message : List ℕ) (piece at : ℕ) → rest_of message piece at ≡ by_part message piece at (rest_of message) (part_at message at)
unfolding rest_of name_from
rest_by_part message piece at = go (part_at message at) refl where
  go : (p : Part) → part_at message at ≡ p
      → by_part message piece at (name_from (piece * (length message + 1) + (length message - at)) message) p ≡ by_part message piece at (rest_of message) p
  go End e = refl
  go (Label n) e =
      let whole = whole_label message at n e in
      ap (with_label (slice_range message (at + 1) (at + 1 + n))) (same_steps (piece * (length message + 1) + (length message - at)) (steps_left message piece (at + 1 + n)) message piece (at + 1 + n) (omega (arith, whole.within, whole.some)) (omega arith))
  go (Pointer t) e = hop (ltb t piece) refl where
    hop : (b : Bool) → ltb t piece ≡ b
        → cond b (with_behind (at + 2) (name_from (piece * (length message + 1) + (length message - at)) message t t)) None ≡ cond b (with_behind (at + 2) (rest_of message t t)) None
    hop true k =
        let few = fewer_steps message piece at t (ltb-true _ _ k) in
        ap (with_behind (at + 2)) (same_steps (piece * (length message + 1) + (length message - at)) (steps_left message t t) message t t (omega arith) (omega arith))
    hop false k = refl
  go Neither e = refl

-- the name at an offset is the rest from its beginning on, within the limit
pub name_is_rest : (message : List ℕ) (at : ℕ) → name_at message at ≡ within_limit (rest_of message at at)
unfolding name_at rest_of
name_is_rest message at = ap within_limit (same_steps ((at + 1) * (length message + 1)) (steps_left message at at) message at at (omega arith) (omega arith))

length-range : (message : List ℕ) (at n : ℕ) → at + n < length message → length (slice_range message (at + 1) (at + 1 + n)) ≡ n
length-range message at n h = omega (arith, length-take (at + 1 + n - (at + 1)) (drop (at + 1) message), length-drop (at + 1) message)

-- The same, part by part.
pub rest_at_end : (message : List ℕ) (piece at : ℕ) → part_at message at ≡ End → rest_of message piece at ≡ Some (record { labels = []; behind = at + 1 })
rest_at_end message piece at e = rest_by_part message piece at ∙ rw e refl

pub rest_at_label : (message : List ℕ) (piece at n : ℕ) → part_at message at ≡ Label n
    → rest_of message piece at ≡ with_label (slice_range message (at + 1) (at + 1 + n)) (rest_of message piece (at + 1 + n))
rest_at_label message piece at n e = rest_by_part message piece at ∙ rw e refl

pub rest_at_pointer : (message : List ℕ) (piece at target : ℕ) → part_at message at ≡ Pointer target → target < piece
    → rest_of message piece at ≡ with_behind (at + 2) (rest_of message target target)
rest_at_pointer message piece at target e h =
    let test : ltb target piece ≡ true = lt-ltb _ _ h in
    rest_by_part message piece at ∙ rw e (rw test refl)

pub rest_at_high_pointer : (message : List ℕ) (piece at target : ℕ) → part_at message at ≡ Pointer target → piece ≤ target → rest_of message piece at ≡ None
rest_at_high_pointer message piece at target e h =
    let test : ltb target piece ≡ false = le-ltb _ _ h in
    rest_by_part message piece at ∙ rw e (rw test refl)

pub rest_at_neither : (message : List ℕ) (piece at : ℕ) → part_at message at ≡ Neither → rest_of message piece at ≡ None
rest_at_neither message piece at e = rest_by_part message piece at ∙ rw e refl

-- the labels from a place on, part by part
pub labels-with_label : (label : List ℕ) (name : Option WireName) → only_labels (with_label label name) ≡ onto_labels label (only_labels name)
labels-with_label label None = refl
labels-with_label label (Some name) = refl

pub labels-with_behind : (behind : ℕ) (name : Option WireName) → only_labels (with_behind behind name) ≡ only_labels name
labels-with_behind behind None = refl
labels-with_behind behind (Some name) = refl

-- Skipping: what is left to say of the offset behind a name, where its first octets are so many and the offset behind
-- its first piece may be known.
abbrev pub skipped : ℕ → Option ℕ → Option WireName → Option ℕ
skipped octets first None = None
skipped octets first (Some name) = cond (leb (octets + labels_length name.labels) 255) (Some (unwrap_or first name.behind)) None

pub skipped_whole : (message : List ℕ) (at : ℕ) → behind_of (name_at message at) ≡ skipped 1 None (rest_of message at at)
skipped_whole message at = ap behind_of (name_is_rest message at) ∙ go (rest_of message at at) where
  go : (name : Option WireName) → behind_of (within_limit name) ≡ skipped 1 None name
  go None = refl
  go (Some name) =
      let same : labels_length name.labels + 1 ≡ 1 + labels_length name.labels = omega arith in
      ap (λ (n : ℕ). behind_of (cond (leb n 255) (Some name) None)) same ∙ hop (leb (1 + labels_length name.labels) 255) where
        hop : (b : Bool) → behind_of (cond b (Some name) None) ≡ cond b (Some name.behind) None
        hop true = refl
        hop false = refl

pub skipped_end : (message : List ℕ) (piece at octets : ℕ) (first : Option ℕ) → part_at message at ≡ End → octets ≤ 255
    → option_or first (Some (at + 1)) ≡ skipped octets first (rest_of message piece at)
skipped_end message piece at octets first e h =
    let test : leb (octets + 0) 255 ≡ true = le-leb _ _ (omega arith) in
    rw (rest_at_end message piece at e) (rw test (go first)) where
      go : (first : Option ℕ) → option_or first (Some (at + 1)) ≡ Some (unwrap_or first (at + 1))
      go None = refl
      go (Some b) = refl

pub skipped_label : (message : List ℕ) (piece at octets n : ℕ) (first : Option ℕ) → part_at message at ≡ Label n
    → skipped octets first (rest_of message piece at) ≡ skipped (octets + (n + 1)) first (rest_of message piece (at + (n + 1)))
skipped_label message piece at octets n first e =
    let whole = whole_label message at n e in
    let size : length (slice_range message (at + 1) (at + 1 + n)) ≡ n = length-range message at n whole.within in
    let place : at + 1 + n ≡ at + (n + 1) = omega arith in
    ap (skipped octets first) (rest_at_label message piece at n e) ∙ go (slice_range message (at + 1) (at + 1 + n)) size (rest_of message piece (at + 1 + n))
    ∙ ap (λ (k : ℕ). skipped (octets + (n + 1)) first (rest_of message piece k)) place where
      go : (label : List ℕ) → length label ≡ n → (name : Option WireName) → skipped octets first (with_label label name) ≡ skipped (octets + (n + 1)) first name
      go label size None = refl
      go label size (Some name) =
          let same : octets + (length label + 1 + labels_length name.labels) ≡ octets + (n + 1) + labels_length name.labels = omega arith in
          ap (λ (k : ℕ). cond (leb k 255) (Some (unwrap_or first name.behind)) None) same

pub skipped_long : (octets : ℕ) (first : Option ℕ) (name : Option WireName) → 255 < octets → skipped octets first name ≡ None
skipped_long octets first None h = refl
skipped_long octets first (Some name) h =
    let test : leb (octets + labels_length name.labels) 255 ≡ false = lt-leb _ _ (omega arith) in
    rw test refl

pub skipped_pointer : (message : List ℕ) (piece at octets target : ℕ) (first : Option ℕ) → part_at message at ≡ Pointer target → target < piece
    → skipped octets first (rest_of message piece at) ≡ skipped octets (option_or first (Some (at + 2))) (rest_of message target target)
skipped_pointer message piece at octets target first e h =
    ap (skipped octets first) (rest_at_pointer message piece at target e h) ∙ go first (rest_of message target target) where
      go : (first : Option ℕ) (name : Option WireName) → skipped octets first (with_behind (at + 2) name) ≡ skipped octets (option_or first (Some (at + 2))) name
      go first None = refl
      go None (Some name) = refl
      go (Some b) (Some name) = refl

-- a name within the limit ends where it would without it
pub end_of_name : (message : List ℕ) (at n : ℕ) → IfSome (behind_of (rest_of message at at)) (λ behind. n ≡ behind) → IfSome (behind_of (name_at message at)) (λ behind. n ≡ behind)
end_of_name message at n h = rw (name_is_rest message at) (go (rest_of message at at) h) where
  go : (name : Option WireName) → IfSome (behind_of name) (λ behind. n ≡ behind) → IfSome (behind_of (within_limit name)) (λ behind. n ≡ behind)
  go None h = tt
  go (Some name) h = hop (leb (labels_length name.labels + 1) 255) where
    hop : (b : Bool) → IfSome (behind_of (cond b (Some name) None)) (λ behind. n ≡ behind)
    hop true = h
    hop false = tt

pub behind-with_label : (label : List ℕ) (name : Option WireName) → behind_of (with_label label name) ≡ behind_of name
behind-with_label label None = refl
behind-with_label label (Some name) = refl

pub end_at_end : (message : List ℕ) (piece at : ℕ) → part_at message at ≡ End → IfSome (behind_of (rest_of message piece at)) (λ behind. at + 1 ≡ behind)
end_at_end message piece at e = rw (rest_at_end message piece at e) refl

pub end_at_pointer : (message : List ℕ) (piece at target : ℕ) → part_at message at ≡ Pointer target → IfSome (behind_of (rest_of message piece at)) (λ behind. at + 2 ≡ behind)
end_at_pointer message piece at target e = rw (rest_by_part message piece at, e) (hop (ltb target piece) (rest_of message target target)) where
  hop : (b : Bool) (name : Option WireName) → IfSome (behind_of (cond b (with_behind (at + 2) name) None)) (λ behind. at + 2 ≡ behind)
  hop true None = tt
  hop true (Some name) = refl
  hop false name = tt

pub end_at_neither : (message : List ℕ) (piece at n : ℕ) → part_at message at ≡ Neither → IfSome (behind_of (rest_of message piece at)) (λ behind. n ≡ behind)
end_at_neither message piece at n e = rw (rest_at_neither message piece at e) tt

-- the name ends where the rest of its first piece does
pub name_ends : (message : List ℕ) (begin at n : ℕ) → behind_of (rest_of message begin at) ≡ behind_of (rest_of message begin begin)
    → IfSome (behind_of (rest_of message begin at)) (λ behind. n ≡ behind) → IfSome (behind_of (name_at message begin)) (λ behind. n ≡ behind)
name_ends message begin at n same h = end_of_name message begin n (subst (λ (o : Option ℕ). IfSome o (λ behind. n ≡ behind)) same h)

-- so it does behind a label
pub label_ends : (message : List ℕ) (begin at n : ℕ) → part_at message at ≡ Label n → behind_of (rest_of message begin at) ≡ behind_of (rest_of message begin begin)
    → behind_of (rest_of message begin (at + (n + 1))) ≡ behind_of (rest_of message begin begin)
label_ends message begin at n e same =
    let place : at + 1 + n ≡ at + (n + 1) = omega arith in
    sym (ap behind_of (rest_at_label message begin at n e) ∙ behind-with_label _ (rest_of message begin (at + 1 + n)) ∙ ap (λ (k : ℕ). behind_of (rest_of message begin k)) place) ∙ same

-- the offset behind a name lies in the message, whether it was known before or is known now
pub within_or : (first : Option ℕ) (n length : ℕ) → IfSome first (λ behind. behind ≤ length) → n ≤ length → IfSome (option_or first (Some n)) (λ behind. behind ≤ length)
within_or None n length h k = k
within_or (Some behind) n length h k = h
