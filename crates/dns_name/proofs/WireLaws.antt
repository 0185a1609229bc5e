-- A name that is written is read back where it stands.
use Rattle.std.proofs.Common.{◌≡◌, ℕ, ◌+◌, ◌-◌, ◌*◌, ◌<◌, ◌≤◌, Bool, true, false, cond, leb, List, [], ◌∷◌, ◌++◌, length, take, drop, set, get_or, slice_range, Option, Some, None, refl, sym, ◌∙◌, ap, arith}
use Rattle.std.specs.List.{flat_map, list_all}
use Rattle.std.proofs.lemmas.Bool.{and_parts, leb-true, le-leb}
use Rattle.std.proofs.lemmas.Bool.Decides.{nat_tests}
use Rattle.std.proofs.lemmas.List.{length-append, length-drop, length-take-le, append_assoc, take_at, drop_at, drop-drop, get_or-drop}
use Rattle.pac_names.specs.Labels.{labels_of, labels_length}
use Rattle.pac_names.specs.Names.{is_label}
use Rattle.pac_names.proofs.LabelLaws.{labels_length-labels_of}
use Rattle.dns_name.specs.Wire.{WireName, part_at, with_behind, with_label, name_at, within_limit}
use Rattle.dns_name.specs.Walk.{rest_of}
use Rattle.dns_name.specs.Writing.{overwritten, wire_label, wire_name}
use Rattle.dns_name.proofs.WalkLaws.{rest_at_end, rest_at_label, rest_at_pointer, name_is_rest}
use Rattle.dns_name.proofs.WriteLaws.{IsWrittenSoFar, labels_written, written_end, end_of_written}
use Rattle.dns_name.specs.declared.part.Part.TheVariants.{End, Label, Pointer}

part_is_end : (message : List ℕ) (at : ℕ) → at < length message → get_or message at 0 ≡ 0 → part_at message at ≡ End
unfolding part_at
part_is_end message at h e = grind (arith, nat_tests)

part_is_label : (message : List ℕ) (at n : ℕ) → at + n < length message → get_or message at 0 ≡ n → 0 < n → n < 64 → part_at message at ≡ Label n
unfolding part_at
part_is_label message at n h e some short = grind (arith, nat_tests)

-- what stands at an offset, from the list from there on
octet_there : (message : List ℕ) (at x : ℕ) (xs : List ℕ) → drop at message ≡ x ∷ xs → get_or message at 0 ≡ x
octet_there message at x xs e =
    let place : at + 0 ≡ at = omega arith in
    ap (λ (n : ℕ). get_or message n 0) (sym place) ∙ sym (get_or-drop at message 0 0) ∙ ap (λ (ys : List ℕ). get_or ys 0 0) e

long_there : (message : List ℕ) (at x : ℕ) (xs : List ℕ) → drop at message ≡ x ∷ xs → at + length xs + 1 ≡ length message
long_there message at x xs e = omega (arith, length-drop at message, ap length e)

-- the rest of a written name
pub rest_of_wire : (message : List ℕ) (piece at : ℕ) (labels : List (List ℕ)) (after : List ℕ) → drop at message ≡ flat_map wire_label labels ++ (0 ∷ after)
    → list_all is_label labels ≡ true → rest_of message piece at ≡ Some (record { labels = labels; behind = at + length (flat_map wire_label labels) + 1 })
rest_of_wire message piece at [] after e kept =
    let place : at + 1 ≡ at + 0 + 1 = omega arith in
    rest_at_end message piece at (part_is_end message at (omega (arith, long_there message at 0 after e)) (octet_there message at 0 after e))
    ∙ ap (λ (n : ℕ). Some (record { labels = []; behind = n })) place
rest_of_wire message piece at (l ∷ ls) after e kept =
    let parts = and_parts _ _ kept in
    let size = and_parts _ _ ((and_parts _ _ parts.0).0) in
    let some : 1 ≤ length l = leb-true _ _ size.0 in
    let short : length l ≤ 63 = leb-true _ _ size.1 in
    let whole : drop at message ≡ length l ∷ (l ++ (flat_map wire_label ls ++ (0 ∷ after))) =
    e ∙ append_assoc (wire_label l) (flat_map wire_label ls) (0 ∷ after) in
    let behind : drop (at + 1) message ≡ l ++ (flat_map wire_label ls ++ (0 ∷ after)) = sym (drop-drop 1 at message) ∙ ap (drop 1) whole in
    let rest : drop (at + 1 + length l) message ≡ flat_map wire_label ls ++ (0 ∷ after) =
    sym (drop-drop (length l) (at + 1) message) ∙ ap (drop (length l)) behind ∙ drop_at l (flat_map wire_label ls ++ (0 ∷ after)) (length l) refl in
    let width : at + 1 + length l - (at + 1) ≡ length l = omega arith in
    let label : slice_range message (at + 1) (at + 1 + length l) ≡ l =
    ap (λ (xs : List ℕ). take (at + 1 + length l - (at + 1)) xs) behind ∙ ap (λ (n : ℕ). take n (l ++ (flat_map wire_label ls ++ (0 ∷ after)))) width ∙ take_at l (flat_map wire_label ls ++ (0 ∷ after)) (length l) refl in
    let within : at + length l < length message =
    omega (arith, long_there message at _ _ whole, length-append l (flat_map wire_label ls ++ (0 ∷ after)), length-append (flat_map wire_label ls) (0 ∷ after)) in
    let place : at + 1 + length l + length (flat_map wire_label ls) + 1 ≡ at + length (flat_map wire_label (l ∷ ls)) + 1 = omega (arith, length-append (wire_label l) (flat_map wire_label ls)) in
    rest_at_label message piece at (length l) (part_is_label message at (length l) within (octet_there message at _ _ whole) (omega arith) (omega arith))
    ∙ ap (λ (name : Option WireName). with_label (slice_range message (at + 1) (at + 1 + length l)) name) (rest_of_wire message piece (at + 1 + length l) ls after rest parts.1)
    ∙ ap (λ (first : List ℕ). Some (record { labels = first ∷ ls; behind = at + 1 + length l + length (flat_map wire_label ls) + 1 })) label
    ∙ ap (λ (n : ℕ). Some (record { labels = l ∷ ls; behind = n })) place

-- a lookup name that is written is the name there
pub wire_name_at : (message name after : List ℕ) (at : ℕ) → drop at message ≡ wire_name name ++ after → length name ≤ 253 → list_all is_label (labels_of name) ≡ true
    → name_at message at ≡ Some (record { labels = labels_of name; behind = at + length (wire_name name) })
wire_name_at message name after at e short kept =
    let whole : drop at message ≡ flat_map wire_label (labels_of name) ++ (0 ∷ after) = e ∙ append_assoc (flat_map wire_label (labels_of name)) (0 ∷ []) after in
    let limit : leb (labels_length (labels_of name) + 1) 255 ≡ true = le-leb _ _ (omega (arith, labels_length-labels_of name)) in
    let place : at + length (flat_map wire_label (labels_of name)) + 1 ≡ at + length (wire_name name) = omega (arith, length-append (flat_map wire_label (labels_of name)) (0 ∷ [])) in
    name_is_rest message at ∙ ap within_limit (rest_of_wire message at at (labels_of name) after whole kept)
    ∙ ap (λ (b : Bool). cond b (Some (record { labels = labels_of name; behind = at + length (flat_map wire_label (labels_of name)) + 1 })) None) limit
    ∙ ap (λ (n : ℕ). Some (record { labels = labels_of name; behind = n })) place

-- a written name takes two octets more than it has bytes
pub length-wire_name : (name : List ℕ) → length (wire_name name) ≡ length name + 2
length-wire_name name = omega (arith, length-append (flat_map wire_label (labels_of name)) (0 ∷ []), labels_written (labels_of name), labels_length-labels_of name)

-- what is written stands there
pub drop-overwritten : (octets : List ℕ) (at : ℕ) (new : List ℕ) → at ≤ length octets → drop at (overwritten octets at new) ≡ new ++ drop (at + length new) octets
drop-overwritten octets at new h =
    ap (drop at) (append_assoc (take at octets) new (drop (at + length new) octets)) ∙ drop_at (take at octets) (new ++ drop (at + length new) octets) at (length-take-le at octets h)

-- the name that was written is read there
pub written_read : (old new name : List ℕ) (begin at : ℕ) → IsWrittenSoFar old new begin at (labels_of name) [] → length name ≤ 253 → list_all is_label (labels_of name) ≡ true
    → name_at (set new at 0) begin ≡ Some (record { labels = labels_of name; behind = at + 1 })
written_read old new name begin at h short kept =
    ap (λ (octets : List ℕ). name_at octets begin) (written_end old new name begin at h)
    ∙ wire_name_at (overwritten old begin (wire_name name)) name (drop (begin + length (wire_name name)) old) begin
    (drop-overwritten old begin (wire_name name) (omega (arith, h.place, h.room))) short kept
    ∙ ap (λ (n : ℕ). Some (record { labels = labels_of name; behind = n })) (sym (end_of_written old new name begin at h))

part_is_pointer : (message : List ℕ) (at high low : ℕ) → at + 1 < length message → get_or message at 0 ≡ high → get_or message (at + 1) 0 ≡ low → 192 ≤ high
    → part_at message at ≡ Pointer ((high - 192) * 256 + low)
unfolding part_at
part_is_pointer message at high low within first second pointer = grind (arith, nat_tests)

-- one choice for two values
both_chosen : (b : Bool) (name found other target : WireName) → cond b (Some name) None ≡ Some found → (name ≡ found → other ≡ target) → cond b (Some other) None ≡ Some target
both_chosen true name found other target e h = let same : name ≡ found = cc in ap Some (h same)
both_chosen false name found other target e h = cc

limited_behind : (name : Option WireName) (found : WireName) (behind : ℕ) → within_limit name ≡ Some found
    → within_limit (with_behind behind name) ≡ Some (record { labels = found.labels; behind = behind })
limited_behind None found behind e = cc
limited_behind (Some name) found behind e =
    both_chosen (leb (labels_length name.labels + 1) 255) name found (record { labels = name.labels; behind = behind }) (record { labels = found.labels; behind = behind }) e
    (ap (λ (n : WireName). record { labels = n.labels; behind = behind }))

-- a pointer to a name nearer to the front is that name
pub name_at_pointer : (message : List ℕ) (at high low : ℕ) (after : List ℕ) (name : WireName) → drop at message ≡ high ∷ low ∷ after → 192 ≤ high → (high - 192) * 256 + low < at
    → name_at message ((high - 192) * 256 + low) ≡ Some name → name_at message at ≡ Some (record { labels = name.labels; behind = at + 2 })
name_at_pointer message at high low after name e pointer nearer found =
    let within : at + 1 < length message = omega (arith, long_there message at high (low ∷ after) e) in
    let next : drop (at + 1) message ≡ low ∷ after = sym (drop-drop 1 at message) ∙ ap (drop 1) e in
    let part = part_is_pointer message at high low within (octet_there message at high (low ∷ after) e) (octet_there message (at + 1) low after next) pointer in
    name_is_rest message at ∙ ap within_limit (rest_at_pointer message at at ((high - 192) * 256 + low) part nearer)
    ∙ limited_behind (rest_of message ((high - 192) * 256 + low) ((high - 192) * 256 + low)) name (at + 2) (sym (name_is_rest message ((high - 192) * 256 + low)) ∙ found)
