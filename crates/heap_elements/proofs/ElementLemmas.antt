-- What stands in slots, and how they change.
use Rattle.std.proofs.Common.{◌≡◌, ℕ, ◌-◌, ◌<◌, ◌≤◌, zero, suc, List, [], ◌∷◌, ◌++◌, Bool, true, false, cond, Option, Some, None, is_some, length, set, take, drop, get_or, slice_get, subst, Result, Ok, Err, IfOk, IfErr, IfSome, IfNone, refl, sym, ap, ◌∙◌, append_assoc, arith, ⊎_elim}
use Rattle.std.specs.Prelude.{nat_lt, nat_eq, ◌&&◌, ◌||◌, filter}
use Rattle.std.specs.Fmt.{decimal}
use Rattle.std.specs.Ordering.{nat_cmp, match_ordering, ordering_index}
use Rattle.std.specs.List.Sorted.{IsSearchInRange, IsBinarySearchResult, IsNonDecreasingBy}
use Rattle.std.proofs.lemmas.Cmp.{ranked}
use Rattle.std.proofs.lemmas.List.Sorted.{IsNonDecreasingBy-from_default}
use Rattle.std.proofs.lemmas.Option.{slice_get-get_or}
use Rattle.std.specs.Cmp.{nat_cmp_is}
use Rattle.std.specs.declared.cmp.Ordering.TheVariants.{Greater}
use Rattle.std.proofs.lemmas.List.{append-nil, drop_all}
use Rattle.std.specs.BTreeMap.{insert_entry}
use Rattle.std.specs.Map.{values_of}
use Rattle.std.specs.Str.{bytes_eq}
use Rattle.std.proofs.lemmas.Bool.{cases_Bool, eqb-true}
use Rattle.std.proofs.lemmas.Bool.Decides.{nat_tests}
use Rattle.heap_values.specs.declared.property.Property.{Property}
use Rattle.heap_elements.specs.Names.{array_index}
use Rattle.heap_elements.specs.Properties.{property_at, with_property, without_property, index_put, indexed_into, name_unless_index, other_names, listed_names_of}
use Rattle.heap_elements.specs.Places.{NamesDiffer}
use Rattle.heap_elements.specs.Elements.{Slots, AreRising, elements_of, has_index, is_below, is_past_last, takes, HasIndex, is_filled, is_gap, listed_numerals}
use Rattle.heap_elements.proofs.RowLemmas.{same_name, with_property-missing, without_property-missing}
use Rattle.heap_elements.proofs.IndexLemmas.{array_index-decimal, decimal-array_index, numerals_differ, same_numeral}

-- ---- indexes that rise

AreRising-from : (slots : Slots) (low from : ℕ) → low ≤ from → AreRising from slots → AreRising low slots
AreRising-from [] low from lower rising = tt
AreRising-from (s ∷ slots) low from lower rising = (omega (arith, rising.0), rising.1, rising.2)

same_index : (s t : ℕ × Option Property) → Some s ≡ Some t → s.0 ≡ t.0
same_index s t is = let same : s ≡ t = cc in ap (λ u. u.0) same

same_content : (s t : ℕ × Option Property) → Some s ≡ Some t → s.1 ≡ t.1
same_content s t is = let same : s ≡ t = cc in ap (λ u. u.1) same

-- a slot's index is among them
index_from : (slots : Slots) (from at i : ℕ) (o : Option Property) → AreRising from slots → slice_get slots at ≡ Some (i, o) → (from ≤ i) × (i < 4294967295)
index_from [] from at i o rising is = absurd (cc)
index_from (s ∷ slots) from zero i o rising is = let this = same_index s (i, o) is in (omega (arith, rising.0), omega (arith, rising.1))
index_from (s ∷ slots) from (suc at) i o rising is =
    let rest = index_from slots (suc s.0) at i o rising.2 is in
    (omega (arith, rising.0, rest.0), rest.1)

-- each index is below this one
abbrev pub AreBelow : Slots → ℕ → Type 0
AreBelow [] n = Unit {0}
AreBelow (s ∷ slots) n = (s.0 < n) × AreBelow slots n

last_is_highest : (slots : Slots) (from n k : ℕ) → AreRising from slots → length slots ≡ suc k → is_below (slice_get slots k) n ≡ true → AreBelow slots n
last_is_highest [] from n k rising last below = tt
last_is_highest (s ∷ []) from n zero rising last below = (grind (arith, nat_tests), tt)
last_is_highest (s ∷ []) from n (suc k) rising last below = absurd (omega arith)
last_is_highest (s ∷ t ∷ slots) from n zero rising last below = absurd (omega arith)
last_is_highest (s ∷ t ∷ slots) from n (suc k) rising last below =
    let rest = last_is_highest (t ∷ slots) (suc s.0) n k rising.2 (omega arith) below in
    (omega (arith, rising.2.0, rest.0), rest)

all_below : (slots : Slots) (n : ℕ) → AreRising 0 slots → is_below (slice_get slots (length slots - 1)) n ≡ true → AreBelow slots n
all_below [] n rising below = tt
all_below (s ∷ slots) n rising below = last_is_highest (s ∷ slots) 0 n (length (s ∷ slots) - 1) rising (omega arith) below

pub below_past : (slots : Slots) (n : ℕ) → AreRising 0 slots → is_past_last slots n ≡ true → AreBelow slots n × (n < 4294967295)
below_past slots n rising next =
    let both = split (is_below (slice_get slots (length slots - 1)) n) (nat_lt n 4294967295) next in
    (all_below slots n rising both.0, grind (arith, nat_tests, both.1))
  where
    split : (a b : Bool) → (a && b) ≡ true → (a ≡ true) × (b ≡ true)
    split true b is = (refl, is)
    split false b is = absurd (cc)

-- no slot has this index
abbrev LacksIndex : Slots → ℕ → Type 0
LacksIndex [] index = Unit {0}
LacksIndex (s ∷ slots) index = (nat_eq s.0 index ≡ false) × LacksIndex slots index

LacksIndex-below : (slots : Slots) (n : ℕ) → AreBelow slots n → LacksIndex slots n
LacksIndex-below [] n below = tt
LacksIndex-below (s ∷ slots) n below = (grind (arith, nat_tests, below.0), LacksIndex-below slots n below.1)

LacksIndex-from : (slots : Slots) (from n : ℕ) → AreRising from slots → n < from → LacksIndex slots n
LacksIndex-from [] from n rising lower = tt
LacksIndex-from (s ∷ slots) from n rising lower = (grind (arith, nat_tests, rising.0), LacksIndex-from slots (suc s.0) n rising.2 (omega (arith, rising.0)))

-- ---- what stands under a name

-- a name that differs from each index's numeral
apart_from_all : (slots : Slots) (from : ℕ) (name : List ℕ) → AreRising from slots → ((m : ℕ) → m < 4294967295 → bytes_eq name (decimal m) ≡ false)
    → property_at (elements_of slots) name ≡ None
apart_from_all [] from name rising apart = refl
apart_from_all ((i, None) ∷ slots) from name rising apart = apart_from_all slots (suc i) name rising.2 apart
apart_from_all ((i, Some p) ∷ slots) from name rising apart =
    ap (λ b. cond b (Some p) (property_at (elements_of slots) name)) (apart i rising.1)
    ∙ apart_from_all slots (suc i) name rising.2 apart

-- nothing stands under the numeral of an index that no slot has
none_lacked : (slots : Slots) (from n : ℕ) → AreRising from slots → n < 4294967296 → LacksIndex slots n → property_at (elements_of slots) (decimal n) ≡ None
none_lacked [] from n rising small lacks = refl
none_lacked ((i, None) ∷ slots) from n rising small lacks = none_lacked slots (suc i) n rising.2 small lacks.1
none_lacked ((i, Some p) ∷ slots) from n rising small lacks =
    ap (λ b. cond b (Some p) (property_at (elements_of slots) (decimal n))) (numerals_differ n i small (omega (arith, rising.1)) (λ same. grind (arith, nat_tests, lacks.0)))
    ∙ none_lacked slots (suc i) n rising.2 small lacks.1

none_before : (slots : Slots) (from n : ℕ) → AreRising from slots → n < 4294967296 → n < from → property_at (elements_of slots) (decimal n) ≡ None
none_before slots from n rising small lower = none_lacked slots from n rising small (LacksIndex-from slots from n rising lower)

-- under the numeral of a slot's index stands what is in it
stands_at : (slots : Slots) (from at i : ℕ) (o : Option Property) → AreRising from slots → slice_get slots at ≡ Some (i, o) → property_at (elements_of slots) (decimal i) ≡ o
stands_at [] from at i o rising is = absurd (cc)
stands_at ((j, None) ∷ slots) from zero i o rising is =
    let this = same_index (j, None) (i, o) is in
    none_before slots (suc j) i rising.2 (omega (arith, rising.1)) (omega arith) ∙ same_content (j, None) (i, o) is
stands_at ((j, None) ∷ slots) from (suc at) i o rising is = stands_at slots (suc j) at i o rising.2 is
stands_at ((j, Some p) ∷ slots) from zero i o rising is =
    ap (λ b. cond b (Some p) (property_at (elements_of slots) (decimal i)))
    (ap (λ m. bytes_eq (decimal i) (decimal m)) (same_index (j, Some p) (i, o) is) ∙ same_numeral (decimal i))
    ∙ same_content (j, Some p) (i, o) is
stands_at ((j, Some p) ∷ slots) from (suc at) i o rising is =
    let among = index_from slots (suc j) at i o rising.2 is in
    ap (λ b. cond b (Some p) (property_at (elements_of slots) (decimal i))) (numerals_differ i j (omega (arith, among.1)) (omega (arith, rising.1)) (λ same. omega (arith, among.0)))
    ∙ stands_at slots (suc j) at i o rising.2 is

pub found_there : (slots : Slots) (at n : ℕ) → has_index (slice_get slots at) n ≡ true → HasIndex slots n at
found_there [] at n has = absurd (cc)
found_there (s ∷ slots) zero n has = record { content = s.1; is = ap (λ i. Some (i, s.1)) (eqb-true s.0 n has) }
found_there (s ∷ slots) (suc at) n has = let rest = found_there slots at n has in record { content = rest.content; is = rest.is }

pub within : (slots : Slots) (at n : ℕ) → HasIndex slots n at → at < length slots
within [] at n has = absurd (let is = has.is in cc)
within (s ∷ slots) zero n has = omega arith
within (s ∷ slots) (suc at) n has = omega (arith, within slots at n (record { content = has.content; is = has.is }))

-- ---- a search by halving

abbrev index_in : Slots → ℕ → ℕ
index_in slots at = (get_or slots at (0, None)).0

from_at : (slots : Slots) (from k : ℕ) → AreRising from slots → k < length slots → from ≤ index_in slots k
from_at [] from k rising within = absurd (omega arith)
from_at (s ∷ slots) from zero rising within = rising.0
from_at (s ∷ slots) from (suc k) rising within = omega (arith, rising.0, from_at slots (suc s.0) k rising.2 (omega arith))

indexes_rise : (slots : Slots) (from i j : ℕ) → AreRising from slots → i ≤ j → j < length slots → index_in slots i ≤ index_in slots j
indexes_rise [] from i j rising low within = absurd (omega arith)
indexes_rise (s ∷ slots) from zero zero rising low within = omega arith
indexes_rise (s ∷ slots) from zero (suc j) rising low within = omega (arith, from_at slots (suc s.0) j rising.2 (omega arith))
indexes_rise (s ∷ slots) from (suc i) zero rising low within = absurd (omega arith)
indexes_rise (s ∷ slots) from (suc i) (suc j) rising low within = indexes_rise slots (suc s.0) i j rising.2 (omega arith) (omega arith)

LacksIndex-places : (slots : Slots) (n : ℕ) → ((k : ℕ) → k < length slots → index_in slots k ≡ n → ⊥) → LacksIndex slots n
LacksIndex-places [] n apart = tt
LacksIndex-places (s ∷ slots) n apart = (grind (arith, nat_tests, apart 0 (omega arith)), LacksIndex-places slots n (λ k within. apart (suc k) (omega arith)))

-- ---- how they change

AreRising-set : (slots : Slots) (from at i : ℕ) (o p : Option Property) → AreRising from slots → slice_get slots at ≡ Some (i, o) → AreRising from (set slots at (i, p))
AreRising-set [] from at i o p rising is = absurd (cc)
AreRising-set (s ∷ slots) from zero i o p rising is =
    let this = same_index s (i, o) is in
    (omega (arith, rising.0), omega (arith, rising.1), AreRising-from slots (suc i) (suc s.0) (omega arith) rising.2)
AreRising-set (s ∷ slots) from (suc at) i o p rising is = (rising.0, rising.1, AreRising-set slots (suc s.0) at i o p rising.2 is)

AreRising-append : (slots : Slots) (from n : ℕ) (o : Option Property) → AreRising from slots → AreBelow slots n → from ≤ n → n < 4294967295 → AreRising from (slots ++ (n, o) ∷ [])
AreRising-append [] from n o rising below low small = (low, small, tt)
AreRising-append (s ∷ slots) from n o rising below low small = (rising.0, rising.1, AreRising-append slots (suc s.0) n o rising.2 below.1 (omega (arith, below.0)) small)

AreRising-take : (slots : Slots) (from k : ℕ) → AreRising from slots → AreRising from (take k slots)
AreRising-take [] from zero rising = tt
AreRising-take [] from (suc k) rising = tt
AreRising-take (s ∷ slots) from zero rising = tt
AreRising-take (s ∷ slots) from (suc k) rising = (rising.0, rising.1, AreRising-take slots (suc s.0) k rising.2)

AreRising-filled : (slots : Slots) (from : ℕ) → AreRising from slots → AreRising from (filter is_filled slots)
AreRising-filled [] from rising = tt
AreRising-filled ((i, None) ∷ slots) from rising = AreRising-filled slots from (AreRising-from slots from (suc i) (omega (arith, rising.0)) rising.2)
AreRising-filled ((i, Some p) ∷ slots) from rising = (rising.0, rising.1, AreRising-filled slots (suc i) rising.2)

-- a property that is there is written in its slot
written_at : (slots : Slots) (from at i : ℕ) (p q : Property) → AreRising from slots → slice_get slots at ≡ Some (i, Some q)
    → elements_of (set slots at (i, Some p)) ≡ with_property (elements_of slots) (decimal i) p
written_at [] from at i p q rising is = absurd (cc)
written_at ((j, None) ∷ slots) from zero i p q rising is = absurd (let gap : None ≡ Some q = same_content (j, None) (i, Some q) is in cc)
written_at ((j, None) ∷ slots) from (suc at) i p q rising is = written_at slots (suc j) at i p q rising.2 is
written_at ((j, Some r) ∷ slots) from zero i p q rising is =
    let this = sym (same_index (j, Some r) (i, Some q) is) in
    ap (λ m. (decimal m, p) ∷ elements_of slots) this
    ∙ sym (ap (λ b. cond b ((decimal j, p) ∷ elements_of slots) ((decimal j, r) ∷ with_property (elements_of slots) (decimal i) p))
    (ap (λ m. bytes_eq (decimal m) (decimal j)) this ∙ same_numeral (decimal j)))
written_at ((j, Some r) ∷ slots) from (suc at) i p q rising is =
    let among = index_from slots (suc j) at i (Some q) rising.2 is in
    ap (λ es. (decimal j, r) ∷ es) (written_at slots (suc j) at i p q rising.2 is)
    ∙ sym (ap (λ b. cond b ((decimal j, p) ∷ elements_of slots) ((decimal j, r) ∷ with_property (elements_of slots) (decimal i) p))
    (numerals_differ i j (omega (arith, among.1)) (omega (arith, rising.1)) (λ same. omega (arith, among.0))))

elements_of-append : (slots : Slots) (n : ℕ) (p : Property) → elements_of (slots ++ (n, Some p) ∷ []) ≡ elements_of slots ++ (decimal n, p) ∷ []
elements_of-append [] n p = refl
elements_of-append ((i, None) ∷ slots) n p = elements_of-append slots n p
elements_of-append ((i, Some q) ∷ slots) n p = ap (λ es. (decimal i, q) ∷ es) (elements_of-append slots n p)

-- without the property in a slot
taken_away : (slots : Slots) (from at i : ℕ) (o : Option Property) → AreRising from slots → slice_get slots at ≡ Some (i, o)
    → elements_of (set slots at (i, None)) ≡ without_property (elements_of slots) (decimal i)
taken_away [] from at i o rising is = absurd (cc)
taken_away ((j, None) ∷ slots) from zero i o rising is =
    let this = same_index (j, None) (i, o) is in
    sym (without_property-missing (elements_of slots) (decimal i) (none_before slots (suc j) i rising.2 (omega (arith, rising.1)) (omega arith)))
taken_away ((j, None) ∷ slots) from (suc at) i o rising is = taken_away slots (suc j) at i o rising.2 is
taken_away ((j, Some q) ∷ slots) from zero i o rising is =
    let this = sym (same_index (j, Some q) (i, o) is) in
    sym (ap (λ b. cond b (elements_of slots) ((decimal j, q) ∷ without_property (elements_of slots) (decimal i)))
    (ap (λ m. bytes_eq (decimal m) (decimal j)) this ∙ same_numeral (decimal j)))
taken_away ((j, Some q) ∷ slots) from (suc at) i o rising is =
    let among = index_from slots (suc j) at i o rising.2 is in
    ap (λ es. (decimal j, q) ∷ es) (taken_away slots (suc j) at i o rising.2 is)
    ∙ sym (ap (λ b. cond b (elements_of slots) ((decimal j, q) ∷ without_property (elements_of slots) (decimal i)))
    (numerals_differ i j (omega (arith, among.1)) (omega (arith, rising.1)) (λ same. omega (arith, among.0))))

-- gaps can go, all of them or one at the end
pub elements_of-filled : (slots : Slots) → elements_of (filter is_filled slots) ≡ elements_of slots
elements_of-filled [] = refl
elements_of-filled ((i, None) ∷ slots) = elements_of-filled slots
elements_of-filled ((i, Some p) ∷ slots) = ap (λ es. (decimal i, p) ∷ es) (elements_of-filled slots)

end_dropped : (slots : Slots) (k : ℕ) → length slots ≡ suc k → is_gap (slice_get slots k) ≡ true → elements_of (take k slots) ≡ elements_of slots
end_dropped [] k last gap = absurd (omega arith)
end_dropped ((i, None) ∷ []) zero last gap = refl
end_dropped ((i, Some p) ∷ []) zero last gap = absurd (cc)
end_dropped (s ∷ t ∷ slots) zero last gap = absurd (omega arith)
end_dropped ((i, None) ∷ slots) (suc k) last gap = end_dropped slots k (omega arith) gap
end_dropped ((i, Some p) ∷ slots) (suc k) last gap = ap (λ es. (decimal i, p) ∷ es) (end_dropped slots k (omega arith) gap)

pub gap_dropped : (slots : Slots) (k : ℕ) → AreRising 0 slots → k ≡ length slots - 1 → is_gap (slice_get slots k) ≡ true
    → (elements_of (take k slots) ≡ elements_of slots) × AreRising 0 (take k slots)
gap_dropped [] k rising last gap = absurd (cc)
gap_dropped (s ∷ slots) k rising last gap = (end_dropped (s ∷ slots) k (omega arith) gap, AreRising-take (s ∷ slots) 0 k rising)

-- ---- the names of slots

numerals_all_differ : (slots : Slots) (from : ℕ) → AreRising from slots → NamesDiffer (elements_of slots)
numerals_all_differ [] from rising = tt
numerals_all_differ ((i, None) ∷ slots) from rising = numerals_all_differ slots (suc i) rising.2
numerals_all_differ ((i, Some p) ∷ slots) from rising =
    (none_before slots (suc i) i rising.2 (omega (arith, rising.1)) (omega arith), numerals_all_differ slots (suc i) rising.2)

no_others : (slots : Slots) (from : ℕ) → AreRising from slots → other_names (elements_of slots) ≡ []
no_others [] from rising = refl
no_others ((i, None) ∷ slots) from rising = no_others slots (suc i) rising.2
no_others ((i, Some p) ∷ slots) from rising =
    ap (λ o. (cond p.listed (name_unless_index (decimal i) o) []) ++ other_names (elements_of slots)) (array_index-decimal i rising.1)
    ∙ ap (λ names. names ++ other_names (elements_of slots)) (nothing p.listed)
    ∙ no_others slots (suc i) rising.2
  where
    nothing : (b : Bool) → cond b (name_unless_index [] (Some 0)) [] ≡ name_unless_index [] (Some 0)
    nothing true = refl
    nothing false = refl

-- the indexes so far are below the next
abbrev AreUnder : List (ℕ × List ℕ) → ℕ → Type 0
AreUnder [] n = Unit {0}
AreUnder (e ∷ es) n = (e.0 < n) × AreUnder es n

AreUnder-more : (es : List (ℕ × List ℕ)) (n more : ℕ) → n ≤ more → AreUnder es n → AreUnder es more
AreUnder-more [] n more low under = tt
AreUnder-more (e ∷ es) n more low under = (omega (arith, under.0), AreUnder-more es n more low under.1)

AreUnder-put : (es : List (ℕ × List ℕ)) (n : ℕ) (name : List ℕ) → AreUnder es n → AreUnder (es ++ (n, name) ∷ []) (suc n)
AreUnder-put [] n name under = (omega arith, tt)
AreUnder-put (e ∷ es) n name under = (omega (arith, under.0), AreUnder-put es n name under.1)

put_last : (es : List (ℕ × List ℕ)) (n : ℕ) (name : List ℕ) → AreUnder es n → insert_entry nat_cmp es n name ≡ es ++ (n, name) ∷ []
put_last [] n name under = refl
put_last (e ∷ es) n name under =
    ap (λ o. match_ordering o ((n, name) ∷ e ∷ es) ((e.0, name) ∷ es) (e ∷ insert_entry nat_cmp es n name)) (sym (nat_cmp_is n e.0 Greater under.0))
    ∙ ap (λ rest. e ∷ rest) (put_last es n name under.1)

values_of-append : (es : List (ℕ × List ℕ)) (n : ℕ) (name : List ℕ) → values_of (es ++ (n, name) ∷ []) ≡ values_of es ++ name ∷ []
values_of-append [] n name = refl
values_of-append (e ∷ es) n name = ap (λ names. e.1 ∷ names) (values_of-append es n name)

rising_names : (slots : Slots) (from : ℕ) (es : List (ℕ × List ℕ)) → AreUnder es from → AreRising from slots
    → values_of (indexed_into es (elements_of slots)) ≡ values_of es ++ listed_numerals slots
rising_names [] from es under rising = sym (append-nil (values_of es))
rising_names ((i, None) ∷ slots) from es under rising = rising_names slots (suc i) es (AreUnder-more es from (suc i) (omega (arith, rising.0)) under) rising.2
rising_names ((i, Some p) ∷ slots) from es under rising =
    let low = AreUnder-more es from i rising.0 under in
    ⊎_elim
    (λ listed.
    ap (λ b. values_of (indexed_into (cond b (index_put es (decimal i) (array_index (decimal i))) es) (elements_of slots))) listed
    ∙ ap (λ o. values_of (indexed_into (index_put es (decimal i) o) (elements_of slots))) (array_index-decimal i rising.1)
    ∙ ap (λ fs. values_of (indexed_into fs (elements_of slots))) (put_last es i (decimal i) low)
    ∙ rising_names slots (suc i) (es ++ (i, decimal i) ∷ []) (AreUnder-put es i (decimal i) low) rising.2
    ∙ ap (λ names. names ++ listed_numerals slots) (values_of-append es i (decimal i))
    ∙ append_assoc (values_of es) (decimal i ∷ []) (listed_numerals slots)
    ∙ sym (ap (λ b. values_of es ++ ((cond b (decimal i ∷ []) []) ++ listed_numerals slots)) listed))
    (λ unlisted.
    ap (λ b. values_of (indexed_into (cond b (index_put es (decimal i) (array_index (decimal i))) es) (elements_of slots))) unlisted
    ∙ rising_names slots (suc i) es (AreUnder-more es i (suc i) (omega arith) low) rising.2
    ∙ sym (ap (λ b. values_of es ++ ((cond b (decimal i ∷ []) []) ++ listed_numerals slots)) unlisted))
    (cases_Bool p.listed)

-- behind the last slot nothing is left
pub all_standing : (es : List (List ℕ × Property)) (slots all : Slots) (k : ℕ) → length slots ≤ k → es ++ elements_of (drop k slots) ≡ elements_of all → es ≡ elements_of all
all_standing es slots all k end is = sym (append-nil es) ∙ sym (ap (λ ss. es ++ elements_of ss) (drop_all k slots end)) ∙ is

pub all_listed : (names : List (List ℕ)) (slots all : Slots) (k : ℕ) → length slots ≤ k → names ++ listed_numerals (drop k slots) ≡ listed_numerals all → names ≡ listed_numerals all
all_listed names slots all k end is = sym (append-nil names) ∙ sym (ap (λ ss. names ++ listed_numerals ss) (drop_all k slots end)) ∙ is

-- ---- in the words of the calls

module _ (slots : Slots) (rising : AreRising 0 slots) where
  nothing_named : (name : List ℕ) → array_index name ≡ None → property_at (elements_of slots) name ≡ None
  nothing_named name none = apart_from_all slots 0 name rising (λ m small. ⊎_elim
      (λ same. absurd (let index = sym none ∙ ap array_index (same_name name (decimal m) same) ∙ array_index-decimal m small in cc))
      (λ apart. apart)
      (cases_Bool (bytes_eq name (decimal m))))

  pub named : (name : List ℕ) (o : Option ℕ) → o ≡ array_index name → IfSome o (λ index. name ≡ decimal index) × IfNone o (property_at (elements_of slots) name ≡ None)
  named name None is = (tt, nothing_named name (sym is))
  named name (Some n) is = ((decimal-array_index name n (sym is)).0, tt)

  nothing_lacked : (n : ℕ) → n < 4294967296 → LacksIndex slots n → property_at (elements_of slots) (decimal n) ≡ None
  nothing_lacked n small lacks = none_lacked slots 0 n rising small lacks

  order_rises : (n : ℕ) → IsNonDecreasingBy (λ s. ordering_index (nat_cmp s.0 n)) slots
  order_rises n = IsNonDecreasingBy-from_default (λ s. ordering_index (nat_cmp s.0 n)) slots (0, None) (λ i j low within.
      let rise = indexes_rise slots 0 i j rising low within in
      grind (arith, nat_tests))

  -- it ends at the slot of the index, or finds none
  pub searched : (n : ℕ) (r : Result ℕ ℕ) → n < 4294967296 → IsSearchInRange r (length slots) → IsBinarySearchResult (λ s. nat_cmp s.0 n) slots r
      → record { found : IfOk r (λ at. HasIndex slots n at); missing : IfErr r (λ at. property_at (elements_of slots) (decimal n) ≡ None) }
  searched n (Ok at) small within equal =
      let slot = get_or slots at (0, None) in
      let this : slot.0 ≡ n = ranked _ n _ (sym (equal (0, None))) in
      record {
        found = record { content = slot.1; is = slice_get-get_or slots at (0, None) within ∙ ap (λ i. Some (i, slot.1)) this };
        missing = tt;
      }
  searched n (Err at) small within parted = record {
    found = tt;
    missing = nothing_lacked n small (LacksIndex-places slots n (λ k below same.
        let before : k < at → index_in slots k < n = λ lt. ranked _ n _ (sym ((parted (order_rises n)).0 k (0, None) (omega arith) lt)) in
        let after : at ≤ k → n < index_in slots k = λ le. ranked _ n _ (sym ((parted (order_rises n)).1 k (0, None) le below)) in
        grind (arith, before, after)));
  }

  pub nothing_behind : (n : ℕ) → n < 4294967296 → is_below (slice_get slots (length slots - 1)) n ≡ true → property_at (elements_of slots) (decimal n) ≡ None
  nothing_behind n small below = none_lacked slots 0 n rising small (LacksIndex-below slots n (all_below slots n rising below))

  pub nothing_past : (n : ℕ) → is_past_last slots n ≡ true → property_at (elements_of slots) (decimal n) ≡ None
  nothing_past n next =
      let behind = below_past slots n rising next in
      none_lacked slots 0 n rising (omega (arith, behind.1)) (LacksIndex-below slots n behind.0)

  stands_in : (at n : ℕ) (o : Option Property) → slice_get slots at ≡ Some (n, o) → property_at (elements_of slots) (decimal n) ≡ o
  stands_in at n o is = stands_at slots 0 at n o rising is

  -- what the slot at a place that has the index holds
  pub stands_by : (now : Slots) (n at : ℕ) (slot : ℕ × Option Property) → slots ≡ now → HasIndex now n at → slot ≡ get_or slots at slot
      → slot.1 ≡ property_at (elements_of now) (decimal n)
  stands_by now n at slot whole has read =
      let has' = subst (λ (ss : Slots). HasIndex ss n at) (sym whole) has in
      let there = slice_get-get_or slots at slot (within slots at n has') in
      let this : (n, has'.content) ≡ slot = (let q : Some (n, has'.content) ≡ Some slot = sym has'.is ∙ there ∙ ap (λ s. Some s) (sym read) in cc) in
      sym (ap (λ s. s.1) this) ∙ sym (stands_in at n has'.content has'.is) ∙ ap (λ ss. property_at (elements_of ss) (decimal n)) whole

  pub rising_set : (at n : ℕ) (o p : Option Property) → slice_get slots at ≡ Some (n, o) → AreRising 0 (set slots at (n, p))
  rising_set at n o p is = AreRising-set slots 0 at n o p rising is

  pub element_written : (at n : ℕ) (o : Option Property) (p : Property) → slice_get slots at ≡ Some (n, o) → takes slots n ≡ true
      → elements_of (set slots at (n, Some p)) ≡ with_property (elements_of slots) (decimal n) p
  element_written at n (Some q) p is taken = written_at slots 0 at n p q rising is
  element_written at n None p is taken =
      let next : is_past_last slots n ≡ true = ap (λ o. is_some o || is_past_last slots n) (sym (stands_in at n None is)) ∙ taken in
      absurd (not_below slots at (below_past slots n rising next).0 is)
    where
      not_below : (ss : Slots) (k : ℕ) → AreBelow ss n → slice_get ss k ≡ Some (n, None) → ⊥
      not_below [] k below there = absurd (cc)
      not_below (s ∷ ss) zero below there = let this = same_index s (n, None) there in omega (arith, below.0)
      not_below (s ∷ ss) (suc k) below there = not_below ss k below.1 there

  pub element_appended : (n : ℕ) (p : Property) → property_at (elements_of slots) (decimal n) ≡ None → takes slots n ≡ true
      → AreRising 0 (slots ++ (n, Some p) ∷ []) × (elements_of (slots ++ (n, Some p) ∷ []) ≡ with_property (elements_of slots) (decimal n) p)
  element_appended n p none taken =
      let next : is_past_last slots n ≡ true = ap (λ o. is_some o || is_past_last slots n) (sym none) ∙ taken in
      let behind = below_past slots n rising next in (
        AreRising-append slots 0 n (Some p) rising behind.0 (omega arith) behind.1,
        elements_of-append slots n p ∙ sym (with_property-missing (elements_of slots) (decimal n) p none),
      )

  pub element_taken_away : (at n : ℕ) (o : Option Property) → slice_get slots at ≡ Some (n, o) → elements_of (set slots at (n, None)) ≡ without_property (elements_of slots) (decimal n)
  element_taken_away at n o is = taken_away slots 0 at n o rising is

  pub rising_filled : AreRising 0 (filter is_filled slots)
  rising_filled = AreRising-filled slots 0 rising

  pub names_differ : NamesDiffer (elements_of slots)
  names_differ = numerals_all_differ slots 0 rising

  -- the listed names are the numerals of the listed slots
  pub listed_names_of-slots : listed_names_of (elements_of slots) ≡ listed_numerals slots
  listed_names_of-slots =
      ap (λ names. values_of (indexed_into [] (elements_of slots)) ++ names) (no_others slots 0 rising)
      ∙ append-nil (values_of (indexed_into [] (elements_of slots)))
      ∙ rising_names slots 0 [] tt rising
