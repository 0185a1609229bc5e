-- Two lists of properties, one behind the other.
use Rattle.std.proofs.Common.{◌≡◌, ℕ, List, [], ◌∷◌, ◌++◌, cond, Option, Some, None, refl, sym, ap, subst, ◌∙◌, append_assoc, ⊎_elim, ◌⊎◌, inl, inr}
use Rattle.std.specs.Prelude.{Result, Ok, Err, OnOk, OnErr}
use Rattle.std.specs.Str.{bytes_eq}
use Rattle.std.proofs.lemmas.Bool.{cases_Bool}
use Rattle.std.proofs.lemmas.List.{append-nil}
use Rattle.utf16_text.specs.Comparing.{numbers_equal}
use Rattle.heap_values.specs.declared.property.Property.{Property}
use Rattle.heap_elements.specs.Properties.{property_at, with_property, with_properties, without_property}
use Rattle.heap_elements.specs.Places.{NamesDiffer}
use Rattle.heap_elements.proofs.RowLemmas.{same_name, differs_from_first, with_property-missing, without_property-missing}

abbrev Entries : Type 0
Entries = List (List ℕ × Property)

-- a name that the second list has not is looked for in the first
pub property_at-first : (xs ys : Entries) (n : List ℕ) → property_at ys n ≡ None → property_at (xs ++ ys) n ≡ property_at xs n
property_at-first [] ys n none = none
property_at-first (e ∷ xs) ys n none = ap (λ o. cond (bytes_eq n e.0) (Some (e.1)) o) (property_at-first xs ys n none)

-- where names differ, one that the second list has is found there
pub property_at-second : (xs ys : Entries) (n : List ℕ) (p : Property) → NamesDiffer (xs ++ ys) → property_at ys n ≡ Some p → property_at (xs ++ ys) n ≡ Some p
property_at-second [] ys n p h is = is
property_at-second (e ∷ xs) ys n p h is =
    let rest = property_at-second xs ys n p h.1 is in
    ⊎_elim
    (λ same. absurd (let clash = sym rest ∙ ap (property_at (xs ++ ys)) (same_name n e.0 same) ∙ h.0 in cc))
    (λ apart. ap (λ b. cond b (Some (e.1)) (property_at (xs ++ ys) n)) apart ∙ rest)
    (cases_Bool (bytes_eq n e.0))

missing_in_second : (xs ys : Entries) (n : List ℕ) → property_at (xs ++ ys) n ≡ None → property_at ys n ≡ None
missing_in_second [] ys n none = none
missing_in_second (e ∷ xs) ys n none =
    missing_in_second xs ys n (sym (ap (λ b. cond b (Some (e.1)) (property_at (xs ++ ys) n)) (differs_from_first e (xs ++ ys) n none)) ∙ none)

-- where names differ, a name is taken away from both lists
pub without_property-both : (xs ys : Entries) (n : List ℕ) → NamesDiffer (xs ++ ys) → without_property (xs ++ ys) n ≡ without_property xs n ++ without_property ys n
without_property-both [] ys n h = refl
without_property-both (e ∷ xs) ys n h = ⊎_elim
    (λ same.
    let gone = missing_in_second xs ys n (ap (property_at (xs ++ ys)) (same_name n e.0 same) ∙ h.0) in
    ap (λ b. cond b (xs ++ ys) (e ∷ without_property (xs ++ ys) n)) same
    ∙ ap (λ zs. xs ++ zs) (sym (without_property-missing ys n gone))
    ∙ sym (ap (λ b. cond b xs (e ∷ without_property xs n) ++ without_property ys n) same))
    (λ apart.
    ap (λ b. cond b (xs ++ ys) (e ∷ without_property (xs ++ ys) n)) apart
    ∙ ap (λ zs. e ∷ zs) (without_property-both xs ys n h.1)
    ∙ sym (ap (λ b. cond b xs (e ∷ without_property xs n) ++ without_property ys n) apart))
    (cases_Bool (bytes_eq n e.0))

-- a name that the first list has not is written in the second
pub with_property-second : (xs ys : Entries) (n : List ℕ) (p : Property) → property_at xs n ≡ None → with_property (xs ++ ys) n p ≡ xs ++ with_property ys n p
with_property-second [] ys n p none = refl
with_property-second (e ∷ xs) ys n p none =
    let other = differs_from_first e xs n none in
    ap (λ b. cond b ((e.0, p) ∷ xs ++ ys) (e ∷ with_property (xs ++ ys) n p)) other
    ∙ ap (λ zs. e ∷ zs) (with_property-second xs ys n p (sym (ap (λ b. cond b (Some (e.1)) (property_at xs n)) other) ∙ none))

missing_before_it : (ps : Entries) (e : List ℕ × Property) (es : Entries) → NamesDiffer (ps ++ e ∷ es) → property_at ps e.0 ≡ None
missing_before_it [] e es h = refl
missing_before_it (x ∷ ps) e es h =
    ap (λ b. cond b (Some (x.1)) (property_at ps e.0)) (numbers_equal.symm e.0 x.0 ∙ differs_from_first e es x.0 (missing_in_second ps (e ∷ es) x.0 h.0))
    ∙ missing_before_it ps e es h.1

-- where names differ, each property goes to the end
pub with_properties-differ : (ps es : Entries) → NamesDiffer (ps ++ es) → with_properties ps es ≡ ps ++ es
with_properties-differ ps [] h = sym (append-nil ps)
with_properties-differ ps (e ∷ es) h =
    ap (λ qs. with_properties qs es) (with_property-missing ps e.0 e.1 (missing_before_it ps e es h))
    ∙ with_properties-differ (ps ++ e ∷ []) es (subst NamesDiffer (sym (append_assoc ps (e ∷ []) es)) h)
    ∙ append_assoc ps (e ∷ []) es

missing_in_first : (xs ys : Entries) (n : List ℕ) → property_at (xs ++ ys) n ≡ None → property_at xs n ≡ None
missing_in_first [] ys n none = refl
missing_in_first (e ∷ xs) ys n none =
    let other = differs_from_first e (xs ++ ys) n none in
    ap (λ b. cond b (Some (e.1)) (property_at xs n)) other
    ∙ missing_in_first xs ys n (sym (ap (λ b. cond b (Some (e.1)) (property_at (xs ++ ys) n)) other) ∙ none)

-- those of the first list differ too
pub NamesDiffer-first : (xs ys : Entries) → NamesDiffer (xs ++ ys) → NamesDiffer xs
NamesDiffer-first [] ys h = tt
NamesDiffer-first (e ∷ xs) ys h = (missing_in_first xs ys e.0 h.0, NamesDiffer-first xs ys h.1)

-- what is found in one of two layers, seen as one
pub in_own : (xs ys now : Entries) (n : List ℕ) (p : Property) → NamesDiffer (xs ++ ys) → xs ++ ys ≡ now → Some p ≡ property_at ys n → Some p ≡ property_at now n
in_own xs ys now n p h whole is = sym (property_at-second xs ys n p h (sym is)) ∙ ap (λ ps. property_at ps n) whole

pub in_rows : (xs ys now : Entries) (n : List ℕ) (o : Option Property) → xs ++ ys ≡ now → None ≡ property_at ys n → o ≡ property_at xs n → o ≡ property_at now n
in_rows xs ys now n o whole none is = is ∙ sym (property_at-first xs ys n (sym none)) ∙ ap (λ ps. property_at ps n) whole

-- a change that may be refused
pub changed_or_kept : {T E X : Type 0} (r : Result T E) (changed kept new : X) → OnOk r (new ≡ changed) → OnErr r (new ≡ kept) → (new ≡ changed) ⊎ (new ≡ kept)
changed_or_kept (Ok v) changed kept new ok err = inl ok
changed_or_kept (Err e) changed kept new ok err = inr err
