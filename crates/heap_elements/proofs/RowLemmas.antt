-- What stands at the place of a name.
use Rattle.std.proofs.Common.{◌≡◌, ℕ, ◌≤◌, zero, suc, List, [], ◌∷◌, ◌++◌, true, false, cond, Some, None, slice_get, length, take, refl, sym, ap, subst, ◌∙◌, arith, ⊎_elim}
use Rattle.std.specs.Str.{bytes_eq}
use Rattle.std.proofs.lemmas.Bool.{cases_Bool}
use Rattle.std.proofs.lemmas.Slice.Eq.{bytes_eq-Decides}
use Rattle.utf16_text.specs.Comparing.{numbers_equal}
use Rattle.heap_values.specs.declared.property.Property.{Property}
use Rattle.heap_elements.specs.Properties.{property_at, with_property, without_property}
use Rattle.heap_elements.specs.Places.{StandsAt, IsMissing, NamesDiffer}

pub same_name : (m n : List ℕ) → bytes_eq m n ≡ true → m ≡ n
same_name m n same = (bytes_eq-Decides m n).0 same

-- no entry before the place has the name
abbrev pub NoneBefore : List (List ℕ × Property) → List ℕ → ℕ → Type 0
NoneBefore es name zero = Unit {0}
NoneBefore [] name (suc at) = Unit {0}
NoneBefore (e ∷ es) name (suc at) = (bytes_eq name e.0 ≡ false) × NoneBefore es name at

-- and this one has not either
pub NoneBefore-more : (es : List (List ℕ × Property)) (name : List ℕ) (at : ℕ) (e : List ℕ × Property) → NoneBefore es name at → slice_get es at ≡ Some e → bytes_eq name e.0 ≡ false → NoneBefore es name (suc at)
NoneBefore-more [] name zero e before is differs = tt
NoneBefore-more [] name (suc at) e before is differs = tt
NoneBefore-more (x ∷ xs) name zero e before is differs = (let same : x ≡ e = cc in ap (λ y. bytes_eq name y.0) same ∙ differs, tt)
NoneBefore-more (x ∷ xs) name (suc at) e before is differs = (before.0, NoneBefore-more xs name at e before.1 is differs)

pub StandsAt-from : (es : List (List ℕ × Property)) (name : List ℕ) (at : ℕ) (e : List ℕ × Property) → NoneBefore es name at → slice_get es at ≡ Some e → bytes_eq name e.0 ≡ true → StandsAt es name at
StandsAt-from [] name at e before is same = absurd (cc)
StandsAt-from (x ∷ xs) name zero e before is same =
    let here : bytes_eq name x.0 ≡ true = (let q : x ≡ e = cc in ap (λ y. bytes_eq name y.0) q ∙ same) in
    record {
      entry = x;
      is = refl;
      found = ap (λ b. cond b (Some (x.1)) (property_at xs name)) here;
      written = λ p. ap (λ b. cond b ((x.0, p) ∷ xs) (x ∷ with_property xs name p)) here;
      removed = ap (λ b. cond b xs (x ∷ without_property xs name)) here;
    }
StandsAt-from (x ∷ xs) name (suc at) e before is same =
    let rest = StandsAt-from xs name at e before.1 is same in
    record {
      entry = rest.entry;
      is = rest.is;
      found = ap (λ b. cond b (Some (x.1)) (property_at xs name)) before.0 ∙ rest.found;
      written = λ p. ap (λ b. cond b ((x.0, p) ∷ xs) (x ∷ with_property xs name p)) before.0 ∙ ap (λ l. x ∷ l) (rest.written p);
      removed = ap (λ b. cond b xs (x ∷ without_property xs name)) before.0 ∙ ap (λ l. x ∷ l) rest.removed;
    }

pub IsMissing-from : (es : List (List ℕ × Property)) (name : List ℕ) (at : ℕ) → NoneBefore es name at → length es ≤ at → IsMissing es name
IsMissing-from [] name at before all = record { none = refl; appended = λ p. refl; same = refl }
IsMissing-from (x ∷ xs) name zero before all = absurd (omega arith)
IsMissing-from (x ∷ xs) name (suc at) before all =
    let rest = IsMissing-from xs name at before.1 (omega arith) in
    record {
      none = ap (λ b. cond b (Some (x.1)) (property_at xs name)) before.0 ∙ rest.none;
      appended = λ p. ap (λ b. cond b ((x.0, p) ∷ xs) (x ∷ with_property xs name p)) before.0 ∙ ap (λ l. x ∷ l) (rest.appended p);
      same = ap (λ b. cond b xs (x ∷ without_property xs name)) before.0 ∙ ap (λ l. x ∷ l) rest.same;
    }

-- the first entry has another name than one that is missing
pub differs_from_first : (e : List ℕ × Property) (es : List (List ℕ × Property)) (n : List ℕ) → property_at (e ∷ es) n ≡ None → bytes_eq n e.0 ≡ false
differs_from_first e es n none = ⊎_elim
    (λ same. absurd (let found = ap (λ b. cond b (Some (e.1)) (property_at es n)) same in cc))
    (λ apart. apart)
    (cases_Bool (bytes_eq n e.0))

-- a property under another name changes nothing for a name
property_at-with : (es : List (List ℕ × Property)) (n m : List ℕ) (p : Property) → bytes_eq m n ≡ false → property_at (with_property es n p) m ≡ property_at es m
property_at-with [] n m p apart = ap (λ b. cond b (Some p) None) apart
property_at-with (e ∷ es) n m p apart = ⊎_elim
    (λ here.
    let other : bytes_eq m e.0 ≡ false = ap (bytes_eq m) (sym (same_name n e.0 here)) ∙ apart in
    ap (λ l. property_at l m) (ap (λ b. cond b ((e.0, p) ∷ es) (e ∷ with_property es n p)) here)
    ∙ ap (λ b. cond b (Some p) (property_at es m)) other
    ∙ sym (ap (λ b. cond b (Some (e.1)) (property_at es m)) other))
    (λ there.
    ap (λ l. property_at l m) (ap (λ b. cond b ((e.0, p) ∷ es) (e ∷ with_property es n p)) there)
    ∙ ap (λ found. cond (bytes_eq m e.0) (Some (e.1)) found) (property_at-with es n m p apart))
    (cases_Bool (bytes_eq n e.0))

pub NamesDiffer-with : (es : List (List ℕ × Property)) (n : List ℕ) (p : Property) → NamesDiffer es → NamesDiffer (with_property es n p)
NamesDiffer-with [] n p h = (refl, tt)
NamesDiffer-with (e ∷ es) n p h = ⊎_elim
    (λ here. subst NamesDiffer (sym (ap (λ b. cond b ((e.0, p) ∷ es) (e ∷ with_property es n p)) here)) (h.0, h.1))
    (λ there.
    subst NamesDiffer (sym (ap (λ b. cond b ((e.0, p) ∷ es) (e ∷ with_property es n p)) there))
    (property_at-with es n e.0 p (numbers_equal.symm e.0 n ∙ there) ∙ h.0, NamesDiffer-with es n p h.1))
    (cases_Bool (bytes_eq n e.0))

-- a name that is missing stays so when another is taken away
property_at-without : (es : List (List ℕ × Property)) (n m : List ℕ) → property_at es m ≡ None → property_at (without_property es n) m ≡ None
property_at-without [] n m none = refl
property_at-without (e ∷ es) n m none =
    let other = differs_from_first e es m none in
    let rest = sym (ap (λ b. cond b (Some (e.1)) (property_at es m)) other) ∙ none in
    ⊎_elim
    (λ here. ap (λ l. property_at l m) (ap (λ b. cond b es (e ∷ without_property es n)) here) ∙ rest)
    (λ there.
    ap (λ l. property_at l m) (ap (λ b. cond b es (e ∷ without_property es n)) there)
    ∙ ap (λ b. cond b (Some (e.1)) (property_at (without_property es n) m)) other
    ∙ property_at-without es n m rest)
    (cases_Bool (bytes_eq n e.0))

pub NamesDiffer-without : (es : List (List ℕ × Property)) (n : List ℕ) → NamesDiffer es → NamesDiffer (without_property es n)
NamesDiffer-without [] n h = tt
NamesDiffer-without (e ∷ es) n h = ⊎_elim
    (λ here. subst NamesDiffer (sym (ap (λ b. cond b es (e ∷ without_property es n)) here)) h.1)
    (λ there.
    subst NamesDiffer (sym (ap (λ b. cond b es (e ∷ without_property es n)) there))
    (property_at-without es n e.0 h.0, NamesDiffer-without es n h.1))
    (cases_Bool (bytes_eq n e.0))

-- a property under a name that is missing goes to the end
pub with_property-missing : (es : List (List ℕ × Property)) (n : List ℕ) (p : Property) → property_at es n ≡ None → with_property es n p ≡ es ++ (n, p) ∷ []
with_property-missing [] n p none = refl
with_property-missing (e ∷ es) n p none =
    let other = differs_from_first e es n none in
    ap (λ b. cond b ((e.0, p) ∷ es) (e ∷ with_property es n p)) other
    ∙ ap (λ l. e ∷ l) (with_property-missing es n p (sym (ap (λ b. cond b (Some (e.1)) (property_at es n)) other) ∙ none))

-- where no property has the name, none is taken away
pub without_property-missing : (ps : List (List ℕ × Property)) (m : List ℕ) → property_at ps m ≡ None → without_property ps m ≡ ps
without_property-missing [] m none = refl
without_property-missing (e ∷ es) m none =
    let other = differs_from_first e es m none in
    ap (λ b. cond b es (e ∷ without_property es m)) other
    ∙ ap (λ l. e ∷ l) (without_property-missing es m (sym (ap (λ b. cond b (Some (e.1)) (property_at es m)) other) ∙ none))

-- no entry has a name that is missing
apart_from_missing : (es : List (List ℕ × Property)) (n : List ℕ) (i : ℕ) (e : List ℕ × Property) → property_at es n ≡ None → slice_get es i ≡ Some e → bytes_eq n e.0 ≡ false
apart_from_missing [] n i e none is = absurd (cc)
apart_from_missing (x ∷ xs) n zero e none is = let same : x ≡ e = cc in ap (λ y. bytes_eq n y.0) (sym same) ∙ differs_from_first x xs n none
apart_from_missing (x ∷ xs) n (suc i) e none is =
    apart_from_missing xs n i e (sym (ap (λ b. cond b (Some (x.1)) (property_at xs n)) (differs_from_first x xs n none)) ∙ none) is

missing_before : (es : List (List ℕ × Property)) (i : ℕ) (e : List ℕ × Property) → NamesDiffer es → slice_get es i ≡ Some e → property_at (take i es) e.0 ≡ None
missing_before [] i e h is = absurd (cc)
missing_before (x ∷ xs) zero e h is = refl
missing_before (x ∷ xs) (suc i) e h is =
    ap (λ b. cond b (Some (x.1)) (property_at (take i xs) e.0)) (numbers_equal.symm e.0 x.0 ∙ apart_from_missing xs x.0 i e h.0 is)
    ∙ missing_before xs i e h.1 is

-- the next entry of a row goes behind those before it
pub with_property-next : (es : List (List ℕ × Property)) (i : ℕ) (e : List ℕ × Property) → NamesDiffer es → slice_get es i ≡ Some e → with_property (take i es) e.0 e.1 ≡ take i es ++ e ∷ []
with_property-next es i e h is = with_property-missing (take i es) e.0 e.1 (missing_before es i e h is)
