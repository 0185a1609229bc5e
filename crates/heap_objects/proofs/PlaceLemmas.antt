-- What stands at the places that an index of a row gives, and how the row changes there.
use Rattle.std.proofs.Common.{◌≡◌, ℕ, ◌+◌, ◌<◌, ◌≤◌, zero, suc, List, [], ◌∷◌, ◌++◌, Bool, true, false, cond, Option, Some, None, slice_get, length, set, take, filter, refl, sym, ap, subst, ◌∙◌, add-one, length-set, length-append, arith, ⊎_elim}
use Rattle.std.specs.Option.{option_map, is_some, unwrap_or}
use Rattle.std.specs.Ordering.{nat_cmp, is_eq}
use Rattle.std.specs.Cmp.Lexicographic.{slice_cmp}
use Rattle.std.specs.Str.{bytes_eq}
use Rattle.std.proofs.lemmas.Slice.Eq.{bytes_eq-Decides}
use Rattle.std.proofs.lemmas.Bool.{cases_Bool}
use Rattle.std.proofs.lemmas.Option.{slice_get_cases}
use Rattle.std.proofs.lemmas.Map.Text.{is_eq-slice_cmp}
use Rattle.utf16_text.specs.Comparing.{numbers_equal}
use Rattle.heap_values.specs.declared.property.Property.{Property}
use Rattle.heap_elements.specs.Properties.{property_at, with_property, without_property}
use Rattle.heap_elements.specs.Places.{NamesDiffer}
use Rattle.heap_objects.specs.Slots.{standing, place_in, IsIndexOf, Updated, moved}
use Rattle.heap_elements.proofs.RowLemmas.{same_name, with_property-missing, NamesDiffer-with, NamesDiffer-without}

abbrev pub Slots : Type 0
Slots = List (Option (List ℕ × Property))

abbrev pub next : Option ℕ → Option ℕ
next o = option_map (λ i. suc i) o

-- a place that is not the first
record IsBehind (o : Option ℕ) (j : ℕ) : Type 0 where
  pub before : ℕ
  pub is : o ≡ Some before
  pub after : j ≡ suc before

behind : (o : Option ℕ) (j : ℕ) → next o ≡ Some j → IsBehind o j
behind None j e = absurd (cc)
behind (Some i) j e = record { before = i; is = refl; after = (let f : suc i ≡ j = cc in sym f) }

pub none_behind : (o : Option ℕ) → next o ≡ None → o ≡ None
none_behind None e = refl
none_behind (Some i) e = absurd (cc)

-- a name that differs from the first stands further on
pub place_past : (e : List ℕ × Property) (ss : Slots) (m : List ℕ) (o : Option ℕ) → bytes_eq m e.0 ≡ false → place_in (Some e ∷ ss) m ≡ o → next (place_in ss m) ≡ o
place_past e ss m o apart is = sym (ap (λ b. cond b (Some 0) (next (place_in ss m))) apart) ∙ is

at_front : (e : List ℕ × Property) (ss : Slots) (m : List ℕ) (j : ℕ) → bytes_eq m e.0 ≡ true → place_in (Some e ∷ ss) m ≡ Some j → j ≡ zero
at_front e ss m j same is = (let f = sym (ap (λ b. cond b (Some 0) (next (place_in ss m))) same) ∙ is in let g : zero ≡ j = cc in sym g)

-- a name has a place where it has a property
is_some-next : (o : Option ℕ) → is_some (next o) ≡ is_some o
is_some-next None = refl
is_some-next (Some i) = refl

pub place_in-some : (ss : Slots) (m : List ℕ) → is_some (place_in ss m) ≡ is_some (property_at (standing ss) m)
place_in-some [] m = refl
place_in-some (None ∷ ss) m = is_some-next (place_in ss m) ∙ place_in-some ss m
place_in-some (Some e ∷ ss) m = ⊎_elim
    (λ same.
    ap (λ b. is_some (cond b (Some 0) (next (place_in ss m)))) same
    ∙ sym (ap (λ b. is_some (cond b (Some (e.1)) (property_at (standing ss) m))) same))
    (λ apart.
    ap (λ b. is_some (cond b (Some 0) (next (place_in ss m)))) apart
    ∙ is_some-next (place_in ss m) ∙ place_in-some ss m
    ∙ sym (ap (λ b. is_some (cond b (Some (e.1)) (property_at (standing ss) m))) apart))
    (cases_Bool (bytes_eq m e.0))

pub nothing : {X : Type 0} (o : Option X) → is_some o ≡ false → o ≡ None
nothing None e = refl
nothing (Some x) e = absurd (cc)

pub no_property : (ss : Slots) (m : List ℕ) → place_in ss m ≡ None → property_at (standing ss) m ≡ None
no_property ss m none = nothing (property_at (standing ss) m) (sym (place_in-some ss m) ∙ ap is_some none)

pub no_place : (ss : Slots) (m : List ℕ) → property_at (standing ss) m ≡ None → place_in ss m ≡ None
no_place ss m none = nothing (place_in ss m) (place_in-some ss m ∙ ap is_some none)

-- what stands at the place of a name is its property
pub record IsFoundAt (ss : Slots) (m : List ℕ) (j : ℕ) : Type 0 where
  pub property : Property
  pub stands : slice_get ss j ≡ Some (Some (m, property))
  pub named : property_at (standing ss) m ≡ Some property

pub found_at : (ss : Slots) (m : List ℕ) (j : ℕ) → place_in ss m ≡ Some j → IsFoundAt ss m j
found_at [] m j is = absurd (cc)
found_at (None ∷ ss) m j is =
    let b = behind (place_in ss m) j is in
    let rest = found_at ss m b.before b.is in
    record {
      property = rest.property;
      stands = ap (slice_get (None ∷ ss)) b.after ∙ rest.stands;
      named = rest.named;
    }
found_at (Some e ∷ ss) m j is = ⊎_elim
    (λ same. record {
      property = e.1;
      stands = ap (slice_get (Some e ∷ ss)) (at_front e ss m j same is) ∙ ap (λ n. Some (Some (n, e.1))) (sym (same_name m e.0 same));
      named = ap (λ b. cond b (Some (e.1)) (property_at (standing ss) m)) same;
    })
    (λ apart.
    let b = behind (place_in ss m) j (place_past e ss m (Some j) apart is) in
    let rest = found_at ss m b.before b.is in
    record {
      property = rest.property;
      stands = ap (slice_get (Some e ∷ ss)) b.after ∙ rest.stands;
      named = ap (λ b. cond b (Some (e.1)) (property_at (standing ss) m)) apart ∙ rest.named;
    })
    (cases_Bool (bytes_eq m e.0))

-- a property written at the place of its name
pub record IsWrittenAt (ss : Slots) (m : List ℕ) (j : ℕ) (p : Property) : Type 0 where
  pub listed : standing (set ss j (Some (m, p))) ≡ with_property (standing ss) m p
  pub places : (n : List ℕ) → place_in (set ss j (Some (m, p))) n ≡ place_in ss n

pub written_at : (ss : Slots) (m : List ℕ) (j : ℕ) (p : Property) → place_in ss m ≡ Some j → IsWrittenAt ss m j p
written_at [] m j p is = absurd (cc)
written_at (None ∷ ss) m j p is =
    let b = behind (place_in ss m) j is in
    let rest = written_at ss m b.before p b.is in
    let row = ap (λ i. set (None ∷ ss) i (Some (m, p))) b.after in
    record {
      listed = ap standing row ∙ rest.listed;
      places = λ n. ap (λ ts. place_in ts n) row ∙ ap next (rest.places n);
    }
written_at (Some e ∷ ss) m j p is = ⊎_elim
    (λ same.
    let row = ap (λ i. set (Some e ∷ ss) i (Some (m, p))) (at_front e ss m j same is) in
    let name = same_name m e.0 same in
    record {
      listed = ap standing row ∙ ap (λ n. (n, p) ∷ standing ss) name ∙ sym (ap (λ b. cond b ((e.0, p) ∷ standing ss) (e ∷ with_property (standing ss) m p)) same);
      places = λ n. ap (λ ts. place_in ts n) row ∙ ap (λ k. cond (bytes_eq n k) (Some 0) (next (place_in ss n))) name;
    })
    (λ apart.
    let b = behind (place_in ss m) j (place_past e ss m (Some j) apart is) in
    let rest = written_at ss m b.before p b.is in
    let row = ap (λ i. set (Some e ∷ ss) i (Some (m, p))) b.after in
    record {
      listed = ap standing row ∙ ap (λ l. e ∷ l) rest.listed ∙ sym (ap (λ b. cond b ((e.0, p) ∷ standing ss) (e ∷ with_property (standing ss) m p)) apart);
      places = λ n. ap (λ ts. place_in ts n) row ∙ ap (λ o. cond (bytes_eq n e.0) (Some 0) (next o)) (rest.places n);
    })
    (cases_Bool (bytes_eq m e.0))

-- the property of a name taken away
pub record IsTakenAway (ss : Slots) (m : List ℕ) (j : ℕ) : Type 0 where
  pub listed : standing (set ss j None) ≡ without_property (standing ss) m
  pub places : (n : List ℕ) → place_in (set ss j None) n ≡ cond (bytes_eq m n) None (place_in ss n)

next_unless : (b : Bool) (o : Option ℕ) → next (cond b None o) ≡ cond b None (next o)
next_unless true o = refl
next_unless false o = refl

pub taken_away : (ss : Slots) (m : List ℕ) (j : ℕ) → NamesDiffer (standing ss) → place_in ss m ≡ Some j → IsTakenAway ss m j
taken_away [] m j h is = absurd (cc)
taken_away (None ∷ ss) m j h is =
    let b = behind (place_in ss m) j is in
    let rest = taken_away ss m b.before h b.is in
    let row = ap (λ i. set (None ∷ ss) i None) b.after in
    record {
      listed = ap standing row ∙ rest.listed;
      places = λ n. ap (λ ts. place_in ts n) row ∙ ap next (rest.places n) ∙ next_unless (bytes_eq m n) (place_in ss n);
    }
taken_away (Some e ∷ ss) m j h is = ⊎_elim
    (λ same.
    let row = ap (λ i. set (Some e ∷ ss) i None) (at_front e ss m j same is) in
    let name = same_name m e.0 same in
    record {
      listed = ap standing row ∙ sym (ap (λ b. cond b (standing ss) (e ∷ without_property (standing ss) m)) same);
      places = λ n. ap (λ ts. place_in ts n) row ∙ ⊎_elim
          (λ this.
          ap next (no_place ss n (ap (property_at (standing ss)) (sym (same_name m n this) ∙ name) ∙ h.0))
          ∙ sym (ap (λ b. cond b None (place_in (Some e ∷ ss) n)) this))
          (λ other.
          sym (ap (λ b. cond b (Some 0) (next (place_in ss n))) (ap (bytes_eq n) (sym name) ∙ numbers_equal.symm n m ∙ other))
          ∙ sym (ap (λ b. cond b None (place_in (Some e ∷ ss) n)) other))
          (cases_Bool (bytes_eq m n));
    })
    (λ apart.
    let b = behind (place_in ss m) j (place_past e ss m (Some j) apart is) in
    let rest = taken_away ss m b.before h.1 b.is in
    let row = ap (λ i. set (Some e ∷ ss) i None) b.after in
    record {
      listed = ap standing row ∙ ap (λ l. e ∷ l) rest.listed ∙ sym (ap (λ b. cond b (standing ss) (e ∷ without_property (standing ss) m)) apart);
      places = λ n. ap (λ ts. place_in ts n) row ∙ ap (λ o. cond (bytes_eq n e.0) (Some 0) (next o)) (rest.places n) ∙ ⊎_elim
          (λ this.
          ap (λ b. cond (bytes_eq n e.0) (Some 0) (next (cond b None (place_in ss n)))) this
          ∙ ap (λ b. cond b (Some 0) None) (ap (λ k. bytes_eq k e.0) (sym (same_name m n this)) ∙ apart)
          ∙ sym (ap (λ b. cond b None (place_in (Some e ∷ ss) n)) this))
          (λ other.
          ap (λ b. cond (bytes_eq n e.0) (Some 0) (next (cond b None (place_in ss n)))) other
          ∙ sym (ap (λ b. cond b None (place_in (Some e ∷ ss) n)) other))
          (cases_Bool (bytes_eq m n));
    })
    (cases_Bool (bytes_eq m e.0))

-- a property put behind all others
pub record IsAdded (ss : Slots) (m : List ℕ) (p : Property) : Type 0 where
  pub listed : standing (ss ++ Some (m, p) ∷ []) ≡ with_property (standing ss) m p
  pub places : (n : List ℕ) → place_in (ss ++ Some (m, p) ∷ []) n ≡ cond (bytes_eq m n) (Some (length ss)) (place_in ss n)

standing-append : (ss : Slots) (e : List ℕ × Property) → standing (ss ++ Some e ∷ []) ≡ standing ss ++ e ∷ []
standing-append [] e = refl
standing-append (None ∷ ss) e = standing-append ss e
standing-append (Some x ∷ ss) e = ap (λ l. x ∷ l) (standing-append ss e)

next_if : (b : Bool) (k : ℕ) (o : Option ℕ) → next (cond b (Some k) o) ≡ cond b (Some (suc k)) (next o)
next_if true k o = refl
next_if false k o = refl

pub apart_from_first : (e : List ℕ × Property) (ss : Slots) (m : List ℕ) → place_in (Some e ∷ ss) m ≡ None → bytes_eq m e.0 ≡ false
apart_from_first e ss m none = ⊎_elim
    (λ same. absurd (let found = sym (ap (λ b. cond b (Some 0) (next (place_in ss m))) same) ∙ none in cc))
    (λ apart. apart)
    (cases_Bool (bytes_eq m e.0))

place_in-append : (ss : Slots) (m : List ℕ) (p : Property) (n : List ℕ) → place_in ss m ≡ None → place_in (ss ++ Some (m, p) ∷ []) n ≡ cond (bytes_eq m n) (Some (length ss)) (place_in ss n)
place_in-append [] m p n none = ap (λ b. cond b (Some 0) None) (numbers_equal.symm n m)
place_in-append (None ∷ ss) m p n none =
    ap next (place_in-append ss m p n (none_behind (place_in ss m) none))
    ∙ next_if (bytes_eq m n) (length ss) (place_in ss n)
place_in-append (Some e ∷ ss) m p n none =
    let apart = apart_from_first e ss m none in
    let rest = place_in-append ss m p n (none_behind (place_in ss m) (place_past e ss m None apart none)) in
    ⊎_elim
    (λ same.
    ap (λ b. cond b (Some 0) (next (place_in (ss ++ Some (m, p) ∷ []) n))) same
    ∙ sym (ap (λ b. cond b (Some 0) (next (place_in ss n))) same)
    ∙ sym (ap (λ b. cond b (Some (suc (length ss))) (place_in (Some e ∷ ss) n)) (ap (bytes_eq m) (same_name n e.0 same) ∙ apart)))
    (λ other.
    ap (λ b. cond b (Some 0) (next (place_in (ss ++ Some (m, p) ∷ []) n))) other
    ∙ ap next rest ∙ next_if (bytes_eq m n) (length ss) (place_in ss n)
    ∙ sym (ap (λ b. cond (bytes_eq m n) (Some (suc (length ss))) (cond b (Some 0) (next (place_in ss n)))) other))
    (cases_Bool (bytes_eq n e.0))

pub added : (ss : Slots) (m : List ℕ) (p : Property) → place_in ss m ≡ None → IsAdded ss m p
added ss m p none = record {
  listed = standing-append ss (m, p) ∙ sym (with_property-missing (standing ss) m p (no_property ss m none));
  places = λ n. place_in-append ss m p n none;
}

place_in-gap : (ss : Slots) (n : List ℕ) → place_in (ss ++ None ∷ []) n ≡ place_in ss n
place_in-gap [] n = refl
place_in-gap (None ∷ ss) n = ap next (place_in-gap ss n)
place_in-gap (Some e ∷ ss) n = ap (λ o. cond (bytes_eq n e.0) (Some 0) (next o)) (place_in-gap ss n)

-- what a map of texts says of a change
pub updated_from : (f : List ℕ → Option ℕ) (m : List ℕ) (w : Option ℕ) (g : List ℕ → Option ℕ) → ((n : List ℕ) → g n ≡ cond (is_eq (slice_cmp nat_cmp m n)) w (f n)) → Updated f m w g
updated_from f m w g is n = is n ∙ ap (λ b. cond b w (f n)) (is_eq-slice_cmp m n)

-- without its gaps a row has the same properties
pub standing-closed : (ss : Slots) → standing (filter is_some ss) ≡ standing ss
standing-closed [] = refl
standing-closed (None ∷ ss) = standing-closed ss
standing-closed (Some e ∷ ss) = ap (λ l. e ∷ l) (standing-closed ss)

stands_some : (ss : Slots) (i : ℕ) (e : List ℕ × Property) → slice_get ss i ≡ Some (Some e) → is_some (property_at (standing ss) e.0) ≡ true
stands_some [] i e is = absurd (cc)
stands_some (None ∷ ss) zero e is = absurd (cc)
stands_some (None ∷ ss) (suc i) e is = stands_some ss i e is
stands_some (Some x ∷ ss) zero e is =
    let this : x ≡ e = cc in
    ap (λ b. is_some (cond b (Some (x.1)) (property_at (standing ss) e.0))) (ap (λ y. bytes_eq e.0 y.0) this ∙ (bytes_eq-Decides e.0 e.0).1 refl)
stands_some (Some x ∷ ss) (suc i) e is = ⊎_elim
    (λ same. ap (λ b. is_some (cond b (Some (x.1)) (property_at (standing ss) e.0))) same)
    (λ apart. ap (λ b. is_some (cond b (Some (x.1)) (property_at (standing ss) e.0))) apart ∙ stands_some ss i e is)
    (cases_Bool (bytes_eq e.0 x.0))

take_next : (ss : Slots) (i : ℕ) (s : Option (List ℕ × Property)) → slice_get ss i ≡ Some s → take (i + 1) ss ≡ take i ss ++ s ∷ []
take_next [] i s is = absurd (cc)
take_next (x ∷ ss) zero s is = ap (λ y. y ∷ []) (let this : x ≡ s = cc in this)
take_next (x ∷ ss) (suc i) s is = ap (λ l. take l (x ∷ ss)) (add-one (suc i)) ∙ ap (λ l. x ∷ l) (ap (λ l. take l ss) (sym (add-one i)) ∙ take_next ss i s is)

length-take_next : (ss : Slots) (i : ℕ) (s : Option (List ℕ × Property)) → slice_get ss i ≡ Some s → length (take i ss) ≡ i
length-take_next [] i s is = absurd (cc)
length-take_next (x ∷ ss) zero s is = refl
length-take_next (x ∷ ss) (suc i) s is = ap (λ l. suc l) (length-take_next ss i s is)

not_before : (ss : Slots) (i : ℕ) (e : List ℕ × Property) → NamesDiffer (standing ss) → slice_get ss i ≡ Some (Some e) → place_in (take i ss) e.0 ≡ None
not_before [] i e h is = absurd (cc)
not_before (s ∷ ss) zero e h is = refl
not_before (None ∷ ss) (suc i) e h is = ap next (not_before ss i e h is)
not_before (Some x ∷ ss) (suc i) e h is = ⊎_elim
    (λ same. absurd (
    let none = ap is_some (ap (property_at (standing ss)) (same_name e.0 x.0 same) ∙ h.0) in
    let some = stands_some ss i e is in
    cc))
    (λ apart.
    ap (λ b. cond b (Some 0) (next (place_in (take i ss) e.0))) apart
    ∙ ap next (not_before ss i e h.1 is))
    (cases_Bool (bytes_eq e.0 x.0))

abbrev pub first_of : Option ℕ → Option ℕ → Option ℕ
first_of None o = o
first_of (Some i) o = Some i

-- `after` gives the places of the first `i` slots of a row, and else those of before
abbrev pub IsMovedUpTo : (List ℕ → Option ℕ) → Slots → ℕ → (List ℕ → Option ℕ) → Type 0
IsMovedUpTo before ss i after = (n : List ℕ) → after n ≡ first_of (place_in (take i ss) n) (before n)

pub moved_past_gap : (f : List ℕ → Option ℕ) (ss : Slots) (i : ℕ) (g : List ℕ → Option ℕ) → slice_get ss i ≡ Some None → IsMovedUpTo f ss i g → IsMovedUpTo f ss (i + 1) g
moved_past_gap f ss i g is moved n = moved n ∙ sym (ap (λ ts. first_of (place_in ts n) (f n)) (take_next ss i None is) ∙ ap (λ o. first_of o (f n)) (place_in-gap (take i ss) n))

pub moved_some : (o : Option ℕ) (i : ℕ) → is_some o ≡ true → moved o i ≡ Some i
moved_some None i some = absurd (cc)
moved_some (Some j) i some = refl

pub moved_past : (f : List ℕ → Option ℕ) (ss : Slots) (i : ℕ) (e : List ℕ × Property) (g k : List ℕ → Option ℕ) → NamesDiffer (standing ss) → ((n : List ℕ) → is_some (f n) ≡ is_some (place_in ss n)) → slice_get ss i ≡ Some (Some e) → IsMovedUpTo f ss i g → Updated g e.0 (moved (g e.0) i) k → IsMovedUpTo f ss (i + 1) k
moved_past f ss i e g k h same is before updated n =
    let none = not_before ss i e h is in
    let held = ap is_some (before e.0 ∙ ap (λ o. first_of o (f e.0)) none) ∙ same e.0 ∙ place_in-some ss e.0 ∙ stands_some ss i e is in
    let place : place_in (take (i + 1) ss) n ≡ cond (bytes_eq e.0 n) (Some i) (place_in (take i ss) n) =
    ap (λ ts. place_in ts n) (take_next ss i (Some e) is)
    ∙ place_in-append (take i ss) e.0 e.1 n none
    ∙ ap (λ l. cond (bytes_eq e.0 n) (Some l) (place_in (take i ss) n)) (length-take_next ss i (Some e) is)
    in
    ⊎_elim
    (λ this.
    updated n ∙ ap (λ b. cond b (moved (g e.0) i) (g n)) this ∙ moved_some (g e.0) i held
    ∙ sym (ap (λ o. first_of o (f n)) (place ∙ ap (λ b. cond b (Some i) (place_in (take i ss) n)) this)))
    (λ other.
    updated n ∙ ap (λ b. cond b (moved (g e.0) i) (g n)) other ∙ before n
    ∙ sym (ap (λ o. first_of o (f n)) (place ∙ ap (λ b. cond b (Some i) (place_in (take i ss) n)) other)))
    (cases_Bool (bytes_eq e.0 n))

-- and the same names have a place
pub place_in-closed : (ss : Slots) (m : List ℕ) → is_some (place_in ss m) ≡ is_some (place_in (filter is_some ss) m)
place_in-closed ss m =
    place_in-some ss m
    ∙ ap (λ es. is_some (property_at es m)) (sym (standing-closed ss))
    ∙ sym (place_in-some (filter is_some ss) m)

pub none_unless : {X : Type 0} (o : Option X) → ((x : X) → o ≡ Some x → ⊥) → o ≡ None
none_unless None never = refl
none_unless (Some x) never = absurd (never x refl)

-- a name's place is one of the row
pub place_below : (ss : Slots) (m : List ℕ) (j : ℕ) → place_in ss m ≡ Some j → j < length ss
place_below ss m j is = ⊎_elim
    (λ within. within.1)
    (λ past. absurd (let nothing_there = sym (found_at ss m j is).stands ∙ past.1 in cc))
    (slice_get_cases ss j).1

-- where a name has its own place or else the next one, a place before the next is its own
pub own_place : (o : Option ℕ) (next place : ℕ) → place ≡ unwrap_or o next → place < next → o ≡ Some place
own_place None next place is below = absurd (omega (arith, is, below))
own_place (Some i) next place is below = ap Some (sym is)

-- and any other is the next, which no name has
pub no_own_place : (f : List ℕ → Option ℕ) (ss : Slots) (m : List ℕ) (place : ℕ) → IsIndexOf f ss → place ≡ unwrap_or (f m) (length ss) → length ss ≤ place → f m ≡ None
no_own_place f ss m place h is past = none_unless (f m) (λ i found.
    let own = is ∙ ap (λ o. unwrap_or o (length ss)) found in
    let below = place_below ss m i (sym (h.places m) ∙ found) in
    omega (arith, own, below, past))

-- a name that gets what it has, or that goes again, leaves the places as they are
pub kept : (f : List ℕ → Option ℕ) (m : List ℕ) (w : Option ℕ) (g : List ℕ → Option ℕ) → f m ≡ w → Updated f m w g → (n : List ℕ) → g n ≡ f n
kept f m w g is updated n = updated n ∙ ⊎_elim
    (λ same. ap (λ b. cond b w (f n)) same ∙ sym is ∙ ap f (same_name m n same))
    (λ apart. ap (λ b. cond b w (f n)) apart)
    (cases_Bool (bytes_eq m n))

pub withdrawn : (f : List ℕ → Option ℕ) (m : List ℕ) (w : Option ℕ) (g k : List ℕ → Option ℕ) → f m ≡ None → Updated f m w g → Updated g m None k → (n : List ℕ) → k n ≡ f n
withdrawn f m w g k none updated gone n = gone n ∙ ⊎_elim
    (λ same. ap (λ b. cond b None (g n)) same ∙ sym none ∙ ap f (same_name m n same))
    (λ apart. ap (λ b. cond b None (g n)) apart ∙ updated n ∙ ap (λ b. cond b w (f n)) apart)
    (cases_Bool (bytes_eq m n))

pub index-same : (f : List ℕ → Option ℕ) (ss : Slots) (g : List ℕ → Option ℕ) → IsIndexOf f ss → ((n : List ℕ) → g n ≡ f n) → IsIndexOf g ss
index-same f ss g h same = record {
  places = λ n. same n ∙ h.places n;
  differ = h.differ;
  few = h.few;
}

-- the index after a property was written, added or taken away
pub index-written : (f : List ℕ → Option ℕ) (ss : Slots) (m : List ℕ) (j : ℕ) (p : Property) → IsIndexOf f ss → f m ≡ Some j → IsIndexOf f (set ss j (Some (m, p)))
index-written f ss m j p h found =
    let written = written_at ss m j p (sym (h.places m) ∙ found) in
    record {
      places = λ n. h.places n ∙ sym (written.places n);
      differ = subst NamesDiffer (sym written.listed) (NamesDiffer-with (standing ss) m p h.differ);
      few = subst (λ l. l ≤ 4294967296) (sym (length-set ss j (Some (m, p)))) h.few;
    }

pub index-added : (f : List ℕ → Option ℕ) (ss : Slots) (m : List ℕ) (p : Property) (g : List ℕ → Option ℕ) → IsIndexOf f ss → f m ≡ None → length ss < 4294967296 → Updated f m (Some (length ss)) g → IsIndexOf g (ss ++ Some (m, p) ∷ [])
index-added f ss m p g h none room updated =
    let more = added ss m p (sym (h.places m) ∙ none) in
    record {
      places = λ n. updated n ∙ ap (λ o. cond (bytes_eq m n) (Some (length ss)) o) (h.places n) ∙ sym (more.places n);
      differ = subst NamesDiffer (sym more.listed) (NamesDiffer-with (standing ss) m p h.differ);
      few = subst (λ l. l ≤ 4294967296) (sym (length-append ss (Some (m, p) ∷ []))) (let l : length ss + 1 ≤ 4294967296 = omega arith in l);
    }

pub index-taken_away : (f : List ℕ → Option ℕ) (ss : Slots) (m : List ℕ) (j : ℕ) (g : List ℕ → Option ℕ) → IsIndexOf f ss → f m ≡ Some j → Updated f m None g → IsIndexOf g (set ss j None)
index-taken_away f ss m j g h found updated =
    let gone = taken_away ss m j h.differ (sym (h.places m) ∙ found) in
    record {
      places = λ n. updated n ∙ ap (λ o. cond (bytes_eq m n) None o) (h.places n) ∙ sym (gone.places n);
      differ = subst NamesDiffer (sym gone.listed) (NamesDiffer-without (standing ss) m h.differ);
      few = subst (λ l. l ≤ 4294967296) (sym (length-set ss j None)) h.few;
    }
