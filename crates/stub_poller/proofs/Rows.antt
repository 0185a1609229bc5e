-- Rows of places, some of which questions have left.
use Rattle.std.proofs.Common.{◌≡◌, ℕ, zero, suc, ◌+◌, ◌<◌, ◌≤◌, ◌^◌, Bool, true, false, cond, not, List, [], ◌∷◌, ◌++◌, map, length, length-append, take, drop, get_or, set, slice_get, Option, Some, None, refl, sym, ◌∙◌, ap, subst, arith, filter, nat_eq}
use Rattle.std.specs.List.{All, list_any}
use Rattle.std.specs.Option.{option_map}
use Rattle.std.specs.Global.{Global}
use Rattle.std.specs.Option.{option_map_or}
use Rattle.std.specs.Ordering.{nat_cmp}
use Rattle.std.specs.BTreeMap.{BTreeMap, get}
use Rattle.std.specs.Prelude.{Vec}
use Rattle.std.proofs.lemmas.Bool.{eqb-false, eqb-true}
use Rattle.std.proofs.lemmas.List.{at_drop_more}
use Rattle.std.proofs.lemmas.Option.{slice_get_read}
use Rattle.std.proofs.lemmas.List.Elements.{All-head, All-tail, All-nil, All-cons, filter_more}
use Rattle.pac_names.specs.declared.answer.Answer.{Answer}
use Rattle.pac_names.specs.Names.{Name}
use Rattle.pac_names.specs.Comparing.{same_name}
use Rattle.dns_message.specs.Numbers.{number_at}
use Rattle.dns_message.specs.Truncation.{is_truncated}
use Rattle.poll_log.specs.declared.flight.Flight.{Flight}
use Rattle.poll_log.specs.declared.question.Question.{Question}
use Rattle.poll_log.specs.Streamed.{truncated_in}
use Rattle.poll_log.proofs.Names.{none_some}
use Rattle.stub_poller.specs.declared.search.Found.{Found}
use Rattle.stub_poller.specs.declared.slot.Slot.{Slot}
use Rattle.stub_poller.specs.declared.slot.Slot.TheVariants.{Flying, Left}
use Rattle.stub_poller.specs.State.{aged, answer_to, answered_by, unanswered_by, named_or, left_unless, is_over, is_young}
use Rattle.stub_poller.specs.Slots.{IsIndexOf, IsLow, cut_here, first_if, first_in, flies, flying, flying_here, found_or, further, items_of, left_if, named_here, number_of, older_here, places_at, places_in, replied, young_here}
use Rattle.stub_poller.proofs.FlightLists.{other_number, over_or_young}
use Rattle.stub_poller.proofs.Truncating.{other_cut}

-- ---- the whole row

pub flying_next : (s : Slot) (row : List Slot) → flying (s ∷ row) ≡ flying_here s ++ flying row
flying_next (Flying f) row = refl
flying_next (Left n) row = refl

pub flying-append : (xs ys : List Slot) → flying (xs ++ ys) ≡ flying xs ++ flying ys
flying-append [] ys = refl
flying-append (Flying f ∷ xs) ys = ap (λ l. f ∷ l) (flying-append xs ys)
flying-append (Left n ∷ xs) ys = flying-append xs ys

pub flying_most : (row : List Slot) → length (flying row) ≤ length row
flying_most [] = omega arith
flying_most (Flying f ∷ row) = let ih = flying_most row in omega arith
flying_most (Left n ∷ row) = let ih = flying_most row in omega arith

pub flying-filter : (row : List Slot) → flying (filter flies row) ≡ flying row
flying-filter [] = refl
flying-filter (Flying f ∷ row) = ap (λ l. f ∷ l) (flying-filter row)
flying-filter (Left n ∷ row) = flying-filter row

pub flying-older : (row : List Slot) → flying (map older_here row) ≡ map aged (flying row)
flying-older [] = refl
flying-older (Flying f ∷ row) = ap (λ l. aged f ∷ l) (flying-older row)
flying-older (Left n ∷ row) = flying-older row

pub flying-young : (limit : ℕ) (row : List Slot) → flying (map (young_here limit) row) ≡ filter (is_young limit) (flying row)
flying-young limit [] = refl
flying-young limit (Left n ∷ row) = flying-young limit row
flying-young limit (Flying f ∷ row) = one (is_young limit f) (over_or_young limit f.age) (flying-young limit row)
  where
    one : (b : Bool) → is_over limit f ≡ not b → flying (map (young_here limit) row) ≡ filter (is_young limit) (flying row) → flying (left_if (is_over limit f) f ∷ map (young_here limit) row) ≡ cond b (f ∷ filter (is_young limit) (flying row)) (filter (is_young limit) (flying row))
    one true e ih = ap (λ o. flying (left_if o f ∷ map (young_here limit) row)) e ∙ ap (λ l. f ∷ l) ih
    one false e ih = ap (λ o. flying (left_if o f ∷ map (young_here limit) row)) e ∙ ih

pub all_low : (row : List Slot) → All (λ f. f.age < 2 ^ 31) (flying row) → All IsLow row
all_low [] h = All-nil IsLow
all_low (Flying f ∷ row) h = All-cons IsLow (Flying f) row (All-head (λ f. f.age < 2 ^ 31) f (flying row) h) (all_low row (All-tail (λ f. f.age < 2 ^ 31) f (flying row) h))
all_low (Left n ∷ row) h = All-cons IsLow (Left n) row (tt) (all_low row h)

pub named_in : (name : Name) (row : List Slot) → list_any (named_here name) row ≡ list_any (λ f. same_name f.question.name name) (flying row)
named_in name [] = refl
named_in name (Flying f ∷ row) = rw (named_in name row) refl
named_in name (Left n ∷ row) = named_in name row

-- ---- places by number

-- rows of the same numbers have the same places
pub places_alike : (number : ℕ) (xs ys : List Slot) → map number_of xs ≡ map number_of ys → places_in number xs ≡ places_in number ys
places_alike number xs ys e = by_numbers xs ∙ ap at e ∙ sym (by_numbers ys)
  where
    at : List ℕ → List ℕ
    at [] = []
    at (n ∷ ns) = first_if (nat_eq n number) (map suc (at ns))

    by_numbers : (row : List Slot) → places_in number row ≡ at (map number_of row)
    by_numbers [] = refl
    by_numbers (s ∷ row) = ap (λ l. first_if (nat_eq (number_of s) number) (map suc l)) (by_numbers row)

pub numbers-older : (row : List Slot) → map number_of (map older_here row) ≡ map number_of row
numbers-older [] = refl
numbers-older (Flying f ∷ row) = ap (λ l. f.question.id ∷ l) (numbers-older row)
numbers-older (Left n ∷ row) = ap (λ l. n ∷ l) (numbers-older row)

pub numbers-young : (limit : ℕ) (row : List Slot) → map number_of (map (young_here limit) row) ≡ map number_of row
numbers-young limit [] = refl
numbers-young limit (Left n ∷ row) = ap (λ l. n ∷ l) (numbers-young limit row)
numbers-young limit (Flying f ∷ row) = one (is_over limit f) ∙ ap (λ l. f.question.id ∷ l) (numbers-young limit row)
  where
    one : (b : Bool) → number_of (left_if b f) ∷ map number_of (map (young_here limit) row) ≡ f.question.id ∷ map number_of (map (young_here limit) row)
    one true = refl
    one false = refl

pub numbers-set : (row : List Slot) (at : ℕ) (d s : Slot) → at < length row → number_of s ≡ number_of (get_or row at d) → map number_of (set row at s) ≡ map number_of row
numbers-set [] at d s low e = absurd (omega arith)
numbers-set (x ∷ row) zero d s low e = ap (λ n. n ∷ map number_of row) e
numbers-set (x ∷ row) (suc at) d s low e = ap (λ l. number_of x ∷ l) (numbers-set row at d s (omega arith) e)

at_suc : (ps : List ℕ) (i d : ℕ) → i < length ps → get_or (map suc ps) i d ≡ suc (get_or ps i d)
at_suc [] i d low = absurd (omega arith)
at_suc (p ∷ ps) zero d low = refl
at_suc (p ∷ ps) (suc i) d low = at_suc ps i d (omega arith)

length_suc : (ps : List ℕ) → length (map suc ps) ≡ length ps
length_suc [] = refl
length_suc (p ∷ ps) = let ih = length_suc ps in omega arith

-- each stands in the row
pub place_low : (number : ℕ) (row : List Slot) (i d : ℕ) → i < length (places_in number row) → get_or (places_in number row) i d < length row
place_low number [] i d low = absurd (omega arith)
place_low number (s ∷ row) i d low = go (nat_eq (number_of s) number) i low (λ j here. place_low number row j d here)
  where
    ps : List ℕ
    ps = places_in number row

    Low : Type 0
    Low = (j : ℕ) → j < length ps → get_or ps j d < length row

    behind : (j : ℕ) → j < length (map suc ps) → Low → get_or (map suc ps) j d < suc (length row)
    behind j below ih =
        let long : length (map suc ps) ≡ length ps = length_suc ps in
        let here : j < length ps = omega arith in
        let stands : get_or ps j d < length row = ih j here in
        let e : get_or (map suc ps) j d ≡ suc (get_or ps j d) = at_suc ps j d here in
        omega arith

    go : (b : Bool) (j : ℕ) → j < length (first_if b (map suc ps)) → Low → get_or (first_if b (map suc ps)) j d < suc (length row)
    go true zero below ih = omega arith
    go true (suc j) below ih = behind j (omega arith) ih
    go false j below ih = behind j below ih

-- one question more
pub places-append : (number : ℕ) (row : List Slot) (s : Slot) → places_in number (row ++ s ∷ []) ≡ places_in number row ++ cond (nat_eq (number_of s) number) (length row ∷ []) []
places-append number [] s = go (nat_eq (number_of s) number)
  where
    go : (b : Bool) → first_if b [] ≡ cond b (zero ∷ []) []
    go true = refl
    go false = refl
places-append number (x ∷ row) s =
    ap (λ l. first_if (nat_eq (number_of x) number) (map suc l)) (places-append number row s) ∙ go (nat_eq (number_of x) number) (nat_eq (number_of s) number) (places_in number row)
  where
    moved : (ps : List ℕ) (b : Bool) → map suc (ps ++ cond b (length row ∷ []) []) ≡ map suc ps ++ cond b (suc (length row) ∷ []) []
    moved [] true = refl
    moved [] false = refl
    moved (p ∷ ps) b = ap (λ l. suc p ∷ l) (moved ps b)

    go : (a b : Bool) (ps : List ℕ) → first_if a (map suc (ps ++ cond b (length row ∷ []) [])) ≡ first_if a (map suc ps) ++ cond b (suc (length row) ∷ []) []
    go true b ps = ap (λ l. 0 ∷ l) (moved ps b)
    go false b ps = moved ps b

-- ---- the index stays

pub older_indexed : (places : ℕ → List ℕ) (row now : List Slot) → now ≡ map older_here row → IsIndexOf places row → IsIndexOf places now
older_indexed places row now e all = λ n. all n ∙ sym (places_alike n now row (ap (map number_of) e ∙ numbers-older row))

pub young_indexed : (limit : ℕ) (places : ℕ → List ℕ) (row now : List Slot) → now ≡ map (young_here limit) row → IsIndexOf places row → IsIndexOf places now
young_indexed limit places row now e all = λ n. all n ∙ sym (places_alike n now row (ap (map number_of) e ∙ numbers-young limit row))

pub more_indexed : (before after : ℕ → List ℕ) (row : List Slot) (s : Slot) → IsIndexOf before row → ((n : ℕ) → after n ≡ before n ++ cond (nat_eq (number_of s) n) (length row ∷ []) []) → IsIndexOf after (row ++ s ∷ [])
more_indexed before after row s all more = λ n. more n ∙ ap (λ l. l ++ cond (nat_eq (number_of s) n) (length row ∷ []) []) (all n) ∙ sym (places-append n row s)

-- one question more that flies, in the row without gaps
pub record IsMore (after : ℕ → List ℕ) (row : List Slot) (i next : ℕ) : Type 0 where
  pub index : IsIndexOf after (filter flies (take (i + 1) row))
  pub count : next + 1 ≡ length (filter flies (take (i + 1) row))

pub closed_more : (before after : ℕ → List ℕ) (row : List Slot) (i next id : ℕ) (x : Slot) → i < length row → x ≡ get_or row i x → flies x ≡ true → IsIndexOf before (filter flies (take i row)) → next ≡ length (filter flies (take i row)) → id ≡ number_of x → ((n : ℕ) → after n ≡ before n ++ cond (nat_eq id n) (next ∷ []) []) → IsMore after row i next
closed_more before after row i next id x low is flying all count e more =
    let one : filter flies (take (i + 1) row) ≡ filter flies (take i row) ++ x ∷ [] =
    filter_more flies row i x low
    ∙ ap (λ y. filter flies (take i row) ++ cond (flies y) (y ∷ []) []) (sym is)
    ∙ ap (λ b. filter flies (take i row) ++ cond b (x ∷ []) []) flying
    in
    record {
      index = subst (IsIndexOf after) (sym one) (more_indexed before after (filter flies (take i row)) x all
          (λ n. more n ∙ ap (λ m. before n ++ cond (nat_eq m n) (next ∷ []) []) e ∙ ap (λ k. before n ++ cond (nat_eq (number_of x) n) (k ∷ []) []) count));
      count = (let longer : length (filter flies (take (i + 1) row)) ≡ length (filter flies (take i row)) + 1 = ap length one ∙ length-append (filter flies (take i row)) (x ∷ []) in omega arith);
    }

-- ---- looking at the places of a number alone

abbrev pub look_at : {A : Type 0} → (Slot → Option A) → Option Slot → Option A
look_at look None = None
look_at look (Some s) = look s

abbrev pub found_at : {A : Type 0} → (Slot → Option A) → List Slot → List ℕ → Option (Found A)
found_at look row [] = None
found_at look row (p ∷ ps) = found_or p (look_at look (slice_get row p)) (found_at look row ps)

module _ {A : Type 0} (look : Slot → Option A) where
  pub further_or : (p : ℕ) (r : Option A) (rest : Option (Found A)) → found_or (suc p) r (further rest) ≡ further (found_or p r rest)
  further_or p None rest = refl
  further_or p (Some x) rest = refl

  found_behind : (s : Slot) (row : List Slot) (ps : List ℕ) → found_at look (s ∷ row) (map suc ps) ≡ further (found_at look row ps)
  found_behind s row [] = refl
  found_behind s row (p ∷ ps) =
      ap (λ r. found_or (suc p) (look_at look (slice_get row p)) r) (found_behind s row ps)
      ∙ further_or p (look_at look (slice_get row p)) (found_at look row ps)

  -- what is found in the row is found at the places of the number, where no other number gives anything
  pub found_by_number : (number : ℕ) → ((s : Slot) → (number_of s ≡ number → ⊥) → look s ≡ None) → (row : List Slot) → first_in look row ≡ found_at look row (places_in number row)
  found_by_number number other [] = refl
  found_by_number number other (s ∷ row) =
      ap (λ r. found_or 0 (look s) (further r)) (found_by_number number other row) ∙ go (nat_eq (number_of s) number) refl
    where
      ps : List ℕ
      ps = places_in number row

      go : (b : Bool) → nat_eq (number_of s) number ≡ b → found_or 0 (look s) (further (found_at look row ps)) ≡ found_at look (s ∷ row) (first_if b (map suc ps))
      go true e = ap (found_or 0 (look s)) (sym (found_behind s row ps))
      go false e =
          ap (λ r. found_or 0 r (further (found_at look row ps))) (other s (eqb-false (number_of s) number e))
          ∙ sym (found_behind s row ps)

pub low_in : (number : ℕ) (row : List Slot) (ps : List ℕ) (i d : ℕ) → ps ≡ places_in number row → i < length ps → get_or ps i d < length row
low_in number row ps i d e low =
    let many : length ps ≡ length (places_in number row) = ap length e in
    subst (λ l. get_or l i d < length row) (sym e) (place_low number row i d (omega arith))

-- one place more is looked at
pub look_next : {A : Type 0} (look : Slot → Option A) (row : List Slot) (ps : List ℕ) (i d : ℕ) (x : Slot) (r : Option A) → i < length ps → get_or ps i d < length row → first_in look row ≡ found_at look row (drop i ps) → x ≡ get_or row (get_or ps i d) x → r ≡ look x → first_in look row ≡ found_or (get_or ps i d) r (found_at look row (drop (i + 1) ps))
look_next look row ps i d x r low within h is gives =
    let stands : slice_get row (get_or ps i d) ≡ Some x = slice_get_read row (length row) (get_or ps i d) x refl within is in
    h
    ∙ at_drop_more (found_at look row) ps i d low
    ∙ ap (λ o. found_or (get_or ps i d) (look_at look o) (found_at look row (drop (i + 1) ps))) stands
    ∙ ap (λ o. found_or (get_or ps i d) o (found_at look row (drop (i + 1) ps))) (sym gives)

-- ---- replies

-- a reply carries the number of its question
pub replied_other : (datagram : List ℕ) (s : Slot) → (number_of s ≡ number_at datagram 0 → ⊥) → replied datagram s ≡ None
replied_other datagram (Flying f) n = ap (option_map (λ answer. (f.question.name, answer))) (other_number datagram f.question.name f.question.id n)
replied_other datagram (Left number) n = refl

pub answered_first : (datagram : List ℕ) (row : List Slot) → answered_by datagram (flying row) ≡ option_map (λ f. f.what) (first_in (replied datagram) row)
answered_first datagram [] = refl
answered_first datagram (Left n ∷ row) = answered_first datagram row ∙ sym (still (first_in (replied datagram) row))
  where
    still : (r : Option (Found (Name × Answer))) → option_map (λ f. f.what) (further r) ≡ option_map (λ f. f.what) r
    still None = refl
    still (Some f) = refl
answered_first datagram (Flying f ∷ row) = ap (named_or f.question.name (answer_to datagram f)) (answered_first datagram row) ∙ go (answer_to datagram f) (first_in (replied datagram) row)
  where
    go : (a : Option Answer) (r : Option (Found (Name × Answer))) → named_or f.question.name a (option_map (λ f. f.what) r) ≡ option_map (λ f. f.what) (found_or 0 (option_map (λ answer. (f.question.name, answer)) a) (further r))
    go None None = refl
    go None (Some g) = refl
    go (Some a) r = refl

-- the row after what was found has left
abbrev pub left_at : {A : Type 0} → ℕ → Option (Found A) → List Slot → List Slot
left_at number None row = row
left_at number (Some f) row = set row f.at (Left number)

pub unanswered_first : (datagram : List ℕ) (number : ℕ) (row : List Slot) → flying (left_at number (first_in (replied datagram) row) row) ≡ unanswered_by datagram (flying row)
unanswered_first datagram number [] = refl
unanswered_first datagram number (Left n ∷ row) = still (first_in (replied datagram) row) ∙ unanswered_first datagram number row
  where
    still : (r : Option (Found (Name × Answer))) → flying (left_at number (further r) (Left n ∷ row)) ≡ flying (left_at number r row)
    still None = refl
    still (Some f) = refl
unanswered_first datagram number (Flying f ∷ row) = go (answer_to datagram f) (first_in (replied datagram) row) ∙ ap (left_unless (answer_to datagram f) f (flying row)) (unanswered_first datagram number row)
  where
    go : (a : Option Answer) (r : Option (Found (Name × Answer))) → flying (left_at number (found_or 0 (option_map (λ answer. (f.question.name, answer)) a) (further r)) (Flying f ∷ row)) ≡ left_unless a f (flying row) (flying (left_at number r row))
    go None None = refl
    go None (Some g) = refl
    go (Some a) r = refl

-- ---- truncated responses

pub cut_other : (datagram : List ℕ) (s : Slot) → (number_of s ≡ number_at datagram 0 → ⊥) → cut_here datagram s ≡ None
cut_other datagram (Flying f) n = ap (λ b. cond b (Some f.question) None) (other_cut datagram f.question.name f.question.id n)
cut_other datagram (Left number) n = refl

pub truncated_first : (datagram : List ℕ) (row : List Slot) → truncated_in (flying row) datagram ≡ option_map (λ f. f.what) (first_in (cut_here datagram) row)
truncated_first datagram [] = refl
truncated_first datagram (Left n ∷ row) = truncated_first datagram row ∙ sym (still (first_in (cut_here datagram) row))
  where
    still : (r : Option (Found Question)) → option_map (λ f. f.what) (further r) ≡ option_map (λ f. f.what) r
    still None = refl
    still (Some f) = refl
truncated_first datagram (Flying f ∷ row) =
    ap (cond (is_truncated datagram f.question.id f.question.name) (Some f.question)) (truncated_first datagram row)
    ∙ go (is_truncated datagram f.question.id f.question.name) (first_in (cut_here datagram) row)
  where
    go : (b : Bool) (r : Option (Found Question)) → cond b (Some f.question) (option_map (λ f. f.what) r) ≡ option_map (λ f. f.what) (found_or 0 (cond b (Some f.question) None) (further r))
    go true r = refl
    go false None = refl
    go false (Some g) = refl

-- ---- what was found

-- it stands in the row, under the number
pub record IsFound {A : Type 0} (look : Slot → Option A) (row : List Slot) (f : Found A) : Type 0 where
  pub within : f.at < length row
  pub here : (d : Slot) → look (get_or row f.at d) ≡ Some f.what

module _ {A : Type 0} (look : Slot → Option A) where
  pub is_found : (row : List Slot) (f : Found A) → first_in look row ≡ Some f → IsFound look row f
  is_found [] f e = absurd (cc)
  is_found (s ∷ row) f e = go (look s) refl (first_in look row) refl (is_found row) e
    where
      Behind : Type 0
      Behind = (g : Found A) → first_in look row ≡ Some g → IsFound look row g

      go : (a : Option A) → look s ≡ a → (r : Option (Found A)) → first_in look row ≡ r → Behind → found_or 0 a (further r) ≡ Some f → IsFound look (s ∷ row) f
      go (Some x) h r k ih e =
          let z : 0 ≡ f.at = cc in
          let w : x ≡ f.what = cc in
          record { within = omega arith; here = λ d. subst (λ at. look (get_or (s ∷ row) at d) ≡ Some f.what) z (h ∙ ap (λ y. Some y) w) }
      go None h None k ih e = absurd (cc)
      go None h (Some g) k ih e =
          let there : IsFound look row g = ih g k in
          let z : suc g.at ≡ f.at = cc in
          let w : g.what ≡ f.what = cc in
          let low : g.at < length row = there.within in
          record { within = omega arith; here = λ d. subst (λ at. look (get_or (s ∷ row) at d) ≡ Some f.what) z (there.here d ∙ ap (λ y. Some y) w) }

-- ---- what becomes of a row where a datagram came

-- an index without places for the number of a datagram has nothing for it
pub unplaced : {A : Type 0} (look : Slot → Option A) (number id : ℕ) → ((s : Slot) → (number_of s ≡ number → ⊥) → look s ≡ None) → id ≡ number → (index : BTreeMap ℕ (Vec ℕ Global)) (row : List Slot) → IsIndexOf (places_at index) row → get nat_cmp index id ≡ None → first_in look row ≡ None
unplaced look number id other e index row all none =
    let empty : places_in number row ≡ [] = ap (λ n. places_in n row) (sym e) ∙ sym (all id) ∙ ap (λ o. option_map_or items_of o []) none in
    found_by_number look number other row ∙ ap (found_at look row) empty

module _ (datagram : List ℕ) (row : List Slot) (flights : List Flight) (r : Option (Found (Name × Answer))) where
  pub told_is : flying row ≡ flights → r ≡ first_in (replied datagram) row → option_map (λ f. f.what) r ≡ answered_by datagram flights
  told_is e k = ap (option_map (λ f. f.what)) k ∙ sym (answered_first datagram row) ∙ ap (answered_by datagram) e

  pub left_is : (number : ℕ) → flying row ≡ flights → r ≡ first_in (replied datagram) row → flying (left_at number r row) ≡ unanswered_by datagram flights
  left_is number e k = ap (λ x. flying (left_at number x row)) k ∙ unanswered_first datagram number row ∙ ap (unanswered_by datagram) e

pub cut_is : (datagram : List ℕ) (row : List Slot) (flights : List Flight) (r : Option (Found Question)) → flying row ≡ flights → r ≡ first_in (cut_here datagram) row → option_map (λ f. f.what) r ≡ truncated_in flights datagram
cut_is datagram row flights r e k = ap (option_map (λ f. f.what)) k ∙ sym (truncated_first datagram row) ∙ ap (λ l. truncated_in l datagram) e

-- what is replied to has the number of the datagram
number_replied : (datagram : List ℕ) (s : Slot) (told : Name × Answer) → replied datagram s ≡ Some told → number_of s ≡ number_at datagram 0
number_replied datagram s told e = go (nat_eq (number_of s) (number_at datagram 0)) refl
  where
    go : (b : Bool) → nat_eq (number_of s) (number_at datagram 0) ≡ b → number_of s ≡ number_at datagram 0
    go true k = eqb-true (number_of s) (number_at datagram 0) k
    go false k = absurd (let none : replied datagram s ≡ None = replied_other datagram s (eqb-false (number_of s) (number_at datagram 0) k) in none_some told (sym none ∙ e))

-- the index stays when a question leaves
pub still_indexed : (datagram : List ℕ) (row : List Slot) (f : Found (Name × Answer)) (number : ℕ) (places : ℕ → List ℕ) → first_in (replied datagram) row ≡ Some f → number ≡ number_at datagram 0 → IsIndexOf places row → IsIndexOf places (set row f.at (Left number))
still_indexed datagram row f number places e k all =
    let found : IsFound (replied datagram) row f = is_found (replied datagram) row f e in
    let same : map number_of (set row f.at (Left number)) ≡ map number_of row =
    numbers-set row f.at (Left 0) (Left number) found.within (k ∙ sym (number_replied datagram (get_or row f.at (Left 0)) f.what (found.here (Left 0))))
    in
    λ n. all n ∙ sym (places_alike n (set row f.at (Left number)) row same)
