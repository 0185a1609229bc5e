-- Maps of places by name, one change on.
use Rattle.std.proofs.Common.{◌≡◌, ◌≢◌, ℕ, zero, suc, ◌+◌, ◌<◌, Bool, true, false, cond, ◌&&◌, ◌||◌, not, List, [], ◌∷◌, ◌++◌, length, take, get_or, get_or-set_other, get_or-set_same, set, map, Some, None, refl, sym, ◌∙◌, ap, subst, arith, nat_eq}
use Rattle.std.specs.Ordering.{is_eq, nat_cmp}
use Rattle.std.specs.Cmp.{nat_eq_equiv, unsigned_ties}
use Rattle.std.specs.List.{list_any}
use Rattle.std.specs.List.Sorted.{IsStrictlySortedBy}
use Rattle.std.specs.Map.{lookup}
use Rattle.std.proofs.lemmas.List.{take_more}
use Rattle.std.proofs.lemmas.List.Folds.{list_any-append}
use Rattle.std.proofs.lemmas.Map.Keys.{below_from_sorted}
use Rattle.std.specs.BTreeMap.{BTreeMap, get}
use Rattle.std.specs.BTreeSet.{BTreeSet, contains}
use Rattle.std.proofs.lemmas.Bool.{eqb-false, eqb-true, ne_eqb}
use Rattle.pac_names.specs.Names.{Name}
use Rattle.pac_names.specs.Comparing.{compare_names, names_equal, names_tie, one_name, same_name}
use Rattle.poll_log.proofs.Names.{true_false}
use Rattle.session_core.specs.declared.session.Progress.{Progress}
use Rattle.session_core.specs.declared.session.Progress.TheVariants.{Waiting, Finished, Unanswered}
use Rattle.session_core.specs.declared.session.Session.{Session}
use Rattle.session_core.specs.declared.roster.Roster.{Roster}
use Rattle.session_core.specs.declared.waiting.Waiting.{Waiting as Waiters}
use Rattle.session_core.specs.Sessions.{is_waiting, waits_for}
use Rattle.session_core.specs.Waiting.{AreFilled, IsKept, ended, ended_by, ended_if, ended_where, has, is_vain, taken, waits_at, waits_in}

abbrev pub Places : Type 0
Places = BTreeMap Name (BTreeSet ℕ)

-- a name was taken out
pub took : (before after : Places) (name : Name) → ((q : Name) → get compare_names after q ≡ cond (is_eq (compare_names name q)) None (get compare_names before q)) → (other : Name) (at : ℕ) → taken (get compare_names after other) at ≡ cond (same_name name other) false (taken (get compare_names before other) at)
took before after name u other at =
    ap (λ o. taken o at) (u other)
    ∙ go (is_eq (compare_names name other))
    ∙ ap (λ b. cond b false (taken (get compare_names before other) at)) (sym (names_tie name other))
  where
    go : (b : Bool) → taken (cond b None (get compare_names before other)) at ≡ cond b false (taken (get compare_names before other) at)
    go true = refl
    go false = refl

-- a place was added under a name
pub put : (before after : Places) (name : Name) (place : ℕ) (places : BTreeSet ℕ) → ((q : Name) → get compare_names after q ≡ cond (is_eq (compare_names name q)) (Some places) (get compare_names before q)) → ((k : ℕ) → contains nat_cmp places k ≡ cond (is_eq (nat_cmp place k)) true (taken (get compare_names before name) k)) → (other : Name) (at : ℕ) → taken (get compare_names after other) at ≡ ((same_name name other && nat_eq place at) || taken (get compare_names before other) at)
put before after name place places u t other at =
    ap (λ o. taken o at) (u other)
    ∙ ap (λ b. taken (cond b (Some places) (get compare_names before other)) at) (sym (names_tie name other))
    ∙ go (same_name name other) refl
  where
    one : (b : Bool) → cond b true (taken (get compare_names before name) at) ≡ (b || taken (get compare_names before name) at)
    one true = refl
    one false = refl

    go : (b : Bool) → same_name name other ≡ b → taken (cond b (Some places) (get compare_names before other)) at ≡ ((b && nat_eq place at) || taken (get compare_names before other) at)
    go true e =
        let same : name ≡ other = (one_name name other).0 e in
        t at
        ∙ ap (λ b. cond b true (taken (get compare_names before name) at)) (sym (unsigned_ties place at))
        ∙ one (nat_eq place at)
        ∙ ap (λ n. nat_eq place at || taken (get compare_names before n) at) same
    go false e = refl

-- the first name that a map has
pub first_filled : (w : Places) → w.entries ≢ [] → ((name : Name) → is_vain (get compare_names w name) ≡ false) → (name : Name) × (place : ℕ) × (taken (get compare_names w name) place ≡ true)
first_filled w some filled = by_entries w.entries refl
  where
    of_places : (name : Name) (places : BTreeSet ℕ) → get compare_names w name ≡ Some places → (ks : List ℕ) → places.keys ≡ ks → nat_eq (length places.keys) 0 ≡ false → (name : Name) × (place : ℕ) × (taken (get compare_names w name) place ≡ true)
    of_places name places here [] e long = absurd (eqb-false (length places.keys) 0 long (ap length e))
    of_places name places here (k ∷ ks) e long = (
      name,
      k,
      ap (λ o. taken o k) here
          ∙ ap (list_any (λ x. is_eq (nat_cmp k x))) e
          ∙ ap (λ b. b || list_any (λ x. is_eq (nat_cmp k x)) ks) (sym (unsigned_ties k k) ∙ nat_eq_equiv.refl k),
    )

    by_entries : (es : List (Name × BTreeSet ℕ)) → w.entries ≡ es → (name : Name) × (place : ℕ) × (taken (get compare_names w name) place ≡ true)
    by_entries [] e = absurd (some e)
    by_entries ((name, places) ∷ es) e =
        let itself : is_eq (compare_names name name) ≡ true = sym (names_tie name name) ∙ names_equal.refl name in
        let here : get compare_names w name ≡ Some places =
        ap (λ l. lookup (λ k. is_eq (compare_names name k)) l) e ∙ ap (λ b. cond b (Some places) (lookup (λ k. is_eq (compare_names name k)) es)) itself
        in
        of_places name places here places.keys refl (sym (ap is_vain here) ∙ filled name)

-- ---- tests

eq_suc : (a b : ℕ) → nat_eq (suc a) (suc b) ≡ nat_eq a b
eq_suc a b = go (nat_eq a b) refl
  where
    go : (t : Bool) → nat_eq a b ≡ t → nat_eq (suc a) (suc b) ≡ t
    go true e = let same : a ≡ b = eqb-true a b e in ap (λ n. nat_eq (suc a) (suc n)) (sym same) ∙ nat_eq_equiv.refl (suc a)
    go false e = let n : a ≢ b = eqb-false a b e in ne_eqb (suc a) (suc b) (λ k. n (let l : a ≡ b = omega arith in l))

whole : (a b : Bool) → b ≡ true → a ≡ ((a && b) || false)
whole true true e = refl
whole false true e = refl
whole a false e = true_false (sym e)

none : (a b : Bool) → b ≡ false → false ≡ ((a && b) || false)
none true false e = refl
none false false e = refl
none a true e = true_false e

rest : (a b c : Bool) → b ≡ false → c ≡ ((a && b) || c)
rest true false c e = refl
rest false false c e = refl
rest a true c e = true_false e

cond_false : (b : Bool) → false ≡ cond b false false
cond_false true = refl
cond_false false = refl

ended_waits : {Out : Type 0} (name other : Name) (progress : Progress Out) → waits_for other (ended name progress) ≡ cond (same_name name other) false (waits_for other progress)
ended_waits {Out = Out} name other (Waiting m) = go (same_name m name) refl (same_name name other) refl
  where
    go : (a : Bool) → same_name m name ≡ a → (b : Bool) → same_name name other ≡ b → waits_for {Out = Out} other (ended_if a m) ≡ cond b false (same_name m other)
    go true e true f = refl
    go true e false f =
        let same : m ≡ name = (one_name m name).0 e in
        sym (ap (λ n. same_name n other) same ∙ f)
    go false e true f =
        let same : name ≡ other = (one_name name other).0 f in
        ap (λ n. same_name m n) (sym same) ∙ e
    go false e false f = refl
ended_waits name other (Finished out) = cond_false (same_name name other)
ended_waits name other (Unanswered m) = cond_false (same_name name other)

-- ---- lists of places

pub has_here : (k : ℕ) (ps : List ℕ) → has (k ∷ ps) k ≡ true
has_here k ps = ap (λ b. b || has ps k) (sym (unsigned_ties k k) ∙ nat_eq_equiv.refl k)

pub has_other : (k : ℕ) (ps : List ℕ) (at : ℕ) → at ≢ k → has (k ∷ ps) at ≡ has ps at
has_other k ps at n = ap (λ b. b || has ps at) (sym (unsigned_ties at k) ∙ ne_eqb at k n)

pub sorted_rest : (k : ℕ) (ps : List ℕ) → IsStrictlySortedBy nat_cmp (k ∷ ps) → IsStrictlySortedBy nat_cmp ps
unfolding IsStrictlySortedBy
sorted_rest k ps s = s.1

pub sorted_none : (ps : List ℕ) → ps ≡ [] → IsStrictlySortedBy nat_cmp ps
unfolding IsStrictlySortedBy
sorted_none ps e = subst (IsStrictlySortedBy nat_cmp) (sym e) tt

-- what lies before the first is none of them
pub below_none : (k : ℕ) (ps : List ℕ) (at : ℕ) → IsStrictlySortedBy nat_cmp (k ∷ ps) → at < k → has (k ∷ ps) at ≡ false
below_none k [] at s low = has_other k [] at (omega arith)
below_none k (p ∷ ps) at s low =
    let higher : k < p = below_from_sorted (k ∷ p ∷ ps) 0 1 0 s (omega arith) (omega arith) in
    has_other k (p ∷ ps) at (omega arith) ∙ below_none p ps at (sorted_rest k (p ∷ ps) s) (omega arith)

has_at : (ps : List ℕ) (i d : ℕ) → i < length ps → has ps (get_or ps i d) ≡ true
has_at [] i d low = absurd (omega arith)
has_at (p ∷ ps) zero d low = has_here p ps
has_at (p ∷ ps) (suc i) d low = ap (λ b. is_eq (nat_cmp (get_or ps i d) p) || b) (has_at ps i d (omega arith)) ∙ last (is_eq (nat_cmp (get_or ps i d) p))
  where
    last : (a : Bool) → (a || true) ≡ true
    last true = refl
    last false = refl

-- ---- the places of sessions

module _ {R Out : Type 0} where
  -- a session that waits stands at a place
  pub waits_within : (name : Name) (sessions : List (Session R Out)) (at : ℕ) → waits_at name sessions at ≡ true → at < length sessions
  waits_within name [] at e = absurd (true_false (sym e))
  waits_within name (s ∷ sessions) zero e = omega arith
  waits_within name (s ∷ sessions) (suc at) e = let ih = waits_within name sessions at e in omega arith

  pub waits_here : (name : Name) (sessions : List (Session R Out)) (at : ℕ) (d : Session R Out) → at < length sessions → waits_at name sessions at ≡ waits_for name (get_or sessions at d).progress
  waits_here name [] at d low = absurd (omega arith)
  waits_here name (s ∷ sessions) zero d low = refl
  waits_here name (s ∷ sessions) (suc at) d low = waits_here name sessions at d (omega arith)

  pub places_within : (name : Name) (sessions : List (Session R Out)) (places : List ℕ) → ((at : ℕ) → has places at ≡ waits_at name sessions at) → (i d : ℕ) → i < length places → get_or places i d < length sessions
  places_within name sessions places all i d low = waits_within name sessions (get_or places i d) (sym (all (get_or places i d)) ∙ has_at places i d low)

  pub waits_set_same : (name : Name) (sessions : List (Session R Out)) (place : ℕ) (s : Session R Out) → place < length sessions → waits_at name (set sessions place s) place ≡ waits_for name s.progress
  waits_set_same name [] place s low = absurd (omega arith)
  waits_set_same name (x ∷ sessions) zero s low = refl
  waits_set_same name (x ∷ sessions) (suc place) s low = waits_set_same name sessions place s (omega arith)

  pub waits_set_other : (name : Name) (sessions : List (Session R Out)) (place at : ℕ) (s : Session R Out) → place ≢ at → waits_at name (set sessions place s) at ≡ waits_at name sessions at
  waits_set_other name [] place at s n = refl
  waits_set_other name (x ∷ sessions) zero zero s n = absurd (n refl)
  waits_set_other name (x ∷ sessions) zero (suc at) s n = refl
  waits_set_other name (x ∷ sessions) (suc place) zero s n = refl
  waits_set_other name (x ∷ sessions) (suc place) (suc at) s n = waits_set_other name sessions place at s (λ e. n (ap suc e))

  pub waits_append_here : (name : Name) (sessions : List (Session R Out)) (s : Session R Out) (at : ℕ) → waits_at name (sessions ++ s ∷ []) at ≡ ((waits_for name s.progress && nat_eq (length sessions) at) || waits_at name sessions at)
  waits_append_here name [] s zero = whole (waits_for name s.progress) (nat_eq 0 0) (nat_eq_equiv.refl 0)
  waits_append_here name [] s (suc at) = none (waits_for name s.progress) (nat_eq 0 (suc at)) (ne_eqb 0 (suc at) (omega arith))
  waits_append_here name (x ∷ sessions) s zero = rest (waits_for name s.progress) (nat_eq (suc (length sessions)) 0) (waits_for name x.progress) (ne_eqb (suc (length sessions)) 0 (omega arith))
  waits_append_here name (x ∷ sessions) s (suc at) = waits_append_here name sessions s at ∙ ap (λ b. (waits_for name s.progress && b) || waits_at name sessions at) (sym (eq_suc (length sessions) at))

  -- a session more was noted
  pub noted_more : (before after : Waiters) (sessions sessions' : List (Session R Out)) (s : Session R Out) (place : ℕ) → sessions' ≡ sessions ++ s ∷ [] → place ≡ length sessions → ((name : Name) (at : ℕ) → waits_in before name at ≡ waits_at name sessions at) → ((name : Name) (at : ℕ) → waits_in after name at ≡ ((waits_for name s.progress && nat_eq place at) || waits_in before name at)) → (name : Name) (at : ℕ) → waits_in after name at ≡ waits_at name sessions' at
  noted_more before after sessions sessions' s place e long kept noted name at =
      noted name at
      ∙ ap (λ b. (waits_for name s.progress && nat_eq place at) || b) (kept name at)
      ∙ ap (λ n. (waits_for name s.progress && nat_eq n at) || waits_at name sessions at) long
      ∙ sym (waits_append_here name sessions s at)
      ∙ ap (λ l. waits_at name l at) (sym e)

  -- ---- a name that died

  pub ended_places : (name other : Name) (sessions : List (Session R Out)) (at : ℕ) → waits_at other (map (ended_by name) sessions) at ≡ cond (same_name name other) false (waits_at other sessions at)
  ended_places name other [] at = cond_false (same_name name other)
  ended_places name other (s ∷ sessions) zero = ended_waits name other s.progress
  ended_places name other (s ∷ sessions) (suc at) = ended_places name other sessions at

  -- where exactly the places of those that wait are ended
  ended_one : (name : Name) (s : Session R Out) → ended_where (waits_for name s.progress) name s ≡ ended_by name s
  ended_one name s = go s.progress refl
    where
      go : (p : Progress Out) → s.progress ≡ p → ended_where (waits_for name p) name s ≡ record s { progress = ended name p }
      go (Waiting m) e = by (same_name m name) refl
        where
          by : (b : Bool) → same_name m name ≡ b → ended_where b name s ≡ record s { progress = ended_if b m }
          by true f = ap (λ n. record s { progress = Unanswered n }) (sym ((one_name m name).0 f))
          by false f = ap (λ p. record s { progress = p }) e
      go (Finished out) e = ap (λ p. record s { progress = p }) e
      go (Unanswered m) e = ap (λ p. record s { progress = p }) e

  pub ended_here : (name : Name) (sessions now : List (Session R Out)) (places : List ℕ) → ((at : ℕ) → has places at ≡ waits_at name sessions at) → length now ≡ length sessions → ((at : ℕ) (d : Session R Out) → at < length sessions → get_or now at d ≡ ended_where (has places at) name (get_or sessions at d)) → now ≡ map (ended_by name) sessions
  ended_here name [] [] places all long each = refl
  ended_here name [] (y ∷ now) places all long each = absurd (omega arith)
  ended_here name (s ∷ sessions) [] places all long each = absurd (omega arith)
  ended_here name (s ∷ sessions) (y ∷ now) places all long each = by (s ∷ sessions) (y ∷ now) long (λ at d low. each at d low ∙ ap (λ b. ended_where b name (get_or (s ∷ sessions) at d)) (all at ∙ waits_here name (s ∷ sessions) at d low) ∙ ended_one name (get_or (s ∷ sessions) at d))
    where
      by : (xs ys : List (Session R Out)) → length ys ≡ length xs → ((at : ℕ) (d : Session R Out) → at < length xs → get_or ys at d ≡ ended_by name (get_or xs at d)) → ys ≡ map (ended_by name) xs
      by [] [] long each = refl
      by [] (y ∷ ys) long each = absurd (omega arith)
      by (x ∷ xs) [] long each = absurd (omega arith)
      by (x ∷ xs) (y ∷ ys) long each = ap (λ z. z ∷ ys) (each 0 x (omega arith)) ∙ ap (λ l. ended_by name x ∷ l) (by xs ys (omega arith) (λ at d low. each (suc at) d (omega arith)))

  -- one place more was ended
  pub ended_more : (name : Name) (old now : List (Session R Out)) (places : List ℕ) (i place : ℕ) (s : Session R Out) → i < length places → place ≡ get_or places i place → place < length old → length now ≡ length old → ((at : ℕ) (d : Session R Out) → at < length old → get_or now at d ≡ ended_where (has (take i places) at) name (get_or old at d)) → ((d : Session R Out) → s ≡ record (get_or now place d) { progress = Unanswered name }) → (at : ℕ) (d : Session R Out) → at < length old → get_or (set now place s) at d ≡ ended_where (has (take (i + 1) places) at) name (get_or old at d)
  ended_more name old now places i place s low is within long each becomes at d high = go (nat_eq place at) refl
    where
      longer : has (take (i + 1) places) at ≡ (has (take i places) at || nat_eq at place)
      longer =
          ap (λ l. has l at) (take_more places i place low)
          ∙ list_any-append (λ k. is_eq (nat_cmp at k)) (take i places) (get_or places i place ∷ [])
          ∙ ap (λ k. has (take i places) at || (is_eq (nat_cmp at k) || false)) (sym is)
          ∙ ap (λ b. has (take i places) at || (b || false)) (sym (unsigned_ties at place))
          ∙ ap (λ b. has (take i places) at || b) (plain (nat_eq at place))
        where
          plain : (b : Bool) → (b || false) ≡ b
          plain true = refl
          plain false = refl

      last : (a : Bool) → (a || true) ≡ true
      last true = refl
      last false = refl

      same_as : (a : Bool) → (a || false) ≡ a
      same_as true = refl
      same_as false = refl

      twice : (a : Bool) (x : Session R Out) → record (ended_where a name x) { progress = Unanswered name } ≡ record x { progress = Unanswered name }
      twice true x = refl
      twice false x = refl

      here : get_or (set now place s) place d ≡ ended_where (has (take i places) place || true) name (get_or old place d)
      here =
          (let inside : place < length now = omega arith in rw get_or-set_same refl)
          ∙ becomes d
          ∙ ap (λ (x : Session R Out). record x { progress = Unanswered name }) (each place d within)
          ∙ twice (has (take i places) place) (get_or old place d)
          ∙ ap (λ b. ended_where b name (get_or old place d)) (sym (last (has (take i places) place)))

      go : (b : Bool) → nat_eq place at ≡ b → get_or (set now place s) at d ≡ ended_where (has (take (i + 1) places) at) name (get_or old at d)
      go true e =
          let same : place ≡ at = eqb-true place at e in
          let itself : nat_eq at place ≡ true = subst (λ (k : ℕ). nat_eq at k ≡ true) (sym same) (nat_eq_equiv.refl at) in
          subst (λ k. get_or (set now place s) k d ≡ ended_where (has (take i places) k || true) name (get_or old k d)) same here
          ∙ ap (λ b. ended_where (has (take i places) at || b) name (get_or old at d)) (sym itself)
          ∙ ap (λ b. ended_where b name (get_or old at d)) (sym longer)
      go false e =
          let apart : at ≢ place = (let f : place ≢ at = eqb-false place at e in λ k. f (sym k)) in
          (rw get_or-set_other refl)
          ∙ each at d high
          ∙ ap (λ b. ended_where b name (get_or old at d)) (sym (same_as (has (take i places) at)) ∙ ap (λ b. has (take i places) at || b) (sym (ne_eqb at place apart)) ∙ sym longer)

-- ---- whether nobody waits

module _ {R Out : Type 0} where
  none_waits : (sessions : List (Session R Out)) → ((name : Name) (at : ℕ) → waits_at name sessions at ≡ false) → list_any (λ s. is_waiting s.progress) sessions ≡ false
  none_waits [] h = refl
  none_waits (s ∷ sessions) h = ap (λ b. b || list_any (λ (x : Session R Out). is_waiting x.progress) sessions) (one s.progress (λ n. h n 0)) ∙ none_waits sessions (λ n at. h n (suc at))
    where
      one : (p : Progress Out) → ((name : Name) → waits_for name p ≡ false) → is_waiting p ≡ false
      one (Waiting m) k = true_false (sym (names_equal.refl m) ∙ k m)
      one (Finished out) k = refl
      one (Unanswered m) k = refl

  some_waits : (name : Name) (sessions : List (Session R Out)) (at : ℕ) → waits_at name sessions at ≡ true → list_any (λ s. is_waiting s.progress) sessions ≡ true
  some_waits name [] at e = true_false (sym e)
  some_waits name (s ∷ sessions) zero e = ap (λ b. b || list_any (λ (x : Session R Out). is_waiting x.progress) sessions) (one s.progress e)
    where
      one : (p : Progress Out) → waits_for name p ≡ true → is_waiting p ≡ true
      one (Waiting m) k = refl
      one (Finished out) k = true_false (sym k)
      one (Unanswered m) k = true_false (sym k)
  some_waits name (s ∷ sessions) (suc at) e = ap (λ b. is_waiting s.progress || b) (some_waits name sessions at e) ∙ last (is_waiting s.progress)
    where
      last : (a : Bool) → (a || true) ≡ true
      last true = refl
      last false = refl

  pub empty_is : (roster : Roster R Out) (empty : Bool) → IsKept roster → (empty ≡ true → (name : Name) (at : ℕ) → waits_in roster.waiting name at ≡ false) → (empty ≡ false → AreFilled roster.waiting → (name : Name) × (at : ℕ) × (waits_in roster.waiting name at ≡ true)) → empty ≡ not (list_any (λ s. is_waiting s.progress) roster.all.items)
  empty_is roster true kept nobody some = ap not (sym (none_waits roster.all.items (λ n at. sym (kept.waits n at) ∙ nobody refl n at)))
  empty_is roster false kept nobody some =
      let w = some refl kept.filled in
      ap not (sym (some_waits w.0 roster.all.items w.1 (sym (kept.waits w.0 w.1) ∙ w.2)))

  -- after the name was taken out of the map, and those who waited for it are ended
  pub kept_ended : (name : Name) (before after : Roster R Out) → IsKept before → ((other : Name) (at : ℕ) → waits_in after.waiting other at ≡ cond (same_name name other) false (waits_in before.waiting other at)) → (AreFilled before.waiting → AreFilled after.waiting) → after.all.items ≡ map (ended_by name) before.all.items → IsKept after
  kept_ended name before after kept others fills e =
      record {
        waits = λ n at. others n at ∙ ap (cond (same_name name n) false) (kept.waits n at) ∙ sym (ended_places name n before.all.items at) ∙ ap (λ l. waits_at n l at) (sym e);
        filled = fills kept.filled;
      }
