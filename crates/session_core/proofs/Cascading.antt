-- The cascade of runs, session by session of those that are woken.
use Rattle.std.proofs.Common.{◌≡◌, ◌≢◌, ℕ, zero, suc, ◌+◌, ◌-◌, ◌<◌, ◌≤◌, Bool, true, false, cond, ◌&&◌, ◌||◌, not, List, [], ◌∷◌, ◌++◌, length, take, get_or, set, Option, Some, refl, sym, ◌∙◌, ap, subst, arith, nat_eq}
use Rattle.std.specs.List.Sorted.{IsStrictlySortedBy}
use Rattle.std.specs.Ordering.{nat_cmp}
use Rattle.std.specs.Cmp.{nat_eq_equiv}
use Rattle.std.proofs.lemmas.Bool.{eqb-false, eqb-true}
use Rattle.std.proofs.lemmas.List.{append-nil, set-get_or, take_all}
use Rattle.std.proofs.lemmas.Map.Keys.{below_from_sorted}
use Rattle.pac_ports.specs.Dice.{DiceTold}
use Rattle.pac_names.specs.Names.{Name}
use Rattle.pac_names.specs.Comparing.{one_name, same_name}
use Rattle.run_trees.specs.RunTree.{RunTree}
use Rattle.poll_log.specs.declared.question.Question.{Question}
use Rattle.poll_log.proofs.Names.{true_false}
use Rattle.session_core.specs.declared.lookups.Lookups.{Lookups}
use Rattle.session_core.specs.declared.roster.Roster.{Roster}
use Rattle.session_core.specs.declared.session.Progress.{Progress}
use Rattle.session_core.specs.declared.session.Progress.TheVariants.{Waiting, Finished, Unanswered}
use Rattle.session_core.specs.declared.session.Session.{Session}
use Rattle.session_core.specs.declared.waiting.Waiting.{Waiting as Waiters}
use Rattle.session_core.specs.Sessions.{count_woken, is_woken, one_if, waits_for}
use Rattle.session_core.specs.Cascade.{Cascades, CascadesTo, RunsAgain}
use Rattle.session_core.specs.Waiting.{AreFilled, IsKept, RunsAt, has, waits_at, waits_in}
use Rattle.session_core.proofs.Cascades.{cascade_more, cascade_none, count_more, count_part, runs_kept}
use Rattle.session_core.proofs.Waits.{below_none, has_here, has_other, sorted_rest, waits_here, waits_set_other, waits_within}

-- the next of these places, or the end
abbrev pub next_of : List ℕ → ℕ → ℕ
next_of [] end = end
next_of (p ∷ ps) end = p

-- ---- sessions that are passed over

module _ {R Out End : Type 0} (gives : Out → End → List (List ℕ) → Type 0) (tree : R → RunTree End) (told : Option Name) (sessions : List (Session R Out)) (lookups : Lookups) where
  skip_one : (now : List (Session R Out)) (mid : Lookups) (dice dice' : Option DiceTold) (out : List Question) (k : ℕ) (d : Session R Out) → k < length sessions → CascadesTo gives tree told sessions now lookups mid dice dice' out k → is_woken told (get_or sessions k d).progress ≡ false → CascadesTo gives tree told sessions now lookups mid dice dice' out (k + 1)
  skip_one now mid dice dice' out k d low c asleep =
      let here : get_or now k d ≡ get_or sessions k d = c.rest k d (omega arith) in
      subst (λ l. CascadesTo gives tree told sessions l lookups mid dice dice' out (k + 1)) (set-get_or now k d)
      (cascade_more gives tree told sessions lookups now (get_or now k d) mid mid dice dice' dice' out [] out k d low c
      (runs_kept gives tree mid mid dice' dice' (is_woken told (get_or now k d).progress) (get_or now k d) (ap (λ s. is_woken told s.progress) here ∙ asleep))
      (sym (append-nil out)))

  -- so many sessions, none of which is woken
  pub skip : (now : List (Session R Out)) (mid : Lookups) (dice dice' : Option DiceTold) (out : List Question) (many k to : ℕ) (d : Session R Out) → k + many ≡ to → to ≤ length sessions → ((j : ℕ) → k ≤ j → j < to → is_woken told (get_or sessions j d).progress ≡ false) → CascadesTo gives tree told sessions now lookups mid dice dice' out k → CascadesTo gives tree told sessions now lookups mid dice dice' out to
  skip now mid dice dice' out zero k to d e within asleep c = subst (CascadesTo gives tree told sessions now lookups mid dice dice' out) (let same : k ≡ to = omega arith in same) c
  skip now mid dice dice' out (suc many) k to d e within asleep c =
      skip now mid dice dice' out many (k + 1) to d (omega arith) within (λ j high low. asleep j (omega arith) low)
      (skip_one now mid dice dice' out k d (omega arith) c (asleep k (omega arith) (omega arith)))

  pub count_skip : (many k to : ℕ) (d : Session R Out) → k + many ≡ to → to ≤ length sessions → ((j : ℕ) → k ≤ j → j < to → is_woken told (get_or sessions j d).progress ≡ false) → count_woken told (take to sessions) ≡ count_woken told (take k sessions)
  count_skip zero k to d e within asleep = ap (λ n. count_woken told (take n sessions)) (let same : to ≡ k = omega arith in same)
  count_skip (suc many) k to d e within asleep =
      let ih : count_woken told (take to sessions) ≡ count_woken told (take (k + 1) sessions) = count_skip many (k + 1) to d (omega arith) within (λ j high low. asleep j (omega arith) low) in
      let more : count_woken told (take (k + 1) sessions) ≡ count_woken told (take k sessions) + one_if (is_woken told (get_or sessions k d).progress) = count_more told sessions k d (omega arith) in
      let none : one_if (is_woken told (get_or sessions k d).progress) ≡ 0 = ap one_if (asleep k (omega arith) (omega arith)) in
      omega arith

-- ---- while those that are woken run again

-- These places are still to come: the map has no session under them, and all others.
pub record IsPending {R Out : Type 0} (name : Name) (old : List (Session R Out)) (now : List (Session R Out)) (waiting : Waiters) (rest : List ℕ) : Type 0 where
  pub waits : (n : Name) (at : ℕ) → waits_in waiting n at ≡ (waits_at n now at && not (same_name name n && has rest at))
  pub left : (at : ℕ) → next_of rest (length old) ≤ at → has rest at ≡ waits_at name old at
  pub sorted : IsStrictlySortedBy nat_cmp rest
  pub filled : AreFilled waiting

module _ {R Out : Type 0} (name : Name) (old : List (Session R Out)) where
  -- the first of them waits
  first_waits : (now : List (Session R Out)) (waiting : Waiters) (k : ℕ) (rest : List ℕ) → IsPending name old now waiting (k ∷ rest) → waits_at name old k ≡ true
  first_waits now waiting k rest p = sym (p.left k (omega arith)) ∙ has_here k rest

  pub first_low : (now : List (Session R Out)) (waiting : Waiters) (k : ℕ) (rest : List ℕ) → IsPending name old now waiting (k ∷ rest) → k < length old
  first_low now waiting k rest p = waits_within name old k (first_waits now waiting k rest p)

  pub first_woken : (now : List (Session R Out)) (waiting : Waiters) (k : ℕ) (rest : List ℕ) (d : Session R Out) → IsPending name old now waiting (k ∷ rest) → is_woken (Some name) (get_or old k d).progress ≡ true
  first_woken now waiting k rest d p = sym (waits_here name old k d (first_low now waiting k rest p)) ∙ first_waits now waiting k rest p

  -- the next one comes behind it
  next_behind : (k : ℕ) (rest : List ℕ) → k < length old → IsStrictlySortedBy nat_cmp (k ∷ rest) → k < next_of rest (length old)
  next_behind k [] low s = low
  next_behind k (p ∷ rest) low s = below_from_sorted (k ∷ p ∷ rest) 0 1 0 s (omega arith) (omega arith)

  next_within : (now : List (Session R Out)) (waiting : Waiters) (rest : List ℕ) → IsPending name old now waiting rest → next_of rest (length old) ≤ length old
  next_within now waiting [] p = omega arith
  next_within now waiting (k ∷ rest) p = let low : k < length old = first_low now waiting k rest p in omega arith

  before_none : (rest : List ℕ) (at : ℕ) → IsStrictlySortedBy nat_cmp rest → at < next_of rest (length old) → has rest at ≡ false
  before_none [] at s low = refl
  before_none (p ∷ rest) at s low = below_none p rest at s low

  -- none of those between is woken
  pub between : (now : List (Session R Out)) (waiting : Waiters) (k : ℕ) (rest : List ℕ) (d : Session R Out) → next_of rest (length old) ≤ length old → IsPending name old now waiting (k ∷ rest) → (at : ℕ) → k + 1 ≤ at → at < next_of rest (length old) → is_woken (Some name) (get_or old at d).progress ≡ false
  between now waiting k rest d within p at high low =
      sym (waits_here name old at d (omega arith))
      ∙ sym (p.left at (omega arith))
      ∙ has_other k rest at (omega arith)
      ∙ before_none rest at (sorted_rest k rest p.sorted) low

  pub before_first : (rest : List ℕ) (d : Session R Out) → IsStrictlySortedBy nat_cmp rest → ((at : ℕ) → has rest at ≡ waits_at name old at) → (at : ℕ) → zero ≤ at → at < next_of rest (length old) → at < length old → is_woken (Some name) (get_or old at d).progress ≡ false
  before_first rest d s all at high low within = sym (waits_here name old at d within) ∙ sym (all at) ∙ before_none rest at s low

  -- what waits for the name, and for another one, is one of the two
  two_names : (p : Progress Out) (n : Name) → waits_for name p ≡ true → same_name name n ≡ false → waits_for n p ≡ false
  two_names (Waiting m) n e f = let same : m ≡ name = (one_name m name).0 e in ap (λ x. same_name x n) same ∙ f
  two_names (Finished out) n e f = refl
  two_names (Unanswered m) n e f = refl

  pub more_pending : (now : List (Session R Out)) (waiting waiting' : Waiters) (k : ℕ) (rest : List ℕ) (s' : Session R Out) (d : Session R Out) → length now ≡ length old → get_or now k d ≡ get_or old k d → IsPending name old now waiting (k ∷ rest) → ((n : Name) (at : ℕ) → waits_in waiting' n at ≡ ((waits_at n (set now k s') k && nat_eq k at) || waits_in waiting n at)) → (AreFilled waiting → AreFilled waiting') → IsPending name old (set now k s') waiting' rest
  more_pending now waiting waiting' k rest s' d long here p noted fills =
      record {
        waits = λ n at. waits_then n at (nat_eq k at) refl;
        left = λ at high. (let behind : k < next_of rest (length old) = next_behind k rest low p.sorted in sym (has_other k rest at (omega arith)) ∙ p.left at (omega arith));
        sorted = sorted_rest k rest p.sorted;
        filled = fills p.filled;
      }
    where
      low : k < length old
      low = first_low now waiting k rest p

      -- it waited for no other name
      woken : waits_for name (get_or old k d).progress ≡ true
      woken = first_woken now waiting k rest d p

      other_none : (n : Name) (b : Bool) → same_name name n ≡ b → (x : Bool) → (b ≡ false → x ≡ false) → (x && not (b && true)) ≡ false
      other_none n true e true h = refl
      other_none n true e false h = refl
      other_none n false e x h = ap (λ y. y && true) (h refl)

      before_here : (n : Name) → waits_in waiting n k ≡ false
      before_here n =
          p.waits n k
          ∙ ap (λ b. waits_at n now k && not (same_name name n && b)) (has_here k rest)
          ∙ other_none n (same_name name n) refl (waits_at n now k) (λ e. waits_here n now k d (let inside : k < length old = low in omega arith) ∙ ap (λ (s : Session R Out). waits_for n s.progress) here ∙ two_names (get_or old k d).progress n woken e)

      last_none : has rest k ≡ false
      last_none = before_none rest k (sorted_rest k rest p.sorted) (next_behind k rest low p.sorted)

      alone : (x b c : Bool) → c ≡ false → ((x && true) || c) ≡ (x && not (b && false))
      alone true true false e = refl
      alone true false false e = refl
      alone false b false e = refl
      alone x b true e = true_false e

      beside : (x c : Bool) → ((x && false) || c) ≡ c
      beside true c = refl
      beside false c = refl

      waits_then : (n : Name) (at : ℕ) (b : Bool) → nat_eq k at ≡ b → waits_in waiting' n at ≡ (waits_at n (set now k s') at && not (same_name name n && has rest at))
      waits_then n at true e =
          let same : k ≡ at = eqb-true k at e in
          subst (λ i. waits_in waiting' n i ≡ (waits_at n (set now k s') i && not (same_name name n && has rest i))) same
          (noted n k
          ∙ ap (λ b. (waits_at n (set now k s') k && b) || waits_in waiting n k) (nat_eq_equiv.refl k)
          ∙ alone (waits_at n (set now k s') k) (same_name name n) (waits_in waiting n k) (before_here n)
          ∙ ap (λ b. waits_at n (set now k s') k && not (same_name name n && b)) (sym last_none))
      waits_then n at false e =
          let apart : k ≢ at = eqb-false k at e in
          noted n at
          ∙ ap (λ b. (waits_at n (set now k s') k && b) || waits_in waiting n at) e
          ∙ beside (waits_at n (set now k s') k) (waits_in waiting n at)
          ∙ p.waits n at
          ∙ ap (λ b. waits_at n now at && not (same_name name n && b)) (has_other k rest at (λ f. apart (sym f)))
          ∙ ap (λ b. b && not (same_name name n && has rest at)) (sym (waits_set_other n now k at s' apart))

  -- when the name was taken out of the map
  pub pending_all : (waiting waiting' : Waiters) (places : List ℕ) → ((n : Name) (at : ℕ) → waits_in waiting n at ≡ waits_at n old at) → AreFilled waiting → ((at : ℕ) → has places at ≡ waits_in waiting name at) → IsStrictlySortedBy nat_cmp places → ((n : Name) (at : ℕ) → waits_in waiting' n at ≡ cond (same_name name n) false (waits_in waiting n at)) → (AreFilled waiting → AreFilled waiting') → IsPending name old old waiting' places
  pending_all waiting waiting' places waits filled taken sorted others fills =
      record {
        waits = λ n at. others n at ∙ ap (cond (same_name name n) false) (waits n at) ∙ go n at (same_name name n) refl;
        left = λ at high. taken at ∙ waits name at;
        sorted = sorted;
        filled = fills filled;
      }
    where
      cancels : (x : Bool) → false ≡ (x && not (true && x))
      cancels true = refl
      cancels false = refl

      stays : (x : Bool) → x ≡ (x && not false)
      stays true = refl
      stays false = refl

      go : (n : Name) (at : ℕ) (b : Bool) → same_name name n ≡ b → cond b false (waits_at n old at) ≡ (waits_at n old at && not (b && has places at))
      go n at true e =
          let same : name ≡ n = (one_name name n).0 e in
          cancels (waits_at n old at) ∙ ap (λ b. waits_at n old at && not (true && b)) (ap (λ m. waits_at m old at) (sym same) ∙ sym (taken at ∙ waits name at))
      go n at false e = stays (waits_at n old at)

  -- when none is left
  pub pending_none : (roster : Roster R Out) → IsPending name old roster.all.items roster.waiting [] → IsKept roster
  pending_none roster p = record { waits = λ n at. p.waits n at ∙ stays (waits_at n roster.all.items at) (same_name name n); filled = p.filled }
    where
      stays : (x b : Bool) → (x && not (b && false)) ≡ x
      stays true true = refl
      stays true false = refl
      stays false b = refl

-- ---- the whole cascade

-- Those before the next place were run again, where they were woken.
pub record IsRerun {R Out End : Type 0} (gives : Out → End → List (List ℕ) → Type 0) (tree : R → RunTree End) (name : Name) (old now : List (Session R Out)) (waiting : Waiters) (lookups mid : Lookups) (dice dice' : Option DiceTold) (out : List Question) (start runs : ℕ) (rest : List ℕ) : Type 0 where
  pub moment : CascadesTo gives tree (Some name) old now lookups mid dice dice' out (next_of rest (length old))
  pub pending : IsPending name old now waiting rest
  pub ran : runs ≡ start + count_woken (Some name) (take (next_of rest (length old)) old)

module _ {R Out End : Type 0} (gives : Out → End → List (List ℕ) → Type 0) (tree : R → RunTree End) (name : Name) (old : List (Session R Out)) (lookups : Lookups) where
  pub rerun_begins : (waiting : Waiters) (dice : Option DiceTold) (out : List Question) (start : ℕ) (rest : List ℕ) → out ≡ [] → IsPending name old old waiting rest → ((at : ℕ) → has rest at ≡ waits_at name old at) → IsRerun gives tree name old old waiting lookups lookups dice dice out start start rest
  rerun_begins waiting dice out start rest e p all = go old refl
    where
      bound : ℕ
      bound = next_of rest (length old)

      within : bound ≤ length old
      within = next_within name old old waiting rest p

      none : CascadesTo gives tree (Some name) old old lookups lookups dice dice out 0
      none = subst (λ l. CascadesTo gives tree (Some name) old old lookups lookups dice dice l 0) (sym e) (cascade_none gives tree (Some name) old lookups dice)

      go : (l : List (Session R Out)) → old ≡ l → IsRerun gives tree name old old waiting lookups lookups dice dice out start start rest
      go [] k =
          let empty : length old ≡ 0 = ap length k in
          let low : bound ≤ length old = within in
          let zero_is : 0 ≡ bound = omega arith in
          record {
            moment = subst (CascadesTo gives tree (Some name) old old lookups lookups dice dice out) zero_is none;
            pending = p;
            ran = (let nobody : count_woken (Some name) (take bound old) ≡ 0 = ap (λ n. count_woken (Some name) (take n old)) (sym zero_is) in omega arith);
          }
      go (d ∷ l) k =
          let asleep : (at : ℕ) → 0 ≤ at → at < bound → is_woken (Some name) (get_or old at d).progress ≡ false = λ at high low. before_first name old rest d p.sorted all at high low (let most : bound ≤ length old = within in omega arith) in
          record {
            moment = skip gives tree (Some name) old lookups old lookups dice dice out bound 0 bound d (omega arith) within asleep none;
            pending = p;
            ran = (let nobody : count_woken (Some name) (take bound old) ≡ 0 = count_skip gives tree (Some name) old lookups bound 0 bound d (omega arith) within asleep in omega arith);
          }

  pub rerun_more : (now now' : List (Session R Out)) (waiting waiting' : Waiters) (mid lookups' : Lookups) (dice dice' dice'' : Option DiceTold) (out asked out' : List Question) (start runs runs' : ℕ) (k : ℕ) (rest : List ℕ) → IsRerun gives tree name old now waiting lookups mid dice dice' out start runs (k ∷ rest) → RunsAt gives tree k now now' mid lookups' dice' dice'' asked → ((n : Name) (at : ℕ) → waits_in waiting' n at ≡ ((waits_at n now' k && nat_eq k at) || waits_in waiting n at)) → (AreFilled waiting → AreFilled waiting') → out' ≡ out ++ asked → runs' ≡ runs + 1 → IsRerun gives tree name old now' waiting' lookups lookups' dice dice'' out' start runs' rest
  rerun_more now now' waiting waiting' mid lookups' dice dice' dice'' out asked out' start runs runs' k rest r at noted fills e one =
      let d : Session R Out = at.before in
      let low : k < length old = first_low name old now waiting k rest r.pending in
      let here : get_or now k d ≡ get_or old k d = r.moment.rest k d (omega arith) in
      let woken : is_woken (Some name) (get_or old k d).progress ≡ true = first_woken name old now waiting k rest d r.pending in
      let woken_now : is_woken (Some name) (get_or now k d).progress ≡ true = ap (λ (s : Session R Out). is_woken (Some name) s.progress) here ∙ woken in
      let ran : RunsAgain gives tree (is_woken (Some name) (get_or now k d).progress) (get_or now k d) at.after mid lookups' dice' dice'' asked =
      subst (λ b. RunsAgain gives tree b (get_or now k d) at.after mid lookups' dice' dice'' asked) (sym woken_now)
      (subst (λ s. RunsAgain gives tree true s at.after mid lookups' dice' dice'' asked) (sym (at.was d)) at.ran)
      in
      let treated : CascadesTo gives tree (Some name) old (set now k at.after) lookups lookups' dice dice'' out' (k + 1) = cascade_more gives tree (Some name) old lookups now at.after mid lookups' dice dice' dice'' out asked out' k d low r.moment ran e in
      let pending : IsPending name old (set now k at.after) waiting' rest =
      more_pending name old now waiting waiting' k rest at.after d r.moment.long here r.pending (λ n i. noted n i ∙ ap (λ (l : List (Session R Out)). (waits_at n l k && nat_eq k i) || waits_in waiting n i) at.becomes) fills
      in
      let bound : ℕ = next_of rest (length old) in
      let behind : k < bound = next_behind name old k rest low r.pending.sorted in
      let within : bound ≤ length old = next_within name old (set now k at.after) waiting' rest pending in
      let asleep : (i : ℕ) → k + 1 ≤ i → i < bound → is_woken (Some name) (get_or old i d).progress ≡ false = between name old now waiting k rest d within r.pending in
      let passed : CascadesTo gives tree (Some name) old (set now k at.after) lookups lookups' dice dice'' out' bound = skip gives tree (Some name) old lookups (set now k at.after) lookups' dice dice'' out' (bound - (k + 1)) (k + 1) bound d (omega arith) within asleep treated in
      let counted : count_woken (Some name) (take bound old) ≡ count_woken (Some name) (take (k + 1) old) = count_skip gives tree (Some name) old lookups (bound - (k + 1)) (k + 1) bound d (omega arith) within asleep in
      let more : count_woken (Some name) (take (k + 1) old) ≡ count_woken (Some name) (take k old) + one_if (is_woken (Some name) (get_or old k d).progress) = count_more (Some name) old k d low in
      let single : one_if (is_woken (Some name) (get_or old k d).progress) ≡ 1 = ap one_if woken in
      let before : runs ≡ start + count_woken (Some name) (take k old) = r.ran in
      record {
        moment = subst (λ l. CascadesTo gives tree (Some name) old l lookups lookups' dice dice'' out' bound) (sym at.becomes) passed;
        pending = subst (λ l. IsPending name old l waiting' rest) (sym at.becomes) pending;
        ran = omega arith;
      }

  pub rerun_most : (now : List (Session R Out)) (waiting : Waiters) (mid : Lookups) (dice dice' : Option DiceTold) (out : List Question) (start runs runs' : ℕ) (k : ℕ) (rest : List ℕ) → IsRerun gives tree name old now waiting lookups mid dice dice' out start runs (k ∷ rest) → runs' ≡ runs + 1 → runs' ≤ start + count_woken (Some name) old
  rerun_most now waiting mid dice dice' out start runs runs' k rest r one = go old refl
    where
      go : (l : List (Session R Out)) → old ≡ l → runs' ≤ start + count_woken (Some name) old
      go [] e = absurd (let low : k < length old = first_low name old now waiting k rest r.pending in let empty : length old ≡ 0 = ap length e in omega arith)
      go (d ∷ l) e =
          let low : k < length old = first_low name old now waiting k rest r.pending in
          let more : count_woken (Some name) (take (k + 1) old) ≡ count_woken (Some name) (take k old) + one_if (is_woken (Some name) (get_or old k d).progress) = count_more (Some name) old k d low in
          let single : one_if (is_woken (Some name) (get_or old k d).progress) ≡ 1 = ap one_if (first_woken name old now waiting k rest d r.pending) in
          let part : count_woken (Some name) (take (k + 1) old) ≤ count_woken (Some name) old = count_part (Some name) old (k + 1) in
          let before : runs ≡ start + count_woken (Some name) (take k old) = r.ran in
          omega arith

-- when no place is left
pub record HasRerun {R Out End : Type 0} (gives : Out → End → List (List ℕ) → Type 0) (tree : R → RunTree End) (name : Name) (old : List (Session R Out)) (roster : Roster R Out) (lookups mid : Lookups) (dice dice' : Option DiceTold) (out : List Question) (start runs : ℕ) : Type 0 where
  pub moment : Cascades gives tree (Some name) old roster.all.items lookups mid dice dice' out
  pub kept : IsKept roster
  pub ran : runs ≡ start + count_woken (Some name) old

pub rerun_ends : {R Out End : Type 0} (gives : Out → End → List (List ℕ) → Type 0) (tree : R → RunTree End) (name : Name) (old : List (Session R Out)) (roster : Roster R Out) (lookups mid : Lookups) (dice dice' : Option DiceTold) (out : List Question) (start runs : ℕ) (rest : List ℕ) → rest ≡ [] → IsRerun gives tree name old roster.all.items roster.waiting lookups mid dice dice' out start runs rest → HasRerun gives tree name old roster lookups mid dice dice' out start runs
rerun_ends gives tree name old roster lookups mid dice dice' out start runs rest e r =
    let last : IsRerun gives tree name old roster.all.items roster.waiting lookups mid dice dice' out start runs [] = subst (IsRerun gives tree name old roster.all.items roster.waiting lookups mid dice dice' out start runs) e r in
    record {
      moment = last.moment;
      kept = pending_none name old roster last.pending;
      ran = last.ran ∙ ap (λ l. start + count_woken (Some name) l) (take_all (length old) old (omega arith));
    }
