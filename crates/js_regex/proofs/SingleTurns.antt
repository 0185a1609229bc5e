-- Turns of one unit, and the places from which a Repeat can be left.
use Rattle.std.proofs.Common.{◌≡◌, ℕ, zero, suc, ◌+◌, ◌-◌, ◌<◌, ◌≤◌, Bool, true, false, ⊎_elim, inl, List, [], ◌∷◌, length, Option, Some, None, Err, refl, ap, sym, subst, ◌∙◌, arith, Bor}
use Rattle.std.proofs.lemmas.Bool.{lt-ltb}
use Rattle.std.specs.Prelude.{nat_lt, not, slice_get}
use Rattle.js_pattern.specs.declared.span.Span.{Span}
use Rattle.js_pattern.specs.declared.bounds.Bounds.{Bounds}
use Rattle.js_pattern.specs.Tree.{Tree, unit, any, class, assertion, reference, row, alternatives, group, repeat, a_tree, trees_of}
use Rattle.js_pattern.specs.Place.{Subject, At, units_left, unset_from}
use Rattle.utf16_text.specs.Letters.{is_break_unit}
use Rattle.js_pattern.specs.Leaves.{behind_one, place_if, in_class, same_unit}
use Rattle.js_pattern.specs.Repeats.{is_none_left, smaller, choice}
use Rattle.js_pattern.specs.Walk.{Outcome, After, fails, counted, or_else, forward, marked, behind_turn, taking_or_leaving, offer, row_walk, walk, taking}
use Rattle.js_pattern.proofs.Outcomes.{or_else_assoc}
use Rattle.js_pattern.proofs.Turns.{repeat_none, repeat_must, repeat_may}
use Rattle.js_regex.specs.declared.answer.FindAnswer.{FindAnswer}
use Rattle.js_regex.specs.declared.answer.FindAnswer.TheVariants as answer
use Rattle.js_regex.specs.declared.turns.Turning.{Turning}
use Rattle.js_regex.specs.declared.step.Pending.{Pending}
use Rattle.js_regex.specs.declared.step.Pending.TheVariants as pending
use Rattle.js_regex.specs.Failing.{RowFails, failed}
use Rattle.js_regex.specs.Runs.{IsLater, Spends}
use Rattle.js_regex.specs.Singles.{is_single, behind_single}
use Rattle.js_regex.specs.Stacks.{after, leaving}
use Rattle.js_regex.specs.Turns.{IsPlain, IsFree, repeat_from, TurnsTo, TurnsStop}
use Rattle.js_regex.proofs.Counts.{counts, counts_none, counts_or_else}

-- ---- fuel

pub later_trans : (o p q : Outcome) (f g h : ℕ) → IsLater o f p g → IsLater p g q h → IsLater o f q h
later_trans o p q f g h a b = record {
  cost = let c = a.cost in let d = b.cost in omega arith;
  end = a.end ∙ b.end;
  less = let l = a.less in let m = b.less in omega arith;
}

-- so many units are taken
pub later_counts : (n : ℕ) (o p : Outcome) (f g : ℕ) → o ≡ counts n p → n + g ≡ f → IsLater o f p g
later_counts n o p f g e sum =
    let costs : o.cost ≡ n + p.cost = ap (λ q. q.cost) e in
    record { cost = omega arith; end = ap (λ q. q.end) e; less = omega arith }

pub spent_counts : (n : ℕ) (o p : Outcome) (f : ℕ) → o ≡ counts n p → f < n → f < o.cost
spent_counts n o p f e less = let costs : o.cost ≡ n + p.cost = ap (λ q. q.cost) e in omega arith

-- what lies behind is spent, and so is the whole
pub spent_later : (o p : Outcome) (f g : ℕ) → IsLater o f p g → g < p.cost → f < o.cost
spent_later o p f g a less = let c = a.cost in omega arith

module _ (s : Subject) (x : Tree) (t : Turning) (f g cost : ℕ) (to rest : After → List (Option Span) → Outcome → Outcome) where
  -- a turn that isn't paid for
  pub turns_stop : (h : ℕ) (e : FindAnswer)
      → ((k : After) (gs : List (Option Span)) (back : Outcome) → IsLater (repeat_from s x k gs back t) f (to k gs back) g)
      → ((k : After) (gs : List (Option Span)) (back : Outcome) → to k gs back ≡ counts cost (rest k gs back))
      → Spends cost g (Err e) h → TurnsStop s x t f e h
  turns_stop h answer.Memory goes is spent = absurd spent
  turns_stop h answer.Spent goes is spent = (
    (λ k gs back. spent_later (repeat_from s x k gs back t) (to k gs back) f g (goes k gs back) (spent_counts cost (to k gs back) (rest k gs back) g (is k gs back) (spent.0))),
    (let l = (goes (λ at. fails) [] fails).less in let same = spent.1 in omega arith),
  )

-- ---- one turn

pub single_offer : (s : Subject) (x : Tree) (k : After) (at : At) → is_single x ≡ true → offer s x k at ≡ forward (behind_single s x at.place) k at
single_offer s (unit u) k at e = refl
single_offer s any k at e = refl
single_offer s (class c) k at e = refl
single_offer s (assertion a) k at e = cc
single_offer s (reference n) k at e = cc
single_offer s (row xs) k at e = cc
single_offer s (alternatives xs) k at e = cc
single_offer s (group n x) k at e = cc
single_offer s (repeat x b) k at e = cc

within : {X : Type 0} (xs : List X) (p : ℕ) (x : X) → slice_get xs p ≡ Some x → p < length xs
within [] p x e = cc
within (y ∷ ys) zero x e = omega arith
within (y ∷ ys) (suc p) x e = let less = within ys p x e in omega arith

passed : (b : Bool) (p q : ℕ) → place_if b p ≡ Some q → q ≡ p
passed true p q e = cc
passed false p q e = cc

one_unit : (test : ℕ → Bool) (us : List ℕ) (p q : ℕ) (o : Option ℕ) → slice_get us p ≡ o → behind_one test p o ≡ Some q → (q ≡ p + 1) × (p < length us)
one_unit test us p q None h e = cc
one_unit test us p q (Some v) h e = (passed (test v) (p + 1) q e, within us p v h)

-- a part of one unit leads to the next place, and the text goes on here
pub single_step : (s : Subject) (x : Tree) (p q : ℕ) → behind_single s x p ≡ Some q → (q ≡ p + 1) × (p < length s.text)
single_step s (unit u) p q e = one_unit (same_unit s.flags.ignore_case u) s.text p q (slice_get s.text p) refl e
single_step s any p q e = one_unit (λ v. not (is_break_unit v)) s.text p q (slice_get s.text p) refl e
single_step s (class c) p q e = one_unit (in_class s.flags.ignore_case c) s.text p q (slice_get s.text p) refl e
single_step s (assertion a) p q e = cc
single_step s (reference n) p q e = cc
single_step s (row xs) p q e = cc
single_step s (alternatives xs) p q e = cc
single_step s (group n x) p q e = cc
single_step s (repeat x b) p q e = cc

unset_none : (n m : ℕ) (gs : List (Option Span)) → m ≡ 0 → unset_from n m gs ≡ gs
unset_none n zero gs e = refl
unset_none n (suc m) gs e = absurd (omega arith)

marked_on : (s : Subject) (least p q : ℕ) (k : After) (gs : List (Option Span)) → q ≡ p + 1 → p < length s.text
    → marked s least p k (record { place = q; groups = gs }) ≡ k (record { place = q; groups = gs })
marked_on s zero p q k gs e h =
    let fewer : nat_lt (units_left s q) (units_left s p) ≡ true = lt-ltb (units_left s q) (units_left s p) (omega arith) in
    ap (λ b. choice b k (λ _. fails) (record { place = q; groups = gs })) fewer
marked_on s (suc least) p q k gs e h = refl

three_more : (o : Outcome) → counted (counted (counted o)) ≡ counts 3 o
three_more o = let same : suc (suc (suc o.cost)) ≡ 3 + o.cost = omega arith in λ i. record { cost = same i; end = o.end }

module _ (s : Subject) (x : Tree) (k : After) (gs : List (Option Span)) (b : Bounds) (p : ℕ) (plain : IsPlain x b) where
  abbrev here : At
  here = record { place = p; groups = gs }

  abbrev behind : After
  behind = behind_turn s b.least p (offer s (repeat x (smaller b)) k)

  -- a turn is its part, from here
  part_alone : taking s x b k here ≡ counted (forward (behind_single s x p) behind here)
  part_alone =
      ap (λ gs'. walk s x behind (record { place = p; groups = gs' })) (unset_none b.from_group (b.to_group - b.from_group) gs plain.groups)
      ∙ ap counted (single_offer s x behind here plain.single)

  turn_taken : (q : ℕ) → behind_single s x p ≡ Some q
      → taking s x b k here ≡ counts 3 (offer s (repeat x (smaller b)) k (record { place = q; groups = gs }))
  turn_taken q e =
      let on = single_step s x p q e in
      part_alone ∙ ap (λ o. counted (forward o behind here)) e
      ∙ ap (λ o. counted (counted o)) (marked_on s b.least p q (λ at. counted (offer s (repeat x (smaller b)) k at)) gs (on.0) (on.1))
      ∙ three_more (offer s (repeat x (smaller b)) k (record { place = q; groups = gs }))

  turn_missed : behind_single s x p ≡ None → taking s x b k here ≡ failed 1
  turn_missed e = part_alone ∙ ap (λ o. counted (forward o behind here)) e

-- ---- bounds

pub smaller_plain : (x : Tree) (b : Bounds) → IsPlain x b → IsPlain x (smaller b)
smaller_plain x b h = record { single = h.single; greedy = h.greedy; groups = h.groups }

pub smaller_free : (b : Bounds) → b.least ≡ 0 → IsFree (smaller b)
smaller_free b e = inl (omega arith)

free_least : (b : Bounds) → is_none_left b.most ≡ false → IsFree b → b.least ≡ 0
free_least b some h = ⊎_elim (λ (e : b.least ≡ 0). e) (λ (e : is_none_left b.most ≡ true). absurd (let clash : true ≡ false = sym e ∙ some in cc)) h

-- ---- the turns that must be taken

module _ (s : Subject) (x : Tree) (t : Turning) (plain : IsPlain x t.bounds) (some : is_none_left t.bounds.most ≡ false) (k : After) (gs : List (Option Span)) (back : Outcome) where
  pub must_turn : (u : Turning) → 0 < t.bounds.least → behind_single s x t.place ≡ Some u.place → u.bounds ≡ smaller t.bounds
      → repeat_from s x k gs back t ≡ counts 3 (repeat_from s x k gs back u)
  must_turn u h e same =
      ap (λ o. or_else o back)
      (repeat_must s x t.bounds k (record { place = t.place; groups = gs }) some h
      ∙ turn_taken s x k gs t.bounds t.place plain u.place e
      ∙ ap (λ b. counts 3 (offer s (repeat x b) k (record { place = u.place; groups = gs }))) (sym same))
      ∙ counts_or_else 3 (offer s (repeat x u.bounds) k (record { place = u.place; groups = gs })) back

  pub must_miss : 0 < t.bounds.least → behind_single s x t.place ≡ None → repeat_from s x k gs back t ≡ counts 1 back
  must_miss h e =
      ap (λ o. or_else o back)
      (repeat_must s x t.bounds k (record { place = t.place; groups = gs }) some h ∙ turn_missed s x k gs t.bounds t.place plain e)

-- ---- the turns that may be taken

-- what is tried behind the place where a Repeat stands: the places before it, and then what was to be tried
abbrev pub before : After → List (Option Span) → Outcome → ℕ → ℕ → Outcome
before k gs back place zero = back
before k gs back place (suc more) = or_else (leaving k gs (place - 1) more) back

leave_here : (k : After) (gs : List (Option Span)) (back : Outcome) (place n : ℕ)
    → or_else (k (record { place = place; groups = gs })) (before k gs back place n) ≡ or_else (leaving k gs place n) back
leave_here k gs back place zero = refl
leave_here k gs back place (suc n) = sym (or_else_assoc (k (record { place = place; groups = gs })) (leaving k gs (place - 1) n) back)

before_next : (k : After) (gs : List (Option Span)) (back : Outcome) (place next n m : ℕ) → next ≡ place + 1 → m ≡ n + 1
    → before k gs back next m ≡ or_else (leaving k gs place n) back
before_next k gs back place next n m e sum =
    ap (before k gs back next) (let same : m ≡ suc n = omega arith in same)
    ∙ ap (λ p. or_else (leaving k gs p n) back) (let same : next - 1 ≡ place = omega arith in same)

module _ (s : Subject) (x : Tree) (t : Turning) (plain : IsPlain x t.bounds) (k : After) (gs : List (Option Span)) (back : Outcome) (n : ℕ) where
  abbrev now : At
  now = record { place = t.place; groups = gs }

  pub may_end : is_none_left t.bounds.most ≡ true
      → or_else (offer s (repeat x t.bounds) k now) (before k gs back t.place n) ≡ or_else (leaving k gs t.place n) back
  may_end none = ap (λ o. or_else o (before k gs back t.place n)) (repeat_none s x t.bounds k now none) ∙ leave_here k gs back t.place n

  module _ (some : is_none_left t.bounds.most ≡ false) (free : t.bounds.least ≡ 0) where
    take_first : offer s (repeat x t.bounds) k now ≡ or_else (taking s x t.bounds k now) (k now)
    take_first = repeat_may s x t.bounds k now some free ∙ ap (λ g. taking_or_leaving g (taking s x t.bounds k) k now) plain.greedy

    both : or_else (offer s (repeat x t.bounds) k now) (before k gs back t.place n)
        ≡ or_else (taking s x t.bounds k now) (or_else (leaving k gs t.place n) back)
    both =
        ap (λ o. or_else o (before k gs back t.place n)) take_first
        ∙ or_else_assoc (taking s x t.bounds k now) (k now) (before k gs back t.place n)
        ∙ ap (or_else (taking s x t.bounds k now)) (leave_here k gs back t.place n)

    pub may_turn : (u : Turning) (m : ℕ) → behind_single s x t.place ≡ Some u.place → u.bounds ≡ smaller t.bounds → m ≡ n + 1
        → or_else (offer s (repeat x t.bounds) k now) (before k gs back t.place n)
        ≡ counts 3 (or_else (offer s (repeat x u.bounds) k (record { place = u.place; groups = gs })) (before k gs back u.place m))
    may_turn u m e same sum =
        both
        ∙ ap (λ o. or_else o (or_else (leaving k gs t.place n) back)) (turn_taken s x k gs t.bounds t.place plain u.place e)
        ∙ counts_or_else 3 _ (or_else (leaving k gs t.place n) back)
        ∙ ap (λ o. counts 3 (or_else (offer s (repeat x (smaller t.bounds)) k (record { place = u.place; groups = gs })) o))
        (sym (before_next k gs back t.place u.place n m ((single_step s x t.place u.place e).0) sum))
        ∙ ap (λ b. counts 3 (or_else (offer s (repeat x b) k (record { place = u.place; groups = gs })) (before k gs back u.place m))) (sym same)

    pub may_miss : behind_single s x t.place ≡ None
        → or_else (offer s (repeat x t.bounds) k now) (before k gs back t.place n) ≡ counts 1 (or_else (leaving k gs t.place n) back)
    may_miss e = both ∙ ap (λ o. or_else o (or_else (leaving k gs t.place n) back)) (turn_missed s x k gs t.bounds t.place plain e)

-- ---- leaving

-- terms that are pending fail, and that takes a unit or more
pub terms_fail_first : (s : Subject) (x : Bor Tree) (xs : Bor (List Tree)) (all ps : List Pending) (gs : List (Option Span)) (place cost : ℕ)
    → all ≡ pending.Terms x xs ∷ ps → RowFails s (a_tree x.now (trees_of xs.now)) place cost
    → (after s all (record { place = place; groups = gs }) ≡ failed cost) × (0 < cost)
terms_fail_first s x xs all ps gs place cost e fails = (
  ap (λ qs. after s qs (record { place = place; groups = gs })) e ∙ fails (after s ps) gs,
  (let one : suc ((offer s x.now (row_walk s (trees_of xs.now) (after s ps)) (record { place = place; groups = gs })).cost) ≡ cost =
      ap (λ o. o.cost) (fails (after s ps) gs) in omega arith),
)

-- what comes after fails from the last place
pub leaving_fails : (k : After) (gs : List (Option Span)) (back : Outcome) (from last cost : ℕ)
    → k (record { place = last; groups = gs }) ≡ failed cost → from < last
    → or_else (leaving k gs last (last - from)) back ≡ counts cost (or_else (leaving k gs (last - 1) (last - 1 - from)) back)
leaving_fails k gs back from last cost e h =
    ap (λ n. or_else (leaving k gs last n) back) (let more : last - from ≡ suc (last - 1 - from) = omega arith in more)
    ∙ or_else_assoc (k (record { place = last; groups = gs })) (leaving k gs (last - 1) (last - 1 - from)) back
    ∙ ap (λ o. or_else o (or_else (leaving k gs (last - 1) (last - 1 - from)) back)) e

-- ---- as many turns as can be taken, from the first of them on

-- the Repeat goes on from a later turn, with the places before it to be left from
pub record Onward (s : Subject) (x : Tree) (t : Turning) (f : ℕ) (u : Turning) (g : ℕ) : Type 0 where
  pub plain : IsPlain x u.bounds
  pub free : IsFree u.bounds
  pub order : t.place ≤ u.place
  pub later : (k : After) (gs : List (Option Span)) (back : Outcome)
      → IsLater (repeat_from s x k gs back t) f (repeat_from s x k gs (before k gs back u.place (u.place - t.place)) u) g

-- what was taken last was taken from the whole
pub taken_less : (s : Subject) (x : Tree) (t : Turning) (f : ℕ) (u : Turning) (g h : ℕ) → TurnsTo s x t f u g → 1 + h ≡ g → h < f
taken_less s x t f u g h goes e = let l = (goes (λ at. fails) [] fails).less in omega arith

module _ (s : Subject) (x : Tree) (t : Turning) (f : ℕ) (u : Turning) (g : ℕ) (on : Onward s x t f u g) where
  abbrev goes-on : After → List (Option Span) → Outcome → Outcome
  goes-on k gs back = repeat_from s x k gs (before k gs back u.place (u.place - t.place)) u

  abbrev leaves : After → List (Option Span) → Outcome → Outcome
  leaves k gs back = or_else (leaving k gs u.place (u.place - t.place)) back

  -- no more turns may be taken
  pub onward_end : is_none_left u.bounds.most ≡ true → (k : After) (gs : List (Option Span)) (back : Outcome) → IsLater (repeat_from s x k gs back t) f (leaves k gs back) g
  onward_end none k gs back =
      later_trans _ _ _ _ _ _ (on.later k gs back)
      (later_counts 0 (goes-on k gs back) (leaves k gs back) g g
      (may_end s x u on.plain k gs back (u.place - t.place) none ∙ sym (counts_none 0 (leaves k gs back) refl)) (omega arith))

  module _ (some : is_none_left u.bounds.most ≡ false) where
    -- the next turn fails
    missed_counts : behind_single s x u.place ≡ None → (k : After) (gs : List (Option Span)) (back : Outcome) → goes-on k gs back ≡ counts 1 (leaves k gs back)
    missed_counts missed k gs back = may_miss s x u on.plain k gs back (u.place - t.place) some (free_least u.bounds some on.free) missed

    pub onward_miss : behind_single s x u.place ≡ None → (h : ℕ) → 1 + h ≡ g
        → (k : After) (gs : List (Option Span)) (back : Outcome) → IsLater (repeat_from s x k gs back t) f (leaves k gs back) h
    onward_miss missed h paid k gs back =
        later_trans _ _ _ _ _ _ (on.later k gs back) (later_counts 1 (goes-on k gs back) (leaves k gs back) g h (missed_counts missed k gs back) paid)

    -- the next turn is taken
    module _ (v : Turning) (passed : behind_single s x u.place ≡ Some v.place) (same : v.bounds ≡ smaller u.bounds) where
      abbrev goes-next : After → List (Option Span) → Outcome → Outcome
      goes-next k gs back = repeat_from s x k gs (before k gs back v.place (v.place - t.place)) v

      turn_counts : (k : After) (gs : List (Option Span)) (back : Outcome) → goes-on k gs back ≡ counts 3 (goes-next k gs back)
      turn_counts k gs back =
          let next = single_step s x u.place v.place passed in
          let order = on.order in
          may_turn s x u on.plain k gs back (u.place - t.place) some (free_least u.bounds some on.free) v (v.place - t.place) passed same (let e = next.0 in omega arith)

      pub onward_turn : (h : ℕ) → 3 + h ≡ g → Onward s x t f v h
      onward_turn h paid = record {
        plain = subst (IsPlain x) (sym same) (smaller_plain x u.bounds on.plain);
        free = subst IsFree (sym same) (smaller_free u.bounds (free_least u.bounds some on.free));
        order = let next = (single_step s x u.place v.place passed).0 in let order = on.order in omega arith;
        later = λ k gs back. later_trans _ _ _ _ _ _ (on.later k gs back) (later_counts 3 (goes-on k gs back) (goes-next k gs back) g h (turn_counts k gs back) paid);
      }

      pub turn_unpaid : (h : ℕ) (e : FindAnswer) → Spends 3 g (Err e) h → TurnsStop s x t f e h
      turn_unpaid h e spent = turns_stop s x t f g 3 goes-on goes-next h e on.later turn_counts spent
