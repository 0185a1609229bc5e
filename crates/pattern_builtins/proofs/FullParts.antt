-- What is left of a replacement is the same text where empty parts are skipped.
use Rattle.std.proofs.Common.{◌≡◌, ℕ, ◌+◌, ◌-◌, ◌<◌, ◌≤◌, ◌⊎◌, inl, inr, true, false, cond, eqb, leb, ◌&&◌, List, [], ◌∷◌, ◌++◌, length, drop, Some, None, refl, ap, sym, subst, ◌∙◌, arith, append_assoc}
use Rattle.std.proofs.lemmas.List.{length-drop, drop-drop}
use Rattle.std.proofs.lemmas.Bool.{cases_eq, cases_Bool, and_parts, leb-true, eq-eqb, ne_eqb}
use Rattle.js_pattern.specs.Search.{Found}
use Rattle.pattern_builtins.specs.Replacing.{named, put_in, expanded, BeginsWith}
use Rattle.pattern_builtins.specs.Skipping.{Empty, Front, Further, kind_of, last, next_of, unit_of}

-- ---- what stands at a place

last_length : (n : ℕ) (us : List ℕ) → n ≤ length us → length (last n us) ≡ n
last_length n us h = omega (arith, length-drop (length us - n) us)

pub last_last : (m n : ℕ) (us : List ℕ) → m ≤ n → n ≤ length us → last m (last n us) ≡ last m us
last_last m n us h g =
    let count : (length us - n) + (n - m) ≡ length us - m = omega arith in
    ap (λ l. drop (l - m) (last n us)) (last_length n us g) ∙ drop-drop (n - m) (length us - n) us ∙ ap (λ k. drop k us) count

last_drop : (m s : ℕ) (us : List ℕ) → m + s ≤ length us → last m (drop s us) ≡ last m us
last_drop m s us h =
    let count : s + ((length us - s) - m) ≡ length us - m = omega arith in
    ap (λ l. drop (l - m) (drop s us)) (length-drop s us) ∙ drop-drop ((length us - s) - m) s us ∙ ap (λ k. drop k us) count

pub last_all : (us : List ℕ) → last (length us) us ≡ us
last_all us = let none : length us - length us ≡ 0 = omega arith in ap (λ k. drop k us) none

-- ---- kinds

kind_small : (c : ℕ) → kind_of c < 13
kind_small c = grind arith

unit_of_digit : (k : ℕ) → k < 10 → unit_of k ≡ 48 + k
unit_of_digit k h = rw (ne_eqb k 10 (λ e. omega arith), ne_eqb k 11 (λ e. omega arith), ne_eqb k 12 (λ e. omega arith)) refl

module _ (c : ℕ) (no_match : c ≡ 38 → ⊥) (not_before : c ≡ 96 → ⊥) (not_behind : c ≡ 39 → ⊥) where
  is_digit : kind_of c ≡ cond (leb 49 c && leb c 57) (c - 48) 0
  is_digit = rw (ne_eqb c 38 no_match, ne_eqb c 96 not_before, ne_eqb c 39 not_behind) refl

  digit_back : (kind_of c ≡ 0) ⊎ (unit_of (kind_of c) ≡ c)
  digit_back = elim (cases_Bool (leb 49 c && leb c 57)) [
    | inl t ↦
        let both = and_parts (leb 49 c) (leb c 57) t in
        let least : 49 ≤ c = leb-true 49 c (both.0) in
        let most : c ≤ 57 = leb-true c 57 (both.1) in
        let kind : kind_of c ≡ c - 48 = is_digit ∙ ap (λ b. cond b (c - 48) 0) t in
        let unit : 48 + (c - 48) ≡ c = omega arith in
        inr (ap unit_of kind ∙ unit_of_digit (c - 48) (omega arith) ∙ unit)
    | inr t ↦ inl (is_digit ∙ ap (λ b. cond b (c - 48) 0) t)
  ]

kind_back : (c : ℕ) → (kind_of c ≡ 0) ⊎ (unit_of (kind_of c) ≡ c)
kind_back c = elim (cases_eq c 38) [
  | inl e ↦ inr (subst (λ x. unit_of (kind_of x) ≡ x) (sym e) refl)
  | inr m ↦ elim (cases_eq c 96) [
    | inl e ↦ inr (subst (λ x. unit_of (kind_of x) ≡ x) (sym e) refl)
    | inr n ↦ elim (cases_eq c 39) [
      | inl e ↦ inr (subst (λ x. unit_of (kind_of x) ≡ x) (sym e) refl)
      | inr o ↦ digit_back c m n o
    ]
  ]
]

none_some : (us : List ℕ) → None ≡ Some us → ⊥
none_some us e = cc

-- ---- fronts

front_alone : (u : ℕ) → Front (u ∷ []) 0 1
front_alone u = record { some = omega arith; within = omega arith; is_kind = omega arith; next = λ k. refl }

front_named : (u c : ℕ) (us : List ℕ) → eqb u 36 ≡ true → Front (u ∷ c ∷ us) (kind_of c) 2
front_named u c us t = record {
  some = omega arith;
  within = omega arith;
  is_kind = kind_small c;
  next = λ k. ap (λ b. cond b (cond (eqb k (kind_of c)) (length (u ∷ c ∷ us)) (next_of k us)) (cond (eqb k 0) (length (u ∷ c ∷ us)) (next_of k (c ∷ us)))) t;
}

front_unit : (u c : ℕ) (us : List ℕ) → eqb u 36 ≡ false → Front (u ∷ c ∷ us) 0 1
front_unit u c us t = record {
  some = omega arith;
  within = omega arith;
  is_kind = omega arith;
  next = λ k. ap (λ b. cond b (cond (eqb k (kind_of c)) (length (u ∷ c ∷ us)) (next_of k us)) (cond (eqb k 0) (length (u ∷ c ∷ us)) (next_of k (c ∷ us)))) t;
}

module _ (us : List ℕ) (kind size : ℕ) (front : Front us kind size) where
  at_kind : next_of kind us ≡ length us
  at_kind = front.next kind ∙ ap (λ b. cond b (length us) (next_of kind (drop size us))) (eq-eqb kind kind refl)

  other_kind : (k : ℕ) → (k ≡ kind → ⊥) → next_of k us ≡ next_of k (drop size us)
  other_kind k n = front.next k ∙ ap (λ b. cond b (length us) (next_of k (drop size us))) (ne_eqb k kind n)

  next_within : (k : ℕ) → next_of k (drop size us) ≤ length (drop size us) → next_of k us ≤ length us
  next_within k h = elim (cases_eq k kind) [
    | inl e ↦ let same : next_of k us ≡ next_of kind us = ap (λ x. next_of x us) e in omega (arith, at_kind)
    | inr n ↦ omega (arith, other_kind k n, length-drop size us)
  ]

next_le : (k : ℕ) (us : List ℕ) → next_of k us ≤ length us
next_le k [] = omega arith
next_le k (u ∷ []) = next_within (u ∷ []) 0 1 (front_alone u) k (next_le k [])
next_le k (u ∷ c ∷ us) = elim (cases_Bool (eqb u 36)) [
  | inl t ↦ next_within (u ∷ c ∷ us) (kind_of c) 2 (front_named u c us t) k (next_le k us)
  | inr t ↦ next_within (u ∷ c ∷ us) 0 1 (front_unit u c us t) k (next_le k (c ∷ us))
]

-- ---- the next place of a part that isn't empty

module _ (text : List ℕ) (f : Found) where
  zero_full : Empty text f 0 → ⊥
  zero_full h = none_some [] h

  empty_named : (c : ℕ) → Empty text f (kind_of c) → named text f c ≡ Some []
  empty_named c h = elim (kind_back c) [
    | inl z ↦ absurd (zero_full (subst (Empty text f) z h))
    | inr e ↦ subst (λ x. named text f x ≡ Some []) e h
  ]

  empty_front : (u c : ℕ) (us : List ℕ) → eqb u 36 ≡ true → Empty text f (kind_of c) → expanded text f (u ∷ c ∷ us) ≡ expanded text f us
  empty_front u c us t h =
      ap (λ b. cond b (put_in (named text f c) c (expanded text f us)) (u ∷ expanded text f (c ∷ us))) t
      ∙ ap (λ o. put_in o c (expanded text f us)) (empty_named c h)

  -- of so many kinds, no part that isn't empty stands before this place, and one stands there unless it is the end
  pub record Furthest (us : List ℕ) (count most : ℕ) : Type 0 where
    pub above : (k : ℕ) → k < count → Empty text f k ⊎ (next_of k us ≤ most)
    pub reached : (most ≡ 0) ⊎ ((k : ℕ) × (Empty text f k → ⊥) × (most ≡ next_of k us))

  pub furthest_of_none : (us : List ℕ) → Furthest us 0 0
  furthest_of_none us = record { above = λ k b. absurd (omega arith); reached = inl refl }

  module _ (us : List ℕ) (k next most new : ℕ) (h : Furthest us k most) (is_next : next ≡ next_of k us) where
    before : new ≡ most ⊎ most < new → (j : ℕ) → j < k → Empty text f j ⊎ (next_of j us ≤ new)
    before g j b = elim (h.above j b) [
      | inl e ↦ inl e
      | inr le ↦ inr (elim g [ inl same ↦ omega arith | inr more ↦ omega arith ])
    ]

    with_this : (Empty text f k ⊎ (next_of k us ≤ new)) → (new ≡ most ⊎ most < new) → (j : ℕ) → j < k + 1 → Empty text f j ⊎ (next_of j us ≤ new)
    with_this this g j b = elim (cases_eq j k) [
      | inl e ↦ subst (λ x. Empty text f x ⊎ (next_of x us ≤ new)) (sym e) this
      | inr n ↦ before g j (omega arith)
    ]

    stays : (Empty text f k ⊎ (next ≤ most)) → new ≡ most → Furthest us (k + 1) new
    stays this e = record {
      above = with_this (elim this [ inl x ↦ inl x | inr le ↦ inr (omega arith) ]) (inl e);
      reached = elim h.reached [ inl z ↦ inl (e ∙ z) | inr w ↦ inr (w.0, w.1, e ∙ w.2) ];
    }

    moves : (Empty text f k → ⊥) → most < next → new ≡ next → Furthest us (k + 1) new
    moves full more e = record {
      above = with_this (inr (omega arith)) (inr (omega arith));
      reached = inr (k, full, e ∙ is_next);
    }

    pub furthest_next : Further text f k next most new → Furthest us (k + 1) new
    furthest_next d = elim d [ inl a ↦ stays (a.0) (a.1) | inr a ↦ moves (a.0) (a.1) (a.2) ]

  record Skips (us : List ℕ) (most : ℕ) : Type 0 where
    behind : most ≤ length us
    same : expanded text f (last most us) ≡ expanded text f us

  module _ (us : List ℕ) (kind size most : ℕ) (front : Front us kind size) (h : Furthest us 13 most) where
    at_front : length us ≤ most → Skips us most
    at_front g =
        let within : most ≤ length us = elim h.reached [ inl z ↦ omega arith | inr w ↦ omega (arith, next_le w.0 us, w.2) ] in
        let all : most ≡ length us = omega arith in
        record { behind = within; same = ap (λ n. expanded text f (last n us)) all ∙ ap (expanded text f) (last_all us) }

    module _ (empty : Empty text f kind) where
      other : (k : ℕ) → (Empty text f k → ⊥) → next_of k us ≡ next_of k (drop size us)
      other k full = other_kind us kind size front k (λ e. full (subst (Empty text f) (sym e) empty))

      above_rest : (k : ℕ) → k < 13 → Empty text f k ⊎ (next_of k (drop size us) ≤ most)
      above_rest k b = elim (cases_eq k kind) [
        | inl e ↦ inl (subst (Empty text f) (sym e) empty)
        | inr n ↦ elim (h.above k b) [ inl x ↦ inl x | inr le ↦ inr (omega (arith, other_kind us kind size front k n)) ]
      ]

      of_rest : Furthest (drop size us) 13 most
      of_rest = record {
        above = above_rest;
        reached = elim h.reached [ inl z ↦ inl z | inr w ↦ inr (w.0, w.1, w.2 ∙ other w.0 w.1) ];
      }

      behind_front : expanded text f us ≡ expanded text f (drop size us) → Skips (drop size us) most → Skips us most
      behind_front e s =
          let room : most + size ≤ length us = omega (arith, s.behind, front.within, length-drop size us) in
          record {
            behind = omega arith;
            same = ap (expanded text f) (sym (last_drop most size us room)) ∙ s.same ∙ sym e;
          }

    skips_front : (Empty text f kind → expanded text f us ≡ expanded text f (drop size us)) → ((n : ℕ) → Furthest (drop size us) 13 n → Skips (drop size us) n) → Skips us most
    skips_front e rest = elim (h.above kind front.is_kind) [
      | inl empty ↦ behind_front empty (e empty) (rest most (of_rest empty))
      | inr le ↦ at_front (omega (arith, at_kind us kind size front))
    ]

  skips_end : (most : ℕ) → Furthest [] 13 most → Skips [] most
  skips_end most h =
      let none : most ≡ 0 = elim h.reached [ inl z ↦ z | inr w ↦ w.2 ] in
      record { behind = omega arith; same = ap (λ n. expanded text f (last n [])) none }

  skips : (us : List ℕ) (most : ℕ) → Furthest us 13 most → Skips us most
  skips [] most h = skips_end most h
  skips (u ∷ []) most h = skips_front (u ∷ []) 0 1 most (front_alone u) h (λ e. absurd (zero_full e)) (skips [])
  skips (u ∷ c ∷ us) most h = elim (cases_Bool (eqb u 36)) [
    | inl t ↦ skips_front (u ∷ c ∷ us) (kind_of c) 2 most (front_named u c us t) h (empty_front u c us t) (skips us)
    | inr t ↦ skips_front (u ∷ c ∷ us) 0 1 most (front_unit u c us t) h (λ e. absurd (zero_full e)) (skips (c ∷ us))
  ]

  module _ (by : List ℕ) (left most : ℕ) (within : left ≤ length by) (h : Furthest (last left by) 13 most) where
    pub skips_behind : most ≤ left
    skips_behind = omega (arith, (skips (last left by) most h).behind, last_length left by within)

    pub skips_same : expanded text f (last most by) ≡ expanded text f (last left by)
    skips_same = ap (expanded text f) (sym (last_last most left by skips_behind within)) ∙ (skips (last left by) most h).same

  -- a piece is put behind the others, and empty parts behind it are skipped
  module _ (by front piece more : List ℕ) (left : ℕ) (within : left ≤ length by) (is_rest : front ≡ last left by) (shorter : length more < length front) where
    pub more_within : length more < left
    more_within = omega (arith, ap length is_rest, last_length left by within)

    pub expands_on : (all new whole : List ℕ) (next : ℕ) → all ++ expanded text f (last left by) ≡ whole → BeginsWith text f front piece more
        → more ≡ last (length more) front → new ≡ all ++ piece → expanded text f (last next by) ≡ expanded text f (last (length more) by)
        → new ++ expanded text f (last next by) ≡ whole
    expands_on all new whole next same begins rest grown skipped =
        let less : length more ≤ left = omega (arith, more_within) in
        let behind : more ≡ last (length more) by = rest ∙ ap (last (length more)) is_rest ∙ last_last (length more) left by less within in
        let whole_front : expanded text f (last left by) ≡ piece ++ expanded text f more = ap (expanded text f) (sym is_rest) ∙ begins in
        ap (λ us. us ++ expanded text f (last next by)) grown
        ∙ append_assoc all piece (expanded text f (last next by))
        ∙ ap (λ us. all ++ (piece ++ us)) (skipped ∙ sym (ap (expanded text f) behind))
        ∙ ap (λ us. all ++ us) (sym whole_front)
        ∙ same
