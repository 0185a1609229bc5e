-- The searches for the pieces of a text.
use Rattle.std.proofs.Common.{◌≡◌, ℕ, zero, suc, ◌+◌, ◌-◌, ◌*◌, ◌<◌, ◌≤◌, Bool, true, false, cond, List, [], ◌∷◌, ◌++◌, length, Option, Some, None, Result, Ok, Err, refl, ap, sym, subst, ◌∙◌, arith}
use Rattle.std.proofs.lemmas.Bool.{eqb-true, eqb-false, eq-eqb, ne_eqb, ltb-true, le-ltb, lt-ltb}
use Rattle.std.specs.Prelude.{IfOk, nat_eq, nat_lt}
use Rattle.js_pattern.specs.declared.span.Span.{Span}
use Rattle.js_pattern.specs.Pattern.{PatternTree}
use Rattle.js_pattern.specs.Search.{Found, match_from, cost_from}
use Rattle.js_pattern.specs.Within.{SpansWithin}
use Rattle.js_regex.specs.declared.answer.FindAnswer.{FindAnswer}
use Rattle.js_regex.specs.declared.answer.FindAnswer.TheVariants as answer
use Rattle.js_regex.specs.declared.search.Match.{Match}
use Rattle.js_regex.specs.Finds.{found_of}
use Rattle.pattern_builtins.specs.Costs.{Takes}
use Rattle.pattern_builtins.specs.Pieces.{found_in, piece}
use Rattle.pattern_builtins.specs.Putting.{Puts}
use Rattle.pattern_builtins.specs.Splitting.{
  Splits,
  pieces_alone,
  and_cost,
  and_piece,
  within_limit,
  begins_before,
  match_before_end,
  cost_before_end,
  parted,
  split_at,
  piece_of_empty,
  splits_from,
  splits_of,
}
use Rattle.pattern_builtins.proofs.Inside.{found_lies}
use Rattle.pattern_builtins.proofs.Puts.{puts}

-- ---- matches before the end

begins_some : (b : Bool) (g f : Found) → cond b (Some g) None ≡ Some f → (b ≡ true) × (g ≡ f)
begins_some true g f e = (refl, cc)
begins_some false g f e = cc

record Before (end : ℕ) (o : Option Found) (f : Found) : Type 0 where
  found : o ≡ Some f
  before : f.from < end

begins_is : (end : ℕ) (o : Option Found) (f : Found) → begins_before end o ≡ Some f → Before end o f
begins_is end None f e = cc
begins_is end (Some g) f e =
    let both = begins_some (nat_lt g.from end) g f e in
    let below = ltb-true g.from end (both.0) in
    record { found = ap Some (both.1); before = subst (λ (x : Found). x.from < end) (both.1) below }

begins_none : (end : ℕ) (o : Option Found) → ((f : Found) → o ≡ Some f → end ≤ f.from) → begins_before end o ≡ None
begins_none end None h = refl
begins_none end (Some f) h = ap (λ b. cond b (Some f) None) (le-ltb f.from end (h f refl))

within_limit_same : (limit : ℕ) (ps : List (Option Span)) (b c : ℕ → Splits) → ((left : ℕ) → b left ≡ c left) → within_limit limit ps b ≡ within_limit limit ps c
within_limit_same zero ps b c h = refl
within_limit_same (suc limit) [] b c h = h (suc limit)
within_limit_same (suc limit) (x ∷ ps) b c h = ap (and_piece x) (within_limit_same limit ps b c h)

parted_same : (t : Bool) (limit from : ℕ) (f : Found) (b c : ℕ → ℕ → ℕ → Splits)
    → (t ≡ true → b limit from (f.from + 1) ≡ c limit from (f.from + 1))
    → (t ≡ false → (left : ℕ) → b left (f.end).place (f.end).place ≡ c left (f.end).place (f.end).place)
    → parted t limit from f b ≡ parted t limit from f c
parted_same true limit from f b c h l = h refl
parted_same false limit from f b c h l = within_limit_same limit (piece from f.from ∷ (f.end).groups) _ _ (l refl)

split_same : (end limit from : ℕ) (o : Option Found) (b c : ℕ → ℕ → ℕ → Splits)
    → ((f : Found) → o ≡ Some f → (f.end).place ≡ from → b limit from (f.from + 1) ≡ c limit from (f.from + 1))
    → ((f : Found) → o ≡ Some f → ((f.end).place ≡ from → ⊥) → (left : ℕ) → b left (f.end).place (f.end).place ≡ c left (f.end).place (f.end).place)
    → split_at end limit from o b ≡ split_at end limit from o c
split_same end limit from None b c h l = refl
split_same end limit from (Some f) b c h l =
    parted_same (nat_eq (f.end).place from) limit from f b c
    (λ e. h f refl (eqb-true (f.end).place from e))
    (λ e. l f refl (eqb-false (f.end).place from e))

-- ---- turns

module _ (p : PatternTree) (text : List ℕ) where
  record Ahead (at : ℕ) (f : Found) : Type 0 where
    begins : at ≤ f.from
    order : f.from ≤ (f.end).place
    inside : (f.end).place ≤ length text
    before : f.from < length text
    groups : SpansWithin (length text) (f.end).groups

  ahead : (at : ℕ) (f : Found) → match_before_end p text at ≡ Some f → Ahead at f
  ahead at f e =
      let b = begins_is (length text) (match_from p text at) f e in
      let l = found_lies p text at f b.found in
      record { begins = l.begins; order = l.order; inside = l.inside; before = b.before; groups = l.groups }

  none_at_end : (at : ℕ) → length text ≤ at → match_before_end p text at ≡ None
  none_at_end at h = begins_none (length text) (match_from p text at) (λ f e. let l = found_lies p text at f e in let b = l.begins in omega arith)

  free_at_end : (at : ℕ) → length text ≤ at → cost_before_end p text at ≡ 0
  free_at_end at h = ap (λ b. cond b (cost_from p text at) 0) (le-ltb at (length text) h)

  paid : (at : ℕ) → at < length text → cost_before_end p text at ≡ cost_from p text at
  paid at h = ap (λ b. cond b (cost_from p text at) 0) (lt-ltb at (length text) h)

  at_the_end : (limit from at : ℕ) (b : ℕ → ℕ → ℕ → Splits) → length text ≤ at
      → and_cost (cost_before_end p text at) (split_at (length text) limit from (match_before_end p text at) b) ≡ pieces_alone (piece from (length text) ∷ [])
  at_the_end limit from at b h = λ i. and_cost (free_at_end at h i) (split_at (length text) limit from (none_at_end at h i) b)

  abbrev pub remaining : ℕ → ℕ → ℕ
  remaining from at = (length text - from) + (length text - at)

  -- more turns than there are units left make no difference
  enough : (n m limit from at : ℕ) → from ≤ at → at ≤ length text → remaining from at ≤ n → remaining from at ≤ m
      → splits_from n p text limit from at ≡ splits_from m p text limit from at
  enough zero zero limit from at o h k l = refl
  enough zero (suc m) limit from at o h k l = sym (at_the_end limit from at _ (omega arith))
  enough (suc n) zero limit from at o h k l = at_the_end limit from at _ (omega arith)
  enough (suc n) (suc m) limit from at o h k l =
      ap (and_cost (cost_before_end p text at))
      (split_same (length text) limit from (match_before_end p text at) _ _
      (λ f e same. let a = ahead at f e in enough n m limit from (f.from + 1) (omega arith) (omega arith) (omega arith) (omega arith))
      (λ f e other left. let a = ahead at f e in enough n m left (f.end).place (f.end).place (omega arith) (omega arith) (omega arith) (omega arith)))

  pub more_turns : (limit n : ℕ) → 2 * length text ≤ n → splits_from n p text limit 0 0 ≡ splits_from (2 * length text) p text limit 0 0
  more_turns limit n h = enough n (2 * length text) limit 0 0 (omega arith) (omega arith) (omega arith) (omega arith)

  -- the pieces from a place on
  abbrev pub rest : ℕ → ℕ → ℕ → Splits
  rest limit from at = splits_from (remaining from at) p text limit from at

  rest_is : (limit from at : ℕ) → from ≤ at → at ≤ length text
      → rest limit from at ≡ and_cost (cost_before_end p text at) (split_at (length text) limit from (match_before_end p text at) rest)
  rest_is limit from at o h =
      enough (remaining from at) (suc (remaining from at)) limit from at o h (omega arith) (omega arith)
      ∙ ap (and_cost (cost_before_end p text at))
      (split_same (length text) limit from (match_before_end p text at) _ _
      (λ f e same. let a = ahead at f e in
      enough (remaining from at) (remaining from (f.from + 1)) limit from (f.from + 1) (omega arith) (omega arith) (omega arith) (omega arith))
      (λ f e other left. let a = ahead at f e in
      enough (remaining from at) (remaining (f.end).place (f.end).place) left (f.end).place (f.end).place (omega arith) (omega arith) (omega arith) (omega arith)))

  abbrev whole : ℕ → Splits
  whole limit = splits_from (2 * length text) p text limit 0 0

  rest_whole : (limit : ℕ) → rest limit 0 0 ≡ whole limit
  rest_whole limit = let turns : remaining 0 0 ≡ 2 * length text = omega arith in ap (λ n. splits_from n p text limit 0 0) turns

  -- ---- the pieces so far, and those from a place on, make up the whole

  pub record SoFar (limit f : ℕ) (ps : List (Option Span)) (from at g : ℕ) : Type 0 where
    pub pieces : (whole limit).pieces ≡ ps ++ (rest (limit - length ps) from at).pieces
    pub cost : (whole limit).cost + g ≡ f + (rest (limit - length ps) from at).cost
    pub less : g ≤ f
    pub room : length ps < limit
    pub order : from ≤ at
    pub inside : at ≤ length text

  pub so_far_start : (limit f : ℕ) → 0 < limit → SoFar limit f [] 0 0 f
  so_far_start limit f some =
      let left : limit - 0 ≡ limit = omega arith in
      let same : rest (limit - 0) 0 0 ≡ whole limit = ap (λ n. rest n 0 0) left ∙ rest_whole limit in
      record {
        pieces = ap (λ (s : Splits). s.pieces) (sym same);
        cost = let costs = ap (λ (s : Splits). s.cost) same in omega arith;
        less = omega arith;
        room = some;
        order = omega arith;
        inside = omega arith;
      }

  module _ (limit f : ℕ) (ps : List (Option Span)) (from at g : ℕ) (h : SoFar limit f ps from at g) where
    here : rest (limit - length ps) from at
        ≡ and_cost (cost_before_end p text at) (split_at (length text) (limit - length ps) from (match_before_end p text at) rest)
    here = rest_is (limit - length ps) from at h.order h.inside

    pub so_far_refused : {A B : Type 0} (any : A → Type 0) (right : B → Type 0) (e : FindAnswer) (k : ℕ)
        → Takes (cost_before_end p text at) any g (Err e) k → Takes (whole limit).cost right f (Err e) k
    so_far_refused any right answer.Spent k l = (
      (let c = h.cost in let costs = ap (λ (s : Splits). s.cost) here in let over = l.0 in omega arith),
      (let less = h.less in let under = l.1 in omega arith),
    )
    so_far_refused any right answer.Memory k l = let less = h.less in omega arith

    pub so_far_ended : (k : ℕ) → (None ≡ match_before_end p text at) × (cost_before_end p text at + k ≡ g)
        → (ps ++ piece from (length text) ∷ [] ≡ (whole limit).pieces) × ((whole limit).cost + k ≡ f)
    so_far_ended k l =
        let last : rest (limit - length ps) from at ≡ and_cost (cost_before_end p text at) (pieces_alone (piece from (length text) ∷ [])) =
        here ∙ (λ i. and_cost (cost_before_end p text at) (split_at (length text) (limit - length ps) from (sym (l.0) i) rest)) in (
          sym (h.pieces ∙ ap (λ (s : Splits). ps ++ s.pieces) last),
          (let c = h.cost in let costs = ap (λ (s : Splits). s.cost) last in let spent = l.1 in omega arith),
        )

    module _ (k : ℕ) (m : Match) (l : (found_of (Some m) ≡ match_before_end p text at) × (cost_before_end p text at + k ≡ g)) where
      next_is : (t : Bool) → nat_eq m.to from ≡ t
          → rest (limit - length ps) from at ≡ and_cost (cost_before_end p text at) (parted t (limit - length ps) from (found_in m) rest)
      next_is t e =
          here
          ∙ (λ i. and_cost (cost_before_end p text at) (split_at (length text) (limit - length ps) from (sym (l.0) i) rest))
          ∙ ap (λ b. and_cost (cost_before_end p text at) (parted b (limit - length ps) from (found_in m) rest)) e

      ahead_of : Ahead at (found_in m)
      ahead_of = ahead at (found_in m) (sym (l.0))

      -- a match that parts nothing
      pub so_far_moved : m.to ≡ from → SoFar limit f ps from (m.from + 1) k
      so_far_moved same =
          let next = next_is true (eq-eqb m.to from same) in
          let a = ahead_of in
          record {
            pieces = h.pieces ∙ ap (λ (s : Splits). ps ++ s.pieces) next;
            cost = let c = h.cost in let costs = ap (λ (s : Splits). s.cost) next in let spent = l.1 in omega arith;
            less = let less = h.less in let spent = l.1 in omega arith;
            room = h.room;
            order = let o = h.order in omega arith;
            inside = omega arith;
          }

      pub moved_closer : remaining from (m.from + 1) < remaining from at
      moved_closer = let a = ahead_of in omega arith

      abbrev behind : ℕ → Splits
      behind left = rest left m.to m.to

      module _ (other : m.to ≡ from → ⊥) where
        cut : rest (limit - length ps) from at
            ≡ and_cost (cost_before_end p text at) (within_limit (limit - length ps) (piece from m.from ∷ m.groups) behind)
        cut = next_is false (ne_eqb m.to from other)

        pub parted_closer : remaining m.to m.to < remaining from at
        parted_closer = let a = ahead_of in let o = h.order in omega arith

        -- the limit is reached
        pub so_far_full : (new : List (Option Span)) (b : Bool) → Puts limit (piece from m.from ∷ m.groups) ps b new → b ≡ false
            → (new ≡ (whole limit).pieces) × ((whole limit).cost + k ≡ f)
        so_far_full new b some e =
            let last = (puts limit (piece from m.from ∷ m.groups) ps new b false some e) behind in (
              sym (h.pieces ∙ ap (λ (s : Splits). ps ++ s.pieces) cut ∙ ap (λ (s : Splits). s.pieces) last),
              (let c = h.cost in
                  let costs = ap (λ (s : Splits). s.cost) cut in
                  let lasts = ap (λ (s : Splits). s.cost) last in
                  let spent = l.1 in omega arith),
            )

        -- there is room for more
        pub so_far_parted : (new : List (Option Span)) (b : Bool) → Puts limit (piece from m.from ∷ m.groups) ps b new → b ≡ true
            → SoFar limit f new m.to m.to k
        so_far_parted new b some e =
            let put = puts limit (piece from m.from ∷ m.groups) ps new b true some e in
            let last = (put.1) behind in
            let a = ahead_of in
            record {
              pieces = h.pieces ∙ ap (λ (s : Splits). ps ++ s.pieces) cut ∙ ap (λ (s : Splits). s.pieces) last;
              cost = let c = h.cost in
                  let costs = ap (λ (s : Splits). s.cost) cut in
                  let lasts = ap (λ (s : Splits). s.cost) last in
                  let spent = l.1 in omega arith;
              less = let less = h.less in let spent = l.1 in omega arith;
              room = put.0;
              order = omega arith;
              inside = a.inside;
            }

  -- ---- all pieces lie within the text

  limit_within : (limit : ℕ) (ps : List (Option Span)) (b : ℕ → Splits) → SpansWithin (length text) ps
      → ((left : ℕ) → SpansWithin (length text) (b left).pieces) → SpansWithin (length text) (within_limit limit ps b).pieces
  limit_within zero ps b h l = tt
  limit_within (suc limit) [] b h l = l (suc limit)
  limit_within (suc limit) (x ∷ ps) b h l = (h.0, limit_within limit ps b (h.1) l)

  parted_within : (t : Bool) (limit from at : ℕ) (f : Found) (b : ℕ → ℕ → ℕ → Splits) → nat_eq (f.end).place from ≡ t → from ≤ at → Ahead at f
      → ((left from at : ℕ) → from ≤ at → at ≤ length text → SpansWithin (length text) (b left from at).pieces)
      → SpansWithin (length text) (parted t limit from f b).pieces
  parted_within true limit from at f b e o a h = h limit from (f.from + 1) (omega arith) (omega arith)
  parted_within false limit from at f b e o a h =
      limit_within limit (piece from f.from ∷ (f.end).groups) _ ((omega arith, omega arith), a.groups)
      (λ left. h left (f.end).place (f.end).place (omega arith) a.inside)

  split_within : (limit from at : ℕ) (o : Option Found) (b : ℕ → ℕ → ℕ → Splits) → from ≤ at → at ≤ length text → ((f : Found) → o ≡ Some f → Ahead at f)
      → ((left from at : ℕ) → from ≤ at → at ≤ length text → SpansWithin (length text) (b left from at).pieces)
      → SpansWithin (length text) (split_at (length text) limit from o b).pieces
  split_within limit from at None b o l a h = ((omega arith, omega arith), tt)
  split_within limit from at (Some f) b o l a h = parted_within (nat_eq (f.end).place from) limit from at f b refl o (a f refl) h

  from_within : (n limit from at : ℕ) → from ≤ at → at ≤ length text → SpansWithin (length text) (splits_from n p text limit from at).pieces
  from_within zero limit from at o l = ((omega arith, omega arith), tt)
  from_within (suc n) limit from at o l =
      split_within limit from at (match_before_end p text at) (λ left from at. splits_from n p text left from at) o l (ahead at)
      (λ left from at. from_within n left from at)

empty_within : (o : Option Found) → SpansWithin 0 (piece_of_empty o)
empty_within None = ((omega arith, omega arith), tt)
empty_within (Some f) = tt

splits_within : (p : PatternTree) (text : List ℕ) (limit : ℕ) → SpansWithin (length text) (splits_of p text limit).pieces
splits_within p text zero = tt
splits_within p [] (suc limit) = empty_within (match_from p [] 0)
splits_within p (u ∷ us) (suc limit) = from_within p (u ∷ us) (2 * length (u ∷ us)) (suc limit) 0 0 (omega arith) (omega arith)

pub takes_within : (p : PatternTree) (text : List ℕ) (limit f g : ℕ) (r : Result (List (Option Span)) FindAnswer)
    → Takes (splits_of p text limit).cost (λ ps. ps ≡ (splits_of p text limit).pieces) f r g → IfOk r (SpansWithin (length text))
takes_within p text limit f g (Ok ps) h = subst (SpansWithin (length text)) (sym (h.0)) (splits_within p text limit)
takes_within p text limit f g (Err e) h = tt
