-- The searches for all matches, one behind the other.
use Rattle.std.proofs.lemmas.Grind.{common_steps}
use Rattle.std.proofs.Common.{◌≡◌, ℕ, zero, suc, ◌+◌, ◌-◌, ◌<◌, ◌≤◌, true, false, cond, List, [], ◌∷◌, ◌++◌, map, take, length, Option, Some, None, Result, Ok, Err, refl, ap, sym, subst, ◌∙◌, arith, append_assoc}
use Rattle.std.proofs.lemmas.Bool.{eqb-false}
use Rattle.std.proofs.lemmas.List.{append-nil, map-append}
use Rattle.std.specs.Prelude.{IfOk, nat_eq}
use Rattle.js_pattern.specs.declared.span.Span.{Span}
use Rattle.js_pattern.specs.Pattern.{PatternTree}
use Rattle.js_pattern.specs.Search.{Found, match_from, cost_from}
use Rattle.js_pattern.specs.Within.{SpansWithin}
use Rattle.js_regex.specs.declared.answer.FindAnswer.{FindAnswer}
use Rattle.js_regex.specs.declared.answer.FindAnswer.TheVariants as answer
use Rattle.js_regex.specs.declared.search.Match.{Match}
use Rattle.js_regex.specs.Finds.{Finds}
use Rattle.pattern_builtins.specs.Costs.{Takes}
use Rattle.pattern_builtins.specs.Pieces.{found_in, wholes, InOrder}
use Rattle.pattern_builtins.specs.Matches.{Searches, next_place, with_next, searches_from, all_searches}
use Rattle.pattern_builtins.proofs.Inside.{Lies, found_lies, none_behind, free_behind}

-- ---- turns

next_behind : (from end : ℕ) → from ≤ end → from < next_place from end
next_behind from end h =
    elim (nat_eq end from) as (λ b. nat_eq end from ≡ b → from < cond b (end + 1) end) [
      | true ↦ λ e. omega arith
      | false ↦ λ e. let other = eqb-false end from e in omega arith
    ] refl

end_before_next : (from end : ℕ) → end ≤ next_place from end
end_before_next from end = elim (nat_eq end from) as (λ b. end ≤ cond b (end + 1) end) [ true ↦ omega arith | false ↦ omega arith ]

abbrev nothing : Searches
nothing = record { found = []; cost = 0 }

with_next_same : (cost from : ℕ) (o : Option Found) (b c : ℕ → Searches)
    → ((f : Found) → o ≡ Some f → b (next_place from (f.end).place) ≡ c (next_place from (f.end).place))
    → with_next cost from o b ≡ with_next cost from o c
with_next_same cost from None b c h = refl
with_next_same cost from (Some f) b c h = ap (λ (s : Searches). record { found = f ∷ s.found; cost = cost + s.cost }) (h f refl)

with_next_least : (cost from : ℕ) (o : Option Found) (b : ℕ → Searches) → cost ≤ (with_next cost from o b).cost
with_next_least cost from None b = omega arith
with_next_least cost from (Some f) b = omega arith

module _ (p : PatternTree) (text : List ℕ) where
  past_the_end : (from : ℕ) (b : ℕ → Searches) → length text < from → with_next (cost_from p text from) from (match_from p text from) b ≡ nothing
  past_the_end from b h = λ i. with_next (free_behind p text from h i) from (none_behind p text from h i) b

  -- more turns than there are places left change nothing
  enough : (n m from : ℕ) → suc (length text) - from ≤ n → suc (length text) - from ≤ m → searches_from n p text from ≡ searches_from m p text from
  enough zero zero from h l = refl
  enough zero (suc m) from h l = sym (past_the_end from _ (omega arith))
  enough (suc n) zero from h l = past_the_end from _ (omega arith)
  enough (suc n) (suc m) from h l =
      with_next_same (cost_from p text from) from (match_from p text from) _ _
      (λ f e.
      let lies = found_lies p text from f e in
      let next = next_behind from (f.end).place (omega arith) in
      enough n m (next_place from (f.end).place) (omega arith) (omega arith))

  pub more_searches : (n : ℕ) → suc (length text) ≤ n → searches_from n p text 0 ≡ all_searches p text
  more_searches n h = enough n (suc (length text)) 0 (omega arith) (omega arith)

  -- the searches from a place on
  abbrev pub later : ℕ → Searches
  later from = searches_from (suc (length text) - from) p text from

  later_is : (from : ℕ) → later from ≡ with_next (cost_from p text from) from (match_from p text from) later
  later_is from =
      enough (suc (length text) - from) (suc (suc (length text) - from)) from (omega arith) (omega arith)
      ∙ with_next_same (cost_from p text from) from (match_from p text from) _ _
      (λ f e.
      let lies = found_lies p text from f e in
      let next = next_behind from (f.end).place (omega arith) in
      enough (suc (length text) - from) (suc (length text) - next_place from (f.end).place) (next_place from (f.end).place) (omega arith) (omega arith))

  later_all : later 0 ≡ all_searches p text
  later_all = let whole : suc (length text) - 0 ≡ suc (length text) = omega arith in ap (λ n. searches_from n p text 0) whole

  -- ---- the matches so far, and the searches from a place on, make up all

  pub record SoFar (f : ℕ) (ms : List Match) (place g : ℕ) : Type 0 where
    pub found : (all_searches p text).found ≡ map found_in ms ++ (later place).found
    pub cost : (all_searches p text).cost + g ≡ f + (later place).cost
    pub less : g ≤ f

  pub so_far_start : (f : ℕ) → SoFar f [] 0 f
  so_far_start f = record {
    found = ap (λ (s : Searches). s.found) (sym later_all);
    cost = let same = ap (λ (s : Searches). s.cost) later_all in omega arith;
    less = omega arith;
  }

  module _ (f : ℕ) (ms : List Match) (place g : ℕ) (h : SoFar f ms place g) where
    least : cost_from p text place ≤ (later place).cost
    least = subst (λ (s : Searches). cost_from p text place ≤ s.cost) (sym (later_is place))
        (with_next_least (cost_from p text place) place (match_from p text place) later)

    pub so_far_refused : {A : Type 0} (right : A → Type 0) (e : FindAnswer) (k : ℕ)
        → Finds p text place g (Err e) k → Takes (all_searches p text).cost right f (Err e) k
    so_far_refused right answer.Spent k l =
        (let c = h.cost in let some = least in let over = l.0 in omega arith, (let under = l.1 in let less = h.less in omega arith))
    so_far_refused right answer.Memory k l = let less = h.less in omega arith

    -- nothing more is found
    pub so_far_ended : (k : ℕ) → Finds p text place g (Ok None) k
        → (map found_in ms ≡ (all_searches p text).found) × ((all_searches p text).cost + k ≡ f)
    so_far_ended k l =
        let last : later place ≡ record { found = []; cost = cost_from p text place } =
        later_is place ∙ (λ i. with_next (cost_from p text place) place (sym (l.0) i) later) in (
          sym (h.found ∙ ap (λ (s : Searches). map found_in ms ++ s.found) last ∙ append-nil (map found_in ms)),
          (let c = h.cost in let costs = ap (λ (s : Searches). s.cost) last in let spent = l.1 in omega arith),
        )

    pub so_far_past : length text < place → (map found_in ms ≡ (all_searches p text).found) × ((all_searches p text).cost + g ≡ f)
    so_far_past past =
        let last : later place ≡ nothing = later_is place ∙ past_the_end place later past in (
          sym (h.found ∙ ap (λ (s : Searches). map found_in ms ++ s.found) last ∙ append-nil (map found_in ms)),
          (let c = h.cost in let costs = ap (λ (s : Searches). s.cost) last in omega arith),
        )

    pub so_far_closer : (k : ℕ) (m : Match) → Finds p text place g (Ok (Some m)) k → place ≤ length text
        → suc (length text) - next_place place m.to < suc (length text) - place
    so_far_closer k m l within =
        let lies = found_lies p text place (found_in m) (sym (l.0)) in
        let next = next_behind place m.to (omega arith) in
        omega arith

    -- one more is found
    pub so_far_found : (k : ℕ) (m : Match) → Finds p text place g (Ok (Some m)) k → SoFar f (ms ++ m ∷ []) (next_place place m.to) k
    so_far_found k m l =
        let next = next_place place m.to in
        let one : later place ≡ record { found = found_in m ∷ (later next).found; cost = cost_from p text place + (later next).cost } =
        later_is place ∙ (λ i. with_next (cost_from p text place) place (sym (l.0) i) later) in
        record {
          found =
              h.found
              ∙ ap (λ (s : Searches). map found_in ms ++ s.found) one
              ∙ sym (append_assoc (map found_in ms) (found_in m ∷ []) (later next).found)
              ∙ ap (λ (fs : List Found). fs ++ (later next).found) (sym (map-append found_in ms (m ∷ [])));
          cost = let c = h.cost in let costs = ap (λ (s : Searches). s.cost) one in let spent = l.1 in omega arith;
          less = let less = h.less in let spent = l.1 in omega arith;
        }

  -- ---- all lie in order

  ordered : (at place : ℕ) (o : Option Found) (cost : ℕ) (b : ℕ → Searches) (ms : List Match)
      → at ≤ place → at ≤ length text → ((f : Found) → o ≡ Some f → Lies (length text) place f)
      → ((end next : ℕ) (rest : List Match) → end ≤ next → end ≤ length text → map found_in rest ≡ (b next).found → InOrder (length text) end rest)
      → map found_in ms ≡ (with_next cost place o b).found → InOrder (length text) at ms
  ordered at place None cost b [] h l lies rest e = l
  ordered at place None cost b (m ∷ ms) h l lies rest e = cc
  ordered at place (Some f) cost b [] h l lies rest e = cc
  ordered at place (Some f) cost b (m ∷ ms) h l lies rest e =
      let same : f ≡ found_in m = cc in
      let those : map found_in ms ≡ (b (next_place place (f.end).place)).found = cc in
      let here : Lies (length text) place (found_in m) = subst (Lies (length text) place) same (lies f refl) in
      let behind : map found_in ms ≡ (b (next_place place m.to)).found =
      those ∙ ap (λ (g : Found). (b (next_place place (g.end).place)).found) same in (
        (let b = here.begins in omega arith),
        (here.order, here.inside, here.groups),
        rest m.to (next_place place m.to) ms (end_before_next place m.to) here.inside behind,
      )

  in_order : (n at place : ℕ) (ms : List Match) → at ≤ place → at ≤ length text → map found_in ms ≡ (searches_from n p text place).found → InOrder (length text) at ms
  in_order zero at place [] h l e = l
  in_order zero at place (m ∷ ms) h l e = cc
  in_order (suc n) at place ms h l e =
      ordered at place (match_from p text place) (cost_from p text place) (λ next. searches_from n p text next) ms h l
      (found_lies p text place) (λ end next rest. in_order n end next rest) e

  pub all_in_order : (r : Result (List Match) FindAnswer) (f g : ℕ)
      → Takes (all_searches p text).cost (λ ms. map found_in ms ≡ (all_searches p text).found) f r g → IfOk r (InOrder (length text) 0)
  all_in_order (Ok ms) f g h = in_order (suc (length text)) 0 0 ms (omega arith) (omega arith) (h.0)
  all_in_order (Err e) f g h = tt

-- ---- whole matches in order are parts of the text

whole_ones : (end at : ℕ) (ms : List Match) → InOrder end at ms → SpansWithin end (wholes (map found_in ms))
whole_ones end at [] h = tt
whole_ones end at (m ∷ ms) h = ((h.1.0, h.1.1), whole_ones end m.to ms (h.2))

-- and so are those of as many as there are
pub wholes_within : (ms : List Match) (ps : List (Option Span)) (n : ℕ) → ps ≡ wholes (map found_in (take n ms)) → length ms ≤ n
    → (end : ℕ) → InOrder end 0 ms → SpansWithin end ps
wholes_within ms ps n e h end order =
    let all : take n ms ≡ ms = grind (arith, common_steps) in
    subst (SpansWithin end) (sym (e ∙ ap (λ (ks : List Match). wholes (map found_in ks)) all)) (whole_ones end 0 ms order)
