-- A search, place by place.
use Rattle.std.proofs.Common.{◌≡◌, ℕ, zero, suc, ◌+◌, ◌<◌, ◌≤◌, List, [], ◌∷◌, length, Option, Some, None, Err, refl, ap, sym, subst, ◌∙◌, arith}
use Rattle.js_pattern.specs.declared.flags.Flags.{Flags}
use Rattle.js_pattern.specs.Tree.{Tree}
use Rattle.js_pattern.specs.Pattern.{PatternTree}
use Rattle.js_pattern.specs.Place.{Subject, At}
use Rattle.js_pattern.specs.Ways.{ways}
use Rattle.js_pattern.specs.Walk.{Outcome, found, walk}
use Rattle.js_pattern.specs.Search.{Found, start, first_or, first_match, cost_or, search_cost, places_from, subject_of}
use Rattle.js_pattern.proofs.FirstWay.{first_end, offer_fits}
use Rattle.js_regex.specs.declared.answer.FindAnswer.{FindAnswer}
use Rattle.js_regex.specs.declared.answer.FindAnswer.TheVariants as answer
use Rattle.js_regex.specs.declared.state.State.{State}
use Rattle.js_regex.specs.Finds.{Finds}
use Rattle.js_regex.specs.Runs.{Ran}

first_some : (p : ℕ) (ws : List At) (e : At) (later : Option Found)
    → first_end found ws ≡ Some e → first_or p ws later ≡ Some (record { from = p; end = e })
first_some p [] e later h = cc
first_some p (w ∷ ws) e later h = let same : w ≡ e = cc in ap (λ a. Some (record { from = p; end = a })) same

first_none : (p : ℕ) (ws : List At) (later : Option Found) → first_end found ws ≡ None → first_or p ws later ≡ later
first_none p [] later h = refl
first_none p (w ∷ ws) later h = cc

cost_some : (n : ℕ) (e : Option At) (a : At) (later : ℕ) → e ≡ Some a → cost_or (record { cost = n; end = e }) later ≡ n
cost_some n (Some b) a later h = refl
cost_some n None a later h = cc

cost_none : (n : ℕ) (e : Option At) (later : ℕ) → e ≡ None → cost_or (record { cost = n; end = e }) later ≡ n + later
cost_none n (Some b) later h = cc
cost_none n None later h = refl

cost_least : (n : ℕ) (e : Option At) (later : ℕ) → n ≤ cost_or (record { cost = n; end = e }) later
cost_least n (Some b) later = omega arith
cost_least n None later = omega arith

one_more : (s : Subject) (place : ℕ) → place ≤ length s.text → places_from s place ≡ suc (places_from s (place + 1))
one_more s place h = omega arith

no_more : (s : Subject) (place : ℕ) → length s.text < place → places_from s place ≡ zero
no_more s place h = omega arith

-- the match from a place on, what it costs, and the walk at that place alone
abbrev match_on : Subject → Tree → ℕ → ℕ → Option Found
match_on s x count place = first_match s x count (places_from s place) place

abbrev cost_on : Subject → Tree → ℕ → ℕ → ℕ
cost_on s x count place = search_cost s x count (places_from s place) place

abbrev walk_at : Subject → Tree → ℕ → ℕ → Outcome
walk_at s x count place = walk s x found (start count place)

-- the match and the cost of the whole, by those from a place on
pub record SoFar (s : Subject) (x : Tree) (count from f place g : ℕ) : Type 0 where
  pub same : match_on s x count from ≡ match_on s x count place
  pub cost : cost_on s x count from + g ≡ f + cost_on s x count place
  pub less : g ≤ f

pub so_far_start : (s : Subject) (x : Tree) (count from f : ℕ) → SoFar s x count from f from f
so_far_start s x count from f = record { same = refl; cost = omega arith; less = omega arith }

module _ (s : Subject) (x : Tree) (count from f place g : ℕ) (h : SoFar s x count from f place g) where
  module _ (within : place ≤ length s.text) where
    here_match : match_on s x count place ≡ first_or place (ways s x (start count place)) (match_on s x count (place + 1))
    here_match = ap (λ n. first_match s x count n place) (one_more s place within)

    here_cost : cost_on s x count place ≡ cost_or (walk_at s x count place) (cost_on s x count (place + 1))
    here_cost = ap (λ n. search_cost s x count n place) (one_more s place within)

    -- no way begins here
    pub so_far_missed : (k : ℕ) → ((walk_at s x count place).cost + k ≡ g) × ((walk_at s x count place).end ≡ None)
        → SoFar s x count from f (place + 1) k
    so_far_missed k ran = record {
      same =
          h.same ∙ here_match
          ∙ first_none place (ways s x (start count place)) _ (sym (offer_fits s x found (start count place)) ∙ ran.1);
      cost =
          let c = h.cost in
          let spent = ran.0 in
          let costs = here_cost ∙ cost_none ((walk_at s x count place).cost) ((walk_at s x count place).end) (cost_on s x count (place + 1)) (ran.1) in
          omega arith;
      less = let l = h.less in let spent = ran.0 in omega arith;
    }

    -- the first way from here is found
    pub so_far_found : (k : ℕ) (e : At) → ((walk_at s x count place).cost + k ≡ g) × ((walk_at s x count place).end ≡ Some e)
        → (match_on s x count from ≡ Some (record { from = place; end = e })) × (cost_on s x count from + k ≡ f)
    so_far_found k e ran = (
      h.same ∙ here_match
          ∙ first_some place (ways s x (start count place)) e _ (sym (offer_fits s x found (start count place)) ∙ ran.1),
      (let c = h.cost in
          let spent = ran.0 in
          let costs = here_cost ∙ cost_some ((walk_at s x count place).cost) ((walk_at s x count place).end) e (cost_on s x count (place + 1)) (ran.1) in
          omega arith),
    )

    -- the fuel doesn't suffice here
    pub so_far_spent : (k : ℕ) → (g < (walk_at s x count place).cost) × (k ≤ g) → (f < cost_on s x count from) × (k ≤ f)
    so_far_spent k ran = (
      (let c = h.cost in
          let over = ran.0 in
          let costs = here_cost in
          let least = cost_least ((walk_at s x count place).cost) ((walk_at s x count place).end) (cost_on s x count (place + 1)) in
          omega arith),
      (let l = h.less in let under = ran.1 in omega arith),
    )

  -- no place is left
  pub so_far_end : length s.text < place → (None ≡ match_on s x count from) × (cost_on s x count from + g ≡ f)
  so_far_end past = (
    sym (h.same ∙ ap (λ n. first_match s x count n place) (no_more s place past)),
    (let c = h.cost in
        let costs = ap (λ n. search_cost s x count n place) (no_more s place past) in
        omega arith),
  )

-- a match that is refused ends the search with the same refusal
pub search_refused : (p : PatternTree) (text : List ℕ) (from f place g k : ℕ) (e : FindAnswer) (m : State)
    → (us : List ℕ) (flags : Flags) (x : Tree) (count : ℕ) → us ≡ text → flags ≡ p.flags → x ≡ p.tree → count ≡ p.groups
    → SoFar (subject_of p text) p.tree p.groups from f place g → place ≤ length text
    → Ran (walk_at (record { text = us; flags = flags }) x count place) g (Err e) k m → Finds p text from f (Err e) k
search_refused p text from f place g k answer.Spent m us flags x count eu ef ex ec h within ran =
    let over : g < (walk_at (subject_of p text) p.tree p.groups place).cost = subst
    (λ (o : Outcome). g < o.cost)
    (λ i. walk_at (record { text = eu i; flags = ef i }) (ex i) (ec i) place)
    (ran.0)
    in
    so_far_spent (subject_of p text) p.tree p.groups from f place g h within k (over, ran.1)
search_refused p text from f place g k answer.Memory m us flags x count eu ef ex ec h within ran =
    let under : k ≤ g = ran in let less : g ≤ f = h.less in omega arith
