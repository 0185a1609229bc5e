-- A match that is found from a place on lies between that place and the text's end.
use Rattle.std.proofs.Common.{◌≡◌, ℕ, zero, suc, ◌+◌, ◌-◌, ◌<◌, ◌≤◌, List, [], ◌∷◌, length, Option, Some, None, Ok, ap, sym, subst, arith}
use Rattle.js_pattern.specs.Tree.{Tree}
use Rattle.js_pattern.specs.Pattern.{PatternTree}
use Rattle.js_pattern.specs.Place.{Subject, At}
use Rattle.js_pattern.specs.Ways.{ways}
use Rattle.js_pattern.specs.Within.{SpansWithin}
use Rattle.js_pattern.specs.Search.{Found, start, first_or, first_match, search_cost, subject_of, match_from, cost_from}
use Rattle.js_regex.specs.Finds.{MatchWithin}
use Rattle.js_regex.proofs.WithinText.{finds_within}

pub record Lies (end at : ℕ) (f : Found) : Type 0 where
  pub begins : at ≤ f.from
  pub order : f.from ≤ (f.end).place
  pub inside : (f.end).place ≤ end
  pub groups : SpansWithin end (f.end).groups

some_places : (s : Subject) (x : Tree) (count more p : ℕ) (f : Found) → first_match s x count more p ≡ Some f → 0 < more
some_places s x count zero p f e = cc
some_places s x count (suc more) p f e = omega arith

first_or_behind : (p : ℕ) (ws : List At) (later : Option Found) (f : Found) → (later ≡ Some f → p + 1 ≤ f.from) → first_or p ws later ≡ Some f → p ≤ f.from
first_or_behind p [] later f h e = let l = h e in omega arith
first_or_behind p (w ∷ ws) later f h e =
    let same : record { from = p; end = w } ≡ f = cc in subst (λ (g : Found). p ≤ g.from) same (omega arith)

first_behind : (s : Subject) (x : Tree) (count more p : ℕ) (f : Found) → first_match s x count more p ≡ Some f → p ≤ f.from
first_behind s x count zero p f e = cc
first_behind s x count (suc more) p f e =
    first_or_behind p (ways s x (start count p)) (first_match s x count more (p + 1)) f (first_behind s x count more (p + 1) f) e

module _ (p : PatternTree) (us : List ℕ) (at : ℕ) where
  pub found_lies : (f : Found) → match_from p us at ≡ Some f → Lies (length us) at f
  found_lies f e =
      let places : 0 < suc (length us) - at = some_places (subject_of p us) p.tree p.groups (suc (length us) - at) at f e in
      let within : MatchWithin (length us) (record { from = f.from; to = (f.end).place; groups = (f.end).groups }) = finds_within p us at (cost_from p us at)
      (Ok (Some (record { from = f.from; to = (f.end).place; groups = (f.end).groups }))) 0 (omega arith) (sym e, omega arith)
      in
      record {
        begins = first_behind (subject_of p us) p.tree p.groups (suc (length us) - at) at f e;
        order = within.0;
        inside = within.1;
        groups = within.2;
      }

  -- behind the end nothing is found, at no cost
  no_places : length us < at → suc (length us) - at ≡ zero
  no_places h = omega arith

  pub none_behind : length us < at → match_from p us at ≡ None
  none_behind h = ap (λ n. first_match (subject_of p us) p.tree p.groups n at) (no_places h)

  pub free_behind : length us < at → cost_from p us at ≡ 0
  free_behind h = ap (λ n. search_cost (subject_of p us) p.tree p.groups n at) (no_places h)
