-- What is found lies within the text.
use Rattle.std.proofs.Common.{◌≡◌, ℕ, zero, suc, ◌+◌, ◌-◌, ◌≤◌, List, [], ◌∷◌, length, Option, Some, None, Result, Ok, Err, sym, subst, arith}
use Rattle.std.specs.Prelude.{IfOk, IfSome}
use Rattle.js_pattern.specs.Tree.{Tree}
use Rattle.js_pattern.specs.Pattern.{PatternTree}
use Rattle.js_pattern.specs.Place.{Subject, At}
use Rattle.js_pattern.specs.Ways.{ways}
use Rattle.js_pattern.specs.Search.{Found, start, first_or, first_match, subject_of}
use Rattle.js_pattern.specs.Within.{Inside, AllOnward}
use Rattle.js_pattern.proofs.StayWithin.{none_within, ways_stay_within}
use Rattle.js_regex.specs.declared.answer.FindAnswer.{FindAnswer}
use Rattle.js_regex.specs.declared.search.Match.{Match}
use Rattle.js_regex.specs.Finds.{Finds, MatchWithin}

record FoundWithin (s : Subject) (f : Found) : Type 0 where
  order : f.from ≤ (f.end).place
  inside : Inside s (f.end)

inside_start : (s : Subject) (count p : ℕ) → p ≤ length s.text → Inside s (start count p)
inside_start s count p h = record { place = h; groups = none_within (length s.text) count }

first_within : (s : Subject) (count p : ℕ) (ws : List At) (later : Option Found) (f : Found)
    → AllOnward s (start count p) ws → (later ≡ Some f → FoundWithin s f) → first_or p ws later ≡ Some f → FoundWithin s f
first_within s count p [] later f all more e = more e
first_within s count p (w ∷ ws) later f all more e =
    let same : record { from = p; end = w } ≡ f = cc in
    subst (FoundWithin s) same (record { order = (all.0).from; inside = (all.0).inside })

match_within : (s : Subject) (x : Tree) (count more p : ℕ) (f : Found) → p + more ≤ suc (length s.text) → first_match s x count more p ≡ Some f → FoundWithin s f
match_within s x count zero p f h e = cc
match_within s x count (suc more) p f h e =
    first_within s count p (ways s x (start count p)) (first_match s x count more (p + 1)) f
    (ways_stay_within s x (start count p) (inside_start s count p (omega arith)))
    (match_within s x count more (p + 1) f (omega arith))
    e

pub finds_within : (p : PatternTree) (us : List ℕ) (from f : ℕ) (r : Result (Option Match) FindAnswer) (g : ℕ) → from ≤ length us
    → Finds p us from f r g → IfOk r (λ found. IfSome found (MatchWithin (length us)))
finds_within p us from f (Err e) g h l = tt
finds_within p us from f (Ok None) g h l = tt
finds_within p us from f (Ok (Some m)) g h l =
    let w = match_within (subject_of p us) p.tree p.groups (suc (length us) - from) from (record { from = m.from; end = record { place = m.to; groups = m.groups } }) (omega arith) (sym (l.0)) in
    (w.order, w.inside.place, w.inside.groups)
