-- Where a name is bound, a slot stands.
use Rattle.std.proofs.Common.{◌≡◌, ℕ, suc, ◌+◌, ◌<◌, Bool, true, false, cond, List, [], ◌∷◌, length, Option, Some, None, refl, sym, ◌∙◌, ap, arith, add-zero}
use Rattle.std.specs.Prelude.{option_map}
use Rattle.std.specs.Str.{bytes_eq}
use Rattle.std.proofs.lemmas.Bool.{lt-ltb}
use Rattle.js_tree.specs.declared.bound.Bound.{Bound}
use Rattle.js_tree.specs.declared.bound.Bound.TheVariants.{Unbound, Slot, Own, Global}
use Rattle.js_tree.specs.declared.bound.BoundName.{BoundName}
use Rattle.js_binding.specs.Scopes.{Scope, named, itself, place_of, slot_or, binding_from, binding_of, bound_in}
use Rattle.js_binding.specs.Resolved.{around_function}
use Rattle.js_binding.specs.Fits.{has_slot, has_own, bound_fits}

pub around_bound : (scopes inner : List Scope) (own : Option BoundName) → around_function scopes (option_map (bound_in inner) own) ≡ around_function scopes own
around_bound scopes inner None = refl
around_bound scopes inner (Some x) = refl

-- so many scopes further out
abbrev pub further : ℕ → Bound → Bound
further up Unbound = Unbound
further up (Slot n slot) = Slot (up + n) slot
further up (Own n) = Own (up + n)
further up Global = Global

slot_further : (up : ℕ) (o : Option ℕ) (outer outer' : Bound) → outer' ≡ further up outer → slot_or up o outer' ≡ further up (slot_or 0 o outer)
slot_further up None outer outer' h = h
slot_further up (Some slot) outer outer' h = ap (λ n. Slot n slot) (sym (add-zero up))

further-further : (up : ℕ) (b : Bound) → further (suc up) b ≡ further up (further 1 b)
further-further up Unbound = refl
further-further up (Slot n slot) = let e : suc up + n ≡ up + (1 + n) = omega arith in ap (λ m. Slot m slot) e
further-further up (Own n) = let e : suc up + n ≡ up + (1 + n) = omega arith in ap (λ m. Own m) e
further-further up Global = refl

own_further : (up : ℕ) (t : Bool) (outer outer' : Bound) → outer' ≡ further up outer → cond t (Own up) outer' ≡ further up (cond t (Own 0) outer)
own_further up true outer outer' h = ap (λ n. Own n) (sym (add-zero up))
own_further up false outer outer' h = h

-- to look from a scope further out is to look from the first, and to count on
pub binding_further : (up : ℕ) (x : List ℕ) (scopes : List Scope) → binding_from up x scopes ≡ further up (binding_from 0 x scopes)
binding_further up x [] = refl
binding_further up x (named names ∷ around) =
    slot_further up (place_of x names) _ _ (binding_further (suc up) x around ∙ further-further up (binding_from 0 x around) ∙ ap (λ b. further up b) (sym (binding_further 1 x around)))
binding_further up x (itself y ∷ around) =
    own_further up (bytes_eq x y) _ _ (binding_further (suc up) x around ∙ further-further up (binding_from 0 x around) ∙ ap (λ b. further up b) (sym (binding_further 1 x around)))

place_below : (x : List ℕ) (names : List (List ℕ)) (slot : ℕ) → place_of x names ≡ Some slot → slot < length names
place_below x [] slot h = cc
place_below x (y ∷ ys) slot h = by_test (bytes_eq x y) (place_of x ys) h (λ k e. place_below x ys k e)
  where
    by_test : (t : Bool) (o : Option ℕ) → cond t (Some 0) (option_map suc o) ≡ Some slot → ((k : ℕ) → o ≡ Some k → k < length ys) → slot < suc (length ys)
    by_test true o h k = let zero-is : 0 ≡ slot = cc in omega (arith, zero-is)
    by_test false None h k = cc
    by_test false (Some n) h k = let suc-is : suc n ≡ slot = cc in let below : n < length ys = k n refl in omega (arith, suc-is, below)

-- a bound that fits among the outer scopes fits one further out
fits_further : (scope : Scope) (around : List Scope) (b : Bound) → bound_fits around b ≡ true → bound_fits (scope ∷ around) (further 1 b) ≡ true
fits_further (named names) around Unbound h = h
fits_further (named names) around (Slot up slot) h = let e : 1 + up ≡ suc up = omega arith in ap (λ n. has_slot (named names ∷ around) n slot) e ∙ h
fits_further (named names) around (Own up) h = let e : 1 + up ≡ suc up = omega arith in ap (λ n. has_own (named names ∷ around) n) e ∙ h
fits_further (named names) around Global h = refl
fits_further (itself y) around Unbound h = h
fits_further (itself y) around (Slot up slot) h = let e : 1 + up ≡ suc up = omega arith in ap (λ n. has_slot (itself y ∷ around) n slot) e ∙ h
fits_further (itself y) around (Own up) h = let e : 1 + up ≡ suc up = omega arith in ap (λ n. has_own (itself y ∷ around) n) e ∙ h
fits_further (itself y) around Global h = refl

slot_fits : (names : List (List ℕ)) (around : List Scope) (o : Option ℕ) (outer : Bound)
    → ((slot : ℕ) → o ≡ Some slot → slot < length names) → bound_fits (named names ∷ around) outer ≡ true
    → bound_fits (named names ∷ around) (slot_or 0 o outer) ≡ true
slot_fits names around None outer below h = h
slot_fits names around (Some slot) outer below h = lt-ltb slot (length names) (below slot refl)

own_fits_here : (y : List ℕ) (around : List Scope) (t : Bool) (outer : Bound) → bound_fits (itself y ∷ around) outer ≡ true → bound_fits (itself y ∷ around) (cond t (Own 0) outer) ≡ true
own_fits_here y around true outer h = refl
own_fits_here y around false outer h = h

-- Each name is bound to a place that is there.
pub binding_fits : (x : List ℕ) (scopes : List Scope) → bound_fits scopes (binding_of x scopes) ≡ true
binding_fits x [] = refl
binding_fits x (named names ∷ around) =
    slot_fits names around (place_of x names) (binding_from 1 x around) (place_below x names)
    (ap (λ b. bound_fits (named names ∷ around) b) (binding_further 1 x around) ∙ fits_further (named names) around (binding_of x around) (binding_fits x around))
binding_fits x (itself y ∷ around) =
    own_fits_here y around (bytes_eq x y) (binding_from 1 x around)
    (ap (λ b. bound_fits (itself y ∷ around) b) (binding_further 1 x around) ∙ fits_further (itself y) around (binding_of x around) (binding_fits x around))
