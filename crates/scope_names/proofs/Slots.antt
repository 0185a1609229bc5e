-- The places of names in a list, as the index of a scope has them.
use Rattle.std.proofs.Common.{◌≡◌, ℕ, suc, List, [], ◌∷◌, ◌++◌, length, Bool, true, false, ◌||◌, cond, Option, Some, None, is_some, sym, ap, ◌∙◌, refl, ⊎_elim}
use Rattle.std.specs.Prelude.{option_map}
use Rattle.std.specs.Ordering.{nat_cmp, is_eq}
use Rattle.std.specs.Cmp.Lexicographic.{slice_cmp}
use Rattle.std.specs.List.{list_any}
use Rattle.std.specs.Str.{bytes_eq}
use Rattle.std.proofs.lemmas.Bool.{cases_Bool}
use Rattle.std.proofs.lemmas.Map.Text.{is_eq-slice_cmp}
use Rattle.std.proofs.lemmas.Slice.Eq.{bytes_eq-Decides}
use Rattle.utf16_text.specs.Comparing.{numbers_equal}
use Rattle.js_binding.specs.Names.{with_name}
use Rattle.js_binding.specs.Scopes.{place_of}
use Rattle.scope_names.specs.Index.{IsIndex, IsPut}

pub put_from : (before : List ℕ → Option ℕ) (name : List ℕ) (slot : ℕ) (after : List ℕ → Option ℕ)
    → ((x : List ℕ) → after x ≡ cond (is_eq (slice_cmp nat_cmp name x)) (Some slot) (before x)) → IsPut before name slot after
put_from before name slot after is x = is x ∙ ap (λ b. cond b (Some slot) (before x)) (is_eq-slice_cmp name x)

some_suc : (o : Option ℕ) → is_some (option_map suc o) ≡ is_some o
some_suc None = refl
some_suc (Some n) = refl

has_cond : (t : Bool) (o : Option ℕ) (rest : Bool) → is_some o ≡ rest → is_some (cond t (Some 0) (option_map suc o)) ≡ (t || rest)
has_cond true o rest h = refl
has_cond false o rest h = some_suc o ∙ h

-- a name has a place where it is in the list
pub has_place : (x : List ℕ) (names : List (List ℕ)) → is_some (place_of x names) ≡ list_any (bytes_eq x) names
has_place x [] = refl
has_place x (y ∷ ys) = has_cond (bytes_eq x y) (place_of x ys) (list_any (bytes_eq x) ys) (has_place x ys)

-- the name at the end is found behind those that are others
end_cond : (t u : Bool) (o p : Option ℕ) (n : ℕ) → (o ≡ None → p ≡ cond u (Some n) None) → cond t (Some 0) (option_map suc o) ≡ None
    → cond t (Some 0) (option_map suc p) ≡ cond u (Some (suc n)) None
end_cond true u o p n h none = cc
end_cond false true None p n h none = ap (λ q. option_map suc q) (h refl)
end_cond false false None p n h none = ap (λ q. option_map suc q) (h refl)
end_cond false true (Some m) p n h none = cc
end_cond false false (Some m) p n h none = cc

new_place : (x name : List ℕ) (names : List (List ℕ)) → place_of x names ≡ None → place_of x (names ++ name ∷ []) ≡ cond (bytes_eq x name) (Some (length names)) None
new_place x name [] none = refl
new_place x name (y ∷ ys) none = end_cond (bytes_eq x y) (bytes_eq x name) (place_of x ys) (place_of x (ys ++ name ∷ [])) (length ys) (new_place x name ys) none

old_cond : (t : Bool) (o p : Option ℕ) (n : ℕ) → cond t (Some 0) (option_map suc o) ≡ Some n → ((m : ℕ) → o ≡ Some m → p ≡ Some m)
    → cond t (Some 0) (option_map suc p) ≡ Some n
old_cond true o p n some h = some
old_cond false None p n some h = cc
old_cond false (Some m) p n some h = ap (λ q. option_map suc q) (h m refl) ∙ some

old_place : (x name : List ℕ) (names : List (List ℕ)) (n : ℕ) → place_of x names ≡ Some n → place_of x (names ++ name ∷ []) ≡ Some n
old_place x name [] n some = cc
old_place x name (y ∷ ys) n some = old_cond (bytes_eq x y) (place_of x ys) (place_of x (ys ++ name ∷ [])) n some (old_place x name ys)

-- one more name, which was not there
pub index_more : (before after : List ℕ → Option ℕ) (names : List (List ℕ)) (name : List ℕ)
    → IsIndex before names → place_of name names ≡ None → IsPut before name (length names) after → IsIndex after (names ++ name ∷ [])
index_more before after names name index none put x =
    put x ∙ by_place (place_of x names) refl
  where
    at_old : (n : ℕ) → place_of x names ≡ Some n → bytes_eq name x ≡ false
    at_old n some =
        ⊎_elim
        (λ same. absurd (apart (ap (λ y. place_of y names) ((bytes_eq-Decides name x).0 same) ∙ some)))
        (λ other. other)
        (cases_Bool (bytes_eq name x))
      where
        apart : place_of name names ≡ Some n → ⊥
        apart h = let bad : None ≡ Some n = sym none ∙ h in cc

    by_place : (o : Option ℕ) → place_of x names ≡ o → cond (bytes_eq name x) (Some (length names)) (before x) ≡ place_of x (names ++ name ∷ [])
    by_place None e =
        ap (λ p. cond (bytes_eq name x) (Some (length names)) p) (index x ∙ e)
        ∙ ap (λ b. cond b (Some (length names)) None) (numbers_equal.symm name x)
        ∙ sym (new_place x name names e)
    by_place (Some n) e =
        ap (λ b. cond b (Some (length names)) (before x)) (at_old n e) ∙ index x ∙ e ∙ sym (old_place x name names n e)

-- a name that is there is not put in
pub with_old : (names : List (List ℕ)) (name : List ℕ) → is_some (place_of name names) ≡ true → with_name names name ≡ names
with_old names name h = ap (λ b. cond b names (names ++ name ∷ [])) (sym (has_place name names) ∙ h)

pub with_new : (names : List (List ℕ)) (name : List ℕ) → is_some (place_of name names) ≡ false → with_name names name ≡ names ++ name ∷ []
with_new names name h = ap (λ b. cond b names (names ++ name ∷ [])) (sym (has_place name names) ∙ h)

pub no_place : (o : Option ℕ) → is_some o ≡ false → o ≡ None
no_place None h = refl
no_place (Some n) h = cc
