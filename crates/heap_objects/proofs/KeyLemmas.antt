-- Names that were seen.
use Rattle.std.proofs.Common.{◌≡◌, ℕ, List, [], ◌∷◌, ◌++◌, Bool, true, false, ◌||◌, cond, sym, ap, ◌∙◌, ⊎_elim}
use Rattle.std.specs.Ordering.{nat_cmp, is_eq}
use Rattle.std.specs.Cmp.Lexicographic.{slice_cmp}
use Rattle.std.specs.List.{list_any}
use Rattle.std.specs.Str.{bytes_eq}
use Rattle.std.proofs.lemmas.Bool.{cases_Bool}
use Rattle.std.proofs.lemmas.List.Folds.{list_any-append}
use Rattle.std.proofs.lemmas.Map.Text.{is_eq-slice_cmp}
use Rattle.utf16_text.specs.Comparing.{numbers_equal}
use Rattle.heap_objects.specs.Keys.{HasSeen, IsMarked}

pub marked_from : (before : List ℕ → Bool) (name : List ℕ) (mark : Bool) (after : List ℕ → Bool) → ((n : List ℕ) → after n ≡ cond (is_eq (slice_cmp nat_cmp name n)) mark (before n)) → IsMarked before name mark after
marked_from before name mark after is n = is n ∙ ap (λ b. cond b mark (before n)) (is_eq-slice_cmp name n)

or_false : (b : Bool) → (b || false) ≡ b
or_false b = elim b as (λ b. (b || false) ≡ b) [ true ↦ cc | false ↦ cc ]

or_true : (b : Bool) → (b || true) ≡ true
or_true b = elim b as (λ b. (b || true) ≡ true) [ true ↦ cc | false ↦ cc ]

pub HasSeen-more : (before after : List ℕ → Bool) (names : List (List ℕ)) (name : List ℕ) → HasSeen before names → IsMarked before name true after → HasSeen after (names ++ name ∷ [])
HasSeen-more before after names name seen marked n =
    marked n
    ∙ ⊎_elim
    (λ same.
    ap (λ b. cond b true (before n)) same
    ∙ sym (ap (λ b. list_any (bytes_eq n) names || (b || false)) (numbers_equal.symm n name ∙ same) ∙ or_true (list_any (bytes_eq n) names)))
    (λ apart.
    ap (λ b. cond b true (before n)) apart ∙ seen n
    ∙ sym (ap (λ b. list_any (bytes_eq n) names || (b || false)) (numbers_equal.symm n name ∙ apart) ∙ or_false (list_any (bytes_eq n) names)))
    (cases_Bool (bytes_eq name n))
    ∙ sym (list_any-append (bytes_eq n) names (name ∷ []))
