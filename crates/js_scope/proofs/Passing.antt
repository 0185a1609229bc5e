-- A row whose parts are resolved one after another, each where it stands.
use Rattle.std.proofs.Common.{◌≡◌, ℕ, zero, suc, ◌+◌, ◌<◌, List, [], ◌∷◌, ◌++◌, length, get_or, set, take, drop, refl, sym, ◌∙◌, ap, arith, add-one}
use Rattle.std.proofs.Math.Seq.{take-append_seam}
use Rattle.js_tree.specs.Tree.{FunctionTree}
use Rattle.js_binding.specs.Resolved.{Placing}
use Rattle.js_scope.specs.Parts.{each}

module _ {T : Type 0} (place : T → Placing T) where
  -- what a row comes to, once its first parts are done and `now` are the functions
  abbrev pub rest_of : ℕ → List T → List FunctionTree → List T × List FunctionTree
  rest_of done items now = (take done items ++ (each place (drop done items) now).0, (each place (drop done items) now).1)

  rest_more : (items : List T) (i : ℕ) (now now' : List FunctionTree) (x x' : T) → i < length items → x ≡ get_or items i x → place x now ≡ (x', now')
      → rest_of i items now ≡ rest_of (suc i) (set items i x') now'
  unfolding each
  rest_more [] i now now' x x' h e r = absurd (omega (arith, h))
  rest_more (y ∷ ys) zero now now' x x' h e r =
      ap (λ (z : T). ((place z now).0 ∷ (each place ys (place z now).1).0, (each place ys (place z now).1).1)) (sym e)
      ∙ ap (λ (m : T × List FunctionTree). (m.0 ∷ (each place ys m.1).0, (each place ys m.1).1)) r
  rest_more (y ∷ ys) (suc i) now now' x x' h e r = ap (λ (m : List T × List FunctionTree). (y ∷ m.0, m.1)) (rest_more ys i now now' x x' (omega (arith, h)) e r)

  rest_none : (items : List T) (now : List FunctionTree) → rest_of (length items) items now ≡ (items, now)
  unfolding each
  rest_none [] now = refl
  rest_none (y ∷ ys) now = ap (λ (m : List T × List FunctionTree). (y ∷ m.0, m.1)) (rest_none ys now)

  pub passed_more : (whole : List T × List FunctionTree) (items : List T) (i : ℕ) (now now' : List FunctionTree) (x x' : T)
      → whole ≡ rest_of i items now → i < length items → x ≡ get_or items i x → place (get_or items i x) now ≡ (x', now')
      → whole ≡ rest_of (i + 1) (set items i x') now'
  passed_more whole items i now now' x x' p h e r =
      p ∙ rest_more items i now now' x x' h e (ap (λ (z : T). place z now) e ∙ r) ∙ ap (λ n. rest_of n (set items i x') now') (sym (add-one i))

  -- The parts are written back over those of the row that they were.
  pub passed_all : (whole : List T × List FunctionTree) (items old : List T) (i n : ℕ) (now : List FunctionTree)
      → whole ≡ rest_of i items now → i ≡ length items → n ≡ length items → whole ≡ (take n (items ++ drop (length items) old), now)
  passed_all whole items old i n now p e k =
      let back : take n (items ++ drop (length items) old) ≡ items = ap (λ m. take m (items ++ drop (length items) old)) k ∙ take-append_seam items (drop (length items) old) in
      p ∙ ap (λ m. rest_of m items now) e ∙ rest_none items now ∙ ap (λ (xs : List T). (xs, now)) (sym back)
