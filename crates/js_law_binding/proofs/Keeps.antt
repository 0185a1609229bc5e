-- What holds of each tree that is resolved, whatever is placed later.
use Rattle.std.proofs.Common.{◌≡◌, ℕ, zero, suc, ◌+◌, ◌≤◌, ◌<◌, true, false, cond, List, [], ◌∷◌, ◌++◌, length, drop, Some, refl, sym, ◌∙◌, ap, subst, arith, eqb, eq-eqb, length-append, add-zero, zero-add}
use Rattle.std.specs.Prelude.{slice_get, slice_set}
use Rattle.std.proofs.lemmas.Bool.{ne_eqb}
use Rattle.js_tree.specs.Tree.{FunctionTree, Statements}
use Rattle.js_binding.specs.Numbers.{by_number}
use Rattle.js_binding.specs.Resolved.{Placing, pure, ◌>>=◌, hollow, placed, numbered}
use Rattle.js_binding.proofs.Grows.{Extends, Grows, grows_pure, grows_then, grows_placed, grows_numbered, numbered_place, get_set_here, get_set_other, length_set}

get_behind : (xs : List FunctionTree) (x : FunctionTree) → slice_get (xs ++ x ∷ []) (length xs) ≡ Some x
get_behind [] x = refl
get_behind (y ∷ ys) x = get_behind ys x

-- `later` has the functions of `after` from this number on
pub record Has (from : ℕ) (after later : List FunctionTree) : Type 0 where
  pub longer : length after ≤ length later
  pub kept : (n : ℕ) → from ≤ n → n < length after → slice_get later n ≡ slice_get after n

has_then : (from : ℕ) (middle after later : List FunctionTree) → Extends middle after → Has from after later → Has from middle later
has_then from middle after later e h = record {
  longer = omega (arith, e.longer, h.longer);
  kept = λ n past below. h.kept n past (omega (arith, e.longer, below)) ∙ e.kept n below;
}

has_from : (from more : ℕ) (after later : List FunctionTree) → from ≤ more → Has from after later → Has more after later
has_from from more after later b h = record { longer = h.longer; kept = λ n past below. h.kept n (omega (arith, b, past)) below }

module _ {X : Type 0} (nothing : X) (make : (ℕ → X) → FunctionTree → X) where
  -- what is made of the functions of a list, by their numbers
  abbrev pub made_of : List FunctionTree → ℕ → X
  made_of functions = by_number nothing make 0 functions

  behind : (first n m : ℕ) (fs : List FunctionTree) → suc (first + n) ≤ m
      → by_number nothing make first fs m ≡ by_number nothing make (suc (first + n)) (drop (suc n) fs) m
  behind first n m [] b = refl
  behind first zero m (f ∷ fs) b =
      let apart : eqb m first ≡ false = ne_eqb m first (λ e. omega (arith, b, e)) in
      ap (λ t. cond t (make (by_number nothing make (suc first) fs) f) (by_number nothing make (suc first) fs m)) apart
      ∙ ap (λ k. by_number nothing make (suc k) fs m) (sym (add-zero first))
  behind first (suc n) m (f ∷ fs) b =
      let apart : eqb m first ≡ false = ne_eqb m first (λ e. omega (arith, b, e)) in
      let next : suc first + n ≡ first + suc n = omega arith in
      ap (λ t. cond t (make (by_number nothing make (suc first) fs) f) (by_number nothing make (suc first) fs m)) apart
      ∙ behind (suc first) n m fs (omega (arith, b))
      ∙ ap (λ k. by_number nothing make (suc k) (drop (suc n) fs) m) next

  here : (first n : ℕ) (fs : List FunctionTree) (f : FunctionTree) → slice_get fs n ≡ Some f
      → by_number nothing make first fs (first + n) ≡ make (by_number nothing make (suc (first + n)) (drop (suc n) fs)) f
  here first n [] f e = cc
  here first zero (g ∷ fs) f e =
      let same : eqb (first + 0) first ≡ true = eq-eqb (first + 0) first (add-zero first) in
      let f-is : g ≡ f = cc in
      ap (λ t. cond t (make (by_number nothing make (suc first) fs) g) (by_number nothing make (suc first) fs (first + 0))) same
      ∙ ap (λ k. make (by_number nothing make (suc k) fs) g) (sym (add-zero first))
      ∙ ap (λ h. make (by_number nothing make (suc (first + 0)) fs) h) f-is
  here first (suc n) (g ∷ fs) f e =
      let apart : eqb (first + suc n) first ≡ false = ne_eqb (first + suc n) first (λ h. omega (arith, h)) in
      let next : suc first + n ≡ first + suc n = omega arith in
      ap (λ t. cond t (make (by_number nothing make (suc first) fs) g) (by_number nothing make (suc first) fs (first + suc n))) apart
      ∙ ap (λ k. by_number nothing make (suc first) fs k) (sym next)
      ∙ here (suc first) n fs f e
      ∙ ap (λ k. make (by_number nothing make (suc k) (drop (suc n) fs)) f) next

-- R holds of what m makes, where `later` has the functions placed by m, and `at` is what is made of those from there on.
pub record Keeps {X T : Type 0} (nothing : X) (make : (ℕ → X) → FunctionTree → X) (R : (ℕ → X) → T → Type 0) (m : Placing T) : Type 0 where
  pub grows : Grows m
  pub keeps : (functions later : List FunctionTree) (at : ℕ → X) → Has (length functions) (m functions).1 later
      → ((n : ℕ) → length functions ≤ n → at n ≡ made_of nothing make later n) → R at (m functions).0

module _ {X : Type 0} {nothing : X} {make : (ℕ → X) → FunctionTree → X} where
  pub keeps_pure : {T : Type 0} {R : (ℕ → X) → T → Type 0} (x : T) → ((at : ℕ → X) → R at x) → Keeps nothing make R (pure x)
  keeps_pure x h = record { grows = grows_pure x; keeps = λ functions later at has agree. h at }

  pub keeps_then : {A B : Type 0} {Q : (ℕ → X) → A → Type 0} {R : (ℕ → X) → B → Type 0} {m : Placing A} {f : A → Placing B}
      → Keeps nothing make Q m → ((a : A) → Keeps nothing make (λ at b. Q at a → R at b) (f a)) → Keeps nothing make R (m >>= f)
  keeps_then {m = m} {f = f} h k = record {
    grows = grows_then m f h.grows (λ a. (k a).grows);
    keeps = λ functions later at has agree.
        let a = (m functions).0 in
        let next = (m functions).1 in
        let longer : length functions ≤ length next = (h.grows.grows functions).longer in
        (k a).keeps next later at (has_from (length functions) (length next) (f a next).1 later longer has)
        (λ n past. agree n (omega (arith, longer, past)))
        (h.keeps functions later at (has_then (length functions) next (f a next).1 later ((k a).grows.grows next) has) agree);
  }

  -- a function that is placed alone
  pub keeps_placed : (R : X → Type 0) (f : FunctionTree) → ((at : ℕ → X) → R (make at f)) → Keeps nothing make (λ at n. R (at n)) (placed f)
  keeps_placed R f h = record {
    grows = grows_placed f;
    keeps = λ functions later at has agree.
        let n = length functions in
        let below : n < length (functions ++ f ∷ []) = omega (arith, length-append functions (f ∷ [])) in
        let found : slice_get later n ≡ Some f = has.kept n (omega arith) below ∙ get_behind functions f in
        subst R (sym (agree n (omega arith) ∙ at_zero later n f found)) (h (by_number nothing make (suc n) (drop (suc n) later)));
  }
    where
      at_zero : (later : List FunctionTree) (n : ℕ) (f : FunctionTree) → slice_get later n ≡ Some f
          → made_of nothing make later n ≡ make (by_number nothing make (suc n) (drop (suc n) later)) f
      at_zero later n f e = subst (λ k. by_number nothing make 0 later k ≡ make (by_number nothing make (suc k) (drop (suc n) later)) f) (zero-add n) (here nothing make 0 n later f e)

  -- a function with a body, whose functions are placed behind it
  pub keeps_numbered : (P : (ℕ → X) → Statements → Type 0) (R : X → Type 0) (with_body : Statements → FunctionTree) (body : Placing Statements)
      → Keeps nothing make P body → ((at : ℕ → X) (made : Statements) → P at made → R (make at (with_body made)))
      → Keeps nothing make (λ at n. R (at n)) (numbered with_body body)
  keeps_numbered P R with_body body h k = record {
    grows = grows_numbered with_body body h.grows;
    keeps = λ functions later at has agree.
        let n = length functions in
        let start = functions ++ hollow ∷ [] in
        let made = body start in
        let f = with_body made.0 in
        let after = slice_set made.1 n f in
        let place : n < length made.1 = numbered_place body functions h.grows in
        let same : length after ≡ length made.1 = length_set made.1 n f in
        let first : length start ≡ suc n = omega (arith, length-append functions (hollow ∷ [])) in
        let found : slice_get later n ≡ Some f = has.kept n (omega arith) (omega (arith, place, same)) ∙ get_set_here made.1 n f place in
        let inner = by_number nothing make (suc n) (drop (suc n) later) in
        let inner_has : Has (length start) made.1 later = record {
          longer = omega (arith, has.longer, same);
          kept = λ m past below. has.kept m (omega (arith, first, past)) (omega (arith, same, below)) ∙ get_set_other made.1 n m f (omega (arith, first, past));
        } in
        let inner_agrees : (m : ℕ) → length start ≤ m → inner m ≡ made_of nothing make later m = λ m past. sym (from_zero later n m (omega (arith, first, past))) in
        subst R (sym (agree n (omega arith) ∙ at_zero later n f found)) (k inner made.0 (h.keeps start later inner inner_has inner_agrees));
  }
    where
      at_zero : (later : List FunctionTree) (n : ℕ) (f : FunctionTree) → slice_get later n ≡ Some f
          → made_of nothing make later n ≡ make (by_number nothing make (suc n) (drop (suc n) later)) f
      at_zero later n f e = subst (λ k. by_number nothing make 0 later k ≡ make (by_number nothing make (suc k) (drop (suc n) later)) f) (zero-add n) (here nothing make 0 n later f e)

      from_zero : (later : List FunctionTree) (n m : ℕ) → suc n ≤ m
          → made_of nothing make later m ≡ by_number nothing make (suc n) (drop (suc n) later) m
      from_zero later n m b = subst (λ k. made_of nothing make later m ≡ by_number nothing make (suc k) (drop (suc n) later) m) (zero-add n) (behind nothing make 0 n m later (omega (arith, b)))
