-- What a tree is resolved to, without the places of its names, beside the tree with its functions by number.
use Rattle.std.proofs.Common.{◌≡◌, ℕ, zero, suc, List, [], ◌∷◌, ◌++◌, length, map, Option, Some, None, refl, ◌∙◌, ap, ap₂}
use Rattle.std.specs.Prelude.{slice_set, option_map}
use Rattle.js_tree.specs.declared.bound.BoundName.{BoundName}
use Rattle.js_tree.specs.Tree.{FunctionTree, a_function, Statements}
use Rattle.js_binding.specs.Names.{names_of}
use Rattle.js_binding.specs.Scopes.{Scope, bound_in}
use Rattle.js_binding.specs.Source.{unbound}
use Rattle.js_binding.specs.Resolved.{Placing, pure, ◌>>=◌, hollow, placed, numbered, around_function, in_body, function_in, statements_in}
use Rattle.js_binding.specs.Numbered.{function_numbered, statements_numbered}
use Rattle.js_law_right.specs.Unbound.{function_unbound, statements_unbound}

-- what m makes and places, without its bounds, is what n does
pub record Same {A : Type 0} (u : A → A) (m n : Placing A) : Type 0 where
  pub same : (fs : List FunctionTree) → (u (m fs).0, map function_unbound (m fs).1) ≡ n (map function_unbound fs)

pub same_pure : {A : Type 0} {u : A → A} (a b : A) → u a ≡ b → Same u (pure a) (pure b)
same_pure a b e = record { same = λ fs. ap (λ x. (x, map function_unbound fs)) e }

pub same_then : {A B : Type 0} {u : A → A} {v : B → B} {m n : Placing A} {f g : A → Placing B}
    → Same u m n → ((a b : A) → u a ≡ b → Same v (f a) (g b)) → Same v (m >>= f) (n >>= g)
same_then {m = m} {n = n} {g = g} h k = record {
  same = λ fs.
      (k (m fs).0 (n (map function_unbound fs)).0 (ap (λ r. r.0) (h.same fs))).same (m fs).1
      ∙ ap (λ gs. g (n (map function_unbound fs)).0 gs) (ap (λ r. r.1) (h.same fs));
}

unbound-append : (xs ys : List FunctionTree) → map function_unbound (xs ++ ys) ≡ map function_unbound xs ++ map function_unbound ys
unbound-append [] ys = refl
unbound-append (x ∷ xs) ys = ap (λ zs. function_unbound x ∷ zs) (unbound-append xs ys)

length-unbound : (xs : List FunctionTree) → length xs ≡ length (map function_unbound xs)
length-unbound [] = refl
length-unbound (x ∷ xs) = ap suc (length-unbound xs)

unbound-set : (xs : List FunctionTree) (n : ℕ) (x : FunctionTree)
    → map function_unbound (slice_set xs n x) ≡ slice_set (map function_unbound xs) n (function_unbound x)
unbound-set [] n x = refl
unbound-set (y ∷ xs) zero x = refl
unbound-set (y ∷ xs) (suc n) x = ap (λ zs. function_unbound y ∷ zs) (unbound-set xs n x)

-- a number has no bounds
abbrev pub same_number : ℕ → ℕ
same_number n = n

pub same_placed : Same same_number (placed hollow) (placed hollow)
same_placed = record { same = λ fs. ap₂ (λ n gs. (n, gs)) (length-unbound fs) (unbound-append fs (hollow ∷ [])) }

same_by_number : (with_body with_bare : Statements → FunctionTree) {body bare : Placing Statements}
    → ((made : Statements) → function_unbound (with_body made) ≡ with_bare (statements_unbound made)) → Same statements_unbound body bare
    → Same same_number (numbered with_body body) (numbered with_bare bare)
same_by_number with_body with_bare {body = body} {bare = bare} e h = record {
  same = λ fs.
      let made = body (fs ++ hollow ∷ []) in
      let n = length fs in
      let within : (statements_unbound made.0, map function_unbound made.1) ≡ bare (map function_unbound fs ++ hollow ∷ []) =
      h.same (fs ++ hollow ∷ []) ∙ ap bare (unbound-append fs (hollow ∷ [])) in
      ap (λ gs. (n, gs)) (unbound-set made.1 n (with_body made.0) ∙ ap (slice_set (map function_unbound made.1) n) (e made.0))
      ∙ ap (λ r. (n, slice_set r.1 n (with_bare r.0))) within
      ∙ ap (λ k. (k, slice_set (bare (map function_unbound fs ++ hollow ∷ [])).1 k (with_bare (bare (map function_unbound fs ++ hollow ∷ [])).0))) (length-unbound fs);
}

own_unbound : (scopes : List Scope) (own : Option BoundName) → option_map unbound (option_map (bound_in scopes) own) ≡ option_map unbound own
own_unbound scopes None = refl
own_unbound scopes (Some x) = refl

names_unbound : (scopes : List Scope) (xs : List BoundName) → map unbound (map (bound_in scopes) xs) ≡ map unbound xs
names_unbound scopes [] = refl
names_unbound scopes (x ∷ xs) = ap (λ ys. unbound x ∷ ys) (names_unbound scopes xs)

pub same_function : (scopes : List Scope) (own : Option BoundName) (parameters : List BoundName) (names : List (List ℕ)) (body : Statements)
    → Same statements_unbound (statements_in (in_body (around_function scopes own) parameters body) body) (statements_numbered body)
    → Same same_number (function_in scopes (a_function own parameters names body)) (function_numbered (a_function own parameters names body))
unfolding function_in function_numbered
same_function scopes own parameters names body h =
    let around = around_function scopes own in
    let inside = in_body around parameters body in
    same_by_number
    (λ made. a_function (option_map (bound_in around) own) (map (bound_in inside) parameters) (names_of parameters body) made)
    (λ made. a_function (option_map unbound own) (map unbound parameters) [] made)
    (λ made. ap₂ (λ o xs. a_function o xs [] (statements_unbound made)) (own_unbound around own) (names_unbound inside parameters)) h
