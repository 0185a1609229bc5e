-- What a tree with functions by number is once these are back in their places: the parts of the walk over trees.
use Rattle.std.proofs.Common.{◌≡◌, ℕ, List, [], ◌∷◌, map, Option, Some, None, refl}
use Rattle.std.specs.Prelude.{option_map}
use Rattle.js_tree.specs.declared.bound.BoundName.{BoundName}
use Rattle.js_tree.specs.Tree.{FunctionTree, a_function, Statements}
use Rattle.js_binding.specs.Numbered.{function_numbered, statements_numbered}
use Rattle.js_binding.specs.Resolved.{Placing, hollow, placed}
use Rattle.js_binding.specs.Source.{unbound, function_source, statements_source}
use Rattle.js_law_binding.proofs.Keeps.{Keeps, keeps_placed, keeps_numbered}
use Rattle.js_law_source.proofs.ReadScripts.{none}

-- what m makes has this source, whatever is placed later
abbrev pub Back : {A B : Type 0} → ((ℕ → FunctionTree) → A → B) → B → Placing A → Type 0
Back source tree m = Keeps hollow function_source (λ at made. source at made ≡ tree) m

-- the source of a number is that of its function
abbrev pub number_source : (ℕ → FunctionTree) → ℕ → FunctionTree
number_source at n = at n

pub back_placed : Back number_source hollow (placed hollow)
unfolding function_source
back_placed = keeps_placed (λ f. f ≡ hollow) hollow (λ at. refl)

own_as_read : (own : Option BoundName) → option_map unbound (option_map unbound own) ≡ option_map unbound own
own_as_read None = refl
own_as_read (Some x) = refl

names_as_read : (xs : List BoundName) → map unbound (map unbound xs) ≡ map unbound xs
names_as_read [] = refl
names_as_read (x ∷ xs) = λ i. unbound x ∷ names_as_read xs i

pub back_function : (own : Option BoundName) (parameters : List BoundName) (names : List (List ℕ)) (body : Statements)
    → Back statements_source (statements_source none body) (statements_numbered body)
    → let f = a_function own parameters names body in Back number_source (function_source none f) (function_numbered f)
unfolding function_source function_numbered
back_function own parameters names body h =
    keeps_numbered (λ at made. statements_source at made ≡ statements_source none body)
    (λ f. f ≡ function_source none (a_function own parameters names body))
    (λ made. a_function (option_map unbound own) (map unbound parameters) [] made) (statements_numbered body) h
    (λ at made e. λ i. a_function (own_as_read own i) (names_as_read parameters i) [] (e i))
