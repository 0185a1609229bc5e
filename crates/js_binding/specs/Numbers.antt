-- What is made of functions that stand by number. A function holds only functions of higher numbers, so what is made of
-- one goes by what is made of those behind it.
use Rattle.std.specs.Prelude.{ℕ, suc, ◌==◌, List, [], ◌∷◌, if◌then◌else◌}
use Rattle.js_tree.specs.Tree.{FunctionTree}

-- first: the number of the first of these functions; nothing: what a number stands for that no function has
abbrev pub by_number : {X : Type 0} → X → ((ℕ → X) → FunctionTree → X) → ℕ → List FunctionTree → ℕ → X
by_number nothing make first [] n = nothing
by_number nothing make first (f ∷ fs) n =
    if n == first then make (by_number nothing make (suc first) fs) f else by_number nothing make (suc first) fs n
