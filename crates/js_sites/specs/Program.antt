-- The sites of a program: those of a function's body stand right behind the function's own, where it is written.
use Rattle.std.specs.Prelude.{ℕ, ◌+◌, List, [], ◌∷◌, ◌++◌, Option, Some, None}
use Rattle.js_tree.specs.Tree.{FunctionTree, a_function, Statements}
use Rattle.js_binding.specs.Numbers.{by_number}
use Rattle.js_sites.specs.declared.site.Site.{Site}
use Rattle.js_sites.specs.declared.site.Site.TheVariants as site
use Rattle.js_sites.specs.Sites.{statements_sites}

-- the number of the function that a site is
abbrev pub number_in : Site → Option ℕ
number_in (site.Function p x n) = Some n
number_in s = None

-- at: the sites of each function's body, by its number
abbrev pub within : (ℕ → List Site) → Option ℕ → List Site
within at None = []
within at (Some n) = at n

abbrev pub inlined : (ℕ → List Site) → List Site → List Site
inlined at [] = []
inlined at (s ∷ ss) = s ∷ within at (number_in s) ++ inlined at ss

abbrev pub body_sites : FunctionTree → List Site
body_sites (a_function own parameters names body) = statements_sites body

-- the sites of a function's body, where those of the functions in it are these
abbrev pub function_sites : (ℕ → List Site) → FunctionTree → List Site
function_sites at f = inlined at (body_sites f)

-- the same by number, where the first function has this one
abbrev pub sites_from : ℕ → List FunctionTree → ℕ → List Site
sites_from first functions = by_number [] function_sites first functions

-- those of the body of the first of these functions, which has this number
abbrev pub first_sites : ℕ → List FunctionTree → List Site
first_sites n [] = []
first_sites n (f ∷ fs) = function_sites (sites_from (n + 1) fs) f

abbrev pub sites_of : Statements → List FunctionTree → List Site
sites_of body functions = inlined (sites_from 0 functions) (statements_sites body)
