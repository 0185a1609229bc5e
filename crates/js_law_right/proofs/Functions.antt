-- What is right of a function of a script once it is resolved.
use Rattle.std.proofs.Common.{◌≡◌, ℕ, List, [], ◌∷◌, ◌++◌, map, Option, Some, None, if◌then◌else◌, refl, sym, ◌∙◌, ap, ap₂}
use Rattle.std.specs.Prelude.{option_map}
use Rattle.js_tree.specs.declared.bound.BoundName.{BoundName}
use Rattle.js_tree.specs.Tree.{FunctionTree, a_function, Statements}
use Rattle.js_binding.specs.Names.{functions_of, variables_of_all, mentions_in_body, each_once, arguments_name, names_of}
use Rattle.js_binding.specs.Scopes.{Scope, bound_in}
use Rattle.js_binding.specs.Source.{unbound}
use Rattle.js_binding.specs.Resolved.{hollow, placed, around_function, in_body, function_in, statements_in}
use Rattle.js_law_right.specs.Anonymous.{anonymous}
use Rattle.js_law_right.specs.EachIn.{EachInStatements}
use Rattle.js_law_right.specs.Right.{Setting, NamesRight, right}
use Rattle.js_law_right.specs.Unbound.{statements_unbound}
use Rattle.js_law_right.proofs.Keeps.{Keeps, keeps_placed, keeps_numbered, keeps_as}

-- ---- its setting

-- where a function of a script stands, among the scopes in which it is made
abbrev pub setting_of : List Scope → FunctionTree → Setting
setting_of scopes (a_function own parameters names body) =
    record { around = around_function scopes own; own = option_map (bound_in (around_function scopes own)) own }

own_around : (scopes around : List Scope) (own : Option BoundName) → around_function scopes own ≡ around_function scopes (option_map (bound_in around) own)
own_around scopes around None = refl
own_around scopes around (Some x) = refl

-- an expression's function: its number stands right where it stood whole
pub expression_right : (setting : ℕ → Setting) (scopes : List Scope) (f : FunctionTree) (n : ℕ) → anonymous.expression scopes f
    → setting n ≡ setting_of scopes f → (right setting).numbered scopes n
expression_right setting scopes (a_function own parameters names body) n any is =
    ap (λ (s : Setting). s.around) is ∙ own_around scopes (around_function scopes own) own ∙ sym (ap (λ (s : Setting). around_function scopes s.own) is)

-- and so does a declaration's, which has no name of its own
pub declaration_right : (setting : ℕ → Setting) (scopes : List Scope) (f : FunctionTree) (n : ℕ) → anonymous.declaration scopes f
    → setting n ≡ setting_of scopes f → (right setting).declared scopes n
declaration_right setting scopes (a_function own parameters names body) n none is =
    ap (λ (s : Setting). s.around) is ∙ ap (around_function scopes) none

-- the setting of a function without a name
abbrev alone : List Scope → Setting
alone scopes = record { around = scopes; own = None }

-- A number that stood in the script is that of a function without names and statements.
hollow_keeps : (scopes : List Scope) → Keeps (λ setting n. setting n ≡ alone scopes) (placed hollow)
hollow_keeps scopes = keeps_placed hollow (alone scopes) refl (λ setting. record { names_are = refl; parameters_are = tt; body_is = tt })

pub numbered_kept : (scopes : List Scope) → Keeps (λ setting n. (right setting).numbered scopes n) (placed hollow)
numbered_kept scopes =
    keeps_as (hollow_keeps scopes) (λ setting n is. ap (λ (s : Setting). s.around) is ∙ sym (ap (λ (s : Setting). around_function scopes s.own) is))

pub declared_kept : (scopes : List Scope) → Keeps (λ setting n. (right setting).declared scopes n) (placed hollow)
declared_kept scopes = keeps_as (hollow_keeps scopes) (λ setting n is. ap (λ (s : Setting). s.around) is)

-- ---- its names

parameters_right : (scopes : List Scope) (xs : List BoundName) → NamesRight scopes (map (bound_in scopes) xs)
parameters_right scopes [] = tt
parameters_right scopes (x ∷ xs) = (refl, parameters_right scopes xs)

parameters_stay : (scopes : List Scope) (xs : List BoundName) → map (λ (x : BoundName). x.name) (map unbound (map (bound_in scopes) xs)) ≡ map (λ (x : BoundName). x.name) xs
parameters_stay scopes [] = refl
parameters_stay scopes (x ∷ xs) = ap (λ ys. x.name ∷ ys) (parameters_stay scopes xs)

-- what a body is resolved to is right, and mentions and declares what it did
abbrev pub BodyKept : List Scope → Statements → (ℕ → Setting) → Statements → Type 0
BodyKept scopes body setting r =
    EachInStatements (right setting) scopes r × (mentions_in_body arguments_name (statements_unbound r) ≡ mentions_in_body arguments_name body) × (variables_of_all (statements_unbound r) ≡ variables_of_all body) × (functions_of (statements_unbound r) ≡ functions_of body)

names_stay : (scopes : List Scope) (parameters : List BoundName) (body : Statements) (setting : ℕ → Setting) (r : Statements) → BodyKept scopes body setting r
    → names_of parameters body ≡ names_of (map unbound (map (bound_in scopes) parameters)) (statements_unbound r)
names_stay scopes parameters body setting r h =
    sym (ap₂ (λ xs ys. each_once (xs ++ ys)) (parameters_stay scopes parameters)
    (ap₂ ◌++◌ h.3 (ap₂ ◌++◌ h.2 (ap (λ b. if b then arguments_name ∷ [] else []) h.1))))

-- a function is placed with the names of its scope, and with its parameters and its body bound there
pub function_kept : (scopes : List Scope) (own : Option BoundName) (parameters : List BoundName) (names : List (List ℕ)) (body : Statements)
    → let inside = in_body (around_function scopes own) parameters body in
    Keeps (BodyKept inside body) (statements_in inside body)
    → Keeps (λ setting n. setting n ≡ setting_of scopes (a_function own parameters names body)) (function_in scopes (a_function own parameters names body))
unfolding function_in
function_kept scopes own parameters names body h =
    let around = around_function scopes own in
    let inside = in_body around parameters body in
    keeps_numbered
    (λ made. a_function (option_map (bound_in around) own) (map (bound_in inside) parameters) (names_of parameters body) made)
    (record { around = around; own = option_map (bound_in around) own }) (λ made. refl) h
    (λ setting made k. record { names_are = names_stay inside parameters body setting made k; parameters_are = parameters_right inside parameters; body_is = k.0 })
