-- Programs whose names have the places where they stand: each is bound where a look-up along the scopes around it finds
-- it, and each function has the names of its scope (ECMA-262 5.1, sections 10.2.2.1 and 10.5).
use Rattle.std.specs.Prelude.{◌≡◌, ℕ, zero, suc, List, [], ◌∷◌, map, Option, Some, None, slice_get}
use Rattle.js_tree.specs.declared.bound.BoundName.{BoundName}
use Rattle.js_tree.specs.Tree.{FunctionTree, a_function, Statements}
use Rattle.js_binding.specs.Names.{names_of}
use Rattle.js_binding.specs.Scopes.{Scope, named, binding_of}
use Rattle.js_binding.specs.Source.{unbound}
use Rattle.js_binding.specs.Resolved.{around_function}
use Rattle.js_law_right.specs.Anonymous.{own_name}
use Rattle.js_law_right.specs.EachIn.{Claims, EachInStatements}
use Rattle.js_law_right.specs.Unbound.{statements_unbound}

-- where a function stands: the scopes around that of each of its calls, the innermost for its own name where it has one;
-- and that name
pub record Setting : Type 0 where
  pub around : List Scope
  pub own : Option BoundName

-- the settings of functions by their numbers; past the last, that of no function
abbrev pub setting_at : List Setting → ℕ → Setting
setting_at [] n = record { around = []; own = None }
setting_at (s ∷ ss) zero = s
setting_at (s ∷ ss) (suc n) = setting_at ss n

abbrev pub NameRight : List Scope → BoundName → Type 0
NameRight scopes x = x.bound ≡ binding_of x.name scopes

abbrev pub NamesRight : List Scope → List BoundName → Type 0
NamesRight scopes [] = Unit {0}
NamesRight scopes (x ∷ xs) = NameRight scopes x × NamesRight scopes xs

-- What is right in a program, by a table of its functions: no function stands whole, and each number is that of a
-- function of these scopes, where an expression has one for its own name and a declaration has none (13).
abbrev pub right : (ℕ → Setting) → Claims
right setting = record {
  name = NameRight;
  expression = λ scopes f. ⊥;
  numbered = λ scopes n. (setting n).around ≡ around_function scopes (setting n).own;
  declaration = λ scopes f. ⊥;
  declared = λ scopes n. (setting n).around ≡ scopes;
}

-- a call's scope has the names that the function declares, and in it stand its parameters and its body
pub record CallRight (setting : ℕ → Setting) (around : List Scope) (parameters : List BoundName) (names : List (List ℕ)) (body : Statements) : Type 0 where
  pub names_are : names ≡ names_of (map unbound parameters) (statements_unbound body)
  pub parameters_are : NamesRight (named names ∷ around) parameters
  pub body_is : EachInStatements (right setting) (named names ∷ around) body

abbrev pub FunctionRight : (ℕ → Setting) → List Scope → FunctionTree → Type 0
FunctionRight setting around (a_function own parameters names body) = CallRight setting around parameters names body

-- the own name of a function that may be there
abbrev pub own_in : Option FunctionTree → Option BoundName
own_in None = None
own_in (Some f) = own_name f

-- a program, with the table of its functions
pub record ProgramRight (program : Statements × List FunctionTree) : Type 0 where
  pub setting : ℕ → Setting
  pub body : EachInStatements (right setting) [] program.0
  pub owns : (n : ℕ) → own_in (slice_get program.1 n) ≡ (setting n).own
  pub functions : (n : ℕ) (f : FunctionTree) → slice_get program.1 n ≡ Some f → FunctionRight setting (setting n).around f
