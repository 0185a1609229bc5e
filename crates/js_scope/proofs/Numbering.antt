-- A function has its number before its body is resolved, and stands in its place afterwards.
use Rattle.std.proofs.Common.{◌≡◌, ℕ, ◌<◌, List, [], ◌∷◌, ◌++◌, length, map, Option, sym, ◌∙◌, ap, arith}
use Rattle.std.specs.Prelude.{slice_set}
use Rattle.std.proofs.lemmas.List.{map-set, length-map}
use Rattle.js_tree.specs.declared.bound.BoundName.{BoundName}
use Rattle.js_tree.specs.declared.expression.Function.{Function}
use Rattle.js_tree.specs.Tree.{FunctionTree, a_function, StatementTree, Statements, statements_of}
use Rattle.js_tree.specs.View.{function_of}
use Rattle.js_binding.specs.Names.{names_of}
use Rattle.js_binding.specs.Scopes.{Scope, named, bound_in}
use Rattle.js_binding.specs.Resolved.{Placing, hollow, placed, numbered, in_body, statement_in, statements_in}
use Rattle.js_binding.proofs.Grows.{Grows, numbered_place, statements_grows}
use Rattle.js_scope.specs.Functions.{functions_of}
use Rattle.js_scope.specs.Gives.{Gives, numbered_in}
use Rattle.js_scope.specs.Parts.{each}
use Rattle.js_scope.proofs.Trees.{statements_row}

module _ (body : Placing Statements) (before first after : List Function) (n : ℕ) (made : Statements) (now : Gives (placed hollow) before n first) (then : Gives body first made after) where
  body_made : body (functions_of before ++ hollow ∷ []) ≡ (made, functions_of after)
  body_made = ap (λ (m : ℕ × List FunctionTree). body m.1) now ∙ then

  number_is_there : Grows body → n < length after
  number_is_there grows =
      omega (arith, ap (λ (m : ℕ × List FunctionTree). m.0) now, numbered_place body (functions_of before) grows, ap (λ (m : Statements × List FunctionTree). length m.1) body_made, length-map after function_of)

  numbered_made : (with_body : Statements → FunctionTree) (f : Function) → function_of f ≡ with_body made → Gives (numbered with_body body) before n (slice_set after n f)
  numbered_made with_body f e =
      ap (λ (m : Statements × List FunctionTree). (length (functions_of before), slice_set m.1 (length (functions_of before)) (with_body m.0))) body_made
      ∙ ap (λ (m : ℕ × List FunctionTree). (m.0, slice_set (functions_of after) m.0 (with_body made))) now
      ∙ ap (λ (t : FunctionTree). (n, slice_set (functions_of after) n t)) (sym e)
      ∙ ap (λ (fs : List FunctionTree). (n, fs)) (sym (map-set function_of after n f))

-- The same for the scope of a function, whose names are in a table.
module _ (around : List Scope) (parameters : List BoundName) (body made : List StatementTree) (table : List (List ℕ)) (empty : FunctionTree) (before first after : List Function) (n : ℕ)
    (hollowed : empty ≡ hollow) (now : Gives (placed empty) before n first) (tabled : table ≡ names_of parameters (statements_of body)) (then : Gives (each (statement_in (named table ∷ around)) body) first made after) where
  body_there : Gives (statements_in (in_body around parameters (statements_of body)) (statements_of body)) first (statements_of made) after
  body_there =
      ap (λ (names : List (List ℕ)). statements_in (named names ∷ around) (statements_of body) (functions_of first)) (sym tabled)
      ∙ statements_row (named table ∷ around) body (functions_of first)
      ∙ ap (λ (m : List StatementTree × List FunctionTree). (statements_of m.0, m.1)) then

  number_there : Gives (placed hollow) before n first
  number_there = ap (λ (f : FunctionTree). placed f (functions_of before)) (sym hollowed) ∙ now

  pub place_is_there : n < length after
  place_is_there =
      number_is_there (statements_in (in_body around parameters (statements_of body)) (statements_of body)) before first after n (statements_of made) number_there body_there
      (statements_grows (in_body around parameters (statements_of body)) (statements_of body))

  pub function_made : (own : Option BoundName) (inside : List BoundName) (names : List (List ℕ)) (f : Function) → inside ≡ map (bound_in (named table ∷ around)) parameters → names ≡ table
      → function_of f ≡ a_function own inside names (statements_of made) → Gives (numbered_in around own parameters (statements_of body)) before n (slice_set after n f)
  function_made own inside names f bound kept e =
      let tree = statements_of made in
      let scopes = in_body around parameters (statements_of body) in
      numbered_made (statements_in scopes (statements_of body)) before first after n tree number_there body_there
      (λ (t : Statements). a_function own (map (bound_in scopes) parameters) (names_of parameters (statements_of body)) t) f
      (e ∙ ap (λ (xs : List BoundName). a_function own xs names tree) bound
      ∙ ap (λ (ns : List (List ℕ)). a_function own (map (bound_in (named table ∷ around)) parameters) ns tree) kept
      ∙ ap (λ (ns : List (List ℕ)). a_function own (map (bound_in (named ns ∷ around)) parameters) ns tree) tabled)
