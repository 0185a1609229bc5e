-- Rows of declarations and of clauses: the first is passed, or gives what is done next.
use Rattle.std.proofs.Common.{◌≡◌, ◌≤◌, ◌<◌, ◌-◌, List, [], ◌∷◌, Bool, true, false, length, get_or, take, drop, Option, None, Some, refl, ap, sym, ◌∙◌}
use Rattle.std.specs.Prelude.{not, is_some}
use Rattle.js_tree.specs.declared.place.Place.{Place}
use Rattle.js_tree.specs.declared.statement.Declared.{Declared}
use Rattle.js_tree.specs.declared.statement.Clause.{Clause}
use Rattle.js_tree.specs.Tree.{ExpressionTree, StatementTree, Clauses, Statements, a_declared, a_clause, a_statement, present, optional_of, statements_of}
use Rattle.js_tree.specs.View.{declarations_of, clauses_of}
use Rattle.heap_values.specs.declared.value.Value.{Value}
use Rattle.run_trees.specs.Runs.{◌>>◌}
use Rattle.js_evaluation.specs.Statements as rule
use Rattle.js_evaluation.specs.Scoping.{by_slots}
use Rattle.js_machine.specs.declared.machine.Machine.{Machine}
use Rattle.js_machine.specs.Moves.{at}
use Rattle.heap_steps.proofs.Lists.{list_step, list_end, list_rest}

-- a list of which the first part is taken
pub first_of_list : {X : Type 0} (xs : List X) (x : X) → x ≡ get_or xs 0 x → 1 ≤ length xs → xs ≡ x ∷ take (length xs - 1) (drop 1 xs)
first_of_list xs x e h = list_step xs x e h ∙ ap (λ (ys : List _). x ∷ ys) (sym (list_rest xs))

none_by : {X : Type 0} (o : Option X) (b : Bool) → is_some o ≡ not b → b ≡ true → o ≡ None
none_by None b e h = refl
none_by (Some x) true e h = cc
none_by (Some x) false e h = cc

some_by : (b c : Bool) → c ≡ not b → b ≡ false → c ≡ true
some_by true c e h = cc
some_by false c e h = e

module _ (m : Machine) where
  -- ---- declarations

  module _ (place : Place) where
    pub none_declared : (xs : List Declared) → length xs < 1
        → at m (rule.variables_from by_slots) place (declarations_of xs) ≡ at m (rule.variables_from by_slots) place (declarations_of [])
    none_declared xs h = ap (λ (ys : List Declared). at m (rule.variables_from by_slots) place (declarations_of ys)) (list_end xs h)

    module _ (xs : List Declared) (x : Declared) (e : x ≡ get_or xs 0 x) (h : 1 ≤ length xs) where
      by_value : (o : Option ExpressionTree) → x.value ≡ o
          → at m (rule.variables_from by_slots) place (declarations_of xs)
          ≡ at m (rule.variables_from by_slots) place (a_declared x.name (optional_of o) (declarations_of (take (length xs - 1) (drop 1 xs))))
      by_value o is =
          ap (λ (ys : List Declared). at m (rule.variables_from by_slots) place (declarations_of ys)) (first_of_list xs x e h)
          ∙ ap (λ (p : Option ExpressionTree). at m (rule.variables_from by_slots) place (a_declared x.name (optional_of p) (declarations_of (take (length xs - 1) (drop 1 xs))))) is

      -- a variable without a first value
      pub skip_declared : x.value ≡ None
          → at m (rule.variables_from by_slots) place (declarations_of xs) ≡ at m (rule.variables_from by_slots) place (declarations_of (take (length xs - 1) (drop 1 xs)))
      skip_declared none = by_value None none

      -- one with a first value
      pub first_declared : (v : ExpressionTree) → x.value ≡ Some v
          → at m (rule.variables_from by_slots) place (declarations_of xs)
          ≡ at m (rule.variables_from by_slots) place (a_declared x.name (present v) (declarations_of (take (length xs - 1) (drop 1 xs))))
      first_declared v some = by_value (Some v) some

  -- ---- the clauses of a `switch`

  module _ (v : Value) (all : Clauses) where
    pub none_matches : (xs : List Clause) → length xs < 1
        → at m (rule.from_match by_slots) v all (clauses_of xs) ≡ at m (rule.from_match by_slots) v all (clauses_of [])
    none_matches xs h = ap (λ (ys : List Clause). at m (rule.from_match by_slots) v all (clauses_of ys)) (list_end xs h)

    module _ (xs : List Clause) (x : Clause) (e : x ≡ get_or xs 0 x) (h : 1 ≤ length xs) where
      by_test : (o : Option ExpressionTree) → x.test ≡ o
          → at m (rule.from_match by_slots) v all (clauses_of xs)
          ≡ at m (rule.from_match by_slots) v all (a_clause (optional_of o) (statements_of x.body) (clauses_of (take (length xs - 1) (drop 1 xs))))
      by_test o is =
          ap (λ (ys : List Clause). at m (rule.from_match by_slots) v all (clauses_of ys)) (first_of_list xs x e h)
          ∙ ap (λ (p : Option ExpressionTree). at m (rule.from_match by_slots) v all (a_clause (optional_of p) (statements_of x.body) (clauses_of (take (length xs - 1) (drop 1 xs))))) is

      -- a clause without a test
      pub skip_default : x.test ≡ None
          → at m (rule.from_match by_slots) v all (clauses_of xs) ≡ at m (rule.from_match by_slots) v all (clauses_of (take (length xs - 1) (drop 1 xs)))
      skip_default none = by_test None none

      -- one with a test
      pub first_tested : (test : ExpressionTree) (body : List StatementTree) → x.test ≡ Some test → body ≡ x.body
          → at m (rule.from_match by_slots) v all (clauses_of xs)
          ≡ at m (rule.from_match by_slots) v all (a_clause (present test) (statements_of body) (clauses_of (take (length xs - 1) (drop 1 xs))))
      first_tested test body some is =
          by_test (Some test) some
          ∙ sym (ap (λ (b : List StatementTree). at m (rule.from_match by_slots) v all (a_clause (present test) (statements_of b) (clauses_of (take (length xs - 1) (drop 1 xs))))) is)

  pub none_default : (xs : List Clause) → length xs < 1
      → at m (rule.from_default by_slots) (clauses_of xs) ≡ at m (rule.from_default by_slots) (clauses_of [])
  none_default xs h = ap (λ (ys : List Clause). at m (rule.from_default by_slots) (clauses_of ys)) (list_end xs h)

  pub none_left : (xs : List Clause) → length xs < 1
      → at m (rule.clauses_from by_slots) (clauses_of xs) ≡ at m (rule.clauses_from by_slots) (clauses_of [])
  none_left xs h = ap (λ (ys : List Clause). at m (rule.clauses_from by_slots) (clauses_of ys)) (list_end xs h)

  passes_test : (o : Option ExpressionTree) (ss : Statements) (rest : Clauses) → is_some o ≡ true
      → at m (rule.from_default by_slots) (a_clause (optional_of o) ss rest) ≡ at m (rule.from_default by_slots) rest
  passes_test None ss rest is = cc
  passes_test (Some test) ss rest is = refl

  module _ (xs : List Clause) (x : Clause) (e : x ≡ get_or xs 0 x) (h : 1 ≤ length xs) where
    -- a clause with a test, where the one without is sought
    pub skip_test : (b : Bool) → is_some x.test ≡ not b → b ≡ false
        → at m (rule.from_default by_slots) (clauses_of xs) ≡ at m (rule.from_default by_slots) (clauses_of (take (length xs - 1) (drop 1 xs)))
    skip_test b is holds =
        ap (λ (ys : List Clause). at m (rule.from_default by_slots) (clauses_of ys)) (first_of_list xs x e h)
        ∙ passes_test x.test (statements_of x.body) (clauses_of (take (length xs - 1) (drop 1 xs))) (some_by b (is_some x.test) is holds)

    -- the one without a test
    pub first_default : (b : Bool) → is_some x.test ≡ not b → b ≡ true
        → at m (rule.from_default by_slots) (clauses_of xs) ≡ at m (rule.clauses_from by_slots) (clauses_of xs)
    first_default b is holds =
        ap (λ (ys : List Clause). at m (rule.from_default by_slots) (clauses_of ys)) (first_of_list xs x e h)
        ∙ ap (λ (p : Option ExpressionTree). at m (rule.from_default by_slots) (a_clause (optional_of p) (statements_of x.body) (clauses_of (take (length xs - 1) (drop 1 xs))))) (none_by x.test b is holds)
        ∙ sym (ap (λ (p : Option ExpressionTree). at m (rule.clauses_from by_slots) (a_clause (optional_of p) (statements_of x.body) (clauses_of (take (length xs - 1) (drop 1 xs))))) (none_by x.test b is holds))
        ∙ sym (ap (λ (ys : List Clause). at m (rule.clauses_from by_slots) (clauses_of ys)) (first_of_list xs x e h))

    by_body : (body : List StatementTree) → x.body ≡ body
        → at m (rule.clauses_from by_slots) (clauses_of xs)
        ≡ (at m (rule.statements_from by_slots) (statements_of body) >> at m (rule.clauses_from by_slots) (clauses_of (take (length xs - 1) (drop 1 xs))))
    by_body body is =
        ap (λ (ys : List Clause). at m (rule.clauses_from by_slots) (clauses_of ys)) (first_of_list xs x e h)
        ∙ ap (λ (b : List StatementTree). at m (rule.statements_from by_slots) (statements_of b) >> at m (rule.clauses_from by_slots) (clauses_of (take (length xs - 1) (drop 1 xs)))) is

    -- a clause without statements
    pub skip_empty : (body : List StatementTree) → body ≡ x.body → length body < 1
        → at m (rule.clauses_from by_slots) (clauses_of xs) ≡ at m (rule.clauses_from by_slots) (clauses_of (take (length xs - 1) (drop 1 xs)))
    skip_empty body is none = by_body [] (sym is ∙ list_end body none)

    -- one with statements
    pub first_statement : (body : List StatementTree) (one : StatementTree) → body ≡ x.body → one ≡ get_or body 0 one → 1 ≤ length body
        → at m (rule.clauses_from by_slots) (clauses_of xs)
        ≡ (at m (rule.statements_from by_slots) (a_statement one (statements_of (take (length body - 1) (drop 1 body))))
        >> at m (rule.clauses_from by_slots) (clauses_of (take (length xs - 1) (drop 1 xs))))
    first_statement body one is o some = by_body (one ∷ take (length body - 1) (drop 1 body)) (sym is ∙ first_of_list body one o some)
