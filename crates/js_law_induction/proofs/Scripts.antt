-- The induction: nesting, scripts, and the law that reading gives nothing back.
use Rattle.std.proofs.Common.{◌≡◌, ◌≤◌, ◌<◌, ℕ, zero, suc, List, length, Ok, subst, arith}
use Rattle.std.specs.Prelude.{map, Result}
use Rattle.js_tree.specs.declared.place.Place.{Place}
use Rattle.js_tree.specs.declared.token.Token.{Token}
use Rattle.js_tree.specs.declared.refusal.ReadKind.TheVariants.{TooDeep}
use Rattle.js_tree.specs.Tree.{StatementTree}
use Rattle.js_grammar.specs.declared.form.LeftSide.TheVariants as side
use Rattle.js_grammar.specs.Reading.{Refusal, ◌>>=◌}
use Rattle.js_grammar.specs.Readers.{row, place_at, refused}
use Rattle.js_grammar.specs.Expressions.{a_statement}
use Rattle.js_grammar.specs.Statements.{at_top, whole, deeper}
use Rattle.js_law_induction.specs.Laws.{NothingIsGivenBack}
use Rattle.js_law_induction.proofs.Alike.{Other, beside, moved, Read, Alike, gave, stops, too_deep, deeper_than, RowOf, Keep}
use Rattle.js_law_induction.proofs.Words.{place_moved}
use Rattle.js_law_induction.proofs.Moves.{Moves, unmoved}
use Rattle.js_law_induction.proofs.Derivations.{Kept, Rules, statements, anything, any_rules}
use Rattle.js_law_induction.proofs.Expressions.{Nested, suffixed_keeps, unary_keeps, assignment_keeps, statements_keep}
use Rattle.js_law_induction.proofs.Statements.{block_keeps, statement_keeps}

module _ (o : Other) (m : Moves o.at) (k : Kept) (r : Rules k) (end : Place) where
  -- neither has room, or the first alone hasn't
  no_room : {A : Type 0} {f : A → A} {P : A → List Token → Type 0} (s : ℕ) → s ≤ 1 → (a : List Token)
      → Alike o f s (length a) P (refused end TooDeep a) (refused (o.at end) TooDeep (moved o.at a))
  no_room s less a = rw (place_moved o.at end a) (too_deep (omega (arith, less)) (place_at end a))

  less_room : {A : Type 0} {f : A → A} {P : A → List Token → Type 0} (s : ℕ) → s ≤ 1 → o.roomy → (a : List Token) (other : Read A)
      → Alike o f s (length a) P (refused end TooDeep a) other
  less_room s less roomy a other = deeper_than roomy (omega (arith, less)) (place_at end a) other

  nested : (room more : ℕ) → room ≤ more → (room < more → o.roomy) → Nested o m k room (deeper end room) (deeper (o.at end) more)
  unfolding deeper
  nested zero zero less roomy = record {
    value = λ form a. no_room 1 (omega arith) a;
    operand = λ a. no_room 1 (omega arith) a;
    callee = λ a. no_room 1 (omega arith) a;
    statement = λ around a. no_room 0 (omega arith) a;
    block = λ around a. no_room 0 (omega arith) a;
  }
  nested zero (suc more) less roomy = record {
    value = λ form a. less_room 1 (omega arith) (roomy (omega arith)) a _;
    operand = λ a. less_room 1 (omega arith) (roomy (omega arith)) a _;
    callee = λ a. less_room 1 (omega arith) (roomy (omega arith)) a _;
    statement = λ around a. less_room 0 (omega arith) (roomy (omega arith)) a _;
    block = λ around a. less_room 0 (omega arith) (roomy (omega arith)) a _;
  }
  nested (suc room) zero less roomy = absurd (omega (arith, less))
  nested (suc room) (suc more) less roomy =
      let inner = nested room more (omega (arith, less)) (λ fewer. roomy (omega (arith, fewer))) in
      record {
        value = assignment_keeps o m k r end room (deeper end room) (deeper (o.at end) more) inner;
        operand = unary_keeps o m k r end room (deeper end room) (deeper (o.at end) more) inner;
        callee = suffixed_keeps o m k r end room (deeper end room) (deeper (o.at end) more) inner side.Member;
        statement = statement_keeps o m k r end room (deeper end room) (deeper (o.at end) more) inner;
        block = block_keeps o m k r end room (deeper end room) (deeper (o.at end) more) inner;
      }

  -- what the rules hold of, the row of a script's statements keeps
  pub script_keeps : (room more : ℕ) → room ≤ more → (room < more → o.roomy)
      → Keep o (map m.statement) room (RowOf (statements k at_top)) (row (a_statement (deeper end room) at_top)) (row (a_statement (deeper (o.at end) more) at_top))
  script_keeps room more less roomy = statements_keep o m k r end room (deeper end room) (deeper (o.at end) more) (nested room more less roomy) at_top

  pub script_keeps_in : (room : ℕ)
      → Keep o (map m.statement) room (RowOf (statements k at_top)) (row (a_statement (deeper end room) at_top)) (row (a_statement (deeper (o.at end) room) at_top))
  script_keeps_in room = script_keeps room room (omega arith) (λ fewer. absurd (omega (arith, fewer)))

-- a script: its statements, with no token behind them
abbrev pub ended : Read (List StatementTree) → Result (List StatementTree) Refusal
ended read = read >>= (λ body. whole body.0 body.1)

-- ---- what is left

left_behind : {A : Type 0} {o : Other} {f : A → A} {s n : ℕ} {P : A → List Token → Type 0} {r y : Read A} → Alike o f s n P r y → (x : A) (rest : List Token)
    → r ≡ Ok (x, rest) → length rest ≤ n
left_behind {A = A} {n = n} (gave v left less is) x rest e = let same : ◌≡◌ {A = A × List Token} (v, left) (x, rest) = cc in subst (λ p. length p.1 ≤ n) same less
left_behind (stops kind place not) x rest e = cc
left_behind (too_deep lacks place) x rest e = cc
left_behind (deeper_than roomy lacks place other) x rest e = cc

pub given_back : NothingIsGivenBack
unfolding deeper
given_back end room around ts s rest e =
    left_behind ((nested (beside ⊥) unmoved anything any_rules end (suc room) (suc room) (omega arith) (λ fewer. absurd (omega (arith, fewer)))).statement around ts) s rest e
