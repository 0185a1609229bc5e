-- Reading with places put aside: the two runs of the induction, of which the other finds each token at the first place.
use Rattle.std.proofs.Common.{◌≡◌, ℕ, List, [], ◌∷◌, refl, ap}
use Rattle.std.specs.Prelude.{map}
use Rattle.js_tree.specs.declared.token.Token.{Token}
use Rattle.js_tree.specs.Tree.{Function, New, StatementTree, Array, Object, Block, Var, Switch, Declare, start_var, target_declared}
use Rattle.js_grammar.specs.Statements.{whole, script_within}
use Rattle.js_grammar.specs.Printing.{nowhere}
use Rattle.js_grammar.specs.Placeless.{placeless_expression, placeless_statement, placeless_start, placeless_target}
use Rattle.js_law_places.specs.Placeless.{placeless}
use Rattle.js_law_places.specs.Laws.{put_aside, PlacesArePutAside}
use Rattle.js_law_places.proofs.PlacelessParts.{put_nowhere, optional_aside, expressions_aside, items_aside, statements_aside, properties_aside, function_aside, declarations_aside, branches_aside, clauses_aside, catch_aside, optional_statement_aside, joined_aside, chained_aside, suffixed_by_aside, target_aside}
use Rattle.js_law_induction.proofs.Alike.{Other, Read, Alike, gave, stops, too_deep, deeper_than}
use Rattle.js_law_induction.proofs.Moves.{Moves}
use Rattle.js_law_induction.proofs.Derivations.{anything, any_rules}
use Rattle.js_law_induction.proofs.Scripts.{script_keeps_in, ended}

-- what trees become where each place is the first
aside : Moves put_nowhere
aside = record {
  expression = placeless_expression;
  number = λ p n. refl;
  characters = λ p x. refl;
  pattern = λ p l. refl;
  is_true = λ p. refl;
  is_false = λ p. refl;
  null = λ p. refl;
  this = λ p. refl;
  name = λ p x. refl;
  array = λ p xs. ap (Array nowhere) (items_aside xs);
  object = λ p xs. ap (Object nowhere) (properties_aside xs);
  new = λ p x xs. ap (New nowhere (placeless_expression x)) (expressions_aside xs);
  suffixed = suffixed_by_aside;
  update = λ p form op x. refl;
  unary = λ p op x. refl;
  chain = chained_aside;
  conditional = λ p x v w. refl;
  assign = λ p x op v. refl;
  comma = joined_aside;
  target = target_aside;
  statement = placeless_statement;
  function = λ p x. ap (Function nowhere) (function_aside x);
  block = λ p ss. ap (Block nowhere) (statements_aside ss);
  empty = λ p. refl;
  evaluate = λ p x. refl;
  debugger = λ p. refl;
  var = λ p xs. ap (Var nowhere) (declarations_aside xs);
  if = λ p xs s. rw (branches_aside xs, optional_statement_aside s) refl;
  do_while = λ p s x. refl;
  while = λ p x s. refl;
  start = placeless_start;
  no_start_value = refl;
  start_variables = λ p xs. ap (start_var nowhere) (declarations_aside xs);
  start_expression = λ x. refl;
  for = λ p u x y s. rw (optional_aside x, optional_aside y) refl;
  header = placeless_target;
  header_value = λ x. refl;
  header_declared = λ x v. ap (target_declared x) (optional_aside v);
  for_in = λ p u x s. refl;
  continue = λ p. refl;
  break = λ p. refl;
  return = λ p. refl;
  return_value = λ p x. refl;
  throw = λ p x. refl;
  switch = λ p x xs. ap (Switch nowhere (placeless_expression x)) (clauses_aside xs);
  try = λ p s x y. rw (catch_aside x, optional_statement_aside y) refl;
  declare = λ p x f. ap (Declare nowhere x) (function_aside f);
}

-- ---- scripts

abbrev elsewhere : Other
elsewhere = record { at = put_nowhere; roomy = ⊥ }

whole_aside : (body : List StatementTree) (ts : List Token) → whole (map placeless_statement body) (placeless ts) ≡ put_aside (map placeless_statement) (whole body ts)
whole_aside body [] = refl
whole_aside body (t ∷ ts) = refl

ended_aside : {s n : ℕ} {P : List StatementTree → List Token → Type 0} {x y : Read (List StatementTree)} → Alike elsewhere (map placeless_statement) s n P x y → ended y ≡ put_aside (map placeless_statement) (ended x)
ended_aside (gave body rest less is) = whole_aside body rest
ended_aside (stops kind place not) = refl
ended_aside (too_deep lacks place) = refl
ended_aside (deeper_than never lacks place other) = absurd never

pub places_aside : PlacesArePutAside
unfolding script_within aside
places_aside end room ts = ended_aside (script_keeps_in elsewhere aside anything any_rules end room ts)
