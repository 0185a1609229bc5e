-- Loops behind the charge for them, as frames have them (ECMA-262 5.1, section 12.6).
use Rattle.std.specs.Prelude.{ℕ, suc, List, [], Bool, true, false, map, length}
use Rattle.std.specs.Fmt.{decimal}
use Rattle.std.specs.List.{range_with_len}
use Rattle.js_tree.specs.declared.place.Place.{Place}
use Rattle.js_tree.specs.declared.bound.BoundName.{BoundName}
use Rattle.js_tree.specs.Tree.{ExpressionTree, OptionalExpression, FunctionTree, StartTree, StatementTree}
use Rattle.js_tree.specs.View.{target_of}
use Rattle.heap_values.specs.declared.found.Found.{Found}
use Rattle.heap_values.specs.declared.found.Found.TheVariants as found
use Rattle.heap_values.specs.declared.value.Value.{Value}
use Rattle.heap_values.specs.declared.value.Value.TheVariants as value
use Rattle.heap_values.specs.Views.{HeapView}
use Rattle.object_heap.specs.Heap.{found_of, keys_of}
use Rattle.run_trees.specs.Runs.{reading, ◌>>◌}
use Rattle.js_evaluation.specs.State.{Does}
use Rattle.js_evaluation.specs.Objects.{Context}
use Rattle.js_frames.specs.declared.frame.Frame.TheVariants as frame
use Rattle.js_frames.specs.declared.statement_frame.ForLoop.{ForLoop}
use Rattle.js_frames.specs.declared.statement_frame.ForInLoop.{ForInLoop}
use Rattle.js_frames.specs.declared.statement_frame.LoopFrame.TheVariants as of_loop
use Rattle.js_frames.specs.Rests.{DoesEither, ◌>=>◌}
use Rattle.js_frames.specs.RestOf.{for_turns, names_from, turned_to}
use Rattle.js_evaluation.specs.Statements as rule
use Rattle.js_evaluation.specs.Parts.{Within, execute}
use Rattle.js_evaluation.specs.Scoping.{by_slots}
use Rattle.js_machine.specs.Moves.{evaluated}

-- ---- the names of `for`-`in`

-- the names that are listed: an object's, and the indexes of a text
abbrev pub listed_in : HeapView → Value → List (List ℕ)
listed_in h (value.Object id) = keys_of h id
listed_in h (value.Text t) = map decimal (range_with_len 0 (length t))
listed_in h v = []

-- whether something is found; a mark of what is left out counts
abbrev pub is_there : Found → Bool
is_there found.Absent = false
is_there f = true

-- whether a name is still there; the indexes of a text are
abbrev pub is_listed_in : HeapView → Value → List ℕ → Bool
is_listed_in h (value.Object id) name = is_there (found_of h id name)
is_listed_in h v name = true

module _ (functions : List FunctionTree) (go : Within) (cx : Context) where
  -- one turn more than there is fuel
  abbrev pub while_loop : Place → ExpressionTree → StatementTree → Does Value
  while_loop place c body = reading (λ s. rule.while_turns by_slots functions go cx (suc s.fuel) place c body)

  abbrev pub do_loop : Place → StatementTree → ExpressionTree → Does Value
  do_loop place body c = reading (λ s. rule.do_turns by_slots functions go cx (suc s.fuel) place body c)

  -- a `for` loop behind its start
  abbrev pub for_begun : ForLoop → Does Value
  for_begun l = reading (λ s. for_turns functions go cx (suc s.fuel) l)

  abbrev pub for_loop : StartTree → ForLoop → Does Value
  for_loop start l = rule.started by_slots functions go cx start >> for_begun l

  -- a `for`-`in` loop of a declared name
  abbrev pub declared_in : BoundName → OptionalExpression → ExpressionTree → ForInLoop → DoesEither
  declared_in name first object l =
      rule.declared by_slots functions go cx l.place name first >=> (λ _. evaluated functions go cx object (frame.Loop (of_loop.ForInObject l)))

  -- a name is written to the target, and then the body is executed
  abbrev pub with_name : List ℕ → Value → List (List ℕ) → ForInLoop → Does Value
  with_name name object names l = rule.named_by by_slots functions go cx l.place (target_of l.target.now) name
      >> (λ after. execute go cx l.body.now (turned_to functions go cx (names_from functions go cx l object names) after))
