-- What each open part makes of the end that it waits for, by the rules of evaluation (ECMA-262 5.1, sections 11 to 13):
-- what the rule of its kind does after the part within.
use Rattle.std.specs.Prelude.{codes, ℕ, suc, ◌+◌, ◌-◌, List, [], ◌∷◌, ◌++◌, length, true, false, not, if◌then◌else◌, pos, neg_ℤ, ◌-ℤ◌, Ok}
use Rattle.js_tree.specs.declared.place.Place.{Place}
use Rattle.js_tree.specs.declared.operators.BinaryOp.{BinaryOp}
use Rattle.js_tree.specs.Tree.{Suffixes, FunctionTree, expressions_of, items_of, statements_of}
use Rattle.js_tree.specs.View.{properties_of, suffixes_of, operands_of, declarations_of, branches_of, clauses_of, optional_box, optional_statement, optional_catch, target_of}
use Rattle.heap_values.specs.declared.value.Value.{Value}
use Rattle.heap_values.specs.declared.value.Value.TheVariants as value
use Rattle.js_convert.specs.Numeric.{numeric_of, truth_of}
use Rattle.js_convert.specs.Operators.{operator_value, strictly_equal, is_object}
use Rattle.js_convert.specs.Texts.{text_of}
use Rattle.run_trees.specs.declared.abrupt.Abrupt.TheVariants as ending
use Rattle.run_trees.specs.Runs.{ends, pure, abrupt, reading, onward, ◌>>=◌, ◌>>◌, turned, broken_at, returned_to}
use Rattle.js_evaluation.specs.BySlots.{write_name}
use Rattle.js_evaluation.specs.State.{Does, define, global_object, throw, AfterValue}
use Rattle.js_evaluation.specs.Objects.{Context, get, test_base, has_property}
use Rattle.js_evaluation.specs.Conversions as convert
use Rattle.js_evaluation.specs.Handed as handed
use Rattle.js_evaluation.specs.Natives as native
use Rattle.js_evaluation.specs.Patterns.{pattern_work}
use Rattle.js_evaluation.specs.NativeTable as table
use Rattle.js_evaluation.specs.Expressions as expression
use Rattle.js_evaluation.specs.Statements as statement
use Rattle.js_evaluation.specs.Evaluation.{evaluation}
use Rattle.js_frames.specs.declared.expression_frame.Aim.{Aim}
use Rattle.js_frames.specs.declared.expression_frame.Aim.TheVariants as aim
use Rattle.js_frames.specs.declared.expression_frame.ExpressionFrame.{ExpressionFrame}
use Rattle.js_frames.specs.declared.expression_frame.ExpressionFrame.TheVariants as of_expression
use Rattle.js_frames.specs.declared.expression_frame.SuffixFrame.{SuffixFrame}
use Rattle.js_frames.specs.declared.expression_frame.SuffixFrame.TheVariants as of_suffix
use Rattle.js_frames.specs.declared.statement_frame.StatementFrame.{StatementFrame}
use Rattle.js_frames.specs.declared.statement_frame.StatementFrame.TheVariants as of_statement
use Rattle.js_frames.specs.declared.statement_frame.LoopFrame.{LoopFrame}
use Rattle.js_frames.specs.declared.statement_frame.LoopFrame.TheVariants as of_loop
use Rattle.js_frames.specs.declared.statement_frame.WhileLoop.{WhileLoop}
use Rattle.js_frames.specs.declared.statement_frame.ForLoop.{ForLoop}
use Rattle.js_frames.specs.declared.statement_frame.ForInLoop.{ForInLoop}
use Rattle.js_frames.specs.declared.target_frame.TargetFrame.{TargetFrame}
use Rattle.js_frames.specs.declared.target_frame.TargetFrame.TheVariants as of_target
use Rattle.js_frames.specs.declared.frame.EntryFrame.{EntryFrame}
use Rattle.js_frames.specs.declared.frame.EntryFrame.TheVariants as of_entry
use Rattle.js_frames.specs.declared.frame.Frame.{Frame}
use Rattle.js_frames.specs.declared.frame.Frame.TheVariants as frame
use Rattle.js_frames.specs.declared.frame.Open.{Open}
use Rattle.js_frames.specs.declared.wanted.Operated.{Operated}
use Rattle.js_frames.specs.declared.wanted.Operated.TheVariants as operated
use Rattle.js_frames.specs.declared.wanted.Wanted.{Wanted}
use Rattle.js_frames.specs.declared.wanted.Wanted.TheVariants as wanted
use Rattle.js_frames.specs.Parts.{context_of, reference_of, names_of}
use Rattle.js_frames.specs.Rests.{Rest, waits_for_value, DoesEither, giving, referring, either_after, ◌>=>◌}
use Rattle.js_evaluation.specs.Entries as entry
use Rattle.js_evaluation.specs.Parts.{Reference, to_property, Within, calls, visit, execute}
use Rattle.js_evaluation.specs.Scoping.{by_slots}
use Rattle.js_evaluation.specs.declared.limits.TheConstants.{MOST_OPEN}

-- functions: those of the script; go: evaluation of the parts within; cx: where the code of the open part runs
module _ (functions : List FunctionTree) (go : Within) (cx : Context) where
  -- suffixes, for the value that the last one gives or for what it refers to
  abbrev pub suffixes_by : Aim → Value → Value → Suffixes → DoesEither
  suffixes_by aim.Value this v ss = giving (expression.suffixes_from by_slots functions go cx this v ss)
  suffixes_by aim.Target this v ss = referring (expression.target_suffixes by_slots functions go cx this v ss)

  -- ---- what is done with a primitive value (8.12.8)

  abbrev pub after_operator : Operated → Value → Does Value
  after_operator (operated.Row rest) v = expression.operands_from by_slots functions go cx v (operands_of rest.now)
  after_operator (operated.Write r place) v = expression.write by_slots cx (reference_of r) v place >> pure v

  -- both sides of an operator are primitive values
  abbrev pub operate : BinaryOp → Value → Value → Place → Operated → Does Value
  operate o a b place next = convert.operated (calls go) (operator_value o a b) place >>= after_operator next

  abbrev pub with_primitive : Wanted → Value → DoesEither
  with_primitive (wanted.Plus place) v =
      giving (convert.number_or_fault (calls go) (numeric_of v) place >>= (λ n. pure (value.Number n)))
  with_primitive (wanted.Minus place) v =
      giving (convert.number_or_fault (calls go) (numeric_of v) place >>= (λ n. pure (value.Number (neg_ℤ n))))
  with_primitive (wanted.BitNot place) v =
      giving (convert.bits_or_fault (calls go) (numeric_of v) place >>= (λ n. pure (value.Number (neg_ℤ n -ℤ pos 1))))
  with_primitive (wanted.Update form op r place) v = giving (do
    n ← convert.number_or_fault (calls go) (numeric_of v) place
    m ← convert.stepped (calls go) op n place
    _written ← expression.write by_slots cx (reference_of r) (value.Number m) place
    pure (expression.given_by form (value.Number n) (value.Number m)))
  with_primitive (wanted.Index purpose base place rest) v =
      get base (text_of v) place >=> (λ w. suffixes_by purpose base w (suffixes_of rest.now))
  with_primitive (wanted.Key base place) v = referring (pure (to_property place base (text_of v)))
  with_primitive (wanted.In object place next) v = giving (has_property object (text_of v) place >>= after_operator next)
  with_primitive (wanted.Left op right place next) v =
      giving (convert.to_primitive (calls go) convert.number_methods right place >>= (λ b. operate op v b place next))
  with_primitive (wanted.Right op left place next) v = giving (operate op left v place next)
  with_primitive (wanted.ErrorName error place) v =
      giving (get (value.Object error) (codes "message") place >>= (λ m. native.text_or (calls go) [] m place
      >>= (λ message. handed.gives_text (native.joined (text_of v) message) place)))
  with_primitive (wanted.ErrorMessage name place) v = giving (handed.gives_text (native.joined name (text_of v)) place)
  with_primitive (wanted.Handed n left done handed place) v =
      giving (native.settled (table.conversion_at n (length done)) v place
      >>= (λ w. native.converted_from (calls go) n left (done ++ w ∷ []) handed place))
  with_primitive (wanted.Begin n vs place) v =
      giving (native.position_of (numeric_of v) place >>= (λ begin. pattern_work n vs begin place))
  with_primitive (wanted.Element left count array texts separator place) v =
      giving (native.joined_from (calls go) left count array (texts ++ text_of v ∷ []) separator place)

  -- ---- expressions (11)

  abbrev pub after_expression : ExpressionFrame → Value → Does Value
  after_expression (of_expression.Item array count rest place) v =
      define array (expression.index_name count) v true true place
      >> expression.items_from by_slots functions go cx place array (count + 1) false (items_of rest.now)
  after_expression (of_expression.Property object name rest place) v =
      define object name.now v true true place >> expression.properties_from by_slots functions go cx place object (properties_of rest.now)
  after_expression (of_expression.Callee left place) v =
      expression.arguments_from by_slots functions go cx [] (expressions_of left.now) >>= (λ vs. expression.constructed by_slots functions go v vs place)
  after_expression (of_expression.NewArgument callee done left place) v =
      expression.arguments_from by_slots functions go cx (done ++ v ∷ []) (expressions_of left.now)
      >>= (λ vs. expression.constructed by_slots functions go callee vs place)
  after_expression of_expression.DeleteValue v = pure (value.Bool true)
  after_expression of_expression.Void v = pure value.Undefined
  after_expression of_expression.TypeOf v = reading (λ s. pure (value.Text (convert.type_text s.heap v)))
  after_expression (of_expression.Plus place) v =
      convert.to_number (calls go) v place >>= (λ n. pure (value.Number n))
  after_expression (of_expression.Minus place) v =
      convert.to_number (calls go) v place >>= (λ n. pure (value.Number (neg_ℤ n)))
  after_expression (of_expression.BitNot place) v =
      convert.to_bits (calls go) v place >>= (λ n. pure (value.Number (neg_ℤ n -ℤ pos 1)))
  after_expression of_expression.Not v = pure (value.Bool (not (truth_of v)))
  after_expression (of_expression.Row rest) v = expression.operands_from by_slots functions go cx v (operands_of rest.now)
  after_expression (of_expression.Operand op left place rest) v =
      convert.binary (calls go) op left v place
      >>= (λ w. expression.operands_from by_slots functions go cx w (operands_of rest.now))
  after_expression (of_expression.Conditional held otherwise) v =
      if truth_of v then visit go cx held.now else visit go cx otherwise.now
  after_expression (of_expression.AssignValue r place) v = expression.write by_slots cx (reference_of r) v place >> pure v
  after_expression (of_expression.AssignOperand op old r place) v =
      convert.binary (calls go) op old v place
      >>= (λ w. expression.write by_slots cx (reference_of r) w place >> pure w)
  after_expression (of_expression.Comma rest) v = expression.comma_from by_slots functions go cx v (expressions_of rest.now)

  -- ---- suffixes (11.2)

  abbrev pub after_suffix : SuffixFrame → Value → DoesEither
  after_suffix (of_suffix.First purpose suffixes) v = suffixes_by purpose global_object v (suffixes_of suffixes.now)
  after_suffix (of_suffix.Index purpose base place rest) v =
      test_base base place >=> (λ _. convert.to_primitive (calls go) convert.text_methods v place
      >=> (λ key. get base (text_of key) place >=> (λ w. suffixes_by purpose base w (suffixes_of rest.now))))
  after_suffix (of_suffix.Key base place) v =
      test_base base place >=> (λ _. convert.to_primitive (calls go) convert.text_methods v place
      >=> (λ key. referring (pure (to_property place base (text_of key)))))
  after_suffix (of_suffix.Argument call done left) v =
      expression.arguments_from by_slots functions go cx (done ++ v ∷ []) (expressions_of left.now)
      >=> (λ vs. convert.call_value (calls go) call.callee call.this vs call.place
      >=> (λ w. suffixes_by call.aim global_object w (suffixes_of call.rest.now)))
  after_suffix (of_suffix.Called purpose rest) v = suffixes_by purpose global_object v (suffixes_of rest.now)

  -- ---- statements (12)

  -- what comes after a statement of a clause of a `switch`, or after a test
  abbrev pub in_switch : AfterValue → AfterValue
  in_switch after = broken_at value.Undefined statement.is_here after

  abbrev pub rest_of_statement : StatementFrame → AfterValue → AfterValue
  rest_of_statement (of_statement.Statements rest) after =
      onward (λ _. statement.statements_from by_slots functions go cx (statements_of rest.now)) after
  rest_of_statement of_statement.Evaluate after = onward (λ _. statement.nothing) after
  rest_of_statement (of_statement.Var name place rest) after =
      onward (λ v. write_name cx name.now v place >> statement.variables_from by_slots functions go cx place (declarations_of rest.now)) after
  rest_of_statement (of_statement.Branch body rest last) after =
      onward (λ v. if truth_of v then execute go cx body.now
      else statement.branches_from by_slots functions go cx (branches_of rest.now) (optional_statement last.now)) after
  rest_of_statement of_statement.Return after = onward (λ v. abrupt (ending.Returned v)) after
  rest_of_statement (of_statement.Throw place) after = onward (λ v. throw v place) after
  rest_of_statement (of_statement.SwitchValue clauses) after =
      onward (λ v after. statement.from_match by_slots functions go cx v (clauses_of clauses.now) (clauses_of clauses.now) (in_switch after)) after
  rest_of_statement (of_statement.SwitchTest v all body rest) after =
      onward (λ w. if strictly_equal v w
      then statement.statements_from by_slots functions go cx (statements_of body.now) >> statement.clauses_from by_slots functions go cx (clauses_of rest.now)
      else statement.from_match by_slots functions go cx v (clauses_of all.now) (clauses_of rest.now)) (in_switch after)
  rest_of_statement (of_statement.SwitchBody body rest) after =
      onward (λ _. statement.statements_from by_slots functions go cx (statements_of body.now) >> statement.clauses_from by_slots functions go cx (clauses_of rest.now)) (in_switch after)
  rest_of_statement (of_statement.TryBlock place handler last) after =
      statement.after_block by_slots functions go cx place (optional_catch handler.now) (statement.after_last by_slots functions go cx (optional_statement last.now) after)
  rest_of_statement (of_statement.Handler last) after = statement.after_last by_slots functions go cx (optional_statement last.now) after
  rest_of_statement (of_statement.Last end) after = onward (λ _. ends end) after

  -- ---- loops (12.6)

  abbrev pub while_turns : ℕ → WhileLoop → Does Value
  while_turns n l = statement.while_turns by_slots functions go cx n l.place l.condition.now l.body.now

  abbrev pub do_turns : ℕ → WhileLoop → Does Value
  do_turns n l = statement.do_turns by_slots functions go cx n l.place l.body.now l.condition.now

  -- the condition of a `do` loop, and then the next turn
  abbrev pub do_next : ℕ → WhileLoop → Does Value
  do_next n l = visit go cx l.condition.now >>= (λ v. if truth_of v then do_turns n l else statement.nothing)

  abbrev pub for_turns : ℕ → ForLoop → Does Value
  for_turns n l = statement.for_turns by_slots functions go cx n l.place (optional_box l.condition.now) (optional_box l.step.now) l.body.now

  -- the step of a `for` loop, and then the next turn
  abbrev pub for_next : ℕ → ForLoop → Does Value
  for_next n l = statement.evaluated_if by_slots functions go cx (optional_box l.step.now) >> for_turns n l

  abbrev pub names_from : ForInLoop → Value → List (List ℕ) → Does Value
  names_from l object names = statement.names_from by_slots functions go cx l.place (target_of l.target.now) l.body.now object names

  -- the body of a loop, and then the next turn
  abbrev pub turned_to : Does Value → AfterValue → AfterValue
  turned_to next after = turned value.Undefined statement.is_here next after

  abbrev pub rest_of_loop : LoopFrame → AfterValue → AfterValue
  rest_of_loop (of_loop.WhileCondition n l) after =
      onward (λ v. if truth_of v then (λ after. execute go cx l.body.now (turned_to (while_turns n l) after)) else statement.nothing) after
  rest_of_loop (of_loop.WhileBody n l) after = turned_to (while_turns n l) after
  rest_of_loop (of_loop.DoBody n l) after = turned_to (do_next n l) after
  rest_of_loop (of_loop.DoCondition n l) after = onward (λ v. if truth_of v then do_turns n l else statement.nothing) after
  rest_of_loop (of_loop.ForStart l) after = onward (λ _. reading (λ s. for_turns (suc s.fuel) l)) after
  rest_of_loop (of_loop.ForCondition n l) after =
      onward (λ v. if truth_of v
      then (λ after. execute go cx l.body.now (turned_to (for_next n l) after))
      else statement.nothing) after
  rest_of_loop (of_loop.ForBody n l) after = turned_to (for_next n l) after
  rest_of_loop (of_loop.ForStep n l) after = onward (λ _. for_turns n l) after
  rest_of_loop (of_loop.ForInFirst name object l) after =
      onward (λ v. write_name cx name.now v l.place >> visit go cx object.now >>= (λ w.
      statement.listed_names w >>= (λ names. statement.charged_names l.place names >> names_from l w names))) after
  rest_of_loop (of_loop.ForInObject l) after =
      onward (λ w. statement.listed_names w >>= (λ names.
      statement.charged_names l.place names >> names_from l w names)) after
  rest_of_loop (of_loop.ForInTarget name object names l) after = after
  rest_of_loop (of_loop.ForInBody object names l) after = turned_to (names_from l object names) after

  -- a name of the list is written to what the target refers to, and then the body is executed
  abbrev pub rest_of_target : LoopFrame → Reference → Does Value
  rest_of_target (of_loop.ForInTarget name object names l) r =
      expression.write by_slots cx r (value.Text name) l.place
      >> (λ after. execute go cx l.body.now (turned_to (names_from l object names) after))
  rest_of_target f r = λ after. rest_of_loop f after (Ok value.Undefined)

  -- ---- entries (13.2)

  abbrev pub rest_of_entry : EntryFrame → AfterValue → AfterValue
  rest_of_entry (of_entry.Body rest) after =
      onward (λ _. statement.statements_from by_slots functions go cx (statements_of rest.now)) (returned_to value.Undefined after)
  rest_of_entry (of_entry.Construct made rest) after =
      onward (λ _. statement.statements_from by_slots functions go cx (statements_of rest.now))
      (returned_to value.Undefined (onward (λ v. pure (entry.object_or (value.Object made) v)) after))

  -- ---- what an expression refers to (8.7)

  abbrev pub after_target : TargetFrame → Reference → DoesEither
  after_target (of_target.First purpose suffixes) r =
      expression.read by_slots cx r >=> (λ v. suffixes_by purpose (expression.this_of r) v (suffixes_of suffixes.now))
  after_target (of_target.Update form op place) r = giving (do
    old ← expression.read by_slots cx r
    n ← convert.to_number (calls go) old place
    m ← convert.stepped (calls go) op n place
    _written ← expression.write by_slots cx r (value.Number m) place
    pure (expression.given_by form (value.Number n) (value.Number m)))
  after_target (of_target.Delete place) r = giving (expression.delete by_slots cx r place)
  after_target of_target.TypeOf r =
      giving (expression.read_or_undefined by_slots cx r >>= (λ w. reading (λ s. pure (value.Text (convert.type_text s.heap w)))))
  after_target (of_target.Assign op e place) r =
      giving (expression.assigned_with by_slots functions go cx place r (convert.assigned_by op) e.now
      >>= (λ v. expression.write by_slots cx r v place >> pure v))

  -- ---- all of them

  abbrev pub rest_of_frame : Frame → Rest → Rest
  rest_of_frame frame.Hold rest = rest
  rest_of_frame (frame.Expression f) rest = waits_for_value (onward (after_expression f) rest.given)
  rest_of_frame (frame.Suffix f) rest = waits_for_value (either_after (after_suffix f) rest)
  rest_of_frame (frame.Target f) rest = record { given = rest.given; referred = λ r. after_target f r rest }
  rest_of_frame (frame.Statement f) rest = waits_for_value (rest_of_statement f rest.given)
  rest_of_frame (frame.Loop f) rest = record { given = rest_of_loop f rest.given; referred = λ r. rest_of_target f r rest.given }
  rest_of_frame (frame.Entry f) rest = waits_for_value (rest_of_entry f rest.given)
  rest_of_frame (frame.Primitive object ms place w) rest =
      waits_for_value (onward (λ v. if is_object v then convert.primitive_by (calls go) (names_of ms) object place else pure v)
      (either_after (with_primitive w) rest))

-- ---- the whole stack

-- how many parts may still be opened
abbrev pub room : List Open → ℕ
room [] = MOST_OPEN
room (f ∷ fs) = room fs - 1

-- evaluation of the parts within one that is open on these
abbrev pub within : List FunctionTree → List Open → Within
within functions fs = evaluation by_slots functions (room fs - 1)

-- What all of them make of an end, the innermost first; last: what comes after the outermost.
abbrev pub rest_of : List FunctionTree → AfterValue → List Open → Rest
rest_of functions last [] = waits_for_value last
rest_of functions last (f ∷ fs) =
    rest_of_frame functions (within functions fs) (context_of f.context) f.frame (rest_of functions last fs)
