-- What an abrupt end passes makes nothing of it.
use Rattle.std.proofs.Common.{◌≡◌, List, [], ◌∷◌, length, Bool, true, false, Option, Some, None, Box, Err, ◌≤◌, ◌<◌, ◌∙◌, if◌then◌else◌, refl, sym, ap, subst, arith}
use Rattle.std.specs.Prelude.{is_some, ◌&&◌, ◌||◌}
use Rattle.std.specs.declared.alloc.Global.{Global}
use Rattle.js_tree.specs.declared.place.Place.{Place}
use Rattle.js_tree.specs.declared.statement.Catch.{Catch}
use Rattle.js_tree.specs.Tree.{FunctionTree, StatementTree}
use Rattle.js_tree.specs.View.{optional_statement, optional_catch}
use Rattle.heap_values.specs.declared.value.Value.{Value}
use Rattle.heap_values.specs.declared.value.Value.TheVariants as value
use Rattle.run_trees.specs.declared.abrupt.Abrupt.TheVariants as ending
use Rattle.run_trees.specs.Runs.{onward, pure, returned_to}
use Rattle.js_evaluation.specs.State.{Stop, Does, AfterValue}
use Rattle.js_evaluation.specs.Objects.{Context}
use Rattle.js_frames.specs.declared.frame.EndKind.{EndKind}
use Rattle.js_frames.specs.declared.frame.EntryFrame.{EntryFrame}
use Rattle.js_frames.specs.declared.frame.EntryFrame.TheVariants as of_entry
use Rattle.js_frames.specs.declared.frame.Frame.{Frame}
use Rattle.js_frames.specs.declared.frame.Frame.TheVariants as frame
use Rattle.js_frames.specs.declared.frame.Open.{Open}
use Rattle.js_frames.specs.declared.statement_frame.StatementFrame.{StatementFrame}
use Rattle.js_frames.specs.declared.statement_frame.StatementFrame.TheVariants as of_statement
use Rattle.js_frames.specs.declared.statement_frame.LoopFrame.{LoopFrame}
use Rattle.js_frames.specs.declared.statement_frame.LoopFrame.TheVariants as of_loop
use Rattle.js_frames.specs.Parts.{context_of}
use Rattle.js_evaluation.specs.Entries as entry
use Rattle.js_evaluation.specs.Statements as statement
use Rattle.js_evaluation.specs.Parts.{Within}
use Rattle.js_evaluation.specs.Scoping.{by_slots}
use Rattle.js_frames.specs.Rests.{Rest}
use Rattle.js_frames.specs.RestOf.{in_switch, turned_to, rest_of_statement, rest_of_loop, rest_of_entry, rest_of_frame, within, rest_of, while_turns, do_next, for_next, names_from}
use Rattle.js_frames.specs.Unwinding.{kind_of, is_throw, is_break, is_return, turns, statement_takes, loop_takes, takes, unwound}

module _ (functions : List FunctionTree) (go : Within) (cx : Context) where
  by_switch : (stop : Stop) (after : AfterValue) → is_break (kind_of stop) ≡ false → in_switch functions go cx after (Err stop) ≡ after (Err stop)
  by_switch (ending.Thrown t) after h = refl
  by_switch (ending.Returned v) after h = refl
  by_switch (ending.Broken b) after h = cc
  by_switch (ending.Continued b) after h = refl

  by_turn : (next : Does Value) (stop : Stop) (after : AfterValue) → turns (kind_of stop) ≡ false → turned_to functions go cx next after (Err stop) ≡ after (Err stop)
  by_turn next (ending.Thrown t) after h = refl
  by_turn next (ending.Returned v) after h = refl
  by_turn next (ending.Broken b) after h = cc
  by_turn next (ending.Continued b) after h = cc

  by_call : (stop : Stop) (after : AfterValue) → is_return (kind_of stop) ≡ false → returned_to value.Undefined after (Err stop) ≡ after (Err stop)
  by_call (ending.Thrown t) after h = refl
  by_call (ending.Returned v) after h = cc
  by_call (ending.Broken b) after h = refl
  by_call (ending.Continued b) after h = refl

  by_last : (last : Option (Box StatementTree Global)) (after : AfterValue) → is_some last ≡ false → statement.after_last by_slots functions go cx (optional_statement last) after ≡ after
  by_last None after h = refl
  by_last (Some s) after h = cc

  by_handler : (place : Place) (handler : Option (Box Catch Global)) (stop : Stop) (after : AfterValue)
      → (is_some handler && is_throw (kind_of stop)) ≡ false → statement.after_block by_slots functions go cx place (optional_catch handler) after (Err stop) ≡ after (Err stop)
  by_handler place None stop after h = refl
  by_handler place (Some c) (ending.Thrown t) after h = cc
  by_handler place (Some c) (ending.Returned v) after h = refl
  by_handler place (Some c) (ending.Broken b) after h = refl
  by_handler place (Some c) (ending.Continued b) after h = refl

  both_false : (a b : Bool) → (a || b) ≡ false → (a ≡ false) × (b ≡ false)
  both_false true b h = cc
  both_false false b h = (refl, h)

  by_statement : (f : StatementFrame) (after : AfterValue) (stop : Stop) → statement_takes f (kind_of stop) ≡ false → rest_of_statement functions go cx f after (Err stop) ≡ after (Err stop)
  by_statement (of_statement.SwitchTest v all body rest) after stop h = by_switch stop after h
  by_statement (of_statement.SwitchBody body rest) after stop h = by_switch stop after h
  by_statement (of_statement.TryBlock place handler last) after stop h =
      let parts = both_false (is_some last.now) (is_some handler.now && is_throw (kind_of stop)) h in
      by_handler place handler.now stop (statement.after_last by_slots functions go cx (optional_statement last.now) after) parts.1
      ∙ ap (λ (z : AfterValue). z (Err stop)) (by_last last.now after parts.0)
  by_statement (of_statement.Handler last) after stop h = ap (λ (z : AfterValue). z (Err stop)) (by_last last.now after h)
  by_statement f after stop h = refl

  by_loop : (f : LoopFrame) (after : AfterValue) (stop : Stop) → loop_takes f (kind_of stop) ≡ false → rest_of_loop functions go cx f after (Err stop) ≡ after (Err stop)
  by_loop (of_loop.WhileBody n l) after stop h = by_turn (while_turns functions go cx n l) stop after h
  by_loop (of_loop.DoBody n l) after stop h = by_turn (do_next functions go cx n l) stop after h
  by_loop (of_loop.ForBody n l) after stop h = by_turn (for_next functions go cx n l) stop after h
  by_loop (of_loop.ForInBody object names l) after stop h = by_turn (names_from functions go cx l object names) stop after h
  by_loop f after stop h = refl

  by_entry : (f : EntryFrame) (after : AfterValue) (stop : Stop) → is_return (kind_of stop) ≡ false → rest_of_entry functions go cx f after (Err stop) ≡ after (Err stop)
  by_entry (of_entry.Body rest) after stop h = by_call stop after h
  by_entry (of_entry.Construct made rest) after stop h =
      by_call stop (onward (λ v. pure (entry.object_or (value.Object made) v)) after) h

  pub passes : (f : Frame) (rest : Rest) (stop : Stop) → takes f (kind_of stop) ≡ false
      → (rest_of_frame functions go cx f rest).given (Err stop) ≡ rest.given (Err stop)
  passes frame.Hold rest stop h = refl
  passes (frame.Expression f) rest stop h = refl
  passes (frame.Suffix f) rest stop h = refl
  passes (frame.Target f) rest stop h = refl
  passes (frame.Statement f) rest stop h = by_statement f rest.given stop h
  passes (frame.Loop f) rest stop h = by_loop f rest.given stop h
  passes (frame.Entry f) rest stop h = by_entry f rest.given stop h
  passes (frame.Primitive object ms place w) rest stop h = refl

-- what the open parts make of an abrupt end
abbrev ended : List FunctionTree → AfterValue → List Open → AfterValue
ended functions last fs = (rest_of functions last fs).given

kept_by : (functions : List FunctionTree) (last : AfterValue) (stop : Stop) (f : Open) (fs : List Open) (b : Bool) → takes f.frame (kind_of stop) ≡ b
    → ended functions last (unwound (kind_of stop) fs) (Err stop) ≡ ended functions last fs (Err stop)
    → ended functions last (if b then f ∷ fs else unwound (kind_of stop) fs) (Err stop) ≡ ended functions last (f ∷ fs) (Err stop)
kept_by functions last stop f fs true h k = refl
kept_by functions last stop f fs false h k =
    k ∙ sym (passes functions (within functions fs) (context_of f.context) f.frame (rest_of functions last fs) stop h)

pub unwound-keeps : (functions : List FunctionTree) (last : AfterValue) (stop : Stop) (fs : List Open)
    → ended functions last fs (Err stop) ≡ ended functions last (unwound (kind_of stop) fs) (Err stop)
unwound-keeps functions last stop [] = refl
unwound-keeps functions last stop (f ∷ fs) =
    sym (kept_by functions last stop f fs (takes f.frame (kind_of stop)) refl (sym (unwound-keeps functions last stop fs)))

unwound-short : (end : EndKind) (fs : List Open) → length (unwound end fs) ≤ length fs
unwound-short end [] = omega arith
unwound-short end (f ∷ fs) =
    elim (takes f.frame end) as (λ b. length (if b then f ∷ fs else unwound end fs) ≤ length (f ∷ fs)) [ true ↦ omega arith | false ↦ omega (arith, unwound-short end fs) ]

pub unwound-closes : (end : EndKind) (fs : List Open) (f : Open) (gs : List Open) → unwound end fs ≡ f ∷ gs → length gs < length fs
unwound-closes end fs f gs h = let l : length (f ∷ gs) ≤ length fs = subst (λ (xs : List Open). length xs ≤ length fs) h (unwound-short end fs) in omega arith
