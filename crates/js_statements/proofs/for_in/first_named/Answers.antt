use Rattle.js_frames.specs.declared.frame.Frame.TheVariants as frame
use Rattle.js_frames.specs.declared.statement_frame.LoopFrame.TheVariants as of_loop
use Rattle.js_machine.specs.Moves.{at, evaluated}
use Rattle.js_machine.proofs.Steps.{works_either, either_stops}
use Rattle.js_statements.proofs.for_in.first_named.Goals as goal

pub returns-in_err-write_name : goal.returns-in_err-write_name
returns-in_err-write_name c = either_stops _ (λ _. at c.args.machine.now evaluated c.args.object.now (frame.Loop (of_loop.ForInObject c.args.looped))) c.args.machine.now _ _ _ c.from_residual.ensures.1 (c.in_err-write_name.ensures c.args.machine.now.context.this)

pub returns : goal.returns
returns c = works_either _ (λ _. at c.args.machine.now evaluated c.args.object.now (frame.Loop (of_loop.ForInObject c.args.looped))) c.args.machine.now _ tt (c.in_ok-write_name.ensures c.args.machine.now.context.this) c.object_of.ensures
