use Rattle.js_frames.specs.declared.frame.Frame.TheVariants as frame
use Rattle.js_frames.specs.declared.statement_frame.LoopFrame.TheVariants as of_loop
use Rattle.js_machine.specs.Moves.{at, executed}
use Rattle.js_machine.proofs.Steps.{works_either, either_stops}
use Rattle.js_statements.proofs.Listing.{named_by}
use Rattle.js_statements.proofs.for_in.with_name.Goals as goal

pub returns-in-Expression : goal.returns-in-Expression
returns-in-Expression c = named_by c.args.looped c.args.object c.args.name c.args.names _ c.in-Expression.is c.refer.ensures

pub returns-in_err-write_name-in-Declared : goal.returns-in_err-write_name-in-Declared
returns-in_err-write_name-in-Declared c = named_by c.args.looped c.args.object c.args.name c.args.names _ c.in-Declared.is (either_stops _ (λ _. at c.args.machine.now executed c.args.looped.body.now (frame.Loop (of_loop.ForInBody c.args.object c.args.names c.args.looped))) c.args.machine.now _ _ _ c.from_residual.ensures.1 (c.in_err-write_name-in-Declared.ensures c.args.machine.now.context.this))

pub returns-in_ok-write_name-in-Declared : goal.returns-in_ok-write_name-in-Declared
returns-in_ok-write_name-in-Declared c = named_by c.args.looped c.args.object c.args.name c.args.names _ c.in-Declared.is (works_either _ (λ _. at c.args.machine.now executed c.args.looped.body.now (frame.Loop (of_loop.ForInBody c.args.object c.args.names c.args.looped))) c.args.machine.now _ tt (c.in_ok-write_name-in-Declared.ensures c.args.machine.now.context.this) c.names_body.ensures)
