use Rattle.js_native_calls.proofs.Elements.{all_elements}
use Rattle.js_native_calls.proofs.joining.array_joined.Goals as goal

pub returns : goal.returns
returns c = all_elements c.args.machine.now c.args.array c.args.separator c.args.place _ _ (rw (c.length-count.ensures, c.new-texts.ensures) at c.joined_from.ensures)
