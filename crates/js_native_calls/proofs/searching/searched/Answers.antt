use Rattle.std.proofs.Common.{Some, None, sym, ap, ◌∙◌}
use Rattle.js_evaluation.specs.Patterns.{read_by}
use Rattle.js_native_calls.proofs.Begins.{read_in}
use Rattle.js_native_calls.proofs.searching.searched.Goals as goal

pub returns-in-None : goal.returns-in-None
returns-in-None c =
    read_in c.args.machine.now c.args.native c.args.values c.args.place _ _ None
    (sym (ap (read_by c.args.native c.args.machine.now.state.heap) c.as_slice.ensures) ∙ sym c.read_by.ensures ∙ c.in-None.is) (rw c.from.ensures at c.pattern_worked.ensures)

pub returns-in-Some : goal.returns-in-Some
returns-in-Some c =
    read_in c.args.machine.now c.args.native c.args.values c.args.place _ _ (Some c.in-Some.pattern)
    (sym (ap (read_by c.args.native c.args.machine.now.state.heap) c.as_slice.ensures) ∙ sym c.read_by.ensures ∙ c.in-Some.is) c.begun.ensures
