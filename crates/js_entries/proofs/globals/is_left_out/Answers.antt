use Rattle.std.proofs.Common.{◌∙◌, sym}
use Rattle.object_heap.specs.Heap.{object_at}
use Rattle.js_entries.proofs.Properties.{left_out_by}
use Rattle.js_entries.proofs.globals.is_left_out.Goals as goal

pub returns-in-LeftOut : goal.returns-in-LeftOut
returns-in-LeftOut c = left_out_by (object_at c.args.heap.now c.args.object) c.args.name.now _ (λ e. c.in_default.not-Array (c.kind.ensures ∙ e)) (sym c.in-LeftOut.is ∙ c.in_ok-get_own-in_default.ensures)

pub returns-in-Value : goal.returns-in-Value
returns-in-Value c = left_out_by (object_at c.args.heap.now c.args.object) c.args.name.now _ (λ e. c.in_default.not-Array (c.kind.ensures ∙ e)) (sym c.in-Value.is ∙ c.in_ok-get_own-in_default.ensures)

pub returns : goal.returns
returns c = left_out_by (object_at c.args.heap.now c.args.object) c.args.name.now _ (λ e. c.in_default.not-Array (c.kind.ensures ∙ e)) (sym c.in-Absent.is ∙ c.in_ok-get_own-in_default.ensures)
