use Rattle.std.proofs.Common.{◌≡◌, subst, Bool}
use Rattle.object_heap.specs.Heap.{object_at}
use Rattle.js_entries.proofs.Properties.{gives_none, gives_deletable, gives_listed, gives_content}
use Rattle.std.specs.Prelude.{IfOk}
use Rattle.js_entries.proofs.globals.gives_way.Goals as goal

pub returns-in-None : goal.returns-in-None
returns-in-None c = gives_none (object_at c.args.heap.now c.args.object) c.args.name.now c.in-None.ensures

pub returns-then-marks : goal.returns-then-marks
returns-then-marks c = gives_deletable (object_at c.args.heap.now c.args.object) c.args.name.now c.in-Some.marks c.in-Some.ensures c.if-marks.true

pub returns-then-marks-2 : goal.returns-then-marks-2
returns-then-marks-2 c = gives_listed (object_at c.args.heap.now c.args.object) c.args.name.now c.in-Some.marks c.in-Some.ensures c.if-marks.false c.if-marks-2.true

pub returns-else-marks-2 : goal.returns-else-marks-2
returns-else-marks-2 c = subst (λ (b : Bool). IfOk c.is_left_out.result (λ g. g ≡ b)) (gives_content (object_at c.args.heap.now c.args.object) c.args.name.now c.in-Some.marks c.in-Some.ensures c.if-marks.false c.if-marks-2.false) c.is_left_out.ensures
