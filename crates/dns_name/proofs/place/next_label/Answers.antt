use Rattle.std.proofs.Common.{◌∙◌, sym, ap}
use Rattle.dns_name.specs.Walk.{only_labels}
use Rattle.dns_name.proofs.WalkLaws.{labels-with_label, labels-with_behind, rest_at_end, rest_at_label, rest_at_pointer, rest_at_high_pointer, rest_at_neither}
use Rattle.dns_name.proofs.place.next_label.Goals as goal

pub returns-in-End : goal.returns-in-End
returns-in-End c = c.pointers.invariant ∙ ap only_labels (rest_at_end c.args.message.now c.pointers.piece c.pointers.at (sym c.in-End.ensures.part))

pub returns-in-Label : goal.returns-in-Label
returns-in-Label c =
    c.pointers.invariant ∙ ap only_labels (rest_at_label c.args.message.now c.pointers.piece c.pointers.at c.in-Label.octets (sym c.in-Label.ensures.part))
    ∙ labels-with_label _ _

pub returns-then-target-piece : goal.returns-then-target-piece
returns-then-target-piece c =
    c.pointers.invariant ∙ ap only_labels (rest_at_high_pointer c.args.message.now c.pointers.piece c.pointers.at c.in-Pointer.target (sym c.in-Pointer.ensures.part) c.if-target-piece.true)

pub pointers-preserved : goal.pointers-preserved
pointers-preserved c =
    c.pointers.invariant ∙ ap only_labels (rest_at_pointer c.args.message.now c.pointers.piece c.pointers.at c.in-Pointer.target (sym c.in-Pointer.ensures.part) c.if-target-piece.false)
    ∙ labels-with_behind _ _

pub returns-in-Neither : goal.returns-in-Neither
returns-in-Neither c = c.pointers.invariant ∙ ap only_labels (rest_at_neither c.args.message.now c.pointers.piece c.pointers.at (sym c.in-Neither.ensures.part))
