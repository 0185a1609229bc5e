use Rattle.report_text.proofs.blocks.write_end.Goals as goal

pub returns-in-Unanswered : goal.returns-in-Unanswered
returns-in-Unanswered c =
    rw c.in-Unanswered.is (rw (c.bytes.ensures.value, c.type_text.ensures, c.kind.ensures) at c.write_line.ensures)
