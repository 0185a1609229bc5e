use Rattle.std.proofs.Common.{ap, ◌∙◌}
use Rattle.batch_text.specs.Lines.{word_length}
use Rattle.batch_text.proofs.Cuts.{word_cut}
use Rattle.batch_text.proofs.lines.word.Goals as goal

pub range-requires-clause-end_boundary : goal.range-requires-clause-end_boundary
range-requires-clause-end_boundary c = word_cut c.args.line.now c.word_length.result (c.word_length.ensures.value ∙ ap word_length c.as_bytes.ensures.value)
