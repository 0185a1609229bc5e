use Rattle.std.proofs.Common.{ap, ◌∙◌}
use Rattle.batch_text.specs.Lines.{word_length}
use Rattle.batch_text.proofs.Cuts.{word_cut}
use Rattle.batch_text.proofs.lines.rest.Goals as goal

pub range_from-requires : goal.range_from-requires
range_from-requires c some = word_cut c.args.line.now c.word_length.result (c.word_length.ensures.value ∙ ap word_length c.as_bytes.ensures.value)
