use Rattle.std.proofs.Common.{ap, ◌∙◌}
use Rattle.std.specs.List.{prefix_len}
use Rattle.batch_text.specs.Lines.{is_blank}
use Rattle.batch_text.proofs.Cuts.{indent_cut}
use Rattle.batch_text.proofs.lines.without_indent.Goals as goal

pub range_from-requires : goal.range_from-requires
range_from-requires c some = indent_cut c.args.text.now c.blanks_in_front.result c.utf8.text (c.blanks_in_front.ensures.value ∙ ap (prefix_len is_blank) c.as_bytes.ensures.value)
