use Rattle.std.proofs.Common.{ap, ◌∙◌, reverse, rules}
use Rattle.std.specs.List.{prefix_len}
use Rattle.batch_text.specs.Lines.{is_blank}
use Rattle.batch_text.proofs.Cuts.{end_cut}
use Rattle.batch_text.proofs.lines.without_end.Goals as goal

pub range-requires-clause-end_boundary : goal.range-requires-clause-end_boundary
range-requires-clause-end_boundary c = end_cut c.args.text.now c.blanks_behind.result (c.blanks_behind.ensures.value ∙ ap (λ bytes. prefix_len is_blank (reverse bytes)) c.as_bytes.ensures.value) (search rules)
