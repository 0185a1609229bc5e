use Rattle.std.proofs.Common.{is_some, ap, ◌∙◌}
use Rattle.batch_text.proofs.Texts.{gives_text}
use Rattle.batch_text.proofs.lines.text_of.Goals as goal

pub returns-clause-told : goal.returns-clause-told
returns-clause-told c = ap is_some c.ok.ensures.value ∙ gives_text c.args.line.now _ c.to_str.result c.to_str.ensures.cases
